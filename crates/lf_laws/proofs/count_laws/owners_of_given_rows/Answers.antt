use Rattle.lf_laws.proofs.Edges.GivenRows.{owning_home, owning_other}
use Rattle.lf_laws.proofs.count_laws.owners_of_given_rows.Goals as goal

pub returns-clause-other : goal.returns-clause-other
returns-clause-other c rows os h b es local n = owning_other rows os h local es b n

pub returns-clause-home : goal.returns-clause-home
returns-clause-home c rows os h es local = owning_home rows os h local es
