use Rattle.lf_laws.proofs.Edges.GivenRows.{borrows_home, borrows_other}
use Rattle.lf_laws.proofs.count_laws.borrows_of_given_rows.Goals as goal

pub returns-clause-other : goal.returns-clause-other
returns-clause-other c rows os h q es local n = borrows_other rows os h local es q n

pub returns-clause-home : goal.returns-clause-home
returns-clause-home c rows os h es local = borrows_home rows os h local es
