use Rattle.lf_laws.proofs.Losses.EmptiedRows.{borrowed_left, bridges_left, edges_same, justified_left, old_bridge, owner_emptied, owning_left, refs_left, region_left, rest_is, rest_size, row_left, watched_left}
use Rattle.lf_laws.proofs.drop_laws.emptied_rows_go.Goals as goal

pub returns-clause-rows : goal.returns-clause-rows
returns-clause-rows c = rest_is

pub returns-clause-owners : goal.returns-clause-owners
returns-clause-owners c = owner_emptied

pub returns-clause-bridges : goal.returns-clause-bridges
returns-clause-bridges c = bridges_left

pub returns-clause-size : goal.returns-clause-size
returns-clause-size c s gone = rest_size gone s.rows

pub returns-clause-edges : goal.returns-clause-edges
returns-clause-edges c = edges_same

pub returns-clause-refs : goal.returns-clause-refs
returns-clause-refs c = refs_left

pub returns-clause-borrowed : goal.returns-clause-borrowed
returns-clause-borrowed c s gone r t go = borrowed_left s gone t go r

pub returns-clause-owning : goal.returns-clause-owning
returns-clause-owning c s gone r t go = owning_left s gone t go r

pub returns-clause-justified : goal.returns-clause-justified
returns-clause-justified c = justified_left

pub returns-clause-watched : goal.returns-clause-watched
returns-clause-watched c s gone old new u t go loses stays = watched_left s gone t go old new loses stays u

pub returns-clause-row_watched : goal.returns-clause-row_watched
returns-clause-row_watched c = row_left

pub returns-clause-region_watched : goal.returns-clause-region_watched
returns-clause-region_watched c = region_left

pub returns-clause-old_bridges : goal.returns-clause-old_bridges
returns-clause-old_bridges c = old_bridge
