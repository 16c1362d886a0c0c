use Rattle.lf_graph.proofs.Stores.FieldWalks.{after_field, after_is_there}
use Rattle.lf_graph.proofs.laws.field_walks.Goals as goal

pub returns-clause-next : goal.returns-clause-next
returns-clause-next c before after f d = after_field before after f d

pub returns-clause-there : goal.returns-clause-there
returns-clause-there c fields after f e = after_is_there fields after f e
