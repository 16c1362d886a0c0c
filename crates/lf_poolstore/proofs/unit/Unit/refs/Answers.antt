use Rattle.lf_poolstore.proofs.SeenUnits.{is_there, refs_seen}
use Rattle.lf_poolstore.proofs.unit.Unit.refs.Goals as goal

pub row-requires : goal.row-requires
row-requires c = is_there c.self.inside.owner c.self.inside.rows c.self.inside.cells c.args.self.now (record { unit = c.self.invariant; is = c.self.view_is }) c.args.at c.requires.0 c.requires.1

pub returns : goal.returns
returns c o here = refs_seen c.self.inside.owner c.self.inside.rows c.self.inside.cells c.args.self.now (record { unit = c.self.invariant; is = c.self.view_is }) c.args.at o here c.row.result c.row.ensures.row
