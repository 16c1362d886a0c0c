use Rattle.std.proofs.Common.{◌∙◌}
use Rattle.lf_base.specs.declared.values.Owner.TheVariants.{In}
use Rattle.lf_poolstore.specs.PoolViews.{pool_rows}
use Rattle.lf_poolstore.proofs.PartUnits.{emptied, emptied_more, emptied_new}
use Rattle.lf_poolstore.proofs.pools.Pools.part_in.Goals as goal

pub put_unit-requires-clause-new : goal.put_unit-requires-clause-new
put_unit-requires-clause-new c =
    emptied_new (In c.args.part.region) (pool_rows c.args.self.now) (pool_rows c.take_unit-empty.new.self) c.take_unit-empty.ensures.rows c.requires.empty c.args.part.unit.rows c.requires.new

pub returns-in-Ok-clause-rows : goal.returns-in-Ok-clause-rows
returns-in-Ok-clause-rows c =
    emptied_more (In c.args.part.region) (pool_rows c.args.self.now) (pool_rows c.take_unit-empty.new.self) c.take_unit-empty.ensures.rows c.requires.empty c.args.part.unit.rows (pool_rows c.put_unit.new.self) c.in-Ok.ensures.rows

pub returns-clause-unchanged : goal.returns-clause-unchanged
returns-clause-unchanged c w =
    c.in-Err.ensures.unchanged w ∙ emptied (In c.args.part.region) (pool_rows c.args.self.now) (pool_rows c.take_unit-empty.new.self) c.take_unit-empty.ensures.rows c.requires.empty w
