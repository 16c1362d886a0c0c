use Rattle.lf_poolstore.specs.Index.{place_at}
use Rattle.lf_poolstore.specs.Pools.{number_of}
use Rattle.lf_poolstore.proofs.FirstPools.{first_rows}
use Rattle.lf_poolstore.proofs.pools.Pools.new.Goals as goal

pub returns : goal.returns
returns c =
    first_rows (place_at c.new-3.result) c.new-units.result c.add.new.units c.add-2.new.units c.in_ok-local.local c.in_ok-frozen.frozen c.new.result c.new-2.result c.new-units.ensures.empty
    c.in_ok-local.ensures.vacant c.in_ok-local.ensures.added c.in_ok-frozen.ensures.vacant c.in_ok-frozen.ensures.added c.new.ensures.owner c.new-2.ensures.owner c.new.ensures.whole c.new-2.ensures.whole
    c.new.ensures.places c.new-2.ensures.places c.new.ensures.rows c.new-2.ensures.rows
    (number_of c.new-4.result.local c.new-4.result.frozen c.new-4.result.regions) c.new-4.ensures
