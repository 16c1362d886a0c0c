use Rattle.std.proofs.Common.{ap, ◌∙◌}
use Rattle.slab.specs.Slab.{get}
use Rattle.lf_poolstore.specs.Index.{place_at}
use Rattle.lf_poolstore.specs.Pools.{number_of}
use Rattle.lf_poolstore.specs.PoolViews.{pool_number, pool_rows}
use Rattle.lf_poolstore.proofs.AddedUnits.{same_kept, same_rows}
use Rattle.lf_poolstore.proofs.PartUnits.{put_kept, put_rows}
use Rattle.lf_poolstore.proofs.PoolFacts.{shown}
use Rattle.lf_poolstore.proofs.PoolRows.{shown_rows}
use Rattle.lf_poolstore.proofs.pools.Pools.put_unit.Goals as goal

pub invariant_of-self-in-Ok-enter : goal.invariant_of-self-in-Ok-enter
invariant_of-self-in-Ok-enter c =
    let next = number_of c.enter.new.owners.local c.enter.new.owners.frozen c.enter.new.owners.regions in
    record {
      kept = put_kept c.args.self.now c.reserve.new.self c.set_places.new.index c.reserve.ensures.places next c.enter.new.units c.in-Ok-enter.number c.unit_at.result.now c.args.unit c.in-Ok-enter.ensures.added
          c.unit_at.ensures c.set_places.ensures (ap (pool_number c.args.self.now) c.requires.owner ∙ c.requires.free) c.most_rows.ensures.whole c.requires.new;
    }

pub invariant_of-self-in-Err-enter : goal.invariant_of-self-in-Err-enter
invariant_of-self-in-Err-enter c =
    let p = c.args.self.now in
    let next = number_of c.enter.new.owners.local c.enter.new.owners.frozen c.enter.new.owners.regions in
    record { kept = same_kept (place_at p.index) (place_at c.reserve.new.self) (pool_number p) next (get p.units) (get c.enter.new.units) c.in-Err.ensures.same p.kept c.reserve.ensures.places }

pub returns-in-Ok-enter-clause-rows : goal.returns-in-Ok-enter-clause-rows
returns-in-Ok-enter-clause-rows c =
    let next = number_of c.enter.new.owners.local c.enter.new.owners.frozen c.enter.new.owners.regions in
    put_rows c.args.self.now c.reserve.new.self c.set_places.new.index c.reserve.ensures.places next c.enter.new.units c.in-Ok-enter.number c.unit_at.result.now c.args.unit c.in-Ok-enter.ensures.added
    c.unit_at.ensures c.set_places.ensures (ap (pool_number c.args.self.now) c.requires.owner ∙ c.requires.free) c.most_rows.ensures.whole c.requires.new

pub returns-in-Err-clause-unchanged : goal.returns-in-Err-clause-unchanged
returns-in-Err-clause-unchanged c =
    let p = c.args.self.now in
    let next = number_of c.enter.new.owners.local c.enter.new.owners.frozen c.enter.new.owners.regions in
    let same = c.in-Err.ensures.same in
    same_rows (place_at p.index) (place_at c.reserve.new.self) (pool_number p) next (get p.units) (get c.enter.new.units) same (pool_rows p) _ (shown p)
    (shown_rows (place_at c.reserve.new.self) next c.enter.new.units.slots (same_kept (place_at p.index) (place_at c.reserve.new.self) (pool_number p) next (get p.units) (get c.enter.new.units) same p.kept c.reserve.ensures.places))
