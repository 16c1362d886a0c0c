use Rattle.std.proofs.Common.{Some, ap, refl, sym, ◌∙◌, ◌≡◌}
use Rattle.std.specs.Option.{option_copied_mut}
use Rattle.slab.specs.Slab.{get, with_value}
use Rattle.lf_poolstore.specs.Index.{place_at}
use Rattle.lf_poolstore.specs.Pools.{ArePools}
use Rattle.lf_poolstore.specs.PoolViews.{pool_number, pool_rows}
use Rattle.lf_poolstore.proofs.AddedUnits.{same_kept}
use Rattle.lf_poolstore.proofs.PoolChanges.{changed_kept, slot_set, unit_stays}
use Rattle.lf_poolstore.proofs.PoolFacts.{shown}
use Rattle.lf_poolstore.proofs.PoolRows.{shown_rows}
use Rattle.lf_poolstore.proofs.PoolSteps.{same_places}
use Rattle.lf_poolstore.proofs.pools.Pools.reserve.Goals as goal

pub invariant_of-self-2 : goal.invariant_of-self-2
invariant_of-self-2 c =
    let p = c.unit_for.new.self in
    let n = c.in_ok-number.number in
    let u = c.in-Some.unit.now in
    let v = c.reserve-2.new.self in
    let at : get p.units n ≡ Some u = sym c.get_mut.ensures.value ∙ ap option_copied_mut c.in-Some.is in
    let mid : ArePools (place_at c.reserve.new.self) (pool_number p) (get p.units) = same_kept (place_at p.index) (place_at c.reserve.new.self) (pool_number p) (pool_number p) (get p.units) (get p.units) (record { number = λ w. refl; unit = λ m. refl }) p.kept c.reserve.ensures.places in
    record { kept = changed_kept (place_at c.reserve.new.self) (pool_number p) (get p.units) (get (with_value p.units n v)) mid n u v at (slot_set p.units.slots n u v at) c.reserve-2.ensures.owner c.reserve-2.ensures.whole (same_places u v c.reserve-2.ensures.places) }

pub returns-clause-rows : goal.returns-clause-rows
returns-clause-rows c =
    let p = c.unit_for.new.self in
    let n = c.in_ok-number.number in
    let u = c.in-Some.unit.now in
    let v = c.reserve-2.new.self in
    let at : get p.units n ≡ Some u = sym c.get_mut.ensures.value ∙ ap option_copied_mut c.in-Some.is in
    let mid : ArePools (place_at c.reserve.new.self) (pool_number p) (get p.units) = same_kept (place_at p.index) (place_at c.reserve.new.self) (pool_number p) (pool_number p) (get p.units) (get p.units) (record { number = λ w. refl; unit = λ m. refl }) p.kept c.reserve.ensures.places in
    let kept = changed_kept (place_at c.reserve.new.self) (pool_number p) (get p.units) (get (with_value p.units n v)) mid n u v at (slot_set p.units.slots n u v at) c.reserve-2.ensures.owner c.reserve-2.ensures.whole (same_places u v c.reserve-2.ensures.places) in
    λ w. unit_stays (place_at c.reserve.new.self) (pool_number p) (get p.units) (get (with_value p.units n v)) mid n u v at (slot_set p.units.slots n u v at) c.reserve-2.ensures.owner c.reserve-2.ensures.whole c.reserve-2.ensures.rows
    (pool_rows p) _ (shown p) (shown_rows (place_at c.reserve.new.self) (pool_number p) (with_value p.units n v).slots kept) w
    ∙ c.unit_for.ensures.rows w
