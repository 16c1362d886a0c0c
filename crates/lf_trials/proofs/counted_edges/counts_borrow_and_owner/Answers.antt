use Rattle.std.proofs.Common.{[], arith, refl, ◌∷◌}
use Rattle.lf_base.specs.Edges.{Edge, Field, Slot, edges_by}
use Rattle.lf_trials.specs.TwoRegions.{two_regions}
use Rattle.lf_trials.proofs.TwoRegions.{child, field_less, field_more, home, slot_less, slot_more}
use Rattle.lf_trials.proofs.counted_edges.counts_borrow_and_owner.Goals as goal

abbrev owner : Edge
owner = record { from = Field home; to = child }

pub told-requires-after_bounds : goal.told-requires-after_bounds
told-requires-after_bounds g c κs within =
    let one = c.count_borrow.ensures.counted two_regions.rows [] Slot (slot_more (g.S.Store.rows c.in_ok-store.store) c.in_ok-store.regions [] c.in_ok-store.ensures (omega arith)) refl in
    (two_regions.rows, (edges_by Slot (child ∷ []), (one, refl)))

pub count_inner-requires-clause-may : goal.count_inner-requires-clause-may
count_inner-requires-clause-may g c κs within =
    let one = c.count_borrow.ensures.counted two_regions.rows [] Slot (slot_more (g.S.Store.rows c.in_ok-store.store) c.in_ok-store.regions [] c.in_ok-store.ensures (omega arith)) refl in
    (two_regions.rows, (edges_by Slot (child ∷ []), (home, field_more (g.S.Store.rows c.count_borrow.new.store) c.count_borrow.new.regions (edges_by Slot (child ∷ [])) one (omega arith))))

pub told-requires-2-after_bounds : goal.told-requires-2-after_bounds
told-requires-2-after_bounds g c κs within =
    let one = c.count_borrow.ensures.counted two_regions.rows [] Slot (slot_more (g.S.Store.rows c.in_ok-store.store) c.in_ok-store.regions [] c.in_ok-store.ensures (omega arith)) refl in
    let two = c.count_inner.ensures.counted two_regions.rows (edges_by Slot (child ∷ [])) home (field_more (g.S.Store.rows c.count_borrow.new.store) c.count_borrow.new.regions (edges_by Slot (child ∷ [])) one (omega arith)) in
    (two_regions.rows, (owner ∷ edges_by Slot (child ∷ []), (two, refl)))

pub uncount_borrow-requires-clause-may : goal.uncount_borrow-requires-clause-may
uncount_borrow-requires-clause-may g c κs within =
    let one = c.count_borrow.ensures.counted two_regions.rows [] Slot (slot_more (g.S.Store.rows c.in_ok-store.store) c.in_ok-store.regions [] c.in_ok-store.ensures (omega arith)) refl in
    let two = c.count_inner.ensures.counted two_regions.rows (edges_by Slot (child ∷ [])) home (field_more (g.S.Store.rows c.count_borrow.new.store) c.count_borrow.new.regions (edges_by Slot (child ∷ [])) one (omega arith)) in
    (two_regions.rows, (owner ∷ edges_by Slot (child ∷ []), (owner ∷ [], (Slot, slot_less (g.S.Store.rows c.count_inner.new.store) c.count_inner.new.regions owner two))))

pub told-requires-3-after_bounds : goal.told-requires-3-after_bounds
told-requires-3-after_bounds g c κs within =
    let one = c.count_borrow.ensures.counted two_regions.rows [] Slot (slot_more (g.S.Store.rows c.in_ok-store.store) c.in_ok-store.regions [] c.in_ok-store.ensures (omega arith)) refl in
    let two = c.count_inner.ensures.counted two_regions.rows (edges_by Slot (child ∷ [])) home (field_more (g.S.Store.rows c.count_borrow.new.store) c.count_borrow.new.regions (edges_by Slot (child ∷ [])) one (omega arith)) in
    let left = c.uncount_borrow.ensures.counted two_regions.rows (owner ∷ edges_by Slot (child ∷ [])) (owner ∷ []) Slot (slot_less (g.S.Store.rows c.count_inner.new.store) c.count_inner.new.regions owner two) in
    (two_regions.rows, (owner ∷ [], (left, refl)))

pub uncount_inner-requires-clause-may : goal.uncount_inner-requires-clause-may
uncount_inner-requires-clause-may g c κs within =
    let one = c.count_borrow.ensures.counted two_regions.rows [] Slot (slot_more (g.S.Store.rows c.in_ok-store.store) c.in_ok-store.regions [] c.in_ok-store.ensures (omega arith)) refl in
    let two = c.count_inner.ensures.counted two_regions.rows (edges_by Slot (child ∷ [])) home (field_more (g.S.Store.rows c.count_borrow.new.store) c.count_borrow.new.regions (edges_by Slot (child ∷ [])) one (omega arith)) in
    let left = c.uncount_borrow.ensures.counted two_regions.rows (owner ∷ edges_by Slot (child ∷ [])) (owner ∷ []) Slot (slot_less (g.S.Store.rows c.count_inner.new.store) c.count_inner.new.regions owner two) in
    (two_regions.rows, (owner ∷ [], ([], (home, field_less (g.S.Store.rows c.uncount_borrow.new.store) c.uncount_borrow.new.regions left))))

pub told-requires-4-after_bounds : goal.told-requires-4-after_bounds
told-requires-4-after_bounds g c κs within =
    let one = c.count_borrow.ensures.counted two_regions.rows [] Slot (slot_more (g.S.Store.rows c.in_ok-store.store) c.in_ok-store.regions [] c.in_ok-store.ensures (omega arith)) refl in
    let two = c.count_inner.ensures.counted two_regions.rows (edges_by Slot (child ∷ [])) home (field_more (g.S.Store.rows c.count_borrow.new.store) c.count_borrow.new.regions (edges_by Slot (child ∷ [])) one (omega arith)) in
    let left = c.uncount_borrow.ensures.counted two_regions.rows (owner ∷ edges_by Slot (child ∷ [])) (owner ∷ []) Slot (slot_less (g.S.Store.rows c.count_inner.new.store) c.count_inner.new.regions owner two) in
    let none = c.uncount_inner.ensures.counted two_regions.rows (owner ∷ []) [] home (field_less (g.S.Store.rows c.uncount_borrow.new.store) c.uncount_borrow.new.regions left) in
    (two_regions.rows, ([], (none, refl)))
