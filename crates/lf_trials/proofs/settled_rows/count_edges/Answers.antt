use Rattle.std.proofs.Common.{[], arith, refl, ◌∷◌}
use Rattle.lf_base.specs.Edges.{Field, Slot, edges_by}
use Rattle.lf_trials.specs.SettledRows.{first, second}
use Rattle.lf_trials.specs.TwoRegions.{two_regions}
use Rattle.lf_trials.proofs.SettledRows.{inner_more}
use Rattle.lf_trials.proofs.TwoRegions.{slot_more}
use Rattle.lf_trials.proofs.settled_rows.count_edges.Goals as goal

pub count_borrow-requires-clause-may : goal.count_borrow-requires-clause-may
count_borrow-requires-clause-may g c κs within = (two_regions.rows, ([], slot_more (g.S.Store.rows c.args.store.now) c.args.regions.now [] c.requires (omega arith)))

pub count_borrow-requires-2-clause-may : goal.count_borrow-requires-2-clause-may
count_borrow-requires-2-clause-may g c κs within =
    (two_regions.rows, (edges_by Slot (first ∷ []), slot_more (g.S.Store.rows c.count_borrow.new.store) c.count_borrow.new.regions (edges_by Slot (first ∷ [])) (c.count_borrow.ensures.counted two_regions.rows [] Slot (slot_more (g.S.Store.rows c.args.store.now) c.args.regions.now [] c.requires (omega arith)) refl) (omega arith)))

pub count_inner-requires-clause-may : goal.count_inner-requires-clause-may
count_inner-requires-clause-may g c κs within =
    (two_regions.rows, (record { from = Slot; to = second } ∷ edges_by Slot (first ∷ []), (first, inner_more first refl (g.S.Store.rows c.count_borrow-2.new.store) c.count_borrow-2.new.regions (record { from = Slot; to = second } ∷ edges_by Slot (first ∷ [])) (c.count_borrow-2.ensures.counted two_regions.rows (edges_by Slot (first ∷ [])) Slot (slot_more (g.S.Store.rows c.count_borrow.new.store) c.count_borrow.new.regions (edges_by Slot (first ∷ [])) (c.count_borrow.ensures.counted two_regions.rows [] Slot (slot_more (g.S.Store.rows c.args.store.now) c.args.regions.now [] c.requires (omega arith)) refl) (omega arith)) refl) (omega arith))))

pub count_inner-requires-2-clause-may : goal.count_inner-requires-2-clause-may
count_inner-requires-2-clause-may g c κs within =
    (two_regions.rows, (record { from = Field first; to = first } ∷ (record { from = Slot; to = second } ∷ edges_by Slot (first ∷ [])), (first, inner_more second refl (g.S.Store.rows c.count_inner.new.store) c.count_inner.new.regions (record { from = Field first; to = first } ∷ (record { from = Slot; to = second } ∷ edges_by Slot (first ∷ []))) (c.count_inner.ensures.counted two_regions.rows (record { from = Slot; to = second } ∷ edges_by Slot (first ∷ [])) first (inner_more first refl (g.S.Store.rows c.count_borrow-2.new.store) c.count_borrow-2.new.regions (record { from = Slot; to = second } ∷ edges_by Slot (first ∷ [])) (c.count_borrow-2.ensures.counted two_regions.rows (edges_by Slot (first ∷ [])) Slot (slot_more (g.S.Store.rows c.count_borrow.new.store) c.count_borrow.new.regions (edges_by Slot (first ∷ [])) (c.count_borrow.ensures.counted two_regions.rows [] Slot (slot_more (g.S.Store.rows c.args.store.now) c.args.regions.now [] c.requires (omega arith)) refl) (omega arith)) refl) (omega arith))) (omega arith))))

pub returns : goal.returns
returns g c = c.count_inner-2.ensures.counted two_regions.rows (record { from = Field first; to = first } ∷ (record { from = Slot; to = second } ∷ edges_by Slot (first ∷ []))) first (inner_more second refl (g.S.Store.rows c.count_inner.new.store) c.count_inner.new.regions (record { from = Field first; to = first } ∷ (record { from = Slot; to = second } ∷ edges_by Slot (first ∷ []))) (c.count_inner.ensures.counted two_regions.rows (record { from = Slot; to = second } ∷ edges_by Slot (first ∷ [])) first (inner_more first refl (g.S.Store.rows c.count_borrow-2.new.store) c.count_borrow-2.new.regions (record { from = Slot; to = second } ∷ edges_by Slot (first ∷ [])) (c.count_borrow-2.ensures.counted two_regions.rows (edges_by Slot (first ∷ [])) Slot (slot_more (g.S.Store.rows c.count_borrow.new.store) c.count_borrow.new.regions (edges_by Slot (first ∷ [])) (c.count_borrow.ensures.counted two_regions.rows [] Slot (slot_more (g.S.Store.rows c.args.store.now) c.args.regions.now [] c.requires (omega arith)) refl) (omega arith)) refl) (omega arith))) (omega arith))
