use Rattle.std.proofs.Common.{Some, ap, ◌∙◌}
use Rattle.lf_base.specs.Edges.{Field}
use Rattle.lf_base.specs.TakeResult.{take_result}
use Rattle.lf_base.specs.Owners.{is_local_at}
use Rattle.lf_graph.proofs.Stores.RowOrder.{field_order}
use Rattle.lf_laws.proofs.Changes.FewerFields.{take_keeps}
use Rattle.lf_settle.proofs.Counting.CountsTell.{no_frozen_row, row_is_there}
use Rattle.lf_settle.proofs.Counting.EdgeNoticed.{value_loses}
use Rattle.lf_settle.proofs.RowsDropped.FieldsDropped.{can_lose}
use Rattle.lf_settle.proofs.dropping.drop_field.Goals as goal

pub take_field-old-requires : goal.take_field-old-requires
take_field-old-requires g c =
    let s = c.requires.state.0 in
    let can = c.requires.state.1 in
    record { there = row_is_there (g.S.Store.rows c.args.store.now) c.args.regions.now s can.can.counted c.args.o c.args.owner can.here }

pub lose_borrow-requires-clause-may : goal.lose_borrow-requires-clause-may
lose_borrow-requires-clause-may g c κs within =
    let s = c.requires.state.0 in
    let can = c.requires.state.1 in
    (s, (take_result s c.args.o c.args.key, (Field c.args.o, (can_lose (g.S.Store.rows c.args.store.now) c.args.regions.now c.args.work.now s c.args.o c.args.owner can c.args.key c.take_field-old.result c.take_field-old.ensures.value (g.S.Store.rows c.take_field-old.new.self) c.take_field-old.ensures.rows, ap is_local_at (can.here ∙ ap Some c.in-Local.is)))))

pub lose_inner-requires-clause-may : goal.lose_inner-requires-clause-may
lose_inner-requires-clause-may g c κs within =
    let s = c.requires.state.0 in
    let can = c.requires.state.1 in
    (s, (take_result s c.args.o c.args.key, (c.args.o, (can_lose (g.S.Store.rows c.args.store.now) c.args.regions.now c.args.work.now s c.args.o c.args.owner can c.args.key c.take_field-old.result c.take_field-old.ensures.value (g.S.Store.rows c.take_field-old.new.self) c.take_field-old.ensures.rows, can.here ∙ ap Some c.in-In.is))))

pub returns-in-Local-clause-counted : goal.returns-in-Local-clause-counted
returns-in-Local-clause-counted g c s can = record {
  counts = c.lose_borrow.ensures.counted s (take_result s c.args.o c.args.key) (Field c.args.o) (can_lose (g.S.Store.rows c.args.store.now) c.args.regions.now c.args.work.now s c.args.o c.args.owner can c.args.key c.take_field-old.result c.take_field-old.ensures.value (g.S.Store.rows c.take_field-old.new.self) c.take_field-old.ensures.rows) (ap is_local_at (can.here ∙ ap Some c.in-Local.is));
  well_formed = take_keeps s c.args.o c.args.key can.can.counted.well_formed;
}

pub returns-in-Local-clause-loses : goal.returns-in-Local-clause-loses
returns-in-Local-clause-loses g c s can =
    let lose = can_lose (g.S.Store.rows c.args.store.now) c.args.regions.now c.args.work.now s c.args.o c.args.owner can c.args.key c.take_field-old.result c.take_field-old.ensures.value (g.S.Store.rows c.take_field-old.new.self) c.take_field-old.ensures.rows in
    value_loses s (take_result s c.args.o c.args.key) (Field c.args.o) c.take_field-old.result _ _ lose.loses
    (c.lose_borrow.ensures.noticed s (take_result s c.args.o c.args.key) (Field c.args.o) lose (ap is_local_at (can.here ∙ ap Some c.in-Local.is)))

pub returns-in-Local-clause-order : goal.returns-in-Local-clause-order
returns-in-Local-clause-order g c w = c.lose_borrow.ensures.order w ∙ field_order (g.S.Store.rows c.args.store.now) (g.S.Store.rows c.take_field-old.new.self) c.args.o c.args.key c.take_field-old.ensures.rows w

pub returns-in-In-clause-counted : goal.returns-in-In-clause-counted
returns-in-In-clause-counted g c s can = record {
  counts = c.lose_inner.ensures.counted s (take_result s c.args.o c.args.key) c.args.o (can_lose (g.S.Store.rows c.args.store.now) c.args.regions.now c.args.work.now s c.args.o c.args.owner can c.args.key c.take_field-old.result c.take_field-old.ensures.value (g.S.Store.rows c.take_field-old.new.self) c.take_field-old.ensures.rows) (can.here ∙ ap Some c.in-In.is);
  well_formed = take_keeps s c.args.o c.args.key can.can.counted.well_formed;
}

pub returns-in-In-clause-loses : goal.returns-in-In-clause-loses
returns-in-In-clause-loses g c s can =
    let lose = can_lose (g.S.Store.rows c.args.store.now) c.args.regions.now c.args.work.now s c.args.o c.args.owner can c.args.key c.take_field-old.result c.take_field-old.ensures.value (g.S.Store.rows c.take_field-old.new.self) c.take_field-old.ensures.rows in
    value_loses s (take_result s c.args.o c.args.key) (Field c.args.o) c.take_field-old.result _ _ lose.loses
    (c.lose_inner.ensures.noticed s (take_result s c.args.o c.args.key) c.args.o lose (can.here ∙ ap Some c.in-In.is))

pub returns-in-In-clause-order : goal.returns-in-In-clause-order
returns-in-In-clause-order g c w = c.lose_inner.ensures.order w ∙ field_order (g.S.Store.rows c.args.store.now) (g.S.Store.rows c.take_field-old.new.self) c.args.o c.args.key c.take_field-old.ensures.rows w

pub returns-in-Frozen-clause-counted : goal.returns-in-Frozen-clause-counted
returns-in-Frozen-clause-counted g c s can = absurd (no_frozen_row (g.S.Store.rows c.args.store.now) c.args.regions.now s can.can.counted c.args.o (can.here ∙ ap Some c.in-Frozen.is))

pub returns-in-Frozen-clause-loses : goal.returns-in-Frozen-clause-loses
returns-in-Frozen-clause-loses g c s can = absurd (no_frozen_row (g.S.Store.rows c.args.store.now) c.args.regions.now s can.can.counted c.args.o (can.here ∙ ap Some c.in-Frozen.is))

pub returns-in-Frozen-clause-order : goal.returns-in-Frozen-clause-order
returns-in-Frozen-clause-order g c = field_order (g.S.Store.rows c.args.store.now) (g.S.Store.rows c.take_field-old.new.self) c.args.o c.args.key c.take_field-old.ensures.rows
