use Rattle.std.proofs.Common.{ap, arith, cond, sym, ◌∙◌}
use Rattle.lf_base.specs.EdgeLists.{near_edges}
use Rattle.lf_base.specs.declared.values.Value.TheVariants as value
use Rattle.lf_base.specs.Edges.{Field}
use Rattle.lf_base.specs.WriteResult.{put_field}
use Rattle.lf_graph.specs.StoredRows.{fields_at}
use Rattle.lf_transfer.specs.Closing.{come_to}
use Rattle.lf_transfer.proofs.Closings.FieldSteps.{field_closed, field_may, field_needs_none, field_room, field_there, fields_then, other_fields, set_order, then_state}
use Rattle.lf_transfer.proofs.closed_fields.close_field.Goals as goal

pub let_go-requires-clause-may : goal.let_go-requires-clause-may
let_go-requires-clause-may g c κs within into =
    let h = c.requires.closing in
    let k = h.1.1.1.1.1 in
    let rows = g.S.Store.rows c.args.store.now in
    let here = come_to h.0 rows h.1.1.1.1.0 in (
      here.rows,
      (
        near_edges here,
        (
          near_edges (then_state h.0 h.1.0 h.1.1.0 c.args.within.now.keys h.1.1.1.0 rows c.args.regions.now h.1.1.1.1.0 c.args.names.now k.0 c.args.p k.1 c.args.key c.args.v c.requires.field),
          (Field c.args.p, field_may h.0 h.1.0 h.1.1.0 c.args.within.now.keys h.1.1.1.0 rows c.args.regions.now h.1.1.1.1.0 c.args.names.now k.0 c.args.p k.1 c.args.key c.args.v c.requires.field),
        ),
      ),
    )

pub let_go-requires-clause-room : goal.let_go-requires-clause-room
let_go-requires-clause-room g c κs within into =
    let h = c.requires.closing in
    let k = h.1.1.1.1.1 in
    field_room h.0 h.1.0 h.1.1.0 c.args.within.now.keys h.1.1.1.0 (g.S.Store.rows c.args.store.now) c.args.regions.now h.1.1.1.1.0 c.args.names.now k.0 c.args.p k.1 c.args.key c.args.v c.requires.field into

pub set_field-requires-clause-there : goal.set_field-requires-clause-there
set_field-requires-clause-there g c =
    let h = c.requires.closing in
    let s = h.0 in let at = h.1.0 in let r = h.1.1.0 in let before = h.1.1.1.0 in let slots = h.1.1.1.1.0 in let closing = h.1.1.1.1.1.0 in let local = h.1.1.1.1.1.1 in
    let rows = g.S.Store.rows c.args.store.now in
    let into = sym c.let_go.ensures.leads ∙ c.if-let_go.true in
    let here = come_to s rows slots in
    let counts = c.let_go.ensures.counted c.if-let_go.true here.rows (near_edges here) (near_edges (then_state s at r c.args.within.now.keys before rows c.args.regions.now slots c.args.names.now closing c.args.p local c.args.key c.args.v c.requires.field)) (Field c.args.p) (field_may s at r c.args.within.now.keys before rows c.args.regions.now slots c.args.names.now closing c.args.p local c.args.key c.args.v c.requires.field) in
    field_there s at r c.args.within.now.keys before rows c.args.regions.now slots c.args.names.now closing c.args.p local c.args.key c.args.v c.requires.field into (g.S.Store.rows c.let_go.new.store) c.let_go.new.regions counts

pub set_field-requires-clause-room : goal.set_field-requires-clause-room
set_field-requires-clause-room g c w owned =
    let h = c.requires.closing in
    let s = h.0 in let at = h.1.0 in let r = h.1.1.0 in let before = h.1.1.1.0 in let slots = h.1.1.1.1.0 in let closing = h.1.1.1.1.1.0 in let local = h.1.1.1.1.1.1 in
    let rows = g.S.Store.rows c.args.store.now in
    let into = sym c.let_go.ensures.leads ∙ c.if-let_go.true in
    let here = come_to s rows slots in
    let counts = c.let_go.ensures.counted c.if-let_go.true here.rows (near_edges here) (near_edges (then_state s at r c.args.within.now.keys before rows c.args.regions.now slots c.args.names.now closing c.args.p local c.args.key c.args.v c.requires.field)) (Field c.args.p) (field_may s at r c.args.within.now.keys before rows c.args.regions.now slots c.args.names.now closing c.args.p local c.args.key c.args.v c.requires.field) in
    omega (arith, field_needs_none s at r c.args.within.now.keys before rows c.args.regions.now slots c.args.names.now closing c.args.p local c.args.key c.args.v c.requires.field into (g.S.Store.rows c.let_go.new.store) c.let_go.new.regions counts)

pub returns-then-let_go-clause-closing : goal.returns-then-let_go-clause-closing
returns-then-let_go-clause-closing g c s at r before slots closing local =
    let rows = g.S.Store.rows c.args.store.now in
    let into = sym c.let_go.ensures.leads ∙ c.if-let_go.true in
    let here = come_to s rows slots in
    let counts = c.let_go.ensures.counted c.if-let_go.true here.rows (near_edges here) (near_edges (then_state s at r c.args.within.now.keys before rows c.args.regions.now slots c.args.names.now closing c.args.p local c.args.key c.args.v c.requires.field)) (Field c.args.p) (field_may s at r c.args.within.now.keys before rows c.args.regions.now slots c.args.names.now closing c.args.p local c.args.key c.args.v c.requires.field) in
    field_closed s at r c.args.within.now.keys before rows c.args.regions.now slots c.args.names.now closing c.args.p local c.args.key c.args.v c.requires.field into (g.S.Store.rows c.let_go.new.store) c.let_go.new.regions counts
    (g.S.Store.rows c.set_field.new.self) c.set_field.ensures.rows c.let_go.new.names (c.let_go.ensures.named c.if-let_go.true) c.let_go.ensures.capacity

pub returns-then-let_go-clause-shut : goal.returns-then-let_go-clause-shut
returns-then-let_go-clause-shut g c s at r before slots closing local =
    let rows = g.S.Store.rows c.args.store.now in
    let into = sym c.let_go.ensures.leads ∙ c.if-let_go.true in
    let here = come_to s rows slots in
    let counts = c.let_go.ensures.counted c.if-let_go.true here.rows (near_edges here) (near_edges (then_state s at r c.args.within.now.keys before rows c.args.regions.now slots c.args.names.now closing c.args.p local c.args.key c.args.v c.requires.field)) (Field c.args.p) (field_may s at r c.args.within.now.keys before rows c.args.regions.now slots c.args.names.now closing c.args.p local c.args.key c.args.v c.requires.field) in
    fields_then s at r c.args.within.now.keys before rows c.args.regions.now slots c.args.names.now closing c.args.p local c.args.key c.args.v c.requires.field into (g.S.Store.rows c.let_go.new.store) c.let_go.new.regions counts
    (g.S.Store.rows c.set_field.new.self) c.set_field.ensures.rows
    ∙ ap (λ b. cond b (put_field (fields_at rows c.args.p) c.args.key value.None) (fields_at rows c.args.p)) (sym (sym (closing.leads c.args.v) ∙ into))

pub returns-then-let_go-clause-others : goal.returns-then-let_go-clause-others
returns-then-let_go-clause-others g c q other =
    let h = c.requires.closing in
    let s = h.0 in let at = h.1.0 in let r = h.1.1.0 in let before = h.1.1.1.0 in let slots = h.1.1.1.1.0 in let closing = h.1.1.1.1.1.0 in let local = h.1.1.1.1.1.1 in
    let rows = g.S.Store.rows c.args.store.now in
    let into = sym c.let_go.ensures.leads ∙ c.if-let_go.true in
    let here = come_to s rows slots in
    let counts = c.let_go.ensures.counted c.if-let_go.true here.rows (near_edges here) (near_edges (then_state s at r c.args.within.now.keys before rows c.args.regions.now slots c.args.names.now closing c.args.p local c.args.key c.args.v c.requires.field)) (Field c.args.p) (field_may s at r c.args.within.now.keys before rows c.args.regions.now slots c.args.names.now closing c.args.p local c.args.key c.args.v c.requires.field) in
    other_fields s at r c.args.within.now.keys before rows c.args.regions.now slots c.args.names.now closing c.args.p local c.args.key c.args.v c.requires.field into (g.S.Store.rows c.let_go.new.store) c.let_go.new.regions counts
    (g.S.Store.rows c.set_field.new.self) c.set_field.ensures.rows q other

pub returns-then-let_go-clause-room : goal.returns-then-let_go-clause-room
returns-then-let_go-clause-room g c w =
    let h = c.requires.closing in
    let s = h.0 in let at = h.1.0 in let r = h.1.1.0 in let before = h.1.1.1.0 in let slots = h.1.1.1.1.0 in let closing = h.1.1.1.1.1.0 in let local = h.1.1.1.1.1.1 in
    let rows = g.S.Store.rows c.args.store.now in
    let into = sym c.let_go.ensures.leads ∙ c.if-let_go.true in
    let here = come_to s rows slots in
    let counts = c.let_go.ensures.counted c.if-let_go.true here.rows (near_edges here) (near_edges (then_state s at r c.args.within.now.keys before rows c.args.regions.now slots c.args.names.now closing c.args.p local c.args.key c.args.v c.requires.field)) (Field c.args.p) (field_may s at r c.args.within.now.keys before rows c.args.regions.now slots c.args.names.now closing c.args.p local c.args.key c.args.v c.requires.field) in
    omega (arith, c.let_go.ensures.room w, c.set_field.ensures.room w, field_needs_none s at r c.args.within.now.keys before rows c.args.regions.now slots c.args.names.now closing c.args.p local c.args.key c.args.v c.requires.field into (g.S.Store.rows c.let_go.new.store) c.let_go.new.regions counts)

pub returns-then-let_go-clause-order : goal.returns-then-let_go-clause-order
returns-then-let_go-clause-order g c w = set_order (g.S.Store.rows c.let_go.new.store) (g.S.Store.rows c.set_field.new.self) c.args.p c.args.key value.None c.set_field.ensures.rows w ∙ c.let_go.ensures.order w
