use Rattle.std.proofs.Common.{Some, ap, arith, cond, refl, slice_set, subst, sym, ◌≤◌, ◌+◌, ◌∙◌, ◌≡◌}
use Rattle.std.specs.Option.{option_copied_mut}
use Rattle.slab.specs.Slab.{get, with_value}
use Rattle.lf_base.specs.declared.ids.ObjId.{ObjId}
use Rattle.lf_base.specs.Names.{same_name}
use Rattle.lf_graph.specs.RowChanges.{new_row, with_new_row}
use Rattle.lf_graph.specs.StoredRows.{SameByOwner, is_under, row_named}
use Rattle.lf_graph.proofs.Stores.Walks.{no_name_filter}
use Rattle.lf_poolstore.specs.Index.{index_room, place_at}
use Rattle.lf_poolstore.specs.Pools.{ArePools, place_of, slot_rows}
use Rattle.lf_poolstore.specs.PoolViews.{pool_rows}
use Rattle.lf_poolstore.specs.Units.{UnitView}
use Rattle.lf_poolstore.proofs.PoolChanges.{changed_room, pushed_kept, pushed_rows, slot_set}
use Rattle.lf_poolstore.proofs.PoolFacts.{numbered, numbered_rows, numbers_in, same_unit, shown}
use Rattle.lf_poolstore.proofs.PoolRows.{shown_rows}
use Rattle.lf_poolstore.proofs.pools.Pools.insert.Goals as goal

pub push-row-requires-clause-new : goal.push-row-requires-clause-new
push-row-requires-clause-new c =
    let at : get c.args.self.now.units c.in-Some.number ≡ Some c.in-Some-get_mut.unit.now = sym c.get_mut.ensures.value ∙ ap option_copied_mut c.in-Some-get_mut.is in
    ap (λ rs. row_named rs c.args.o) (sym (numbered_rows c.args.self.now c.args.owner c.in-Some.number c.in-Some-get_mut.unit.now (sym c.get.ensures ∙ c.in-Some.is) at))
    ∙ no_name_filter (is_under c.args.owner) (pool_rows c.args.self.now) c.args.o c.requires.new

pub invariant_of-self : goal.invariant_of-self
invariant_of-self c =
    let p = c.args.self.now in
    let n = c.in-Some.number in
    let u = c.in-Some-get_mut.unit.now in
    let at : get p.units n ≡ Some u = sym c.get_mut.ensures.value ∙ ap option_copied_mut c.in-Some-get_mut.is in
    let led : (q : ObjId) → place_at c.put.new.self q ≡ cond (same_name c.args.o q) (Some (place_of n c.push-row.result)) (place_at p.index q) = λ q. c.put.ensures.places q ∙ ap (cond (same_name c.args.o q) (Some (place_of n c.push-row.result))) (c.start.ensures.places q) in
    let kept : ArePools (place_at c.put.new.self) (numbers_in p) (get (with_value p.units n c.push-row.new.self)) =
    pushed_kept (place_at p.index) (place_at c.put.new.self) (numbers_in p) (get p.units) (get (with_value p.units n c.push-row.new.self)) p.kept n u c.push-row.new.self at (slot_set p.units.slots n u c.push-row.new.self at)
    c.push-row.ensures.owner c.push-row.ensures.whole (pool_rows p) (shown p) c.args.o c.push-row.result c.requires.new c.push-row.ensures.places led in
    record { kept = kept }

pub returns-clause-rows : goal.returns-clause-rows
returns-clause-rows c =
    let p = c.args.self.now in
    let n = c.in-Some.number in
    let u = c.in-Some-get_mut.unit.now in
    let at : get p.units n ≡ Some u = sym c.get_mut.ensures.value ∙ ap option_copied_mut c.in-Some-get_mut.is in
    let led : (q : ObjId) → place_at c.put.new.self q ≡ cond (same_name c.args.o q) (Some (place_of n c.push-row.result)) (place_at p.index q) = λ q. c.put.ensures.places q ∙ ap (cond (same_name c.args.o q) (Some (place_of n c.push-row.result))) (c.start.ensures.places q) in
    let kept : ArePools (place_at c.put.new.self) (numbers_in p) (get (with_value p.units n c.push-row.new.self)) =
    pushed_kept (place_at p.index) (place_at c.put.new.self) (numbers_in p) (get p.units) (get (with_value p.units n c.push-row.new.self)) p.kept n u c.push-row.new.self at (slot_set p.units.slots n u c.push-row.new.self at)
    c.push-row.ensures.owner c.push-row.ensures.whole (pool_rows p) (shown p) c.args.o c.push-row.result c.requires.new c.push-row.ensures.places led in
    let there = numbered p c.args.owner n (sym c.get.ensures ∙ c.in-Some.is) in
    let owner : u.owner ≡ c.args.owner = ap (λ (y : UnitView). y.owner) (same_unit u there.0 (sym at ∙ there.1)) ∙ there.2 in
    let slots = slice_set p.units.slots n (Some c.push-row.new.self) in
    subst (λ w. SameByOwner (slot_rows slots) (with_new_row (pool_rows p) c.args.o w)) owner
    (pushed_rows (place_at p.index) (place_at c.put.new.self) (numbers_in p) (get p.units) (get (with_value p.units n c.push-row.new.self)) p.kept n u c.push-row.new.self at (slot_set p.units.slots n u c.push-row.new.self at)
    c.push-row.ensures.owner c.push-row.ensures.whole (pool_rows p) (shown p) c.args.o c.push-row.result c.requires.new c.push-row.ensures.places led (new_row c.args.o u.owner) c.push-row.ensures.rows refl (slot_rows slots)
    (shown_rows (place_at c.put.new.self) (numbers_in p) slots kept))

pub returns-clause-room : goal.returns-clause-room
returns-clause-room c =
    let p = c.args.self.now in
    let n = c.in-Some.number in
    let u = c.in-Some-get_mut.unit.now in
    let at : get p.units n ≡ Some u = sym c.get_mut.ensures.value ∙ ap option_copied_mut c.in-Some-get_mut.is in
    let names : index_room p.index ≤ index_room c.put.new.self + 1 = let a = c.put.ensures.room in let b = c.start.ensures.room in omega (arith, a, b) in
    changed_room (place_at p.index) (numbers_in p) (get p.units) (get (with_value p.units n c.push-row.new.self)) p.kept n u c.push-row.new.self at (slot_set p.units.slots n u c.push-row.new.self at)
    c.push-row.ensures.owner c.push-row.ensures.whole 1 (index_room p.index) (index_room c.put.new.self) names c.push-row.ensures.room
