use Rattle.std.proofs.Common.{arith, ap, length, subst, sym, ℕ, ◌∙◌, ◌≤◌}
use Rattle.std.proofs.lemmas.List.{length-map}
use Rattle.lf_poolstore.specs.declared.unit_row.UnitRow.{UnitRow}
use Rattle.lf_poolstore.specs.Index.{index_room, place_at}
use Rattle.lf_poolstore.specs.Pools.{led_by}
use Rattle.lf_poolstore.specs.Units.{UnitView, place_in, whole}
use Rattle.lf_poolstore.proofs.unit.Unit.set_places.Goals as goal

pub put_places-requires-clause-numbers : goal.put_places-requires-clause-numbers
put_places-requires-clause-numbers c = c.self.invariant.numbers_differ

pub put_places-requires-clause-names : goal.put_places-requires-clause-names
put_places-requires-clause-names c = c.self.invariant.names_differ

pub put_places-requires-clause-room : goal.put_places-requires-clause-room
put_places-requires-clause-room c =
    let size = length-map c.self.inside.rows.entries (λ (e : ℕ × UnitRow). whole c.self.inside.owner c.self.inside.cells e.1) in
    let room = subst (λ (v : UnitView). length v.rows ≤ index_room c.args.index.now) (sym c.self.view_is) c.requires in
    omega (arith, size, room)

pub returns : goal.returns
returns c q = c.put_places.ensures q ∙ ap (λ (v : UnitView). led_by c.args.unit (place_in v q) (place_at c.args.index.now q)) c.self.view_is
