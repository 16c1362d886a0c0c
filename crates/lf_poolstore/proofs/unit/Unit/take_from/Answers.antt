use Rattle.std.proofs.Common.{Some, [], ap, arith, cond, refl, subst, sym, ◌++◌, ◌∙◌, ◌∷◌, ◌≡◌}
use Rattle.std.specs.Map.{lookup}
use Rattle.lf_base.specs.declared.ids.ObjId.{ObjId}
use Rattle.lf_base.specs.Links.{Lacks}
use Rattle.lf_base.specs.Names.{same_name}
use Rattle.lf_graph.specs.RowChanges.{moved_under}
use Rattle.lf_graph.specs.StoredRows.{IsNewName, row_named}
use Rattle.lf_poolstore.specs.RowLists.{names_in}
use Rattle.lf_poolstore.specs.UnitRows.{bare}
use Rattle.lf_poolstore.specs.Units.{IsUnit, StandsAt, UnitView, place_in, places_in, rows_in}
use Rattle.lf_poolstore.proofs.EntryLists.{new_lacks}
use Rattle.lf_poolstore.proofs.MovedRows.{taken_places, taken_rows, taken_unit, whole_under}
use Rattle.lf_poolstore.proofs.SeenUnits.{is_there, name_seen, row_seen, width_seen}
use Rattle.lf_poolstore.proofs.WholeUnits.{whole_view}
use Rattle.lf_poolstore.proofs.unit.Unit.take_from.Goals as goal

pub row-requires : goal.row-requires
row-requires c = is_there c.other.inside.owner c.other.inside.rows c.other.inside.cells c.args.other.now (record { unit = c.other.invariant; is = c.other.view_is }) c.args.at c.requires.there.0 c.requires.there.1

pub copied-now-requires-clause-keeps : goal.copied-now-requires-clause-keeps
copied-now-requires-clause-keeps c = c.other.invariant.fields c.args.at c.row.result c.row.ensures.row

pub copied-now-requires-clause-room : goal.copied-now-requires-clause-room
copied-now-requires-clause-room c =
    let w = width_seen c.other.inside.owner c.other.inside.rows c.other.inside.cells c.args.other.now (record { unit = c.other.invariant; is = c.other.view_is }) c.args.at c.requires.there.0 c.requires.there.1 c.row.result c.row.ensures.row in
    let spare = ap (λ (v : UnitView). v.spare) c.self.view_is in
    let room = c.requires.there.3 in
    omega (arith, w, spare, room)

-- the row's name, before and after
named : (c : goal.After-remove) → (o : ObjId) → StandsAt c.args.other.now c.args.at o → c.copied-now.result.name ≡ o
named c o here = c.copied-now.ensures.row.name ∙ name_seen c.other.inside.owner c.other.inside.rows c.other.inside.cells c.args.other.now (record { unit = c.other.invariant; is = c.other.view_is }) c.args.at o here c.row.result c.row.ensures.row

lacks : (c : goal.After-remove) → Lacks same_name c.copied-now.result.name (names_in c.self.inside.rows.entries)
lacks c =
    let o = c.requires.there.0 in
    subst (λ n. Lacks same_name n (names_in c.self.inside.rows.entries)) (sym (named c o c.requires.there.1))
    (new_lacks c.self.inside.owner c.self.inside.cells c.self.inside.rows.entries o (subst (λ (v : UnitView). IsNewName v.rows o) (sym c.self.view_is) c.requires.there.2))

pub invariant_of-self : goal.invariant_of-self
invariant_of-self c =
    subst (λ es. IsUnit es c.copied-now.new.cells) (sym c.push-number.ensures.entries)
    (taken_unit c.self.inside.rows.entries c.self.inside.cells c.copied-now.new.cells c.self.invariant (bare c.row.result) c.copied-now.result refl _ c.copied-now.ensures.written c.push-number.result c.push-number.ensures.new (lacks c))

pub returns-clause-rows : goal.returns-clause-rows
returns-clause-rows c o here =
    let w = c.self.inside.owner in
    let n = c.copied-now.new.cells in
    let now = c.copied-now.result in
    ap (rows_in w n) c.push-number.ensures.entries
    ∙ taken_rows c.self.inside.rows.entries c.self.inside.cells n c.self.invariant (bare c.row.result) now refl _ c.copied-now.ensures.written w c.push-number.result
    ∙ ap (λ t. rows_in w c.self.inside.cells c.self.inside.rows.entries ++ t ∷ []) (whole_under c.other.inside.owner w c.other.inside.cells n c.row.result now c.copied-now.ensures.row c.copied-now.ensures.written.here)
    ∙ ap (λ t. rows_in w c.self.inside.cells c.self.inside.rows.entries ++ moved_under w t) (sym (row_seen c.other.inside.owner c.other.inside.rows c.other.inside.cells c.args.other.now (record { unit = c.other.invariant; is = c.other.view_is }) c.args.at o here c.row.result c.row.ensures.row))
    ∙ ap (λ (v : UnitView). v.rows ++ moved_under v.owner (row_named c.args.other.now.rows o)) c.self.view_is

pub returns-clause-places : goal.returns-clause-places
returns-clause-places c o here q =
    ap (λ es. lookup (same_name q) (places_in es)) c.push-number.ensures.entries
    ∙ taken_places c.self.inside.rows.entries c.self.inside.cells c.copied-now.new.cells c.self.invariant (bare c.row.result) c.copied-now.result refl _ c.copied-now.ensures.written c.push-number.result c.push-number.ensures.new (lacks c) q
    ∙ ap (λ n. cond (same_name n q) (Some c.push-number.result) (lookup (same_name q) (places_in c.self.inside.rows.entries))) (named c o here)
    ∙ ap (λ (v : UnitView). cond (same_name o q) (Some c.push-number.result) (place_in v q)) c.self.view_is

pub returns-clause-room : goal.returns-clause-room
returns-clause-room c o here =
    let w = width_seen c.other.inside.owner c.other.inside.rows c.other.inside.cells c.args.other.now (record { unit = c.other.invariant; is = c.other.view_is }) c.args.at o here c.row.result c.row.ensures.row in
    let spare = ap (λ (v : UnitView). v.spare) c.self.view_is in
    omega (arith, w, spare, c.push-number.ensures.room, c.copied-now.ensures.room)

pub returns-clause-whole : goal.returns-clause-whole
returns-clause-whole c = whole_view c.self.inside.owner c.push-number.new.self c.copied-now.new.cells
