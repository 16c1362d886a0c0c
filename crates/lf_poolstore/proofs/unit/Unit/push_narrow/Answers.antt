use Rattle.std.proofs.Common.{Some, [], ap, cond, refl, subst, sym, ◌++◌, ◌∙◌, ◌∷◌}
use Rattle.std.specs.Map.{lookup}
use Rattle.lf_base.specs.Links.{Lacks}
use Rattle.lf_base.specs.Names.{same_name}
use Rattle.lf_graph.specs.StoredRows.{IsNewName}
use Rattle.lf_poolstore.specs.NarrowRows.{narrow_row}
use Rattle.lf_poolstore.specs.RowLists.{names_in}
use Rattle.lf_poolstore.specs.UnitRows.{bare}
use Rattle.lf_poolstore.specs.Units.{IsUnit, UnitView, place_in, places_in, rows_in}
use Rattle.lf_poolstore.proofs.EntryLists.{new_lacks}
use Rattle.lf_poolstore.proofs.MovedRows.{taken_places, taken_rows, taken_unit}
use Rattle.lf_poolstore.proofs.WholeUnits.{whole_view}
use Rattle.lf_poolstore.proofs.unit.Unit.push_narrow.Goals as goal

lacks : (c : goal.After-push) → Lacks same_name c.seeded-now.result.name (names_in c.self.inside.rows.entries)
lacks c =
    subst (λ n. Lacks same_name n (names_in c.self.inside.rows.entries)) (sym c.seeded-now.ensures.name)
    (new_lacks c.self.inside.owner c.self.inside.cells c.self.inside.rows.entries c.args.row.name (subst (λ (v : UnitView). IsNewName v.rows c.args.row.name) (sym c.self.view_is) c.requires.new))

pub invariant_of-self : goal.invariant_of-self
invariant_of-self c =
    subst (λ es. IsUnit es c.seeded-now.new.cells) (sym c.push.ensures.entries)
    (taken_unit c.self.inside.rows.entries c.self.inside.cells c.seeded-now.new.cells c.self.invariant (bare c.seeded-now.result) c.seeded-now.result refl _ c.seeded-now.ensures.written c.push.result c.push.ensures.new (lacks c))

pub returns-clause-rows : goal.returns-clause-rows
returns-clause-rows c =
    let w = c.self.inside.owner in
    let n = c.seeded-now.new.cells in
    let now = c.seeded-now.result in
    let s = c.seeded-now.ensures in
    ap (rows_in w n) c.push.ensures.entries
    ∙ taken_rows c.self.inside.rows.entries c.self.inside.cells n c.self.invariant (bare now) now refl _ s.written w c.push.result
    ∙ (λ i. rows_in w c.self.inside.cells c.self.inside.rows.entries ++ record { row = record { name = s.name i; owner = w; fields = s.written.here i }; refs = s.refs i } ∷ [])
    ∙ ap (λ (v : UnitView). v.rows ++ narrow_row v.owner c.args.row ∷ []) c.self.view_is

pub returns-clause-places : goal.returns-clause-places
returns-clause-places c q =
    ap (λ es. lookup (same_name q) (places_in es)) c.push.ensures.entries
    ∙ taken_places c.self.inside.rows.entries c.self.inside.cells c.seeded-now.new.cells c.self.invariant (bare c.seeded-now.result) c.seeded-now.result refl _ c.seeded-now.ensures.written c.push.result c.push.ensures.new (lacks c) q
    ∙ ap (λ n. cond (same_name n q) (Some c.push.result) (lookup (same_name q) (places_in c.self.inside.rows.entries))) c.seeded-now.ensures.name
    ∙ ap (λ (v : UnitView). cond (same_name c.args.row.name q) (Some c.push.result) (place_in v q)) c.self.view_is

pub returns-clause-whole : goal.returns-clause-whole
returns-clause-whole c = whole_view c.self.inside.owner c.push.new.self c.seeded-now.new.cells
