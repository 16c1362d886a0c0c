-- The edges from rows, the row that each begins at, and where they may lead.
use Rattle.std.proofs.Common.{Bool, List, Some, ap, false, inl, inr, refl, subst, sym, true, ◌||◌, ◌∙◌, ◌≡◌, ◌⊎◌}
use Rattle.lf_base.specs.declared.ids.ObjId.{ObjId}
use Rattle.lf_base.specs.declared.values.Owner.{Owner}
use Rattle.lf_base.specs.declared.values.Owner.TheVariants.{Frozen, In, Local}
use Rattle.lf_base.specs.Edges.{Edge, Field, edges, field_targets, row_edges, rows_edges, slot_edges}
use Rattle.lf_base.specs.Names.{same_name}
use Rattle.lf_base.specs.Owners.{has_row, or_frozen, owner_in}
use Rattle.lf_base.specs.PlainState.{Row, State}
use Rattle.lf_base.specs.Sets.{Member}
use Rattle.lf_base.specs.WellFormed.{Leads, from_row, may_lead}
use Rattle.lf_laws.proofs.Rows.RowsByName.{Distinct, owner_mem}
use Rattle.lf_base.proofs.ListLemmas.Members.{Member_flat_map, Member_map, Member_of_flat_map, Member_of_map, Member_left, Member_right}
use Rattle.lf_base.proofs.NameLemmas.SameNames.{same_name_is}

-- a field's edge and its row
pub record EdgeRow (rows : List Row) (e : Edge) : Type 0 where
  pub row : Row
  pub mem : Member row rows
  pub from : e.from ≡ Field row.name
  pub to : Member e.to (field_targets row.fields)

pub edge_row : (rows : List Row) (e : Edge) → Member e (rows_edges rows) → EdgeRow rows e
edge_row rows e m =
    let t = Member_of_flat_map row_edges e rows m in
    let o = Member_of_map (λ o. record { from = Field (t.0).name; to = o }) e (field_targets (t.0).fields) t.1.1 in
    record { row = t.0; mem = t.1.0; from = ap (λ (d : Edge). d.from) (sym o.1.1); to = subst (λ (d : Edge). Member d.to (field_targets (t.0).fields)) o.1.1 o.1.0 }

pub row_edge : (rows : List Row) (x : Row) (e : Edge) → Member x rows → e.from ≡ Field x.name → Member e.to (field_targets x.fields) → Member e (rows_edges rows)
row_edge rows x e m f t =
    let same : record { from = Field x.name; to = e.to } ≡ e = λ i. record { from = sym f i; to = e.to } in
    Member_flat_map row_edges x e rows m (subst (λ (d : Edge). Member d (row_edges x)) same (Member_map (λ o. record { from = Field x.name; to = o }) e.to (field_targets x.fields) t))

pub edge_in : (s : State) (e : Edge) → Member e (rows_edges s.rows) → Member e (edges s)
edge_in s e m = Member_right e (slot_edges s.slots) _ (Member_left e (rows_edges s.rows) _ m)

-- where a row's edge may lead
pub row_leads : (s : State) → Distinct s.rows → Leads s → (x : Row) → Member x s.rows → (e : Edge) → Member e (edges s) → e.from ≡ Field x.name → (w : Owner) → owner_in s.rows e.to ≡ Some w → from_row (Some (x.owner)) e.to (Some w) ≡ true
row_leads s d l x m e k f w h =
    let b : Bool = has_row s.given x.name || has_row s.own x.name in
    let c : Bool = has_row s.given e.to || has_row s.own e.to in
    let g : may_lead s (Field x.name) e.to ≡ true = ap (λ z. may_lead s z e.to) (sym f) ∙ l e k in
    (λ i. from_row (or_frozen b (sym (owner_mem s.rows d x m) i)) e.to (or_frozen c (sym h i))) ∙ g

pub to_local : (w : Owner) (o : ObjId) → from_row (Some w) o (Some Local) ≡ true → w ≡ Local
to_local Local o e = refl
to_local (In r) o e = cc
to_local Frozen o e = cc

abbrev pub IntoRegion : Owner → ObjId → ObjId → Type 0
IntoRegion w o r = (w ≡ Local) ⊎ ((w ≡ In r) ⊎ ((q : ObjId) × ((w ≡ In q) × ((same_name q r ≡ false) × (r ≡ o)))))

pub to_region : (w : Owner) (o r : ObjId) → from_row (Some w) o (Some (In r)) ≡ true → IntoRegion w o r
to_region Local o r e = inl refl
to_region (In q) o r e =
    elim (same_name q r) as (λ b. same_name q r ≡ b → (b || same_name r o) ≡ true → IntoRegion (In q) o r) [
      | true ↦ λ h k. inr (inl (ap In (same_name_is q r h)))
      | false ↦ λ h k. inr (inr (q, (refl, (h, same_name_is r o k))))
    ] refl e
to_region Frozen o r e = cc

pub field_is : (p q : ObjId) → Field p ≡ Field q → p ≡ q
field_is p q e = cc
