-- Counts, bridges and labels, as the store and the table have them.
use Rattle.std.proofs.Common.{Bool, List, None, Option, Some, [], ap, arith, cond, false, is_some, length, refl, sym, true, ℕ, ◌&&◌, ◌<◌, ◌^◌, ◌≤◌, ◌∙◌, ◌∷◌, ◌≡◌, ◌||◌}
use Rattle.lf_base.specs.declared.ids.ObjId.{ObjId}
use Rattle.lf_base.specs.declared.values.Owner.{Owner}
use Rattle.lf_base.specs.declared.values.Value.{Value}
use Rattle.lf_base.specs.Names.{same_name, targets_of_value}
use Rattle.lf_base.specs.Owners.{bridge_of, bridges, first_bridge, has_row, is_in, or_frozen, owner_in, row_at, row_owner}
use Rattle.lf_base.specs.PlainState.{Row, State}
use Rattle.lf_base.specs.Questions.{borrowed_answer, first_refs, label_by, of_bridge, refs_answer}
use Rattle.lf_base.specs.EdgeLists.{near_edges}
use Rattle.lf_base.specs.Edges.{Edge}
use Rattle.lf_base.specs.Ownership.{owns}
use Rattle.lf_base.specs.WalkCounts.{borrowed, borrows, is_open, open_children, refs}
use Rattle.lf_domain.specs.Counts.{IsDomain}
use Rattle.lf_domain.proofs.NewRowCounts.{borrowed_told}
use Rattle.lf_domain.proofs.StoreEdges.{owned_has_row, owner_told}
use Rattle.lf_graph.specs.StoredRows.{CountedRow, owner_at, refs_at}
use Rattle.lf_laws.proofs.Edges.FrozenEdges.{near_borrowed}
use Rattle.lf_laws.proofs.Rows.RowsByName.{owner_has}
use Rattle.lf_regions.specs.declared.region.Region.{Region}
use Rattle.lf_regions.specs.Regions.{borrowed_of}
use Rattle.lf_settle.specs.SettledStates.{IsCounted}
use Rattle.std.proofs.lemmas.List.Sums.{count_by-le-length}
use Rattle.lf_settle.proofs.Counting.CountsTell.{refs_told}
use Rattle.lf_heap.proofs.Fields.FieldReads.{none_of}
use Rattle.lf_heap.proofs.States.Settling.{few_bridges}

-- an object without a mutable row is frozen
pub label_or_frozen : (b : Bool) (w : Option Owner) → label_by w ≡ label_by (or_frozen b w)
label_or_frozen b (Some w) = refl
label_or_frozen true None = refl
label_or_frozen false None = refl

no_owner_no_row : (rows : List Row) (o : ObjId) → owner_in rows o ≡ None → has_row rows o ≡ false
no_owner_no_row [] o e = refl
no_owner_no_row (r ∷ rs) o e = elim (same_name r.name o) as (λ b. row_owner (cond b (Some r) (row_at rs o)) ≡ None → (b || has_row rs o) ≡ false) [
  | true ↦ λ k. absurd (cc)
  | false ↦ λ k. no_owner_no_row rs o k
] e

none_or_some : (w : Option Owner) → is_some w ≡ true → (u : Owner) × (w ≡ Some u)
none_or_some None e = absurd (cc)
none_or_some (Some u) e = (u, refl)

module _ (rows : List CountedRow) (regions : List Region) (s : State) (d : IsDomain rows regions s) where
  counted : IsCounted rows regions s
  counted = record { counts = d.counts; well_formed = d.well_formed }

  owner_is : (o : ObjId) → owner_in s.rows o ≡ owner_at rows o
  owner_is o = owner_told rows s.rows o (((d.counts).store).rows)

  pub borrows_told : (r : ObjId) → borrowed_of regions r ≡ borrowed s r
  borrows_told r = borrowed_told s d.well_formed rows regions d.counts r ∙ sym (near_borrowed s d.well_formed r)

  pub borrows_answer : (v : Value) (r : ObjId) (n : ℕ) → Some r ≡ bridge_of s v → n ≡ borrowed_of regions r → Some n ≡ borrowed_answer s v
  borrows_answer v r n e b = ap Some (b ∙ borrows_told r) ∙ ap (of_bridge (borrowed s)) e

  pub borrows_few : (r : ObjId) → borrowed_of regions r < 2 ^ 63
  borrows_few r = omega (arith, borrowed_told s d.well_formed rows regions d.counts r, count_by-le-length (borrows s.rows r) (near_edges s), d.few)

  pub refs_few : (o : ObjId) (w : Option Owner) → w ≡ owner_at rows o → is_some w ≡ true → refs_at rows o < 2 ^ 63
  refs_few o w own there =
      let u = none_or_some w there in
      omega (arith, ((d.counts).store).refs o (owned_has_row rows o u.0 (sym own ∙ u.1)), count_by-le-length (λ (e : Edge). same_name e.to o) (near_edges s), d.few)

  pub children_few : (r : ObjId) → length s.rows ≤ 2 ^ 61 → open_children s r < 2 ^ 63
  children_few r few = omega (arith, count_by-le-length (λ c. owns s r c && is_open s c) (bridges s), few_bridges s, few)

  module _ (v : Value) (o : ObjId) (t : o ∷ [] ≡ targets_of_value v) where
    pub refs_some : (w : Option Owner) (n : ℕ) → w ≡ owner_at rows o → is_some w ≡ true → n ≡ refs_at rows o → Some n ≡ refs_answer s v
    refs_some w n own there e =
        let u = none_or_some w there in
        let own_in : owner_in s.rows o ≡ Some u.0 = owner_is o ∙ sym own ∙ u.1 in
        ap Some (e ∙ refs_told rows regions s counted o u.0 own_in) ∙ ap (λ b. cond b (Some (refs s o)) None) (sym (owner_has s.rows o u.0 own_in)) ∙ ap (first_refs s) t

    pub refs_none : (w : Option Owner) → w ≡ owner_at rows o → is_some w ≡ false → None ≡ refs_answer s v
    refs_none w own gone =
        ap (λ b. cond b (Some (refs s o)) None) (sym (no_owner_no_row s.rows o (owner_is o ∙ sym own ∙ none_of w gone))) ∙ ap (first_refs s) t

    pub bridge_told : (w : Option Owner) → w ≡ owner_at rows o → cond (is_in o w) (Some o) None ≡ bridge_of s v
    bridge_told w own = ap (λ u. cond (is_in o u) (Some o) None) (own ∙ sym (owner_is o)) ∙ ap (first_bridge s) t
