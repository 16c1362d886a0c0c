-- A store in which a row has other fields counts the same edges.
use Rattle.std.proofs.Common.{Bool, List, None, Option, Some, [], ap, cond, false, map, refl, subst, sym, true, ◌&&◌, ◌∙◌, ◌∷◌, ◌≡◌}
use Rattle.std.specs.Option.{is_some, option_map}
use Rattle.lf_base.specs.declared.ids.ObjId.{ObjId}
use Rattle.lf_base.specs.declared.values.Key.{Key}
use Rattle.lf_base.specs.declared.values.Value.{Value}
use Rattle.lf_base.specs.Edges.{Content, Edge, Field, Slot, Source}
use Rattle.lf_base.specs.Names.{same_name}
use Rattle.lf_base.specs.Owners.{is_bridge, is_in, is_local_at, owner_in, row_at, row_owner}
use Rattle.lf_base.specs.Ownership.{is_in_other, is_owning}
use Rattle.lf_base.specs.PlainState.{Row}
use Rattle.lf_base.specs.Sets.{Differ}
use Rattle.lf_base.specs.WalkCounts.{borrows, is_borrower}
use Rattle.lf_base.specs.WriteResult.{is_at}
use Rattle.lf_graph.specs.RowChanges.{changed, with_fields}
use Rattle.lf_graph.specs.StoreCounts.{IsStoreOf}
use Rattle.lf_graph.specs.StoredRows.{CountedRow, NamesDiffer, SameByOwner, refs_by, row_named}
use Rattle.lf_graph.proofs.Stores.AfterCalls.{found_after}
use Rattle.lf_graph.proofs.Stores.Changes.{at_keeps_name, found_changed}
use Rattle.lf_graph.proofs.Stores.StateRows.{fields_store, names_map, same_store}
use Rattle.lf_regions.specs.declared.region.Region.{Region}
use Rattle.lf_regions.specs.TableCounts.{IsTableOf, owns_region}
use Rattle.lf_domain.specs.Counts.{Counts}
use Rattle.lf_domain.proofs.EdgeTests.{any_alike, count_alike}

-- ---- a table tells of the rows their owners alone
module _ (xs ys : List Row) (owners : (o : ObjId) → owner_in ys o ≡ owner_in xs o) where
  same_borrower : (f : Source) → is_borrower xs f ≡ is_borrower ys f
  same_borrower Slot = refl
  same_borrower (Field p) = ap is_local_at (sym (owners p))
  same_borrower (Content c) = refl

  same_owning : (f : Source) (r : ObjId) → is_owning xs f r ≡ is_owning ys f r
  same_owning Slot r = refl
  same_owning (Field p) r = ap (is_in_other r) (sym (owners p))
  same_owning (Content c) r = refl

  same_bridge : (r : ObjId) → is_bridge ys r ≡ is_bridge xs r
  same_bridge r = ap (is_in r) (owners r)

  same_borrows : (r : ObjId) (e : Edge) → borrows xs r e ≡ borrows ys r e
  same_borrows r e = ap (λ b. b && is_in r (owner_in xs e.to)) (same_borrower e.from) ∙ ap (λ w. is_borrower ys e.from && is_in r w) (sym (owners e.to))

  pub table_of_owners : (regions : List Region) (es : List Edge) → IsTableOf regions xs es → IsTableOf regions ys es
  table_of_owners regions es t = record {
    regions = λ r. t.regions r ∙ sym (same_bridge r);
    borrowed = λ r b. t.borrowed r (sym (same_bridge r) ∙ b) ∙ count_alike (borrows xs r) (borrows ys r) es (λ e m. same_borrows r e);
    owned = λ r b. t.owned r (sym (same_bridge r) ∙ b) ∙ any_alike (owns_region xs r) (owns_region ys r) es (λ e m. ap (λ o. o && same_name e.to r) (same_owning e.from r));
  }

-- ---- one row has other fields
module _ (x : ObjId) (f : List (Key × Value) → List (Key × Value)) where
  abbrev refilled : List Row → List Row
  refilled of = map (λ r. cond (is_at x r) (record r { fields = f r.fields }) r) of

  owner_refilled : (of : List Row) (o : ObjId) → owner_in (refilled of) o ≡ owner_in of o
  owner_refilled [] o = refl
  owner_refilled (r ∷ rs) o =
      elim (is_at x r) as (λ b. row_owner (row_at (cond b (record r { fields = f r.fields }) r ∷ refilled rs) o) ≡ owner_in (r ∷ rs) o) [
        | true ↦ elim (same_name r.name o) as (λ b. row_owner (cond b (Some (record r { fields = f r.fields })) (row_at (refilled rs) o)) ≡ row_owner (cond b (Some r) (row_at rs o))) [ true ↦ refl | false ↦ owner_refilled rs o ]
        | false ↦ elim (same_name r.name o) as (λ b. row_owner (cond b (Some r) (row_at (refilled rs) o)) ≡ row_owner (cond b (Some r) (row_at rs o))) [ true ↦ refl | false ↦ owner_refilled rs o ]
      ]

  abbrev put : CountedRow → CountedRow
  put c = with_fields (f (c.row).fields) c

  refs_found : (b : Bool) (t u : Option CountedRow) → u ≡ cond b (option_map put t) t → is_some u ≡ true → (is_some t ≡ true) × (refs_by u ≡ refs_by t)
  refs_found true None u e h = absurd (let z : false ≡ true = sym (ap is_some e) ∙ h in cc)
  refs_found false None u e h = absurd (let z : false ≡ true = sym (ap is_some e) ∙ h in cc)
  refs_found true (Some c) u e h = (refl, ap refs_by e)
  refs_found false (Some c) u e h = (refl, ap refs_by e)

  store_refilled : (rows new : List CountedRow) (of : List Row) (es : List Edge) → IsStoreOf rows of es → SameByOwner new (changed rows x put) → IsStoreOf new (refilled of) es
  store_refilled rows new of es s same = record {
    rows = same_store (changed rows x put) new (refilled of) (fields_store rows of x f s.rows) same;
    refs = λ q h.
        let differ : NamesDiffer (changed rows x put) = subst (Differ same_name) (sym (names_map _ (at_keeps_name x put (λ c. refl)) rows)) (s.rows).differ in
        let k = refs_found (same_name q x) (row_named rows q) (row_named new q) (found_after new (changed rows x put) q same differ ∙ found_changed x put (λ c. refl) rows q) h in
        k.1 ∙ s.refs q k.0;
  }

  pub refilled_counts : (rows new : List CountedRow) (regions : List Region) (of : List Row) (es : List Edge) → Counts rows regions of es → SameByOwner new (changed rows x put)
      → Counts new regions (refilled of) es
  refilled_counts rows new regions of es c same = record {
    store = store_refilled rows new of es c.store same;
    table = table_of_owners of (refilled of) (owner_refilled of) regions es c.table;
  }
