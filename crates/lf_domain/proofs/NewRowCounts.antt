-- A store and a table in which a new object, or a new region, has its row.
use Rattle.std.proofs.Common.{Bool, List, None, Option, Some, [], ap, cond, false, inl, inr, refl, subst, sym, true, ℕ, ◌&&◌, ◌||◌, ◌∙◌, ◌≡◌}
use Rattle.std.proofs.lemmas.Bool.{and_parts, both_ways, false_from_ne_true}
use Rattle.std.specs.List.{count_by, list_any}
use Rattle.std.specs.Option.{is_some}
use Rattle.lf_base.specs.declared.ids.ObjId.{ObjId}
use Rattle.lf_base.specs.declared.values.Owner.{Owner}
use Rattle.lf_base.specs.declared.values.Owner.TheVariants.{In, Local}
use Rattle.lf_base.specs.EdgeLists.{frozen_edges, near_edges}
use Rattle.lf_base.specs.Edges.{Content, Edge, Field, Slot, Source, edges}
use Rattle.lf_base.specs.Names.{same_name}
use Rattle.lf_base.specs.Owners.{is_bridge, is_in, is_local_at, owner_in}
use Rattle.lf_base.specs.Ownership.{is_owning}
use Rattle.lf_base.specs.PlainChanges.{first_state, next_object, object_result, region_result, with_row}
use Rattle.lf_base.specs.PlainState.{Row, State}
use Rattle.lf_base.specs.Sets.{Member}
use Rattle.lf_base.specs.WalkCounts.{borrows, is_borrower}
use Rattle.lf_base.specs.WellFormed.{WellFormed}
use Rattle.lf_base.proofs.ListLemmas.Members.{Member_left}
use Rattle.lf_base.proofs.ListLemmas.Tests.{any_none, none_count}
use Rattle.lf_base.proofs.NameLemmas.SameNames.{same_name_flips, same_name_is, same_name_itself}
use Rattle.lf_graph.specs.RowChanges.{new_row, with_new_row}
use Rattle.lf_graph.specs.StoreCounts.{IsStoreOf}
use Rattle.lf_graph.specs.StoredRows.{AreRowsOf, CountedRow, HasRow, IsNewName, SameByOwner, refs_at, refs_by, row_named}
use Rattle.lf_graph.proofs.Stores.AfterCalls.{found_after}
use Rattle.lf_graph.proofs.Stores.Changes.{found_with_row}
use Rattle.lf_graph.proofs.Stores.StateRows.{inserted_store, same_store}
use Rattle.lf_laws.proofs.Changes.NewRows.{NewOwner, no_row, owner_at, owner_else, owning_old, source_old, target_old}
use Rattle.lf_laws.proofs.Edges.EdgeParts.{edges_parted}
use Rattle.lf_laws.proofs.Edges.SlotEdges.{near_row}
use Rattle.lf_laws.proofs.Rows.OwnerTests.{in_region}
use Rattle.lf_laws.proofs.Rows.RowsByName.{owner_has}
use Rattle.lf_regions.specs.declared.region.Region.{Region}
use Rattle.lf_regions.specs.RegionChanges.{with_region}
use Rattle.lf_regions.specs.Regions.{borrowed_of, has_region, owned_of}
use Rattle.lf_regions.specs.TableCounts.{IsTableOf, owns_region}
use Rattle.lf_regions.proofs.ChangeLaws.{made_names}
use Rattle.lf_regions.proofs.RegionNumbers.{read_absent, read_made}
use Rattle.lf_domain.specs.Counts.{CountsOf}
use Rattle.lf_domain.proofs.EdgeTests.{any_alike, count_alike}
use Rattle.lf_domain.proofs.StoreEdges.{row_told}

none_of : {X : Type 0} (t : Option X) → is_some t ≡ false → t ≡ None
none_of None e = refl
none_of (Some x) e = absurd (cc)

-- a state without rows
pub none_counted : (birth : ℕ) (given : List Row) → CountsOf [] [] (first_state birth given)
none_counted birth given = record {
  store = record { rows = record { differ = tt; rise = refl }; refs = λ o h. absurd (let z : false ≡ true = h in cc) };
  table = record { regions = λ r. refl; borrowed = λ r b. refl; owned = λ r b. refl };
}

-- what no region has borrows nothing
module _ (s : State) (well : WellFormed s) (rows : List CountedRow) (regions : List Region) (c : CountsOf rows regions s) where
  no_borrow : (r : ObjId) → is_bridge s.rows r ≡ false → count_by (borrows s.rows r) (near_edges s) ≡ 0
  no_borrow r n = none_count (borrows s.rows r) (near_edges s) (λ e m. false_from_ne_true _ (λ h.
      let k = in_region r (owner_in s.rows e.to) (and_parts (is_borrower s.rows e.from) _ h).1 in
      both_ways _ n (ap (is_in r) (well.bridge e.to r k) ∙ same_name_itself r)))

  absent : (r : ObjId) → is_bridge s.rows r ≡ false → has_region regions r ≡ false
  absent r n = (c.table).regions r ∙ n

  -- so the numbers are those of all names, with a region or without
  pub borrowed_told : (r : ObjId) → borrowed_of regions r ≡ count_by (borrows s.rows r) (near_edges s)
  borrowed_told r = elim (is_bridge s.rows r) as (λ b. is_bridge s.rows r ≡ b → borrowed_of regions r ≡ count_by (borrows s.rows r) (near_edges s)) [
    | true ↦ λ b. (c.table).borrowed r b
    | false ↦ λ n. read_absent (λ (x : Region). x.borrowed) 0 regions r (absent r n) ∙ sym (no_borrow r n)
  ] refl

  pub next_is_new : (w : Owner) → NewOwner s w → IsNewName rows (next_object s)
  next_is_new w kind = none_of (row_named rows (next_object s)) (row_told rows s.rows (next_object s) (c.store).rows ∙ no_row s w well kind)

  pub next_has_no_region : (w : Owner) → NewOwner s w → has_region regions (next_object s) ≡ false
  next_has_no_region w kind = absent (next_object s) (false_from_ne_true _ (λ h.
      both_ways _ (no_row s w well kind) (owner_has s.rows (next_object s) (In (next_object s)) (in_region (next_object s) (owner_in s.rows (next_object s)) h))))

  module _ (w : Owner) (kind : NewOwner s w) where
    abbrev o : ObjId
    o = next_object s

    abbrev all : List Row
    all = (with_row s w).rows

    near_all : (e : Edge) → Member e (near_edges s) → Member e (edges s)
    near_all e m = subst (Member e) (sym (edges_parted s)) (Member_left e (near_edges s) (frozen_edges s) m)

    to_other : (e : Edge) → Member e (near_edges s) → same_name o e.to ≡ false
    to_other e m = target_old s w well kind e (near_all e m)

    borrower_old : (e : Edge) → Member e (near_edges s) → (f : Source) → e.from ≡ f → is_borrower all f ≡ is_borrower s.rows f
    borrower_old e m Slot h = refl
    borrower_old e m (Field p) h = ap is_local_at (owner_else s w well kind p (source_old s w well kind e (near_all e m) p h))
    borrower_old e m (Content d) h = refl

    borrows_old : (r : ObjId) (e : Edge) → Member e (near_edges s) → borrows s.rows r e ≡ borrows all r e
    borrows_old r e m =
        ap (λ b. b && is_in r (owner_in s.rows e.to)) (sym (borrower_old e m e.from refl))
        ∙ ap (λ u. is_borrower all e.from && is_in r u) (sym (owner_else s w well kind e.to (to_other e m)))

    owns_old : (r : ObjId) (e : Edge) → Member e (near_edges s) → owns_region s.rows r e ≡ owns_region all r e
    owns_old r e m = ap (λ b. b && same_name e.to r) (sym (owning_old s w well kind e (near_all e m) e.from refl r))

    none_to_new : (p : Edge → Bool) → ((e : Edge) → p e ≡ true → same_name e.to o ≡ true) → (e : Edge) → Member e (near_edges s) → p e ≡ false
    none_to_new p h e m = false_from_ne_true (p e) (λ k. both_ways _ (to_other e m) (same_name_flips o e.to ∙ h e k))

    -- ---- the store
    module _ (next : List CountedRow) (same : SameByOwner next (with_new_row rows o w)) where
      put_in : AreRowsOf (with_new_row rows o w) all
      put_in = inserted_store rows s.rows o w (c.store).rows (next_is_new w kind)

      found_next : (q : ObjId) → row_named next q ≡ cond (same_name q o) (Some (new_row o w)) (row_named rows q)
      found_next q = found_after next (with_new_row rows o w) q same (put_in).differ ∙ found_with_row rows o w (next_is_new w kind) q

      refs_next : (q : ObjId) → HasRow next q → refs_at next q ≡ count_by (λ e. same_name e.to q) (near_edges s)
      refs_next q h =
          elim (same_name q o) as (λ b. same_name q o ≡ b → row_named next q ≡ cond b (Some (new_row o w)) (row_named rows q) → refs_at next q ≡ count_by (λ e. same_name e.to q) (near_edges s)) [
            | true ↦ λ e f. ap refs_by f
                ∙ sym (none_count (λ (d : Edge). same_name d.to q) (near_edges s) (none_to_new (λ d. same_name d.to q) (λ d k. ap (same_name d.to) (sym (same_name_is q o e)) ∙ k)))
            | false ↦ λ e f. ap refs_by f ∙ (c.store).refs q (sym (ap is_some f) ∙ h)
          ] refl (found_next q)

      store_next : IsStoreOf next all (near_edges s)
      store_next = record { rows = same_store (with_new_row rows o w) next all put_in same; refs = refs_next }

      -- ---- with a table that has the same numbers and flags
      module _ (after : List Region) (there : (r : ObjId) → has_region after r ≡ is_bridge all r) (numbers : (r : ObjId) → borrowed_of after r ≡ borrowed_of regions r)
          (flags : (r : ObjId) → owned_of after r ≡ owned_of regions r) where
        owned_next : (r : ObjId) → is_bridge all r ≡ true → owned_of regions r ≡ list_any (owns_region all r) (near_edges s)
        owned_next r b = elim (same_name o r) as (λ x. same_name o r ≡ x → owned_of regions r ≡ list_any (owns_region all r) (near_edges s)) [
          | true ↦ λ k.
              ap (owned_of regions) (sym (same_name_is o r k))
              ∙ read_absent (λ (x : Region). x.owned) false regions o (next_has_no_region w kind)
              ∙ sym (any_none (owns_region all r) (near_edges s) (none_to_new (owns_region all r)
              (λ e h. ap (same_name e.to) (same_name_is o r k) ∙ (and_parts (is_owning all e.from r) _ h).1)))
          | false ↦ λ k.
              (c.table).owned r (ap (is_in r) (sym (owner_else s w well kind r k)) ∙ b)
              ∙ any_alike (owns_region s.rows r) (owns_region all r) (near_edges s) (owns_old r)
        ] refl

        pub row_counts : CountsOf next after (with_row s w)
        row_counts = record {
          store = subst (IsStoreOf next all) (sym (near_row s w)) store_next;
          table = subst (IsTableOf after all) (sym (near_row s w)) (record {
            regions = there;
            borrowed = λ r b. numbers r ∙ borrowed_told r ∙ count_alike (borrows s.rows r) (borrows all r) (near_edges s) (borrows_old r);
            owned = λ r b. flags r ∙ owned_next r b;
          });
        }

  -- ---- a new object, and a new region
  abbrev new : ObjId
  new = next_object s

  bridge_of_other : (w : Owner) (kind : NewOwner s w) (r : ObjId) → same_name new r ≡ false → is_bridge s.rows r ≡ is_bridge (with_row s w).rows r
  bridge_of_other w kind r k = ap (is_in r) (sym (owner_else s w well kind r k))

  bridge_of_new : (w : Owner) (kind : NewOwner s w) (r : ObjId) → same_name new r ≡ true → is_in r (Some w) ≡ is_bridge (with_row s w).rows r
  bridge_of_new w kind r k = ap (is_in r) (sym (owner_at s w well kind r ∙ ap (λ b. cond b (Some w) (owner_in s.rows r)) k))

  pub object_counts : (next : List CountedRow) → SameByOwner next (with_new_row rows new Local) → CountsOf next regions (object_result s)
  object_counts next same = row_counts Local (inl refl) next same regions
      (λ r. elim (same_name new r) as (λ b. same_name new r ≡ b → has_region regions r ≡ is_bridge (object_result s).rows r) [
        | true ↦ λ k. ap (has_region regions) (sym (same_name_is new r k)) ∙ next_has_no_region Local (inl refl) ∙ bridge_of_new Local (inl refl) r k
        | false ↦ λ k. (c.table).regions r ∙ bridge_of_other Local (inl refl) r k
      ] refl)
      (λ r. refl) (λ r. refl)

  pub region_counts : (next : List CountedRow) → SameByOwner next (with_new_row rows new (In new)) → CountsOf next (with_region regions new) (region_result s)
  region_counts next same = row_counts (In new) (inr refl) next same (with_region regions new)
      (λ r. made_names regions new r ∙ (elim (same_name new r) as (λ b. same_name new r ≡ b → (b || has_region regions r) ≡ is_bridge (region_result s).rows r) [
        | true ↦ λ k. sym (same_name_flips r new ∙ k) ∙ bridge_of_new (In new) (inr refl) r k
        | false ↦ λ k. (c.table).regions r ∙ bridge_of_other (In new) (inr refl) r k
      ] refl))
      (λ r. read_made (λ (x : Region). x.borrowed) 0 regions new r (next_has_no_region (In new) (inr refl)) refl)
      (λ r. read_made (λ (x : Region). x.owned) false regions new r (next_has_no_region (In new) (inr refl)) refl)
