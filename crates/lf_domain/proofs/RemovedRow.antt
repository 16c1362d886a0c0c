-- A store and a table from which a row is gone that no edge leads to, and none begins at.
use Rattle.std.proofs.Common.{Bool, List, None, Option, Some, [], ap, cond, false, filter, not, refl, sym, true, ◌&&◌, ◌∙◌, ◌∷◌, ◌≡◌}
use Rattle.std.specs.Option.{is_some}
use Rattle.lf_base.specs.declared.ids.ObjId.{ObjId}
use Rattle.lf_base.specs.Edges.{Content, Edge, Field, Slot, Source}
use Rattle.lf_base.specs.Names.{same_name}
use Rattle.lf_base.specs.Owners.{is_bridge, is_in, is_local_at, owner_in, row_at, row_owner}
use Rattle.lf_base.specs.Ownership.{is_in_other, is_owning}
use Rattle.lf_base.specs.PlainState.{Row}
use Rattle.lf_base.specs.Sets.{Member}
use Rattle.lf_base.specs.WalkCounts.{borrows, is_borrower}
use Rattle.lf_base.proofs.NameLemmas.SameNames.{same_name_flips, same_name_is}
use Rattle.lf_graph.specs.RowChanges.{without_row}
use Rattle.lf_graph.specs.StoreCounts.{IsStoreOf}
use Rattle.lf_graph.specs.StoredRows.{CountedRow, SameByOwner, refs_by, row_named}
use Rattle.lf_graph.proofs.ListLemmas.{cond_same}
use Rattle.lf_graph.proofs.Stores.AfterCalls.{found_after}
use Rattle.lf_graph.proofs.Stores.Changes.{found_without_row}
use Rattle.lf_graph.proofs.Stores.StateRows.{filtered_store, same_store}
use Rattle.lf_regions.specs.declared.region.Region.{Region}
use Rattle.lf_regions.specs.RegionChanges.{without_region}
use Rattle.lf_regions.specs.Regions.{borrowed_of, has_region, owned_of}
use Rattle.lf_regions.specs.TableCounts.{IsTableOf, owns_region}
use Rattle.lf_regions.proofs.ChangeLaws.{ended_has}
use Rattle.lf_regions.proofs.RegionNumbers.{read_ended}
use Rattle.lf_domain.specs.Counts.{Counts}
use Rattle.lf_domain.specs.OneEdge.{NoEdgeOf}
use Rattle.lf_domain.proofs.EdgeTests.{any_alike, count_alike}

abbrev pub row_gone : List Row → ObjId → List Row
row_gone of o = filter (λ r. not (same_name r.name o)) of

owner_gone : (of : List Row) (o q : ObjId) → owner_in (row_gone of o) q ≡ cond (same_name q o) None (owner_in of q)
owner_gone [] o q = sym (cond_same (same_name q o) (owner_in [] q))
owner_gone (r ∷ rs) o q =
    elim (same_name r.name o) as (λ a. same_name r.name o ≡ a → owner_in (cond (not a) (r ∷ row_gone rs o) (row_gone rs o)) q ≡ cond (same_name q o) None (owner_in (r ∷ rs) q)) [
      | true ↦ λ e. owner_gone rs o q ∙ (elim (same_name r.name q) as (λ b. same_name r.name q ≡ b → cond (same_name q o) None (owner_in rs q) ≡ cond (same_name q o) None (row_owner (cond b (Some r) (row_at rs q)))) [
        | true ↦ λ k.
            let is : same_name q o ≡ true = ap (λ n. same_name n o) (sym (same_name_is r.name q k)) ∙ e in
            ap (λ b. cond b None (owner_in rs q)) is ∙ sym (ap (λ b. cond b None (Some (r.owner))) is)
        | false ↦ λ k. refl
      ] refl)
      | false ↦ λ e. elim (same_name r.name q) as (λ b. same_name r.name q ≡ b → row_owner (cond b (Some r) (row_at (row_gone rs o) q)) ≡ cond (same_name q o) None (row_owner (cond b (Some r) (row_at rs q)))) [
        | true ↦ λ k. sym (ap (λ b. cond b None (Some (r.owner))) (ap (λ n. same_name n o) (sym (same_name_is r.name q k)) ∙ e))
        | false ↦ λ k. owner_gone rs o q
      ] refl
    ] refl

module _ (rows : List CountedRow) (regions : List Region) (of : List Row) (es : List Edge) (c : Counts rows regions of es) (o : ObjId) (none : NoEdgeOf es o) where
  abbrev left : List Row
  left = row_gone of o

  owner_else : (q : ObjId) → same_name q o ≡ false → owner_in of q ≡ owner_in left q
  owner_else q k = sym (owner_gone of o q ∙ ap (λ b. cond b None (owner_in of q)) k)

  borrower_else : (e : Edge) → Member e es → (f : Source) → e.from ≡ f → is_borrower of f ≡ is_borrower left f
  borrower_else e m Slot h = refl
  borrower_else e m (Field p) h = ap is_local_at (owner_else p ((none e m).1 p h))
  borrower_else e m (Content d) h = refl

  owning_else : (e : Edge) → Member e es → (f : Source) → e.from ≡ f → (r : ObjId) → is_owning of f r ≡ is_owning left f r
  owning_else e m Slot h r = refl
  owning_else e m (Field p) h r = ap (is_in_other r) (owner_else p ((none e m).1 p h))
  owning_else e m (Content d) h r = refl

  borrows_else : (r : ObjId) (e : Edge) → Member e es → borrows of r e ≡ borrows left r e
  borrows_else r e m =
      ap (λ b. b && is_in r (owner_in of e.to)) (borrower_else e m e.from refl)
      ∙ ap (λ w. is_borrower left e.from && is_in r w) (owner_else e.to (none e m).0)

  owns_else : (r : ObjId) (e : Edge) → Member e es → owns_region of r e ≡ owns_region left r e
  owns_else r e m = ap (λ b. b && same_name e.to r) (owning_else e m e.from refl r)

  bridge_else : (r : ObjId) → same_name r o ≡ false → is_bridge of r ≡ is_bridge left r
  bridge_else r k = ap (is_in r) (owner_else r k)

  bridge_gone : (r : ObjId) → same_name r o ≡ true → is_bridge left r ≡ false
  bridge_gone r k = ap (is_in r) (owner_gone of o r ∙ ap (λ b. cond b None (owner_in of r)) k)

  -- ---- the store
  refs_else : (b : Bool) (t u : Option CountedRow) → u ≡ cond b None t → is_some u ≡ true → (is_some t ≡ true) × (refs_by u ≡ refs_by t)
  refs_else true t u e h = absurd (let z : false ≡ true = sym (ap is_some e) ∙ h in cc)
  refs_else false t u e h = (sym (ap is_some e) ∙ h, ap refs_by e)

  store_left : (next : List CountedRow) → SameByOwner next (without_row rows o) → IsStoreOf next left es
  store_left next same =
      let gone = filtered_store rows of (c.store).rows (λ r. not (same_name r.name o)) in
      record {
        rows = same_store (without_row rows o) next left gone same;
        refs = λ q h.
            let f = refs_else (same_name q o) (row_named rows q) (row_named next q) (found_after next (without_row rows o) q same gone.differ ∙ found_without_row rows o q) h in
            f.1 ∙ (c.store).refs q f.0;
      }

  -- ---- a table without the region, where the row was a bridge
  module _ (after : List Region) (there : (r : ObjId) → has_region after r ≡ is_bridge left r)
      (same : (r : ObjId) → same_name r o ≡ false → (borrowed_of after r ≡ borrowed_of regions r) × (owned_of after r ≡ owned_of regions r)) where
    other : (r : ObjId) → is_bridge left r ≡ true → same_name r o ≡ false
    other r b = elim (same_name r o) as (λ x. same_name r o ≡ x → x ≡ false) [ true ↦ λ k. absurd (let z : false ≡ true = sym (bridge_gone r k) ∙ b in cc) | false ↦ λ k. refl ] refl

    table_left : IsTableOf after left es
    table_left = record {
      regions = there;
      borrowed = λ r b. let k = other r b in (same r k).0 ∙ (c.table).borrowed r (bridge_else r k ∙ b) ∙ count_alike (borrows of r) (borrows left r) es (borrows_else r);
      owned = λ r b. let k = other r b in (same r k).1 ∙ (c.table).owned r (bridge_else r k ∙ b) ∙ any_alike (owns_region of r) (owns_region left r) es (owns_else r);
    }

  -- a row that is no bridge
  pub removed_counts : is_bridge of o ≡ false → (next : List CountedRow) → SameByOwner next (without_row rows o) → Counts next regions left es
  removed_counts plain next same = record {
    store = store_left next same;
    table = table_left regions
        (λ r. elim (same_name r o) as (λ b. same_name r o ≡ b → has_region regions r ≡ is_bridge left r) [
          | true ↦ λ k. (c.table).regions r ∙ ap (is_bridge of) (same_name_is r o k) ∙ plain ∙ sym (bridge_gone r k)
          | false ↦ λ k. (c.table).regions r ∙ bridge_else r k
        ] refl)
        (λ r k. (refl, refl));
  }

  -- a bridge, with its region
  pub ended_counts : (next : List CountedRow) → SameByOwner next (without_row rows o) → Counts next (without_region regions o) left es
  ended_counts next same = record {
    store = store_left next same;
    table = table_left (without_region regions o)
        (λ r. ended_has regions o r ∙ (elim (same_name r o) as (λ b. same_name r o ≡ b → (not (same_name o r) && has_region regions r) ≡ is_bridge left r) [
          | true ↦ λ k. ap (λ b. not b && has_region regions r) (same_name_flips o r ∙ k) ∙ sym (bridge_gone r k)
          | false ↦ λ k. ap (λ b. not b && has_region regions r) (same_name_flips o r ∙ k) ∙ (c.table).regions r ∙ bridge_else r k
        ] refl))
        (λ r k. (
          read_ended (λ (x : Region). x.borrowed) 0 regions o r ∙ ap (λ b. cond b 0 (borrowed_of regions r)) (same_name_flips o r ∙ k),
          read_ended (λ (x : Region). x.owned) false regions o r ∙ ap (λ b. cond b false (owned_of regions r)) (same_name_flips o r ∙ k),
        ));
  }
