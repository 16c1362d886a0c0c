-- A store and a table that count one edge more or one less: what the calls on each need, and what they leave.
use Rattle.std.proofs.Common.{List, None, Option, Some, [], ap, false, inl, refl, subst, sym, true, ◌+◌, ◌-◌, ◌<◌, ◌^◌, ◌∙◌, ◌∷◌, ◌≡◌}
use Rattle.lf_base.specs.declared.ids.ObjId.{ObjId}
use Rattle.lf_base.specs.declared.values.Owner.{Owner}
use Rattle.lf_base.specs.declared.values.Owner.TheVariants.{In}
use Rattle.lf_base.specs.EdgeLists.{SameEdges}
use Rattle.lf_base.specs.Edges.{Edge, Source}
use Rattle.lf_base.specs.Names.{same_name}
use Rattle.lf_base.specs.Owners.{is_in, owner_in}
use Rattle.lf_base.specs.PlainState.{Row}
use Rattle.lf_base.specs.WalkCounts.{borrows, is_borrower}
use Rattle.lf_base.proofs.NameLemmas.SameNames.{same_name_itself}
use Rattle.lf_graph.specs.RowChanges.{lowered, raised}
use Rattle.lf_graph.specs.StoredRows.{CountedRow, SameByOwner, owner_at}
use Rattle.lf_regions.specs.declared.region.Region.{Region}
use Rattle.lf_regions.specs.RegionChanges.{with_borrowed}
use Rattle.lf_regions.specs.Regions.{borrowed_of, has_region}
use Rattle.lf_regions.specs.TableCounts.{IsTableOf, owns_region}
use Rattle.lf_domain.specs.Counts.{Counts}
use Rattle.lf_domain.specs.OneEdge.{HaveBridges, MayCount, MayCountOwner, MayUncount, MayUncountOwner, other_owned}
use Rattle.lf_domain.proofs.EdgeTests.{same_any}
use Rattle.lf_domain.proofs.StoreEdges as store
use Rattle.lf_domain.proofs.TableBorrows as borrow
use Rattle.lf_domain.proofs.TableOwners as owner

-- the counts of edges are those of each other list that has the same ones
pub same_counts : (rows : List CountedRow) (regions : List Region) (of : List Row) (xs ys : List Edge) → SameEdges xs ys → Counts rows regions of xs → Counts rows regions of ys
same_counts rows regions of xs ys same c =
    let s = c.store in
    let t = c.table in
    record {
      store = record { rows = s.rows; refs = λ o h. s.refs o h ∙ same (λ e. same_name e.to o) };
      table = record {
        regions = t.regions;
        borrowed = λ r b. t.borrowed r b ∙ same (borrows of r);
        owned = λ r b. t.owned r b ∙ same_any (owns_region of r) xs ys same;
      };
    }

pub same_rows_count : (rows new : List CountedRow) (regions : List Region) (of : List Row) (es : List Edge) → SameByOwner new rows → Counts rows regions of es → Counts new regions of es
same_rows_count rows new regions of es same c = record { store = store.store_same rows new of es same c.store; table = c.table }

no_region : (w : Option Owner) → ((r : ObjId) → is_in r w ≡ false) → (r : ObjId) → is_in r w ≡ true → ⊥
no_region w out r h = let z : false ≡ true = sym (out r) ∙ h in cc

module _ (rows : List CountedRow) (regions : List Region) (of : List Row) (es : List Edge) (o : ObjId) where
  -- the region of a row is in the table
  pub region_there : Counts rows regions of es → HaveBridges of → (r : ObjId) → owner_at rows o ≡ Some (In r) → has_region regions r ≡ true
  region_there c bridges r k =
      (c.table).regions r ∙ ap (is_in r) (bridges o r (store.owner_told rows of o (c.store).rows ∙ k)) ∙ same_name_itself r

  module _ (from : Source) where
    abbrev e : Edge
    e = record { from = from; to = o }

    told : Counts rows regions of es → (w : Option Owner) → owner_at rows o ≡ w → owner_in of o ≡ w
    told c w k = store.owner_told rows of o (c.store).rows ∙ k

    -- ---- one edge more from a slot or a local row
    module _ (m : MayCount rows regions of es) (near : is_borrower of from ≡ true) where
      pub count_nowhere : owner_at rows o ≡ None → Counts rows regions of (e ∷ es)
      count_nowhere k = record {
        store = store.store_with_nowhere rows of es (m.counts).store e k;
        table = borrow.table_with_outside regions of es (m.counts).table e near None (told m.counts None k) (λ r. refl);
      }

      pub count_outside : (w : Owner) → owner_at rows o ≡ Some w → ((r : ObjId) → is_in r (Some w) ≡ false) → (new : List CountedRow) → SameByOwner new (raised rows o)
          → Counts new regions of (e ∷ es)
      count_outside w k out new same = record {
        store = store.store_with rows of es (m.counts).store e new same;
        table = borrow.table_with_outside regions of es (m.counts).table e near (Some w) (told m.counts (Some w) k) out;
      }

      pub count_inside : (r : ObjId) → owner_at rows o ≡ Some (In r) → (new : List CountedRow) → SameByOwner new (raised rows o)
          → (after : List Region) → after ≡ with_borrowed regions r (borrowed_of regions r + 1) → Counts new after of (e ∷ es)
      count_inside r k new same after is = record {
        store = store.store_with rows of es (m.counts).store e new same;
        table = subst (λ t. IsTableOf t of (e ∷ es)) (sym is)
            (borrow.table_with_inside regions of es (m.counts).table e near r (told m.counts (Some (In r)) k) (region_there m.counts m.bridges r k));
      }

      pub may_borrow : (r : ObjId) → owner_at rows o ≡ Some (In r) → borrowed_of regions r + 1 < 2 ^ 64
      may_borrow r k = borrow.borrowed_few regions of es (m.counts).table e near r (told m.counts (Some (In r)) k) (region_there m.counts m.bridges r k) m.few

    -- ---- one edge less
    module _ (fs : List Edge) (m : MayUncount rows regions of es fs from (o ∷ [])) where
      pub uncount_nowhere : owner_at rows o ≡ None → Counts rows regions of fs
      uncount_nowhere k = record {
        store = store.store_without_nowhere rows of es (m.counts).store e fs m.edges k;
        table = borrow.table_without_outside regions of es (m.counts).table e m.near None (told m.counts None k) (λ r. refl) fs m.edges;
      }

      pub uncount_outside : (w : Owner) → owner_at rows o ≡ Some w → ((r : ObjId) → is_in r (Some w) ≡ false) → (new : List CountedRow) → SameByOwner new (lowered rows o)
          → Counts new regions of fs
      uncount_outside w k out new same = record {
        store = store.store_without rows of es (m.counts).store e fs m.edges w k new same;
        table = borrow.table_without_outside regions of es (m.counts).table e m.near (Some w) (told m.counts (Some w) k) out fs m.edges;
      }

      pub uncount_inside : (r : ObjId) → owner_at rows o ≡ Some (In r) → (new : List CountedRow) → SameByOwner new (lowered rows o)
          → (after : List Region) → after ≡ with_borrowed regions r (borrowed_of regions r - 1) → Counts new after of fs
      uncount_inside r k new same after is = record {
        store = store.store_without rows of es (m.counts).store e fs m.edges (In r) k new same;
        table = subst (λ t. IsTableOf t of fs) (sym is)
            (borrow.table_without_inside regions of es (m.counts).table e m.near r (told m.counts (Some (In r)) k) (region_there m.counts m.bridges r k) fs m.edges);
      }

      pub may_unborrow : (r : ObjId) → owner_at rows o ≡ Some (In r) → 0 < borrowed_of regions r
      may_unborrow r k = borrow.borrowed_some regions of es (m.counts).table e m.near r (told m.counts (Some (In r)) k) (region_there m.counts m.bridges r k) fs m.edges

    module _ (home : Option ObjId) where
      -- ---- one edge more from a row of a region or from a content
      module _ (m : MayCountOwner rows regions of es from (o ∷ []) home) where
        pub own_nowhere : owner_at rows o ≡ None → Counts rows regions of (e ∷ es)
        own_nowhere k = record {
          store = store.store_with_nowhere rows of es (m.counts).store e k;
          table = owner.owner_with_outside regions of es (m.counts).table e home m.lies None (told m.counts None k) (λ r h. absurd (no_region None (λ q. refl) r h));
        }

        pub own_outside : (w : Owner) → owner_at rows o ≡ Some w → ((r : ObjId) → is_in r (Some w) ≡ false) → (new : List CountedRow) → SameByOwner new (raised rows o)
            → Counts new regions of (e ∷ es)
        own_outside w k out new same = record {
          store = store.store_with rows of es (m.counts).store e new same;
          table = owner.owner_with_outside regions of es (m.counts).table e home m.lies (Some w) (told m.counts (Some w) k) (λ r h. absurd (no_region (Some w) out r h));
        }

        pub own_inside : (r : ObjId) → owner_at rows o ≡ Some (In r) → (new : List CountedRow) → SameByOwner new (raised rows o)
            → (after : List Region) → after ≡ other_owned regions r home true → Counts new after of (e ∷ es)
        own_inside r k new same after is =
            let there = told m.counts (Some (In r)) k in
            record {
              store = store.store_with rows of es (m.counts).store e new same;
              table = owner.owner_with_inside regions of es (m.counts).table e home m.lies r there (region_there m.counts m.bridges r k) (m.leads o r (inl refl) there) after is;
            }

      -- ---- one edge less
      module _ (fs : List Edge) (m : MayUncountOwner rows regions of es fs from (o ∷ []) home) where
        pub lose_nowhere : owner_at rows o ≡ None → Counts rows regions of fs
        lose_nowhere k = record {
          store = store.store_without_nowhere rows of es (m.counts).store e fs m.edges k;
          table = owner.owner_without_outside regions of es (m.counts).table e home m.lies None (told m.counts None k) (λ r h. absurd (no_region None (λ q. refl) r h)) fs m.edges m.one;
        }

        pub lose_outside : (w : Owner) → owner_at rows o ≡ Some w → ((r : ObjId) → is_in r (Some w) ≡ false) → (new : List CountedRow) → SameByOwner new (lowered rows o)
            → Counts new regions of fs
        lose_outside w k out new same = record {
          store = store.store_without rows of es (m.counts).store e fs m.edges w k new same;
          table = owner.owner_without_outside regions of es (m.counts).table e home m.lies (Some w) (told m.counts (Some w) k) (λ r h. absurd (no_region (Some w) out r h)) fs m.edges m.one;
        }

        pub lose_inside : (r : ObjId) → owner_at rows o ≡ Some (In r) → (new : List CountedRow) → SameByOwner new (lowered rows o)
            → (after : List Region) → after ≡ other_owned regions r home false → Counts new after of fs
        lose_inside r k new same after is =
            let there = told m.counts (Some (In r)) k in
            record {
              store = store.store_without rows of es (m.counts).store e fs m.edges (In r) k new same;
              table = owner.owner_without_inside regions of es (m.counts).table e home m.lies r there (region_there m.counts m.bridges r k) (m.leads o r (inl refl) there) fs m.edges m.one after is;
            }
