-- Store and table once rows without fields are removed.
use Rattle.std.proofs.Common.{Bool, List, None, Option, Some, [], ap, arith, cond, false, filter, inl, inr, length, not, refl, subst, sym, true, ℕ, ◌&&◌, ◌+◌, ◌∙◌, ◌∷◌, ◌≡◌, ◌≤◌}
use Rattle.std.proofs.lemmas.Bool.{false_from_ne_true}
use Rattle.std.specs.Option.{is_some}
use Rattle.lf_base.specs.declared.ids.ObjId.{ObjId}
use Rattle.lf_base.specs.declared.values.Owner.{Owner}
use Rattle.lf_base.specs.Edges.{Edge, edges}
use Rattle.lf_base.specs.Losses.{Loses, emptied, justified}
use Rattle.lf_base.specs.Names.{same_name}
use Rattle.lf_base.specs.Owners.{is_bridge, is_in, owner_in}
use Rattle.lf_base.specs.Ownership.{is_owned, is_owning, owning_edges}
use Rattle.lf_base.specs.PlainState.{Row, State}
use Rattle.lf_base.specs.Sets.{Member}
use Rattle.lf_base.specs.Settling.{CanGo, without}
use Rattle.lf_base.specs.WalkCounts.{refs}
use Rattle.lf_base.specs.WellFormed.{WellFormed}
use Rattle.lf_base.proofs.NameLemmas.SameNames.{same_name_flips, same_name_is, same_name_itself}
use Rattle.lf_domain.specs.Counts.{Counts}
use Rattle.lf_domain.proofs.EdgeTests.{any_counts, some_of}
use Rattle.lf_domain.proofs.NearCounts.{from_all}
use Rattle.lf_graph.specs.RowChanges.{without_row}
use Rattle.lf_graph.specs.StoreCounts.{IsStoreOf}
use Rattle.lf_graph.specs.StoredRows.{AreRowsOf, CountedRow, HasRow, SameByOwner, refs_by, row_named, rows_of}
use Rattle.lf_graph.proofs.Stores.AfterCalls.{found_after}
use Rattle.lf_graph.proofs.Stores.StateRows.{filtered_store, same_store}
use Rattle.lf_laws.proofs.Dropping.RowsWithout.{owner_lost, owner_stay}
use Rattle.lf_laws.proofs.Losses.CountsFall.{filter_ext}
use Rattle.lf_laws.proofs.Losses.EmptiedRows.{borrowed_left, justified_left, old_bridge, owner_emptied, owning_left, refs_left, rest_is, rest_size, watched_left, well_left}
use Rattle.lf_laws.proofs.Rows.RowsByName.{row_of}
use Rattle.lf_regions.specs.declared.region.Region.{Region}
use Rattle.lf_regions.specs.Regions.{borrowed_of, has_region, owned_of}
use Rattle.lf_regions.specs.TableCounts.{IsTableOf}
use Rattle.lf_settle.specs.Drops.{CanDropRow, CanEmpty, Drops, SameCapacity, left_to_do, owed}
use Rattle.lf_settle.specs.SettledStates.{IsCounted}
use Rattle.lf_settle.specs.WorkLists.{WorkList}
use Rattle.lf_settle.proofs.Counting.CountsTell.{all_counts, are_rows, row_is_there}
use Rattle.lf_base.specs.Settling.{Spent, Watched}
use Rattle.lf_base.specs.Suspects.{Suspect}

-- what is found among the rows that are left
found_left : (gone : ObjId → Bool) (rows : List CountedRow) (o : ObjId) → row_named (filter (λ c. not (gone (c.row).name)) rows) o ≡ cond (gone o) None (row_named rows o)
found_left gone [] o = nothing (gone o) where
  nothing : (b : Bool) → row_named [] o ≡ cond b None (row_named [] o)
  nothing true = refl
  nothing false = refl
found_left gone (c ∷ cs) o = by (found_left gone cs o) (gone (c.row).name) refl (same_name (c.row).name o) refl where
  by : row_named (filter (λ x. not (gone (x.row).name)) cs) o ≡ cond (gone o) None (row_named cs o) → (a : Bool) → gone (c.row).name ≡ a → (b : Bool) → same_name (c.row).name o ≡ b
      → row_named (cond (not (gone (c.row).name)) (c ∷ filter (λ x. not (gone (x.row).name)) cs) (filter (λ x. not (gone (x.row).name)) cs)) o ≡ cond (gone o) None (cond (same_name (c.row).name o) (Some c) (row_named cs o))
  by rest true e true h =
      let out : gone o ≡ true = sym (ap gone (same_name_is (c.row).name o h)) ∙ e in
      ap (λ a. row_named (cond (not a) (c ∷ filter (λ x. not (gone (x.row).name)) cs) (filter (λ x. not (gone (x.row).name)) cs)) o) e
      ∙ rest ∙ ap (λ a. cond a None (row_named cs o)) out ∙ sym (ap (λ a. cond a None (cond (same_name (c.row).name o) (Some c) (row_named cs o))) out)
  by rest true e false h =
      ap (λ a. row_named (cond (not a) (c ∷ filter (λ x. not (gone (x.row).name)) cs) (filter (λ x. not (gone (x.row).name)) cs)) o) e
      ∙ rest ∙ sym (ap (λ b. cond (gone o) None (cond b (Some c) (row_named cs o))) h)
  by rest false e true h =
      let stays : gone o ≡ false = sym (ap gone (same_name_is (c.row).name o h)) ∙ e in
      ap (λ a. row_named (cond (not a) (c ∷ filter (λ x. not (gone (x.row).name)) cs) (filter (λ x. not (gone (x.row).name)) cs)) o) e
      ∙ ap (λ b. cond b (Some c) (row_named (filter (λ x. not (gone (x.row).name)) cs) o)) h
      ∙ sym (ap (λ a. cond a None (cond (same_name (c.row).name o) (Some c) (row_named cs o))) stays ∙ ap (λ b. cond b (Some c) (row_named cs o)) h)
  by rest false e false h =
      ap (λ a. row_named (cond (not a) (c ∷ filter (λ x. not (gone (x.row).name)) cs) (filter (λ x. not (gone (x.row).name)) cs)) o) e
      ∙ ap (λ b. cond b (Some c) (row_named (filter (λ x. not (gone (x.row).name)) cs) o)) h
      ∙ rest ∙ sym (ap (λ b. cond (gone o) None (cond b (Some c) (row_named cs o))) h)

is_left : (b : Bool) (c : Option CountedRow) → is_some (cond b None c) ≡ true → (b ≡ false) × (is_some c ≡ true)
is_left true c e = cc
is_left false c e = (refl, e)

pub some_length : {X : Type 0} (p : X → Bool) (x : X) (xs : List X) → Member x xs → p x ≡ true → 1 ≤ length (filter p xs)
some_length p x [] m e = absurd m
some_length p x (y ∷ ys) (inl same) e = subst (λ b. 1 ≤ length (cond b (y ∷ filter p ys) (filter p ys))) (sym (ap p same ∙ e)) (omega arith)
some_length p x (y ∷ ys) (inr m) e =
    elim (p y) as (λ b. 1 ≤ length (cond b (y ∷ filter p ys) (filter p ys))) [
      | true ↦ omega arith
      | false ↦ some_length p x ys m e
    ]

pub owned_by_count : (s : State) (r : ObjId) → is_owned s r ≡ some_of (owning_edges s r)
owned_by_count s r = any_counts (λ (e : Edge). is_owning s.rows e.from r && same_name e.to r) (edges s)

module _ (s : State) (gone : ObjId → Bool) (well : WellFormed s) (go : CanGo s gone) (rows1 : List CountedRow) (regions1 : List Region) (counted1 : IsCounted rows1 regions1 (emptied s gone)) where
  abbrev t : State
  t = emptied s gone

  abbrev u : State
  u = without s gone

  all1 : Counts rows1 regions1 t.rows (edges t)
  all1 = all_counts rows1 regions1 t counted1

  module _ (rows2 : List CountedRow) (removed : SameByOwner rows2 (filter (λ c. not (gone (c.row).name)) rows1)) where
    left_store : AreRowsOf (filter (λ c. not (gone (c.row).name)) rows1) u.rows
    left_store = subst (λ (v : State). AreRowsOf (filter (λ c. not (gone (c.row).name)) rows1) v.rows) (rest_is s gone) (filtered_store rows1 t.rows (are_rows rows1 regions1 t counted1) (λ r. not (gone r.name)))

    named_left : (o : ObjId) → row_named rows2 o ≡ cond (gone o) None (row_named rows1 o)
    named_left o = found_after rows2 (filter (λ c. not (gone (c.row).name)) rows1) o removed left_store.differ ∙ found_left gone rows1 o

    store_left : IsStoreOf rows2 u.rows (edges u)
    store_left = record {
      rows = same_store (filter (λ c. not (gone (c.row).name)) rows1) rows2 u.rows left_store removed;
      refs = λ o h.
          let k = is_left (gone o) (row_named rows1 o) (sym (ap is_some (named_left o)) ∙ h) in
          ap refs_by (named_left o ∙ ap (λ b. cond b None (row_named rows1 o)) k.0) ∙ (all1.store).refs o k.1 ∙ sym (refs_left s gone o);
    }

    -- a table with the regions that are left, as they were
    module _ (regions2 : List Region) (there : (r : ObjId) → has_region regions2 r ≡ is_bridge u.rows r) (same_borrowed : (r : ObjId) → gone r ≡ false → borrowed_of regions2 r ≡ borrowed_of regions1 r)
        (same_owned : (r : ObjId) → gone r ≡ false → owned_of regions2 r ≡ owned_of regions1 r) where
      bridge_before : (r : ObjId) → is_bridge s.rows r ≡ true → is_bridge t.rows r ≡ true
      bridge_before r b = ap (is_in r) (owner_emptied s gone r) ∙ b

      table_left : IsTableOf regions2 u.rows (edges u)
      table_left = record {
        regions = there;
        borrowed = λ r b.
            let old = old_bridge s gone r b in
            same_borrowed r old.0 ∙ (all1.table).borrowed r (bridge_before r old.1) ∙ sym (borrowed_left s gone well go r);
        owned = λ r b.
            let old = old_bridge s gone r b in
            same_owned r old.0 ∙ (all1.table).owned r (bridge_before r old.1) ∙ owned_by_count t r ∙ ap some_of (sym (owning_left s gone well go r)) ∙ sym (owned_by_count u r);
      }

      pub counted_left : IsCounted rows2 regions2 u
      counted_left =
          let well_u : WellFormed u = well_left s gone well go in
          record { counts = from_all u well_u rows2 regions2 (record { store = store_left; table = table_left }); well_formed = well_u }

      pub drops_left : (old new : WorkList) → justified s ≤ old.spare → Loses s t old.suspects new.suspects → SameCapacity old new
          → ((x : Suspect) → Spent gone x → Watched s (x ∷ old.suspects) → Watched u new.suspects) → left_to_do new t.rows ≤ left_to_do old s.rows → Drops s gone old new rows2 regions2
      drops_left old new room loses sum watched less = record {
        can = record { counted = counted_left; room = omega (arith, justified_left s gone well go, loses.paid, sum, room) };
        watched = watched;
        less = omega (arith, less, rest_size gone s.rows);
      }

-- ---- one row
module _ (s : State) (rows0 : List CountedRow) (regions0 : List Region) (work0 : WorkList) (o : ObjId) (owner : Owner) (can : CanDropRow rows0 regions0 work0 s o owner) where
  pub can_empty : CanEmpty rows0 regions0 work0 s o owner
  can_empty = record { can = can.can; here = can.goes.here }

  well : WellFormed s
  well = can.can.counted.well_formed

  module _ (rows1 : List CountedRow) (regions1 : List Region) (work1 : WorkList) (counted1 : IsCounted rows1 regions1 (emptied s (same_name o))) where
    pub row_there : HasRow rows1 o
    row_there = row_is_there rows1 regions1 (emptied s (same_name o)) counted1 o owner (owner_emptied s (same_name o) o ∙ can.goes.here)

    module _ (rows2 : List CountedRow) (removed : SameByOwner rows2 (without_row rows1 o)) where
      removed_too : SameByOwner rows2 (filter (λ c. not (same_name o (c.row).name)) rows1)
      removed_too w = removed w ∙ ap (rows_of w) (filter_ext (λ (c : CountedRow). not (same_name (c.row).name o)) (λ (c : CountedRow). not (same_name o (c.row).name)) rows1 (λ c. ap not (same_name_flips (c.row).name o)))

      same_regions : (r : ObjId) (b : Bool) → same_name o r ≡ b → has_region regions1 r ≡ is_bridge (without s (same_name o)).rows r
      same_regions r true e =
          (counted1.counts.table).regions r ∙ ap (is_in r) (owner_emptied s (same_name o) r)
          ∙ ap (λ n. is_in n (owner_in s.rows n)) (sym (same_name_is o r e)) ∙ ap (is_in o) can.goes.here ∙ can.goes.no_bridge
          ∙ sym (ap (is_in r) (owner_lost s.rows (same_name o) r e))
      same_regions r false e =
          (counted1.counts.table).regions r ∙ ap (is_in r) (owner_emptied s (same_name o) r ∙ sym (owner_stay s.rows (same_name o) r e))

      pub row_drops : Loses s (emptied s (same_name o)) work0.suspects work1.suspects → SameCapacity work0 work1 → left_to_do work1 (emptied s (same_name o)).rows ≤ left_to_do work0 s.rows
          → Drops s (same_name o) work0 work1 rows2 regions1
      row_drops loses sum less = drops_left s (same_name o) well can.goes.goes rows1 regions1 counted1 rows2 removed_too regions1 (λ r. same_regions r (same_name o r) refl) (λ r e. refl) (λ r e. refl) work0 work1 can.can.room loses sum
          (watched_left s (same_name o) well can.goes.goes work0.suspects work1.suspects loses (λ p r h out named. false_from_ne_true _ (λ e.
          absurd (omega (arith, named, can.goes.no_edge, ap (refs s) (same_name_is o p e)))))) less

      pub row_cost : (before middle after : ℕ) → owed middle work1 (emptied s (same_name o)).rows ≤ owed before work0 s.rows + 1 → after ≡ middle + 1 → owed after work1 (without s (same_name o)).rows ≤ owed before work0 s.rows
      row_cost before middle after cost e =
          let r = row_of s.rows o owner can.goes.here in
          let some : 1 ≤ length (filter (λ (x : Row). same_name o x.name) s.rows) = some_length (λ (x : Row). same_name o x.name) r.row s.rows r.mem (ap (same_name o) r.name ∙ same_name_itself o) in
          omega (arith, cost, e, some, rest_size (same_name o) s.rows)
