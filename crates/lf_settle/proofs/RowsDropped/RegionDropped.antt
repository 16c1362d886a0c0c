-- A region that is dropped whole.
use Rattle.std.proofs.Common.{Bool, List, None, Option, Some, [], ap, arith, cond, false, filter, inl, inr, length, map, not, refl, sym, true, ℕ, ◌*◌, ◌&&◌, ◌+◌, ◌∙◌, ◌∷◌, ◌≡◌, ◌≤◌}
use Rattle.std.proofs.lemmas.Bool.{both_ways, false_from_ne_true}
use Rattle.lf_base.specs.declared.ids.ObjId.{ObjId}
use Rattle.lf_base.specs.declared.values.Owner.{Owner}
use Rattle.lf_base.specs.declared.values.Owner.TheVariants.{Frozen, In, Local}
use Rattle.lf_base.specs.Losses.{Loses, emptied, is_held, of_region}
use Rattle.lf_base.specs.Names.{name_below, same_name, same_owner}
use Rattle.lf_base.specs.Owners.{is_bridge, is_in, owner_in}
use Rattle.lf_base.specs.Ownership.{owning_edges}
use Rattle.lf_base.specs.PlainChanges.{insert_row}
use Rattle.lf_base.specs.PlainState.{Row, State}
use Rattle.lf_base.specs.Sets.{Member}
use Rattle.lf_base.specs.Settling.{CanGo, without}
use Rattle.lf_base.specs.WalkCounts.{borrowed}
use Rattle.lf_base.specs.WellFormed.{WellFormed}
use Rattle.lf_base.proofs.NameLemmas.SameNames.{same_name_flips, same_name_is, same_name_itself}
use Rattle.lf_graph.specs.StoredRows.{CountedRow, NamesDiffer, SameByOwner, is_under, owner_by, plain, rows_by_name, rows_of, rows_outside}
use Rattle.lf_graph.proofs.Stores.StateRows.{filtered_store}
use Rattle.lf_laws.proofs.Dropping.RowsInPlace.{rows_in_place}
use Rattle.lf_laws.proofs.Dropping.RowsWithout.{owner_lost, owner_stay}
use Rattle.lf_laws.proofs.Losses.CountsFall.{not_above, zero_not}
use Rattle.lf_laws.proofs.Losses.DroppedSets.{bare_counts, region_can_go}
use Rattle.lf_laws.proofs.Losses.EmptiedRows.{clear, clear_owner, filter_ext_on, owner_emptied, rest_size, watched_left}
use Rattle.lf_laws.proofs.Rows.RowsByName.{owner_mem, row_of}
use Rattle.lf_regions.specs.declared.region.Region.{Region}
use Rattle.lf_regions.specs.RegionChanges.{without_region}
use Rattle.lf_regions.specs.Regions.{borrowed_of, has_region, owned_of}
use Rattle.lf_regions.proofs.ChangeLaws.{ended_has}
use Rattle.lf_regions.proofs.RegionNumbers.{read_ended}
use Rattle.lf_domain.proofs.EdgeTests.{some_of}
use Rattle.lf_settle.specs.Drops.{CanDropRegion, Drops, SameCapacity, left_to_do, owed}
use Rattle.lf_settle.specs.SettledStates.{IsCounted}
use Rattle.lf_settle.specs.WorkLists.{WorkList}
use Rattle.lf_settle.proofs.Counting.CountsTell.{all_counts, are_rows, bridge_itself, owner_is_told, region_told}
use Rattle.lf_settle.proofs.RowsDropped.EmptiedRegion.{member_found}
use Rattle.lf_settle.proofs.RowsDropped.LeftParts.{drops_left, owned_by_count, some_length}

inserted_length : (r : Row) (rows : List Row) → length (insert_row r rows) ≡ length rows + 1
inserted_length r [] = refl
inserted_length r (x ∷ xs) = elim (name_below r.name x.name) as (λ b. length (cond b (r ∷ (x ∷ xs)) (x ∷ insert_row r xs)) ≡ length (x ∷ xs) + 1) [
  | true ↦ omega arith
  | false ↦ omega (arith, inserted_length r xs)
]

-- by rising name there are as many rows
pub ordered_length : (rows : List CountedRow) → length (rows_by_name (plain rows)) ≡ length rows
ordered_length [] = refl
ordered_length (c ∷ cs) = omega (arith, inserted_length c.row (rows_by_name (plain cs)), ordered_length cs)

under_region : (r : ObjId) (w : Owner) → same_owner w (In r) ≡ is_in r (Some w)
under_region r (In q) = same_name_flips q r
under_region r Local = refl
under_region r Frozen = refl

one_more : (b : Bool) (x y : Row) (xs ys : List Row) → length xs ≡ length ys → length (cond b (x ∷ xs) xs) ≡ length (cond b (y ∷ ys) ys)
one_more true x y xs ys e = omega (arith, e)
one_more false x y xs ys e = e

-- rows under an owner are as many where fields are gone
emptied_count : (gone : ObjId → Bool) (w : Owner) (rows : List Row) → ((x : Row) → Member x rows → same_owner x.owner w ≡ gone x.name)
    → length (filter (λ (x : Row). same_owner x.owner w) (map (clear gone) rows)) ≡ length (filter (λ (x : Row). gone x.name) rows)
emptied_count gone w [] h = refl
emptied_count gone w (x ∷ xs) h =
    ap (λ b. length (cond b (clear gone x ∷ filter (λ (y : Row). same_owner y.owner w) (map (clear gone) xs)) (filter (λ (y : Row). same_owner y.owner w) (map (clear gone) xs))))
    (ap (λ v. same_owner v w) (clear_owner gone x) ∙ h x (inl refl))
    ∙ one_more (gone x.name) (clear gone x) x _ _ (emptied_count gone w xs (λ y m. h y (inr m)))

module _ (s : State) (rows0 : List CountedRow) (regions0 : List Region) (work0 : WorkList) (r : ObjId) (can : CanDropRegion rows0 regions0 work0 s r)
    (rows1 : List CountedRow) (regions1 : List Region) (work1 : WorkList) (counted1 : IsCounted rows1 regions1 (emptied s (of_region s r))) (loses1 : Loses s (emptied s (of_region s r)) work0.suspects work1.suspects) where
  abbrev gone : ObjId → Bool
  gone = of_region s r

  abbrev t : State
  t = emptied s gone

  well : WellFormed s
  well = can.can.counted.well_formed

  zeros : (borrowed s r ≡ 0) × (owning_edges s r ≡ 0)
  zeros = (bare_counts s well r).0 can.goes.bare

  pub region_goes : CanGo s gone
  region_goes = region_can_go s well r can.goes.bridge zeros.0 zeros.1

  pub apart : NamesDiffer rows1
  apart = (are_rows rows1 regions1 t counted1).differ

  at_home : owner_in t.rows r ≡ Some (In r)
  at_home = owner_emptied s gone r ∙ can.goes.bridge

  bridge : is_bridge t.rows r ≡ true
  bridge = bridge_itself t r at_home

  nothing_holds : owning_edges t r + borrowed t r ≡ 0
  nothing_holds = zero_not (owning_edges t r + borrowed t r) (false_from_ne_true (is_held t r) (λ h.
      both_ways _ (not_above (owning_edges s r + borrowed s r) (omega (arith, zeros.0, zeros.1))) (loses1.fewer_held r h)))

  pub region_there : has_region regions1 r ≡ true
  region_there = region_told rows1 regions1 t counted1 r r at_home

  pub no_borrow : borrowed_of regions1 r ≡ 0
  no_borrow = omega (arith, ((all_counts rows1 regions1 t counted1).table).borrowed r bridge, nothing_holds)

  pub no_owner : owned_of regions1 r ≡ false
  no_owner =
      let none : owning_edges t r ≡ 0 = omega (arith, nothing_holds) in
      ((all_counts rows1 regions1 t counted1).table).owned r bridge ∙ owned_by_count t r ∙ ap some_of none

  outside_is : rows_outside (In r) rows1 ≡ filter (λ c. not (gone (c.row).name)) rows1
  outside_is = filter_ext_on (λ (c : CountedRow). not (is_under (In r) c)) (λ (c : CountedRow). not (gone (c.row).name)) rows1 (λ c m.
      ap not (under_region r (c.row).owner ∙ ap (is_in r)
      (sym (sym (owner_emptied s gone (c.row).name) ∙ sym (owner_is_told rows1 regions1 t counted1 (c.row).name) ∙ ap owner_by (member_found c rows1 apart m)))))

  home_gone : gone r ≡ true
  home_gone = ap (is_in r) can.goes.bridge ∙ same_name_itself r

  other_region : (q : ObjId) → gone q ≡ false → same_name r q ≡ false
  other_region q e = false_from_ne_true (same_name r q) (λ h. both_ways _ e (ap gone (sym (same_name_is r q h)) ∙ home_gone))

  module _ (rows2 : List CountedRow) (removed : SameByOwner rows2 (rows_outside (In r) rows1)) (regions2 : List Region) (ended : regions2 ≡ without_region regions1 r) where
    removed_too : SameByOwner rows2 (filter (λ c. not (gone (c.row).name)) rows1)
    removed_too w = removed w ∙ ap (rows_of w) outside_is

    there : (q : ObjId) → has_region regions2 q ≡ is_bridge (without s gone).rows q
    there q = ap (λ l. has_region l q) ended ∙ ended_has regions1 r q ∙ by (same_name r q) refl (gone q) refl where
      before : has_region regions1 q ≡ is_bridge s.rows q
      before = (counted1.counts.table).regions q ∙ ap (is_in q) (owner_emptied s gone q)

      by : (a : Bool) → same_name r q ≡ a → (b : Bool) → gone q ≡ b → (not a && has_region regions1 q) ≡ is_bridge (without s gone).rows q
      by true e b f = sym (ap (is_in q) (owner_lost s.rows gone q (ap gone (sym (same_name_is r q e)) ∙ home_gone)))
      by false e false f = before ∙ sym (ap (is_in q) (owner_stay s.rows gone q f))
      by false e true f = before ∙ inner_no_bridge (owner_in s.rows q) f ∙ sym (ap (is_in q) (owner_lost s.rows gone q f)) where
        inner_no_bridge : (w : Option Owner) → is_in r w ≡ true → is_in q w ≡ false
        inner_no_bridge (Some (In p)) h = ap (same_name q) (sym (same_name_is r p h)) ∙ same_name_flips q r ∙ e
        inner_no_bridge (Some Local) h = refl
        inner_no_bridge (Some Frozen) h = refl
        inner_no_bridge None h = refl

    pub region_drops : SameCapacity work0 work1 → left_to_do work1 t.rows ≤ left_to_do work0 s.rows → Drops s gone work0 work1 rows2 regions2
    region_drops sum less = drops_left s gone well region_goes rows1 regions1 counted1 rows2 removed_too regions2 there
        (λ q e. ap (λ l. borrowed_of l q) ended ∙ read_ended (λ (x : Region). x.borrowed) 0 regions1 r q ∙ ap (λ b. cond b 0 (borrowed_of regions1 q)) (other_region q e))
        (λ q e. ap (λ l. owned_of l q) ended ∙ read_ended (λ (x : Region). x.owned) false regions1 r q ∙ ap (λ b. cond b false (owned_of regions1 q)) (other_region q e))
        work0 work1 can.can.room loses1 sum
        (watched_left s gone well region_goes work0.suspects work1.suspects loses1 (λ o q h e some. ap (is_in r) h ∙ other_region q e))
        less

  -- as many rows of the region stand in the store as in the state
  region_count : length (rows_of (In r) rows1) ≡ length (filter (λ (x : Row). gone x.name) s.rows)
  region_count =
      sym (ordered_length (rows_of (In r) rows1))
      ∙ ap length ((filtered_store rows1 t.rows (are_rows rows1 regions1 t counted1) (λ x. same_owner x.owner (In r))).rise)
      ∙ emptied_count gone (In r) s.rows (λ x m. under_region r x.owner ∙ ap (is_in r) (sym (owner_mem s.rows (rows_in_place s well).distinct x m)))

  pub region_cost : (before middle after : ℕ) → owed middle work1 t.rows ≤ owed before work0 s.rows + 2 * length (rows_of (In r) rows1) + 1 → after ≡ middle + 2 * length (rows_of (In r) rows1) + 1
      → owed after work1 (without s gone).rows ≤ owed before work0 s.rows
  region_cost before middle after cost e =
      let row = row_of s.rows r (In r) can.goes.bridge in
      let some : 1 ≤ length (filter (λ (x : Row). gone x.name) s.rows) = some_length (λ (x : Row). gone x.name) row.row s.rows row.mem (ap gone row.name ∙ home_gone) in
      omega (arith, cost, e, some, rest_size gone s.rows, region_count)
