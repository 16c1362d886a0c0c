-- The counts of a state some of whose rows froze.
use Rattle.std.proofs.Common.{List, None, Option, Some, [], ap, arith, cond, drop, false, filter, is_some, not, refl, subst, sym, true, ℕ, ◌&&◌, ◌+◌, ◌++◌, ◌∙◌, ◌∷◌, ◌≡◌}
use Rattle.std.proofs.lemmas.Bool.{and_parts, false_from_ne_true}
use Rattle.std.proofs.lemmas.List.{append-nil, append_assoc}
use Rattle.std.specs.List.{count_by}
use Rattle.lf_base.specs.declared.ids.ObjId.{ObjId}
use Rattle.lf_base.specs.declared.values.Owner.TheVariants.{In}
use Rattle.lf_base.specs.declared.values.Value.{Value}
use Rattle.lf_base.specs.Edges.{Edge, edges}
use Rattle.lf_base.specs.FreezeResult.{freeze_result, freeze_set}
use Rattle.lf_base.specs.Names.{same_name}
use Rattle.lf_base.specs.Owners.{has_name, has_row, is_bridge, is_in, owner_in}
use Rattle.lf_base.specs.PlainState.{Row, State}
use Rattle.lf_base.specs.Sets.{Differ, Member}
use Rattle.lf_base.specs.WalkCounts.{borrowed, borrows, is_borrower, refs}
use Rattle.lf_base.specs.WellFormed.{WellFormed}
use Rattle.lf_base.proofs.ListLemmas.Filters.{Member_filter, Member_of_filter}
use Rattle.lf_base.proofs.ListLemmas.Members.{Member_any, any_Member}
use Rattle.lf_base.proofs.ListLemmas.Tests.{none_count}
use Rattle.lf_base.proofs.NameLemmas.SameNames.{same_name_itself}
use Rattle.lf_barrier.proofs.Descents.OwnedRegions.{named_here}
use Rattle.lf_barrier.proofs.MovingEdges.RowLoops.{head_there}
use Rattle.lf_domain.specs.Counts.{CountsOf, IsDomain}
use Rattle.lf_domain.proofs.NearCounts.{from_all, from_near}
use Rattle.lf_domain.proofs.StoreEdges.{row_told}
use Rattle.lf_frozen.specs.declared.row.FrozenRow.{FrozenRow}
use Rattle.lf_graph.specs.RowChanges.{without_row, without_rows}
use Rattle.lf_graph.specs.StoredRows.{AreRowsOf, CountedRow, HasRow, NamesDiffer, SameByOwner, is_named, refs_at, refs_by, row_named}
use Rattle.lf_graph.proofs.Stores.Reordered.{found_reordered, reordered_by_owner}
use Rattle.lf_graph.proofs.Stores.Changes.{same_filter}
use Rattle.lf_graph.proofs.Stores.RowLists.{dropped_at_once, is_left, state_dropped}
use Rattle.lf_graph.proofs.Stores.Walks.{differ_filter}
use Rattle.lf_laws.proofs.Changes.Freezing.{freeze_keeps}
use Rattle.lf_laws.proofs.Dropping.RowsInPlace.{rows_in_place}
use Rattle.lf_laws.proofs.Edges.EdgeParts.{same_by}
use Rattle.lf_laws.proofs.Edges.FrozenCounts.{borrowed_freeze, refs_freeze}
use Rattle.lf_laws.proofs.Owners.PathsOfSets.{freeze_within}
use Rattle.lf_laws.proofs.Rows.OwnerTests.{in_region}
use Rattle.lf_laws.proofs.Rows.RowsByName.{differ_apart, mem_has, owner_mem, row_there}
use Rattle.lf_regions.specs.declared.region.Region.{Region}
use Rattle.lf_regions.specs.Regions.{borrowed_of, has_region}
use Rattle.lf_regions.specs.TableCounts.{IsTableOf}
use Rattle.lf_transfer.specs.Freezing.{Freezing, IsFreezeOf, MayLoseAll, TurnsTo}
use Rattle.lf_transfer.proofs.Freezes.LostRegions.{bridge_stays, bridge_was, owned_stays}
use Rattle.lf_transfer.proofs.Taken.TakenRows.{name_found, row_found_member}

found_some : (t : Option CountedRow) → is_some t ≡ true → (c : CountedRow) × (t ≡ Some c)
found_some None h = absurd (let z : false ≡ true = h in cc)
found_some (Some c) h = (c, refl)

-- ---- rows that are removed one after the other
without_more : (rows : List CountedRow) (os : List ObjId) (o : ObjId) → without_rows rows (os ++ o ∷ []) ≡ without_row (without_rows rows os) o
without_more rows [] o = refl
without_more rows (p ∷ ps) o = without_more (without_row rows p) ps o

pub record Removing (rows now : List CountedRow) (os : List ObjId) (i : ℕ) : Type 0 where
  pub done : List ObjId
  pub split : os ≡ done ++ drop i os
  pub same : SameByOwner now (without_rows rows done)

pub removing_begins : (rows : List CountedRow) (os : List ObjId) → Removing rows rows os 0
removing_begins rows os = record { done = []; split = refl; same = λ w. refl }

module _ (rows now : List CountedRow) (os : List ObjId) (i : ℕ) (g : Removing rows now os i) where
  module _ (differ : NamesDiffer rows) (o : ObjId) (at : drop i os ≡ o ∷ drop (i + 1) os) where
    split_at : os ≡ g.done ++ o ∷ drop (i + 1) os
    split_at = g.split ∙ ap (λ l. g.done ++ l) at

    pub still_has : Differ same_name os → HasRow rows o → HasRow now o
    still_has once there =
        let c = found_some (row_named rows o) there in
        let name : ((c.0).row).name ≡ o = name_found rows o c.0 c.1 in
        let out : has_name g.done o ≡ false = false_from_ne_true _ (λ h. differ_apart g.done (o ∷ drop (i + 1) os) (subst (Differ same_name) split_at once) o h (head_there o (drop (i + 1) os))) in
        let left : is_left g.done c.0 ≡ true = ap (λ n. not (has_name g.done n)) name ∙ ap not out in
        let m : Member c.0 (filter (is_left g.done) rows) = Member_filter (is_left g.done) c.0 rows (row_found_member rows o c.0 c.1) left in
        let found : row_named (filter (is_left g.done) rows) o ≡ Some c.0 = ap (row_named (filter (is_left g.done) rows)) (sym name) ∙ named_here (filter (is_left g.done) rows) c.0 (differ_filter (is_left g.done) rows differ) m in
        let dropped : NamesDiffer (without_rows rows g.done) = subst NamesDiffer (sym (dropped_at_once rows g.done)) (differ_filter (is_left g.done) rows differ) in
        let there_now : row_named (without_rows rows g.done) o ≡ row_named now o = found_reordered o (reordered_by_owner (without_rows rows g.done) now (λ w. sym (g.same w))) dropped in
        ap is_some (sym there_now ∙ ap (λ l. row_named l o) (dropped_at_once rows g.done) ∙ found)

    pub removing_on : (next : List CountedRow) → SameByOwner next (without_row now o) → Removing rows next os (i + 1)
    removing_on next e = record {
      done = g.done ++ o ∷ [];
      split = split_at ∙ sym (append_assoc g.done (o ∷ []) (drop (i + 1) os));
      same = subst (SameByOwner next) (sym (without_more rows g.done o)) (λ w. e w ∙ same_filter now (without_rows rows g.done) g.same (λ c. not (is_named o c)) w);
    }

  pub removed : drop i os ≡ [] → SameByOwner now (without_rows rows os)
  removed none = subst (λ l. SameByOwner now (without_rows rows l)) (sym (g.split ∙ ap (λ l. g.done ++ l) none ∙ append-nil g.done)) g.same

-- ---- the plan
module _ (s : State) (well : WellFormed s) (before : List FrozenRow) (v : Value) (plan : Freezing) (p : IsFreezeOf s before v plan) where
  abbrev t : State
  t = freeze_result s v

  set_owner : (o : ObjId) → has_row (freeze_set s v) o ≡ true → (x : Row) × (Member x (freeze_set s v) × (owner_in s.rows o ≡ Some (x.owner)))
  set_owner o h =
      let x = row_there (freeze_set s v) o h in
      (x.0, (x.1.0, ap (owner_in s.rows) (sym x.1.1) ∙ owner_mem s.rows (rows_in_place s well).distinct x.0 (freeze_within s v x.0 x.1.0)))

  -- what freezes of a region makes it one of the plan's
  in_plan : (o q : ObjId) → has_row (freeze_set s v) o ≡ true → is_in q (owner_in s.rows o) ≡ true → has_name plan.regions q ≡ true
  in_plan o q h k =
      let x = set_owner o h in
      p.loses q ∙ Member_any (λ (y : Row). is_in q (Some (y.owner))) x.0 (freeze_set s v) x.1.0 (ap (is_in q) (sym x.1.1) ∙ k)

  pub bridge_of_plan : (r : ObjId) → has_name plan.regions r ≡ true → is_bridge s.rows r ≡ true
  bridge_of_plan r h =
      let x = any_Member (λ (y : Row). is_in r (Some (y.owner))) (freeze_set s v) (sym (p.loses r) ∙ h) in
      let inside : owner_in s.rows (x.0).name ≡ Some (In r) = owner_mem s.rows (rows_in_place s well).distinct x.0 (freeze_within s v x.0 x.1.0) ∙ in_region r (Some ((x.0).owner)) x.1.1 in
      ap (is_in r) ((rows_in_place s well).bridge (x.0).name r inside) ∙ same_name_itself r

  -- a region that loses nothing stays as it is
  module _ (q : ObjId) (out : has_name plan.regions q ≡ false) where
    pub not_in : (o : ObjId) → is_in q (owner_in s.rows o) ≡ true → has_row (freeze_set s v) o ≡ false
    not_in o k = false_from_ne_true _ (λ h. let z : true ≡ false = sym (in_plan o q h k) ∙ out in cc)

    pub same_bridge : is_bridge s.rows q ≡ is_bridge (t).rows q
    same_bridge = same_by (is_bridge s.rows q) (is_bridge (t).rows q) (λ b. bridge_stays s well v q (not_in q b) ∙ b) (λ b. (bridge_was s well v q b).1)

    none_lost : count_by (λ e. has_row (freeze_set s v) e.to && borrows s.rows q e) (edges s) ≡ 0
    none_lost = none_count (λ (e : Edge). has_row (freeze_set s v) e.to && borrows s.rows q e) (edges s) (λ e m. false_from_ne_true _ (λ h.
        let x = and_parts (has_row (freeze_set s v) e.to) (borrows s.rows q e) h in
        let y = and_parts (is_borrower s.rows e.from) (is_in q (owner_in s.rows e.to)) x.1 in
        let z : true ≡ false = sym x.0 ∙ not_in e.to y.1 in cc))

    pub same_borrows : borrowed t q ≡ borrowed s q
    same_borrows = omega (arith, borrowed_freeze s v well q, none_lost)

-- ---- the store and the table
module _ (rows : List CountedRow) (regions : List Region) (s : State) (d : IsDomain rows regions s) (before : List FrozenRow) (v : Value) (plan : Freezing) (p : IsFreezeOf s before v plan) where
  abbrev after : State
  after = freeze_result s v

  a : AreRowsOf rows s.rows
  a = ((d.counts).store).rows

  pub may_lose_all : MayLoseAll rows regions s v plan.taken plan.regions
  may_lose_all = record { domain = d; takes = p.takes; bridges = bridge_of_plan s (d.well_formed) before v plan p; differ = p.once }

  pub taken_there : (o : ObjId) → has_name plan.taken o ≡ true → HasRow rows o
  taken_there o h =
      let x = row_there (freeze_set s v) o (sym (p.takes o) ∙ h) in
      row_told rows s.rows o a ∙ ap (has_row s.rows) (sym x.1.1) ∙ mem_has x.0 s.rows (freeze_within s v x.0 x.1.0)

  module _ (next : List Region) (turned : TurnsTo after plan.regions regions next) where
    was : IsTableOf regions s.rows (edges s)
    was = (from_near s (d.well_formed) rows regions d.counts).table

    table_then : IsTableOf next (after).rows (edges after)
    table_then = record {
      regions = λ q. turned.names q ∙ (elim (has_name plan.regions q) as (λ b. has_name plan.regions q ≡ b → cond b (is_bridge (after).rows q) (has_region regions q) ≡ is_bridge (after).rows q) [
        | true ↦ λ h. refl
        | false ↦ λ h. (was).regions q ∙ same_bridge s (d.well_formed) before v plan p q h
      ] refl);
      borrowed = λ q b. turned.numbers q b ∙ (elim (has_name plan.regions q) as (λ c. has_name plan.regions q ≡ c → cond c (borrowed after q) (borrowed_of regions q) ≡ borrowed after q) [
        | true ↦ λ h. refl
        | false ↦ λ h. (was).borrowed q (bridge_was s (d.well_formed) v q b).1 ∙ sym (same_borrows s (d.well_formed) before v plan p q h)
      ] refl);
      owned = λ q b. let k = bridge_was s (d.well_formed) v q b in turned.flags q b ∙ (was).owned q k.1 ∙ sym (owned_stays s (d.well_formed) v q k.1 k.0);
    }

    module _ (new : List CountedRow) (same : SameByOwner new (without_rows rows plan.taken)) where
      rows_then : AreRowsOf new (after).rows
      rows_then = subst (AreRowsOf new) (λ i. filter (λ (r : Row). not (p.takes r.name i)) s.rows) (state_dropped rows new s.rows plan.taken a same)

      refs_then : (o : ObjId) → HasRow new o → refs_at new o ≡ refs after o
      refs_then o there =
          let c = found_some (row_named new o) there in
          let found : row_named (filter (is_left plan.taken) rows) o ≡ Some c.0 =
          ap (λ l. row_named l o) (sym (dropped_at_once rows plan.taken)) ∙ sym (found_reordered o (reordered_by_owner new (without_rows rows plan.taken) same) (rows_then).differ) ∙ c.1 in
          let m : Member c.0 rows = (Member_of_filter (is_left plan.taken) c.0 rows (row_found_member (filter (is_left plan.taken) rows) o c.0 found)).0 in
          let old : row_named rows o ≡ Some c.0 = ap (row_named rows) (sym (name_found (filter (is_left plan.taken) rows) o c.0 found)) ∙ named_here rows c.0 (a).differ m in
          ap refs_by (c.1 ∙ sym old) ∙ ((from_near s (d.well_formed) rows regions d.counts).store).refs o (ap is_some old) ∙ sym (refs_freeze s v d.well_formed o)

      pub frozen_counts : CountsOf new next after
      frozen_counts = from_all after (freeze_keeps s v d.well_formed) new next (record { store = record { rows = rows_then; refs = refs_then }; table = table_then })
