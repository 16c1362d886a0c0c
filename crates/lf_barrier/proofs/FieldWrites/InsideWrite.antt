-- A write into a region, call by call: which edges are counted in between.
use Rattle.std.proofs.Common.{Bool, List, None, Option, Some, [], ap, arith, cond, false, filter, inl, inr, length, map, not, refl, subst, suc, sym, true, zero, ℕ, ◌&&◌, ◌*◌, ◌+◌, ◌++◌, ◌<◌, ◌^◌, ◌||◌, ◌∙◌, ◌∷◌, ◌≡◌, ◌≤◌}
use Rattle.std.proofs.lemmas.Bool.{false_from_ne_true}
use Rattle.std.proofs.lemmas.List.Sums.{sum_by-cons}
use Rattle.std.specs.List.{count_by, sum_by}
use Rattle.std.specs.Option.{option_map}
use Rattle.lf_base.specs.declared.ids.ObjId.{ObjId}
use Rattle.lf_base.specs.declared.values.Key.{Key}
use Rattle.lf_base.specs.declared.values.Owner.TheVariants.{In, Local}
use Rattle.lf_base.specs.declared.values.Value.{Value}
use Rattle.lf_base.specs.EdgeLists.{SameEdges, begins_at, near_edges}
use Rattle.lf_base.specs.Edges.{Content, Edge, Field, Slot, Source, edges_by, field_targets, row_edges, rows_edges, slot_targets}
use Rattle.lf_base.specs.MoveSet.{move_set}
use Rattle.lf_base.specs.Names.{same_key, same_name}
use Rattle.lf_base.specs.Owners.{has_name, is_in, is_local_at, owner_in, row_at}
use Rattle.lf_base.specs.Ownership.{is_in_other, is_owning}
use Rattle.lf_base.specs.PlainState.{Row, State}
use Rattle.lf_base.specs.Sets.{Differ, Member, grow}
use Rattle.lf_base.specs.TakeResult.{row_field, take_result}
use Rattle.lf_base.specs.TouchedEdges.{WritesInto, edges_from, row_fields}
use Rattle.lf_base.specs.WalkCounts.{is_borrower}
use Rattle.lf_base.specs.WellFormed.{WellFormed}
use Rattle.lf_base.specs.WriteResult.{is_at, put_field, relabel, write_fields, write_refusal, write_result}
use Rattle.lf_base.proofs.ListLemmas.Filters.{Member_of_filter}
use Rattle.lf_base.proofs.ListLemmas.Members.{Member_left, Member_right}
use Rattle.lf_base.proofs.ListLemmas.Sublists.{Sub, none, pass, sub_filter}
use Rattle.lf_base.proofs.NameLemmas.SameNames.{same_name_is}
use Rattle.lf_barrier.specs.MovingEdges.{MayCountRows, MayGiveRows, MayUncountRows, RowKeysDiffer, fields_in, targets_in}
use Rattle.lf_barrier.specs.WritePlans.{write_size}
use Rattle.lf_barrier.proofs.MovingEdges.FieldLoops.{fields_told, length_counts}
use Rattle.lf_barrier.proofs.MovingEdges.RowLoops.{fields_given, found_in_map, head_there, tail_there}
use Rattle.lf_domain.specs.Counts.{Counts, CountsOf}
use Rattle.lf_domain.specs.OneEdge.{HasOneOwner, HaveBridges, MayCountOwner, MayUncountOwner, OnlyBridges}
use Rattle.lf_domain.proofs.CountedEdges.{same_counts}
use Rattle.lf_domain.proofs.EdgeTests.{count_cons}
use Rattle.lf_domain.proofs.FieldCounts.{refilled_counts}
use Rattle.lf_domain.proofs.StateEdges.{one_owner, only_bridges, passes_on}
use Rattle.lf_graph.specs.Room.{room_for_row}
use Rattle.lf_graph.specs.RowChanges.{with_field_of}
use Rattle.lf_graph.specs.StoredRows.{AreRowsOf, CountedRow, SameByOwner}
use Rattle.lf_laws.proofs.Edges.EdgeParts.{count_app, counts_same, edges_parted}
use Rattle.lf_laws.proofs.Edges.FieldEdges.{name_of_found, near_put, near_take}
use Rattle.lf_laws.proofs.Edges.FrozenEdges.{borrowed_local}
use Rattle.lf_laws.proofs.Edges.NamedRows.{among, by_names, found_row, near_from}
use Rattle.lf_laws.proofs.Judging.WrittenRegion as region
use Rattle.lf_laws.proofs.Rows.RowsByName.{Distinct, at_mem, distinct_sub, owner_has}
use Rattle.lf_laws.proofs.Writes.MovedRows.{move_local, of_moved}
use Rattle.lf_laws.proofs.Writes.WriteLaw.{write_law}
use Rattle.lf_laws.proofs.Writes.WrittenEdges.{owner_write}
use Rattle.lf_regions.specs.declared.region.Region.{Region}
use Rattle.lf_regions.specs.TableCounts.{owns_region}

-- ---- lists of edges
pub edges_alike : (a b : List Row) (os : List ObjId) → ((o : ObjId) → has_name os o ≡ true → fields_in a o ≡ fields_in b o) → edges_from a os ≡ edges_from b os
edges_alike a b [] h = refl
edges_alike a b (o ∷ os) h = λ i. edges_by (Field o) (field_targets (h o (head_there o os) i)) ++ edges_alike a b os (λ q t. h q (tail_there o os q t)) i

-- the list without one of its members
pub member_out : (e : Edge) (es : List Edge) → Member e es → (fs : List Edge) × SameEdges es (e ∷ fs)
member_out e [] m = absurd m
member_out e (x ∷ xs) (inl is) = (xs, λ p. ap (λ y. count_by p (y ∷ xs)) is)
member_out e (x ∷ xs) (inr m) =
    let t = member_out e xs m in
    (x ∷ t.0, λ p. omega (arith, t.1 p, count_cons p x xs, count_cons p e t.0, count_cons p e (x ∷ t.0), count_cons p x t.0))

-- an edge for each object that a row's fields refer to
pub target_edge : (rows : List Row) (o t : ObjId) → Member t (targets_in rows o) → Member (record { from = Field o; to = t }) (rows_edges rows)
target_edge [] o t m = absurd m
target_edge (r ∷ rs) o t m =
    elim (same_name r.name o) as (λ b. same_name r.name o ≡ b → Member t (field_targets (row_fields (cond b (Some r) (row_at rs o)))) → Member (record { from = Field o; to = t }) (row_edges r ++ rows_edges rs)) [
      | true ↦ λ h k. Member_left _ (row_edges r) (rows_edges rs) (subst (λ n. Member (record { from = Field n; to = t }) (row_edges r)) (same_name_is r.name o h) (edge_of (field_targets r.fields) k))
      | false ↦ λ h k. Member_right _ (row_edges r) (rows_edges rs) (target_edge rs o t k)
    ] refl m where
      edge_of : (os : List ObjId) → Member t os → Member (record { from = Field r.name; to = t }) (edges_by (Field r.name) os)
      edge_of [] k = absurd k
      edge_of (q ∷ qs) (inl e) = inl (ap (λ n. record { from = Field r.name; to = n }) e)
      edge_of (q ∷ qs) (inr k) = inr (edge_of qs k)

count_parts : (b t : Edge → Bool) (es : List Edge) → count_by (λ e. b e && t e) es + count_by t (filter (λ e. not (b e)) es) ≡ count_by t es
count_parts b t [] = refl
count_parts b t (e ∷ es) =
    elim (b e) as (λ c. b e ≡ c → count_by (λ e. b e && t e) (e ∷ es) + count_by t (cond (not c) (e ∷ filter (λ e. not (b e)) es) (filter (λ e. not (b e)) es)) ≡ count_by t (e ∷ es)) [
      | true ↦ λ h. omega (arith, count_parts b t es, count_cons (λ e. b e && t e) e es, count_cons t e es, ap {B = ℕ} (λ c. cond (c && t e) 1 0) h)
      | false ↦ λ h. omega (arith, count_parts b t es, count_cons (λ e. b e && t e) e es, count_cons t e es, count_cons t e (filter (λ e. not (b e)) es), ap {B = ℕ} (λ c. cond (c && t e) 1 0) h)
    ] refl

-- what rows of names that differ count is no more than all rows that have them
among_most : (f : Row → ℕ) (os : List ObjId) (rows : List Row) → sum_by (among f os) rows ≤ sum_by f rows
among_most f os [] = omega arith
among_most f os (r ∷ rs) =
    let a : among f os r ≤ f r = elim (has_name os r.name) as (λ b. cond b (f r) 0 ≤ f r) [ true ↦ omega arith | false ↦ omega arith ] in
    omega (arith, a, sum_by-cons (among f os) r rs, sum_by-cons f r rs, among_most f os rs)

length_sum : {X : Type 0} (xs : List X) → sum_by (λ _. 1) xs ≡ length xs
length_sum [] = refl
length_sum (x ∷ xs) = omega (arith, sum_by-cons (λ _. 1) x xs, length_sum xs)

pub sum_on : (f g : ObjId → ℕ) (os : List ObjId) → ((o : ObjId) → has_name os o ≡ true → f o ≡ g o) → sum_by f os ≡ sum_by g os
sum_on f g [] h = refl
sum_on f g (o ∷ os) h = omega (arith, sum_by-cons f o os, sum_by-cons g o os, h o (head_there o os), sum_on f g os (λ q t. h q (tail_there o os q t)))

grow_sub : {X : Type 0} (brings : List X → X → Bool) (all : List X) (n : ℕ) (xs : List X) → Sub xs all → Sub (grow brings all n xs) all
grow_sub brings all zero xs s = s
grow_sub brings all (suc n) xs s = grow_sub brings all n (filter (brings xs) all) (sub_filter (brings xs) all)

none_sub : {X : Type 0} (xs : List X) → Sub [] xs
none_sub [] = none
none_sub (x ∷ xs) = pass (none_sub xs)

pub keys_found : (rows : List Row) (o : ObjId) → ((x : Row) → Member x rows → Differ same_key (map (λ (f : Key × Value). f.0) x.fields)) → Differ same_key (map (λ (f : Key × Value). f.0) (fields_in rows o))
keys_found [] o h = tt
keys_found (r ∷ rs) o h =
    elim (same_name r.name o) as (λ b. Differ same_key (map (λ (f : Key × Value). f.0) (row_fields (cond b (Some r) (row_at rs o))))) [
      | true ↦ h r (inl refl)
      | false ↦ keys_found rs o (λ x m. h x (inr m))
    ]

module _ (s : State) (x : ObjId) (k : Key) (v : Value) (home : ObjId) (ms : List ObjId) (w : WritesInto s x v home ms) (allowed : write_refusal s x k v ≡ None) where
  abbrev pub put : List Row
  put = write_fields s.rows x k v

  abbrev pub now : List Row
  now = relabel put ms (In home)

  abbrev after : State
  after = region.after s x k v home ms w

  abbrev pub left : List Edge
  left = near_edges (take_result s x k)

  -- the edges that begin elsewhere than at rows that move, without the old value's
  abbrev pub rest : List Edge
  rest = filter (λ e. not (begins_at ms e.from)) left

  abbrev pub old_value : Option Value
  old_value = row_field (row_at s.rows x) k

  well_then : WellFormed after
  well_then = subst WellFormed (region.final s x k v home ms w) ((write_law s w.well_formed x k v w.value (In home) w.target).0 allowed)

  found : (row : Row) × (row_at s.rows x ≡ Some row)
  found = found_row s.rows x (owner_has s.rows x (In home) w.target)

  local_before : (o : ObjId) → has_name ms o ≡ true → owner_in s.rows o ≡ Some Local
  local_before = region.local_before s x k v home ms w

  -- ---- fields
  other_than_target : (o : ObjId) → has_name ms o ≡ true → same_name o x ≡ false
  other_than_target o h = false_from_ne_true _ (λ e. let z : true ≡ false = sym h ∙ ap (has_name ms) (same_name_is o x e) ∙ region.target_stays s x k v home ms w in cc)

  put_of_found : (o : ObjId) → same_name o x ≡ false → (t : Option Row) → ((row : Row) → t ≡ Some row → row.name ≡ o) → row_fields (option_map (λ r. cond (is_at x r) (record r { fields = put_field r.fields k v }) r) t) ≡ row_fields t
  put_of_found o n None h = refl
  put_of_found o n (Some r) h = ap (λ b. (cond b (record r { fields = put_field r.fields k v }) r).fields) (ap (λ q. same_name q x) (h r refl) ∙ n)

  fields_put : (o : ObjId) → has_name ms o ≡ true → fields_in put o ≡ fields_in s.rows o
  fields_put o h =
      ap row_fields (found_in_map (λ r. cond (is_at x r) (record r { fields = put_field r.fields k v }) r) (λ r. elim (is_at x r) as (λ b. (cond b (record r { fields = put_field r.fields k v }) r).name ≡ r.name) [ true ↦ refl | false ↦ refl ]) s.rows o)
      ∙ put_of_found o (other_than_target o h) (row_at s.rows o) (λ row e. name_of_found s.rows o row e)

  fields_now : (o : ObjId) → fields_in now o ≡ fields_in put o
  fields_now o = fields_given put ms (In home) o

  keys_now : RowKeysDiffer now
  keys_now o = keys_found now o (λ r m. well_then.keys_differ r (Member_left r now (s.given ++ s.own) m))

  keys_put : RowKeysDiffer put
  keys_put o = subst (λ l. Differ same_key (map (λ (f : Key × Value). f.0) l)) (fields_now o) (keys_now o)

  -- ---- edges
  abbrev old_edges : List Edge
  old_edges = edges_by (Field x) (slot_targets old_value)

  abbrev new_edges : List Edge
  new_edges = edges_by (Field x) (slot_targets (Some v))

  near_before : SameEdges (near_edges s) (old_edges ++ left)
  near_before = subst (λ u. SameEdges (near_edges s) (edges_by (Field x) (slot_targets (row_field u k)) ++ left)) (sym found.1) (near_take s x k found.0 w.well_formed found.1)

  near_after : SameEdges (new_edges ++ left) (near_edges after)
  near_after = subst (λ z. SameEdges (new_edges ++ left) (near_edges z)) (region.final s x k v home ms w) (near_put s x k found.0 w.well_formed found.1 v)

  near_movers : (p : Edge → Bool) → count_by (λ e. begins_at ms e.from && p e) left ≡ count_by p (edges_from s.rows ms)
  near_movers p =
      omega (
        arith,
        near_before (λ e. begins_at ms e.from && p e),
        count_app (λ e. begins_at ms e.from && p e) old_edges left,
        region.not_mover s x k v home ms w (slot_targets old_value) p,
        near_from ms p s w.well_formed w.differ (λ o h. owner_has s.rows o Local (local_before o h)),
      )

  parted : SameEdges left (edges_from s.rows ms ++ rest)
  parted p = omega (arith, near_movers p, count_parts (λ e. begins_at ms e.from) p left, count_app p (edges_from s.rows ms) rest)

  from_put : edges_from put ms ≡ edges_from s.rows ms
  from_put = edges_alike put s.rows ms fields_put

  from_now : edges_from now ms ≡ edges_from s.rows ms
  from_now = edges_alike now s.rows ms (λ o h. fields_now o ∙ fields_put o h)

  parted_now : SameEdges left (edges_from now ms ++ rest)
  parted_now = subst (λ l. SameEdges left (l ++ rest)) (sym from_now) parted

  in_left : (e : Edge) → Member e rest → Member e left × (begins_at ms e.from ≡ false)
  in_left e m =
      let t = Member_of_filter (λ e. not (begins_at ms e.from)) e left m in
      (t.0, false_from_ne_true _ (λ h. let z : false ≡ true = ap not (sym h) ∙ t.1 in cc))

  left_few : length (near_edges s) < 2 ^ 63 → length left < 2 ^ 63
  left_few few = omega (arith, few, near_before (λ e. true), count_app (λ e. true) old_edges left, length_counts (near_edges s), length_counts left)

  -- only slots and local rows lead to a local row
  near_of_s : (e : Edge) → Member e (near_edges s) → (not (has_name ms e.to) || is_borrower s.rows e.from) ≡ true
  near_of_s e m =
      elim (has_name ms e.to) as (λ b. has_name ms e.to ≡ b → (not b || is_borrower s.rows e.from) ≡ true) [
        | true ↦ λ h. borrowed_local s w.well_formed e (subst (Member e) (sym (edges_parted s)) (Member_left e (near_edges s) _ m)) (local_before e.to h)
        | false ↦ λ h. refl
      ] refl

  near_of_left : (e : Edge) → Member e left → has_name ms e.to ≡ true → is_borrower s.rows e.from ≡ true
  near_of_left e m h =
      sym (ap (λ b. not b || is_borrower s.rows e.from) h)
      ∙ passes_on (λ e. not (has_name ms e.to) || is_borrower s.rows e.from) (near_edges s) (old_edges ++ left) near_before near_of_s e (Member_right e old_edges left m)

  borrower_put : (f : Source) → is_borrower put f ≡ is_borrower s.rows f
  borrower_put Slot = refl
  borrower_put (Field p) = ap is_local_at (owner_write s.rows x k v p)
  borrower_put (Content c) = refl

  owning_put : (f : Source) (r : ObjId) → is_owning put f r ≡ is_owning s.rows f r
  owning_put Slot r = refl
  owning_put (Field p) r = ap (is_in_other r) (owner_write s.rows x k v p)
  owning_put (Content c) r = refl

  bridges_put : HaveBridges put
  bridges_put o r h = owner_write s.rows x k v r ∙ (w.well_formed).bridge o r (sym (owner_write s.rows x k v o) ∙ h)

  one_put : HasOneOwner put (near_edges s)
  one_put r h =
      let a : count_by (owns_region put r) (near_edges s) ≡ count_by (owns_region s.rows r) (near_edges s) = counts_same (owns_region put r) (owns_region s.rows r) (near_edges s) (λ e. ap (λ b. b && same_name e.to r) (owning_put e.from r)) in
      omega (arith, a, one_owner s w.well_formed r (sym (ap (is_in r) (owner_write s.rows x k v r)) ∙ h))

  -- ---- what each call needs
  module _ (rows set : List CountedRow) (regions : List Region) (c : CountsOf rows regions s) (same : SameByOwner set (with_field_of rows x k v)) where
    pub may_uncount_old : (old : Option Value) → old ≡ old_value → MayUncountOwner set regions put (near_edges s) left (Field x) (slot_targets old) (Some home)
    may_uncount_old old is = subst (λ u. MayUncountOwner set regions put (near_edges s) left (Field x) (slot_targets u) (Some home)) (sym is) (record {
      counts = refilled_counts x (λ fs. put_field fs k v) rows set regions s.rows (near_edges s) c same;
      bridges = bridges_put;
      lies = owner_write s.rows x k v x ∙ w.target;
      leads = λ o r m h other. only_bridges s w.well_formed (Field x) (slot_targets old_value) left (Some home) near_before w.target o r m (sym (owner_write s.rows x k v o) ∙ h) other;
      edges = near_before;
      one = one_put;
    })

  module _ (rows : List CountedRow) (regions : List Region) (c : Counts rows regions put left) where
    pub may_uncount_moved : MayUncountRows rows regions put left rest ms
    may_uncount_moved = record {
      counts = c;
      bridges = bridges_put;
      keys = keys_put;
      local = λ o h. owner_write s.rows x k v o ∙ local_before o h;
      edges = subst (λ l. SameEdges left (l ++ rest)) (sym from_put) parted;
    }

  module _ (rows : List CountedRow) (regions : List Region) (few : length (near_edges s) < 2 ^ 63) where
    pub may_give : Counts rows regions put rest → MayGiveRows rows regions put rest ms home
    may_give c = record {
      counts = c;
      differ = w.differ;
      local = λ o h. owner_write s.rows x k v o ∙ local_before o h;
      region = owner_write s.rows x k v home ∙ (w.well_formed).bridge x home w.target;
      none_from = λ e m. (in_left e m).1;
      near = λ e m h. borrower_put e.from ∙ near_of_left e (in_left e m).0 h;
      few = omega (arith, left_few few, parted (λ e. true), count_app (λ e. true) (edges_from s.rows ms) rest, length_counts left, length_counts rest);
    }

    leads_now : (o : ObjId) → has_name ms o ≡ true → OnlyBridges now (targets_in now o) (Some home)
    leads_now o h t r m e other =
        let edge : Edge = record { from = Field o; to = t } in
        let mem : Member edge (near_edges after) = Member_right edge _ _ (Member_left edge (rows_edges now) _ (target_edge now o t m)) in
        let out = member_out edge (near_edges after) mem in
        only_bridges after well_then (Field o) (t ∷ []) out.0 (Some home) out.1 (region.owner_moved s x k v home ms w o h) t r (inl refl) e other

    pub may_count_moved : Counts rows regions now rest → MayCountRows rows regions now rest ms home
    may_count_moved c = record {
      counts = c;
      bridges = well_then.bridge;
      keys = keys_now;
      inside = region.owner_moved s x k v home ms w;
      leads = leads_now;
      few = omega (arith, left_few few, parted_now (λ e. true), count_app (λ e. true) (edges_from now ms) rest, length_counts left, length_counts rest, length_counts (edges_from now ms));
    }

    pub may_count_new : Counts rows regions now (edges_from now ms ++ rest) → MayCountOwner rows regions now (edges_from now ms ++ rest) (Field x) (slot_targets (Some v)) (Some home)
    may_count_new c = record {
      counts = c;
      bridges = well_then.bridge;
      lies = region.target_now s x k v home ms w;
      leads = only_bridges after well_then (Field x) (slot_targets (Some v)) left (Some home) (λ p. sym (near_after p)) (region.target_now s x k v home ms w);
      few = omega (arith, left_few few, parted_now (λ e. true), length_counts left, length_counts (edges_from now ms ++ rest));
    }

  pub all_counted : (rows : List CountedRow) (regions : List Region) → Counts rows regions now (new_edges ++ (edges_from now ms ++ rest)) → CountsOf rows regions (write_result s x k v)
  all_counted rows regions c =
      subst (CountsOf rows regions) (sym (region.final s x k v home ms w))
      (same_counts rows regions now (new_edges ++ (edges_from now ms ++ rest)) (near_edges after)
      (λ p. omega (arith, near_after p, parted_now p, count_app p new_edges left, count_app p new_edges (edges_from now ms ++ rest))) c)

  -- ---- room and steps
  pub room_stays : (rows lost : List CountedRow) → AreRowsOf rows s.rows → AreRowsOf lost put → sum_by (room_for_row lost) ms ≡ sum_by (room_for_row rows) ms
  room_stays rows lost a b = sum_on (room_for_row lost) (room_for_row rows) ms (λ o h. ap (λ l. 1 + length l) (fields_told lost put o b ∙ fields_put o h ∙ sym (fields_told rows s.rows o a)))

  distinct_set : Distinct (move_set s v)
  distinct_set = distinct_sub (grow_sub _ s.rows (length s.rows) [] (none_sub s.rows)) (region.distinct s x k v home ms w)

  few_rows : (f : Row → ℕ) (g : ObjId → ℕ) → ((o : ObjId) → has_name ms o ≡ true → (row : Row) → row_at s.rows o ≡ Some row → g o ≡ f row) → sum_by g ms ≤ sum_by f (move_set s v)
  few_rows f g h =
      let each : (o : ObjId) → has_name ms o ≡ true → (row : Row) × ((row_at (move_set s v) o ≡ Some row) × (g o ≡ f row)) = λ o t.
      let y = of_moved s v o (sym (w.moves o) ∙ t) in (
        y.0,
        (
          subst (λ n. row_at (move_set s v) n ≡ Some (y.0)) y.1.1 (at_mem (move_set s v) distinct_set y.0 y.1.0),
          h o t y.0 (subst (λ n. row_at s.rows n ≡ Some (y.0)) y.1.1 (at_mem s.rows (region.distinct s x k v home ms w) y.0 (move_local s v y.0 y.1.0).0)),
        ),
      ) in
      omega (arith, by_names f g (move_set s v) distinct_set ms w.differ each, among_most f ms (move_set s v))

  pub few_steps : 5 + 4 * length ms + (3 * sum_by (λ o. length (fields_in put o)) ms + 3 * sum_by (λ o. length (fields_in now o)) ms) ≤ 64 * write_size (move_set s v)
  few_steps =
      let names_fit = few_rows (λ r. 1) (λ o. 1) (λ o h row e. refl) in
      let fields_fit = few_rows (λ (r : Row). length r.fields) (λ o. length (fields_in put o)) (λ o h row e. ap length (fields_put o h) ∙ ap (λ t. length (row_fields t)) e) in
      omega (
        arith,
        names_fit,
        fields_fit,
        length_sum ms,
        length_sum (move_set s v),
        sum_on (λ o. length (fields_in now o)) (λ o. length (fields_in put o)) ms (λ o h. ap length (fields_now o)),
      )
