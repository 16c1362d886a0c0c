-- The states of a chain: well-formed, of local rows alone, each of them a suspect, and so settling may be asked for.
use Rattle.std.proofs.Common.{Bool, List, None, Option, Some, [], ap, arith, cond, false, filter, inl, inr, length, map, refl, subst, suc, sym, true, zero, ℕ, ◌+◌, ◌<◌, ◌^◌, ◌||◌, ◌∙◌, ◌∷◌, ◌≡◌, ◌≤◌}
use Rattle.lf_base.specs.declared.ids.ObjId.{ObjId}
use Rattle.lf_base.specs.declared.values.Owner.{Owner}
use Rattle.lf_base.specs.declared.values.Owner.TheVariants.{In, Local}
use Rattle.lf_base.specs.declared.values.Value.TheVariants.{Obj}
use Rattle.lf_base.specs.EdgeLists.{cells, near_edges}
use Rattle.lf_base.specs.MoveSet.{move_set}
use Rattle.lf_base.specs.Names.{name_below, same_name}
use Rattle.lf_base.specs.Owners.{bridges, is_bridge, is_in, names, or_frozen, has_row, owner_in, owner_of}
use Rattle.lf_base.specs.PlainChanges.{first_state, insert_row, next_object, object_result}
use Rattle.lf_base.specs.PlainState.{Row, State}
use Rattle.lf_base.specs.Settling.{Watched}
use Rattle.lf_base.specs.Sets.{Member}
use Rattle.lf_base.specs.Suspects.{Object, Suspect}
use Rattle.lf_base.specs.WellFormed.{SlotMayHold, WellFormed, from_near}
use Rattle.lf_base.specs.WriteResult.{moved, write_fields, write_result}
use Rattle.lf_base.proofs.ListLemmas.Tests.{some_is}
use Rattle.lf_base.proofs.NameLemmas.SameNames.{same_name_is}
use Rattle.lf_laws.proofs.Changes.NewRows.{new_row_keeps, owner_at, owner_new}
use Rattle.lf_laws.proofs.Edges.Cells.{cells_row, cells_write, near_fit}
use Rattle.lf_laws.proofs.Judging.LocalWrites.{local_allowed}
use Rattle.lf_laws.proofs.Losses.DroppedSets.{justified_most}
use Rattle.lf_laws.proofs.Rows.OwnerTests.{in_not_local}
use Rattle.lf_laws.proofs.Writes.WriteLaw.{write_law}
use Rattle.lf_laws.proofs.Writes.WrittenEdges.{owner_write}
use Rattle.lf_domain.specs.Counts.{CountsOf, IsDomain}
use Rattle.lf_domain.proofs.CountedEdges.{same_rows_count}
use Rattle.lf_graph.specs.StoredRows.{CountedRow, SameByOwner}
use Rattle.lf_regions.specs.declared.region.Region.{Region}
use Rattle.lf_settle.specs.SettledStates.{CanSettle}
use Rattle.lf_settle.specs.WorkLists.{WorkList}
use Rattle.lf_trials.specs.LocalChains.{chain, numbered}
use Rattle.lf_trials.specs.SettledRows.{key_zero}
use Rattle.lf_trials.proofs.SettledRows.{one_whole}
use Rattle.lf_trials.proofs.TwoRegions.{well_none}

-- the rows of a chain as suspects, the last one first
abbrev pub chain_suspects : ℕ → List Suspect
chain_suspects zero = Object (numbered 1) ∷ []
chain_suspects (suc n) = Object (numbered (n + 2)) ∷ chain_suspects n

-- what holds of a chain with so many links
pub record Chained (n : ℕ) (s : State) : Type 0 where
  pub whole : WellFormed s
  pub next : next_object s ≡ numbered (n + 2)
  pub count : length s.rows ≡ n + 1
  pub few : cells s ≤ n
  pub local : (o : ObjId) (w : Owner) → owner_in s.rows o ≡ Some w → w ≡ Local
  pub suspect : (o : ObjId) (w : Owner) → owner_in s.rows o ≡ Some w → Member (Object o) (chain_suspects n)
  pub last : owner_in s.rows (numbered (n + 1)) ≡ Some Local

one_more : (r : Row) (rows : List Row) → length (insert_row r rows) ≡ length rows + 1
one_more r [] = refl
one_more r (x ∷ xs) = elim (name_below r.name x.name) as (λ b. length (cond b (r ∷ (x ∷ xs)) (x ∷ insert_row r xs)) ≡ length (x ∷ xs) + 1) [
  | true ↦ omega arith
  | false ↦ omega (arith, one_more r xs)
]

as_many : (f : Row → Row) (rows : List Row) → length (map f rows) ≡ length rows
as_many f [] = refl
as_many f (x ∷ xs) = ap suc (as_many f xs)

-- ---- one link more
module _ (n : ℕ) (s : State) (t : Chained n s) where
  abbrev added : State
  added = object_result s

  abbrev name : ObjId
  name = numbered (n + 2)

  abbrev linked : State
  linked = write_result added name key_zero (Obj (numbered (n + 1)))

  pub added_whole : WellFormed added
  added_whole = new_row_keeps s Local t.whole (inl refl)

  pub name_local : owner_in added.rows name ≡ Some Local
  name_local = subst (λ o. owner_in added.rows o ≡ Some Local) t.next (owner_new s Local t.whole (inl refl))

  owner_added : (o : ObjId) → owner_in added.rows o ≡ cond (same_name name o) (Some Local) (owner_in s.rows o)
  owner_added o = owner_at s Local t.whole (inl refl) o ∙ ap (λ z. cond (same_name z o) (Some Local) (owner_in s.rows o)) t.next

  before_there : owner_in added.rows (numbered (n + 1)) ≡ Some Local
  before_there = owner_added (numbered (n + 1)) ∙ (elim (same_name name (numbered (n + 1))) as (λ b. cond b (Some Local) (owner_in s.rows (numbered (n + 1))) ≡ Some Local) [ true ↦ refl | false ↦ t.last ])

  may_hold : SlotMayHold added (Obj (numbered (n + 1)))
  may_hold = record {
    object_there = λ p m. elim m [
      | inl k ↦ subst (λ z. from_near (owner_of added z) ≡ true) k (ap (λ z. from_near (or_frozen (has_row added.given (numbered (n + 1)) || has_row added.own (numbered (n + 1))) z)) before_there)
      | inr z ↦ absurd z
    ];
    cown_numbered = λ c m. absurd m;
  }

  linked_whole : WellFormed linked
  linked_whole = (write_law added added_whole name key_zero (Obj (numbered (n + 1))) may_hold Local name_local).0 (local_allowed added added_whole name key_zero (Obj (numbered (n + 1))) name_local)

  rows_linked : linked.rows ≡ write_fields added.rows name key_zero (Obj (numbered (n + 1)))
  rows_linked = ap (moved (write_fields added.rows name key_zero (Obj (numbered (n + 1)))) (move_set added (Obj (numbered (n + 1))))) name_local

  owner_linked : (o : ObjId) → owner_in linked.rows o ≡ owner_in added.rows o
  owner_linked o = ap (λ rows. owner_in rows o) rows_linked ∙ owner_write added.rows name key_zero (Obj (numbered (n + 1))) o

  owner_before : (o : ObjId) → owner_in linked.rows o ≡ cond (same_name name o) (Some Local) (owner_in s.rows o)
  owner_before o = owner_linked o ∙ owner_added o

  link_local : (o : ObjId) (w : Owner) → cond (same_name name o) (Some Local) (owner_in s.rows o) ≡ Some w → w ≡ Local
  link_local o w = elim (same_name name o) as (λ b. cond b (Some Local) (owner_in s.rows o) ≡ Some w → w ≡ Local) [
    | true ↦ λ e. sym (some_is Local w e)
    | false ↦ λ e. t.local o w e
  ]

  link_suspect : (o : ObjId) (w : Owner) → cond (same_name name o) (Some Local) (owner_in s.rows o) ≡ Some w → Member (Object o) (chain_suspects (suc n))
  link_suspect o w = elim (same_name name o) as (λ b. same_name name o ≡ b → cond b (Some Local) (owner_in s.rows o) ≡ Some w → Member (Object o) (chain_suspects (suc n))) [
    | true ↦ λ same e. inl (ap Object (same_name_is name o same))
    | false ↦ λ same e. inr (t.suspect o w e)
  ] refl

  last_number : n + 2 ≡ suc n + 1
  last_number = omega arith

  pub chained_more : Chained (suc n) linked
  chained_more = record {
    whole = linked_whole;
    next = ap (λ (z : ObjId). record { birth = z.birth; seq = z.seq + 1 }) t.next ∙ ap numbered (omega arith);
    count = ap (λ (rows : List Row). length rows) rows_linked ∙ (as_many _ added.rows ∙ (one_more _ s.rows ∙ omega (arith, t.count)));
    few = omega (arith, t.few, cells_row s Local, cells_write added name key_zero (Obj (numbered (n + 1))) added_whole);
    local = λ o w e. link_local o w (sym (owner_before o) ∙ e);
    suspect = λ o w e. link_suspect o w (sym (owner_before o) ∙ e);
    last = subst (λ m. owner_in linked.rows (numbered m) ≡ Some Local) last_number (owner_linked name ∙ name_local);
  }

-- ---- from one row on
abbrev one : State
one = object_result (first_state 1 [])

owner_one : (o : ObjId) → owner_in one.rows o ≡ cond (same_name (numbered 1) o) (Some Local) None
owner_one = owner_at (first_state 1 []) Local well_none (inl refl)

one_local : (o : ObjId) (w : Owner) → cond (same_name (numbered 1) o) (Some Local) None ≡ Some w → w ≡ Local
one_local o w = elim (same_name (numbered 1) o) as (λ b. cond b (Some Local) None ≡ Some w → w ≡ Local) [
  | true ↦ λ e. sym (some_is Local w e)
  | false ↦ λ e. cc
]

one_suspect : (o : ObjId) (w : Owner) → cond (same_name (numbered 1) o) (Some Local) None ≡ Some w → Member (Object o) (chain_suspects 0)
one_suspect o w = elim (same_name (numbered 1) o) as (λ b. same_name (numbered 1) o ≡ b → cond b (Some Local) None ≡ Some w → Member (Object o) (chain_suspects 0)) [
  | true ↦ λ same e. inl (ap Object (same_name_is (numbered 1) o same))
  | false ↦ λ same e. cc
] refl

chained_one : Chained 0 one
chained_one = record {
  whole = one_whole;
  next = refl;
  count = refl;
  few = omega arith;
  local = λ o w e. one_local o w (sym (owner_one o) ∙ e);
  suspect = λ o w e. one_suspect o w (sym (owner_one o) ∙ e);
  last = refl;
}

pub chained : (n : ℕ) → Chained n (chain n)
chained zero = chained_one
chained (suc n) = chained_more n (chain n) (chained n)

-- ---- what the calls of the trial ask for
one_up : (n : ℕ) → suc n ≡ n + 1
one_up n = omega arith

pub link_domain : (n : ℕ) (rows new : List CountedRow) (regions : List Region) → n < 2 ^ 31 → SameByOwner new rows → CountsOf rows regions (object_result (chain n)) → IsDomain new regions (object_result (chain n))
link_domain n rows new regions few same counts = record {
  counts = same_rows_count rows new regions (object_result (chain n)).rows (near_edges (object_result (chain n))) same counts;
  well_formed = added_whole n (chain n) (chained n);
  few = omega (arith, few, (chained n).few, cells_row (chain n) Local, near_fit (object_result (chain n)));
}

pub link_local_now : (n : ℕ) → owner_in (object_result (chain n)).rows (numbered (n + 2)) ≡ Some Local
link_local_now n = name_local n (chain n) (chained n)

pub link_counts : (n : ℕ) (rows : List CountedRow) (regions : List Region) → CountsOf rows regions (chain (suc n)) → CountsOf rows regions (chain (n + 1))
link_counts n rows regions = subst (λ m. CountsOf rows regions (chain m)) (one_up n)

pub more_suspects : (n : ℕ) (w : List Suspect) → w ≡ chain_suspects n → Object (numbered (n + 2)) ∷ w ≡ chain_suspects (n + 1)
more_suspects n w e = ap (λ l. Object (numbered (n + 2)) ∷ l) e ∙ ap chain_suspects (one_up n)

no_region : (r : ObjId) (w : Option Owner) → ((u : Owner) → w ≡ Some u → u ≡ Local) → is_in r w ≡ false
no_region r None h = refl
no_region r (Some u) h = ap (λ z. is_in r (Some z)) (h u refl)

none_left : (p : ObjId → Bool) → ((o : ObjId) → p o ≡ false) → (os : List ObjId) → filter p os ≡ []
none_left p h [] = refl
none_left p h (o ∷ os) = ap (λ b. cond b (o ∷ filter p os) (filter p os)) (h o) ∙ none_left p h os

chain_bridges : (n : ℕ) → bridges (chain n) ≡ []
chain_bridges n = none_left (is_bridge (chain n).rows) (λ r. no_region r (owner_in (chain n).rows r) ((chained n).local r)) (names (chain n).rows)

chain_watched : (n : ℕ) → Watched (chain n) (chain_suspects n)
chain_watched n = record {
  locals = λ o here e. (chained n).suspect o Local here;
  regions = λ r here e. absurd (in_not_local r (ap Some ((chained n).local r (In r) here)));
  inners = λ o r here e k p. (chained n).suspect o (In r) here;
}

pub chain_may_settle : (n : ℕ) (rows : List CountedRow) (regions : List Region) (work : WorkList) → CountsOf rows regions (chain n) → work.suspects ≡ chain_suspects n → n + 1 ≤ work.spare
    → CanSettle rows regions work (chain n)
chain_may_settle n rows regions work counts suspects room = record {
  can_drop = record {
    counted = record { counts = counts; well_formed = (chained n).whole };
    room = omega (arith, room, justified_most (chain n), (chained n).count, ap (λ (os : List ObjId). length os) (chain_bridges n));
  };
  watched = subst (Watched (chain n)) (sym suspects) (chain_watched n);
}
