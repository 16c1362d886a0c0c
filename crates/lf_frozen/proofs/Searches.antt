-- What a search by halves finds among rows that rise by name.
use Rattle.std.proofs.Common.{List, None, Option, Some, [], ap, arith, cond, false, find, get_or, inl, inr, length, map, not, option_map, refl, slice_get, subst, suc, sym, true, zero, Bool, ℕ, ◌<◌, ◌≤◌, ◌∙◌, ◌∷◌, ◌≡◌}
use Rattle.std.specs.List.{All}
use Rattle.std.specs.List.Sorted.{IsPartitionPoint, IsPartitionedBy}
use Rattle.std.proofs.lemmas.Bool.{both_ways}
use Rattle.std.proofs.lemmas.List.Elements.{All-head, All-tail}
use Rattle.std.proofs.lemmas.Option.{slice_get-get_or, slice_get_past}
use Rattle.lf_base.specs.declared.ids.ObjId.{ObjId}
use Rattle.lf_base.specs.Names.{name_below, same_name}
use Rattle.lf_base.specs.Sets.{InOrder, Member}
use Rattle.lf_base.proofs.ListLemmas.Members.{Member_map}
use Rattle.lf_base.proofs.ListLemmas.Sublists.{order_all, order_tail}
use Rattle.lf_base.proofs.ListLemmas.Tests.{by_test}
use Rattle.lf_base.proofs.NameLemmas.NameOrder.{below_apart, name_below_trans, other_below}
use Rattle.lf_base.proofs.NameLemmas.SameNames.{other_way}
use Rattle.lf_frozen.specs.declared.entry.RowEntry.{RowEntry}
use Rattle.lf_frozen.specs.declared.row.FrozenRow.{FrozenRow}
use Rattle.lf_frozen.specs.Entries.{EntriesRise, IsPlace, IsPlaceAfter, LeadsToRow, is_passed, row_behind}
use Rattle.lf_frozen.specs.FrozenRows.{RiseByName, frozen_at, frozen_names, next_frozen}
use Rattle.lf_frozen.proofs.RisenRows.{below_all, risen_rest}

member_at : {X : Type 0} (xs : List X) (j : ℕ) (d : X) → j < length xs → Member (get_or xs j d) xs
member_at [] j d lt = absurd (omega (arith, lt))
member_at (x ∷ xs) zero d lt = inl refl
member_at (x ∷ xs) (suc j) d lt = inr (member_at xs j d (omega (arith, lt)))

module _ {X : Type 0} (f : X → ObjId) (p : ObjId → Bool) (down : (a b : ObjId) → name_below a b ≡ true → p b ≡ true → p a ≡ true) where
  -- a test that holds of all lesser names too parts a list that rises
  parted : (xs : List X) → InOrder name_below (map f xs) → IsPartitionedBy (λ x. p (f x)) xs
  parted [] rise i j d le lt h = absurd (omega (arith, lt))
  parted (x ∷ xs) rise zero zero d le lt h = h
  parted (x ∷ xs) rise zero (suc j) d le lt h =
      down (f x) (f (get_or xs j d))
      (order_all name_below name_below_trans (f x) (map f xs) rise (f (get_or xs j d))
      (Member_map f (get_or xs j d) xs (member_at xs j d (omega (arith, lt)))))
      h
  parted (x ∷ xs) rise (suc i) zero d le lt h = absurd (omega (arith, le))
  parted (x ∷ xs) rise (suc i) (suc j) d le lt h =
      parted xs (order_tail name_below name_below_trans (f x) (map f xs) rise) i j d (omega (arith, le)) (omega (arith, lt)) h

passed_down : (o : ObjId) (equal : Bool) (a b : ObjId) → name_below a b ≡ true → is_passed o equal b ≡ true → is_passed o equal a ≡ true
passed_down o false a b lt h = name_below_trans a b o lt h
passed_down o true a b lt h =
    by_test (name_below o a)
    (λ e. absurd (both_ways (not (name_below o b)) (ap not (name_below_trans o a b e lt)) h))
    (λ e. ap not e)

-- the names that a search passes part the entries
pub entries_parted : (entries : List RowEntry) (o : ObjId) (equal : Bool) → EntriesRise entries
    → IsPartitionedBy (λ (entry : RowEntry). is_passed o equal entry.name) entries
entries_parted entries o equal rise = parted (λ (entry : RowEntry). entry.name) (is_passed o equal) (passed_down o equal) entries rise

-- the first item that fails the test stands where a search by halves ends
first_failing : {X Y : Type 0} (f : X → Y) (p : Y → Bool) (xs : List X) (i : ℕ)
    → IsPartitionPoint (λ x. p (f x) ≡ true) (λ x. p (f x) ≡ false) xs i → find (λ y. not (p y)) (map f xs) ≡ option_map f (slice_get xs i)
first_failing f p [] i point = refl
first_failing f p (x ∷ xs) zero point = ap (λ b. cond (not b) (Some (f x)) (find (λ y. not (p y)) (map f xs)))
    (point.1 zero x (omega arith) (omega arith))
first_failing f p (x ∷ xs) (suc i) point =
    ap (λ b. cond (not b) (Some (f x)) (find (λ y. not (p y)) (map f xs))) (point.0 zero x (omega arith) (omega arith))
    ∙ first_failing f p xs i (
      λ k d le lt. point.0 (suc k) d (omega (arith, le)) (omega (arith, lt)),
      λ k d le lt. point.1 (suc k) d (omega (arith, le)) (omega (arith, lt)),
    )

-- the row of a place is the first that the search doesn't pass
pub first_unpassed : (own : List FrozenRow) (entries : List RowEntry) (o : ObjId) (equal : Bool) (at : ℕ) → All (LeadsToRow own) entries
    → at ≤ length entries → IsPlace o equal entries at
    → find (λ (row : FrozenRow). not (is_passed o equal row.id)) (map (row_behind own) entries) ≡ option_map (row_behind own) (slice_get entries at)
first_unpassed own entries o equal at leads within point =
    first_failing (row_behind own) (λ (row : FrozenRow). is_passed o equal row.id) entries at (
      λ k d le lt. ap (is_passed o equal) (leads k d (omega (arith, lt, within))).1 ∙ point.0 k d le lt,
      λ k d le lt. ap (is_passed o equal) (leads k d lt).1 ∙ point.1 k d le lt,
    )

-- the row where it has the name
abbrev pub if_named : ObjId → Option FrozenRow → Option FrozenRow
if_named o None = None
if_named o (Some row) = cond (same_name row.id o) (Some row) None

none_above : (rows : List FrozenRow) (o : ObjId) → ((y : FrozenRow) → Member y rows → name_below o y.id ≡ true) → frozen_at rows o ≡ None
none_above [] o above = refl
none_above (x ∷ xs) o above =
    ap (λ b. cond b (Some x) (frozen_at xs o)) (other_way o x.id (below_apart o x.id (above x (inl refl))))
    ∙ none_above xs o (λ y m. above y (inr m))

-- the row of a name is the first one that isn't below it, or there is none
named_first : (rows : List FrozenRow) (o : ObjId) → RiseByName rows
    → frozen_at rows o ≡ if_named o (find (λ (row : FrozenRow). not (name_below row.id o)) rows)
named_first [] o rise = refl
named_first (x ∷ xs) o rise = go (name_below x.id o) (same_name x.id o) refl refl (named_first xs o (risen_rest x xs rise))
  where
    go : (b s : Bool) → name_below x.id o ≡ b → same_name x.id o ≡ s
        → frozen_at xs o ≡ if_named o (find (λ (row : FrozenRow). not (name_below row.id o)) xs)
        → frozen_at (x ∷ xs) o ≡ if_named o (cond (not b) (Some x) (find (λ (row : FrozenRow). not (name_below row.id o)) xs))
    go true s below same later = ap (λ t. cond t (Some x) (frozen_at xs o)) (below_apart x.id o below) ∙ later
    go false true below same later = ap (λ t. cond t (Some x) (frozen_at xs o)) same ∙ sym (ap (λ t. cond t (Some x) None) same)
    go false false below same later =
        ap (λ t. cond t (Some x) (frozen_at xs o)) same
        ∙ none_above xs o (λ y m. name_below_trans o x.id y.id (other_below x.id o below same) (below_all x xs rise y m))
        ∙ sym (ap (λ t. cond t (Some x) None) same)

names_of : (own : List FrozenRow) (entries : List RowEntry) → All (LeadsToRow own) entries
    → frozen_names (map (row_behind own) entries) ≡ map (λ (entry : RowEntry). entry.name) entries
names_of own [] leads = refl
names_of own (e ∷ es) leads = λ i. (All-head (LeadsToRow own) e es leads).1 i ∷ names_of own es (All-tail (LeadsToRow own) e es leads) i

pub rows_rise : (own : List FrozenRow) (entries : List RowEntry) → All (LeadsToRow own) entries → EntriesRise entries
    → RiseByName (map (row_behind own) entries)
rows_rise own entries leads rise = subst (InOrder name_below) (sym (names_of own entries leads)) rise

next_first : (own : List FrozenRow) (entries : List RowEntry)
    → next_frozen (map (row_behind own) entries) None ≡ option_map (row_behind own) (slice_get entries 0)
next_first own [] = refl
next_first own (e ∷ es) = refl

-- the entry of a place that was looked up
entry_there : (entries : List RowEntry) (at : ℕ) (e : RowEntry) → at < length entries → e ≡ get_or entries at e
    → slice_get entries at ≡ Some e
entry_there entries at e lt is = slice_get-get_or entries at e lt ∙ ap Some (sym is)

twice_not : (b : Bool) → not (not b) ≡ b
twice_not true = refl
twice_not false = refl

-- a table whose entries lead to rows of their names, and rise
module _ (own : List FrozenRow) (entries : List RowEntry) (leads : All (LeadsToRow own) entries) where
  -- what a search for a name finds
  module _ (rise : EntriesRise entries) (o : ObjId) (at : ℕ) (within : at ≤ length entries) (point : IsPlace o false entries at) where
    found : frozen_at (map (row_behind own) entries) o ≡ if_named o (option_map (row_behind own) (slice_get entries at))
    found = named_first (map (row_behind own) entries) o (rows_rise own entries leads rise)
        ∙ ap (if_named o) (first_unpassed own entries o false at leads within point)

    tested : (e : RowEntry) → at < length entries → e ≡ get_or entries at e
        → frozen_at (map (row_behind own) entries) o ≡ cond (same_name e.name o) (Some (row_behind own e)) None
    tested e lt is =
        found
        ∙ ap (λ x. if_named o (option_map (row_behind own) x)) (entry_there entries at e lt is)
        ∙ ap (λ n. cond (same_name n o) (Some (row_behind own e)) None)
        (subst (λ (x : RowEntry). (row_behind own x).id ≡ x.name) (sym is) (leads at e lt).1)

    pub found_here : (e : RowEntry) → at < length entries → e ≡ get_or entries at e → same_name e.name o ≡ true
        → Some (row_behind own e) ≡ frozen_at (map (row_behind own) entries) o
    found_here e lt is same = sym (tested e lt is ∙ ap (λ b. cond b (Some (row_behind own e)) None) same)

    pub other_here : (e : RowEntry) → at < length entries → e ≡ get_or entries at e → same_name e.name o ≡ false
        → None ≡ frozen_at (map (row_behind own) entries) o
    other_here e lt is other = sym (tested e lt is ∙ ap (λ b. cond b (Some (row_behind own e)) None) other)

    pub none_here : length entries ≤ at → None ≡ frozen_at (map (row_behind own) entries) o
    none_here past = sym (found ∙ ap (λ x. if_named o (option_map (row_behind own) x)) (slice_get_past entries at past))

  -- what a search for the next name finds
  next_at : (after : Option ObjId) (at : ℕ) → at ≤ length entries → IsPlaceAfter after entries at
      → next_frozen (map (row_behind own) entries) after ≡ option_map (row_behind own) (slice_get entries at)
  next_at (Some a) at within point =
      sym (λ i. find (λ (row : FrozenRow). twice_not (name_below a row.id) i) (map (row_behind own) entries))
      ∙ first_unpassed own entries a true at leads within point
  next_at None at within point = next_first own entries ∙ ap (λ k. option_map (row_behind own) (slice_get entries k)) (sym point)

  module _ (after : Option ObjId) (at : ℕ) (within : at ≤ length entries) (point : IsPlaceAfter after entries at) where
    pub next_here : (e : RowEntry) → at < length entries → e ≡ get_or entries at e
        → Some (row_behind own e) ≡ next_frozen (map (row_behind own) entries) after
    next_here e lt is = sym (next_at after at within point ∙ ap (option_map (row_behind own)) (entry_there entries at e lt is))

    pub next_nowhere : length entries ≤ at → None ≡ next_frozen (map (row_behind own) entries) after
    next_nowhere past = sym (next_at after at within point ∙ ap (option_map (row_behind own)) (slice_get_past entries at past))
