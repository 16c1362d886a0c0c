-- Regions that a walk lists, one list after the other, and the list cut back.
use Rattle.std.proofs.Common.{Bool, List, None, Option, Some, [], ap, arith, cond, false, length, map, not, refl, reverse, slice_get, subst, suc, sym, take, true, zero, ℕ, ◌+◌, ◌++◌, ◌<◌, ◌||◌, ◌∙◌, ◌∷◌, ◌≡◌, ◌≤◌}
use Rattle.std.proofs.lemmas.Bool.{and_parts}
use Rattle.std.proofs.lemmas.List.{append-nil, append_assoc, length-append, length-map, length-reverse, map-append, reverse-append, reverse-reverse}
use Rattle.std.proofs.lemmas.List.Elements.{filter-append}
use Rattle.std.proofs.lemmas.List.Folds.{list_any-append}
use Rattle.std.proofs.Math.Seq.{take-append_seam}
use Rattle.lf_base.specs.declared.ids.ObjId.{ObjId}
use Rattle.lf_base.specs.declared.values.Owner.{Owner}
use Rattle.lf_base.specs.declared.values.Owner.TheVariants.{Frozen, In, Local}
use Rattle.lf_base.specs.Names.{same_name}
use Rattle.lf_base.specs.Suspects.{Region as region_place}
use Rattle.lf_base.proofs.NameLemmas.SameNames.{same_name_is}
use Rattle.lf_barrier.specs.Descents.{is_child}
use Rattle.lf_graph.specs.StoredRows.{CountedRow, owner_at}
use Rattle.lf_regions.specs.declared.region.Region.{Region}
use Rattle.lf_settle.specs.Drops.{SameCapacity}
use Rattle.lf_settle.specs.WorkLists.{WorkList}
use Rattle.lf_heap.specs.Openness.{HasChildRoom, Lists, Looks, children_among, some_borrowed}

-- ---- lists of regions
pub lists_none : (work : WorkList) → Lists work work []
lists_none work = record { listed = sym (append-nil (reverse work.suspects)); room = omega arith }

pub lists_one : (old new : WorkList) (o : ObjId) → new.suspects ≡ region_place o ∷ old.suspects → new.spare + 1 ≡ old.spare → Lists old new (o ∷ [])
lists_one old new o e room = record { listed = ap reverse e ∙ reverse-append (region_place o ∷ []) old.suspects; room = room }

pub lists_on : (a b c : WorkList) (os ps : List ObjId) → Lists a b os → Lists b c ps → Lists a c (os ++ ps)
lists_on a b c os ps f g = record {
  listed = g.listed ∙ ap (λ l. l ++ map region_place ps) f.listed ∙ append_assoc (reverse a.suspects) (map region_place os) (map region_place ps)
      ∙ ap (λ l. reverse a.suspects ++ l) (sym (map-append region_place os ps));
  room = omega (arith, f.room, g.room, length-append os ps);
}

pub lists_longer : (old new : WorkList) (os : List ObjId) → Lists old new os → length new.suspects ≡ length old.suspects + length os
lists_longer old new os f = omega (
  arith,
  length-reverse new.suspects,
  length-reverse old.suspects,
  ap length f.listed,
  length-append (reverse old.suspects) (map region_place os),
  length-map os region_place,
)

-- cut back to its length before, the list is what it was
pub cut_back : (old now new : WorkList) (os : List ObjId) (start : ℕ) → Lists old now os → start ≡ length old.suspects → reverse new.suspects ≡ take start (reverse now.suspects) → SameCapacity now new
    → new ≡ old
cut_back old now new os start f is cut capacity =
    let at : start ≡ length (reverse old.suspects) = is ∙ sym (length-reverse old.suspects) in
    let back : reverse new.suspects ≡ reverse old.suspects = cut ∙ (λ i. take (at i) (f.listed i)) ∙ take-append_seam (reverse old.suspects) (map region_place os) in
    let suspects : new.suspects ≡ old.suspects = sym (reverse-reverse new.suspects) ∙ ap reverse back ∙ reverse-reverse old.suspects in
    let spare : new.spare ≡ old.spare = omega (arith, f.room, lists_longer old now os f, capacity, ap length suspects) in
    (λ i. record { suspects = suspects i; spare = spare i })

-- ---- places of the list
after_prefix : {X : Type 0} (xs ys : List X) (n : ℕ) → length xs ≡ n → slice_get (xs ++ ys) n ≡ slice_get ys 0
after_prefix [] ys n e = ap (slice_get ys) (sym e)
after_prefix (x ∷ xs) ys zero e = absurd (omega (arith, e))
after_prefix (x ∷ xs) ys (suc n) e = after_prefix xs ys n (omega (arith, e))

-- of the regions that were put on the list some are done, and the place is that of the first one left
module _ (old now : WorkList) (done left : List ObjId) (at : ℕ) (f : Lists old now (done ++ left)) (place : at ≡ length old.suspects + length done) where
  listed_length : length now.suspects ≡ at + length left
  listed_length = omega (arith, lists_longer old now (done ++ left) f, length-append done left, place)

  first_left : slice_get (reverse now.suspects) at ≡ slice_get (map region_place left) 0
  first_left =
      let before = reverse old.suspects ++ map region_place done in
      ap (λ l. slice_get l at) (f.listed ∙ ap (λ l. reverse old.suspects ++ l) (map-append region_place done left) ∙ sym (append_assoc (reverse old.suspects) (map region_place done) (map region_place left)))
      ∙ after_prefix before (map region_place left) at (omega (
        arith,
        place,
        length-append (reverse old.suspects) (map region_place done),
        length-reverse old.suspects,
        length-map done region_place,
      ))

  pub region_listed : at < length now.suspects → (q : ObjId) × (slice_get (reverse now.suspects) at ≡ Some (region_place q))
  region_listed less = go left refl where
    go : (rest : List ObjId) → left ≡ rest → (q : ObjId) × (slice_get (reverse now.suspects) at ≡ Some (region_place q))
    go [] e = absurd (omega (arith, less, listed_length, ap length e))
    go (q ∷ rest) e = (q, first_left ∙ ap (λ l. slice_get (map region_place l) 0) e)

  pub left_from : (q : ObjId) → slice_get (reverse now.suspects) at ≡ Some (region_place q) → (rest : List ObjId) × (left ≡ q ∷ rest)
  left_from q is = go left (sym first_left ∙ is) where
    go : (rest : List ObjId) → slice_get (map region_place rest) 0 ≡ Some (region_place q) → (others : List ObjId) × (rest ≡ q ∷ others)
    go [] e = absurd (let z : None ≡ Some (region_place q) = e in cc)
    go (x ∷ xs) e = let same : x ≡ q = cc in (xs, ap (λ y. y ∷ xs) same)

  pub none_left : length now.suspects ≤ at → left ≡ []
  none_left most = go left refl where
    go : (rest : List ObjId) → left ≡ rest → left ≡ []
    go [] e = e
    go (x ∷ xs) e = absurd (omega (arith, most, listed_length, ap length e))

-- ---- what was looked at
module _ (rows : List CountedRow) (regions : List Region) (r : ObjId) where
  abbrev child : ObjId → Bool
  child o = is_child r o (owner_at rows o)

  pub looks_none : (work : WorkList) → Looks rows regions r [] work work false
  looks_none work = record { lists = lists_none work; told = refl }

  pub looks_on : (os ps : List ObjId) (a b c : WorkList) (first second : Bool) → Looks rows regions r os a b first → Looks rows regions r ps b c second
      → Looks rows regions r (os ++ ps) a c (first || second)
  looks_on os ps a b c first second f g =
      let all : children_among rows r (os ++ ps) ≡ children_among rows r os ++ children_among rows r ps = filter-append child os ps in
      record {
        lists = subst (Lists a c) (sym all) (lists_on a b c (children_among rows r os) (children_among rows r ps) f.lists g.lists);
        told = (λ i. f.told i || g.told i) ∙ sym (list_any-append _ (children_among rows r os) (children_among rows r ps)) ∙ ap (some_borrowed regions) (sym all);
      }

  -- what was looked at has taken its own room alone
  pub room_left : (os ps qs : List ObjId) (a b : WorkList) (found : Bool) → Looks rows regions r os a b found → HasChildRoom rows r (os ++ (ps ++ qs)) a → HasChildRoom rows r ps b
  room_left os ps qs a b found f room = omega (
    arith,
    room,
    (f.lists).room,
    ap length (filter-append child os (ps ++ qs)),
    ap length (filter-append child ps qs),
    length-append (children_among rows r os) (children_among rows r (ps ++ qs)),
    length-append (children_among rows r ps) (children_among rows r qs),
  )

  only_child : (o : ObjId) (b : Bool) → child o ≡ b → children_among rows r (o ∷ []) ≡ cond b (o ∷ []) []
  only_child o b e = ap (λ c. cond c (o ∷ []) []) e

  pub looks_child : (o : ObjId) (old new : WorkList) (found : Bool) → child o ≡ true → Lists old new (o ∷ []) → found ≡ some_borrowed regions (o ∷ []) → Looks rows regions r (o ∷ []) old new found
  looks_child o old new found e f told = record {
    lists = subst (Lists old new) (sym (only_child o true e)) f;
    told = told ∙ ap (some_borrowed regions) (sym (only_child o true e));
  }

  pub looks_other : (o : ObjId) (work : WorkList) → child o ≡ false → Looks rows regions r (o ∷ []) work work false
  looks_other o work e = record {
    lists = subst (Lists work work) (sym (only_child o false e)) (lists_none work);
    told = ap (some_borrowed regions) (sym (only_child o false e));
  }

  pub room_for_child : (o : ObjId) (work : WorkList) → child o ≡ true → HasChildRoom rows r (o ∷ []) work → 1 ≤ work.spare
  room_for_child o work e room = omega (arith, room, ap length (only_child o true e))

-- ---- children
pub child_owner : (o r : ObjId) (w : Option Owner) → is_child r o w ≡ true → w ≡ Some (In o)
child_owner o r (Some (In q)) e = ap (λ n. Some (In n)) (same_name_is q o (and_parts (same_name q o) (not (same_name r o)) e).0)
child_owner o r (Some Local) e = absurd (let z : false ≡ true = e in cc)
child_owner o r (Some Frozen) e = absurd (let z : false ≡ true = e in cc)
child_owner o r None e = absurd (let z : false ≡ true = e in cc)
