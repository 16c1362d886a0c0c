-- The k-th unit is found by pairs, and what counts and the sums above them do when one changes.
use Rattle.std.proofs.Common.{Bool, eqb, take, zero, subst, List, [], ap, arith, cond, false, ltb, refl, suc, sym, true, ℕ, ◌*◌, ◌+◌, ◌-◌, ◌/◌, ◌<◌, ◌≤◌, ◌^◌, ◌∙◌, ◌∷◌, ◌++◌, ◌≡◌, inl, inr, get_or, set, length, replicate}
use Rattle.std.specs.List.{All}
use Rattle.std.proofs.lemmas.Bool.{cases_Bool, le-ltb, lt-ltb, ltb-false, ltb-true}
use Rattle.std.proofs.Common.{length-set}
use Rattle.lf_queue.specs.Counts.{HasPlace, HasUnit, IsBit, IsTower, changed, changed_to, find, first_level, halved, later, pair_sums, refine, total}

later_cond : (b : Bool) (p q : ℕ × ℕ) → later (cond b p q) ≡ cond b (later p) (later q)
later_cond true p q = refl
later_cond false p q = refl

twice : (n : ℕ) → 2 * suc n ≡ suc (suc (2 * n))
twice n = omega arith

-- one pair further on
further : (x y : ℕ) (xs : List ℕ) (p : ℕ × ℕ) → refine (x ∷ (y ∷ xs)) (later p) ≡ later (later (refine xs p))
further x y xs p =
    ap (λ n. cond (ltb p.1 (get_or (x ∷ (y ∷ xs)) n 0)) (n, p.1) (suc n, p.1 - get_or (x ∷ (y ∷ xs)) n 0)) (twice p.0)
    ∙ elim (ltb p.1 (get_or xs (2 * p.0) 0)) as (λ b. cond b (suc (suc (2 * p.0)), p.1) (suc (suc (suc (2 * p.0))), p.1 - get_or xs (2 * p.0) 0) ≡ later (later (cond b (2 * p.0, p.1) (suc (2 * p.0), p.1 - get_or xs (2 * p.0) 0)))) [ true ↦ refl | false ↦ refl ]

pub found_pairs : (counts : List ℕ) (k : ℕ) → k < total counts → find counts k ≡ refine counts (find (pair_sums counts) k)
found_pairs [] k h = absurd (omega arith)
found_pairs (x ∷ []) k h = ap (λ b. cond b (0, k) (later (0, k - x))) low ∙ sym (ap (λ b. refine (x ∷ []) (cond b (0, k) (later (0, k - x)))) low ∙ ap (λ b. cond b (0, k) (1, k - x)) low)
  where
    low : ltb k x ≡ true
    low = lt-ltb k x (omega arith)
found_pairs (x ∷ (y ∷ xs)) k h = elim (cases_Bool (ltb k x)) [
  | inl a ↦
      let both : ltb k (x + y) ≡ true = lt-ltb k (x + y) (let z = ltb-true k x a in omega arith) in
      ap (λ b. cond b (0, k) (later (find (y ∷ xs) (k - x)))) a
      ∙ sym (ap (λ b. refine (x ∷ (y ∷ xs)) (cond b (0, k) (later (find (pair_sums xs) (k - (x + y)))))) both ∙ ap (λ b. cond b (0, k) (1, k - x)) a)
  | inr a ↦ elim (cases_Bool (ltb (k - x) y)) [
    | inl c ↦
        let both : ltb k (x + y) ≡ true = lt-ltb k (x + y) (let z = ltb-true (k - x) y c in let w = ltb-false k x a in omega arith) in
        ap (λ b. cond b (0, k) (later (find (y ∷ xs) (k - x)))) a ∙ ap (λ b. later (cond b (0, k - x) (later (find xs ((k - x) - y))))) c
        ∙ sym (ap (λ b. refine (x ∷ (y ∷ xs)) (cond b (0, k) (later (find (pair_sums xs) (k - (x + y)))))) both ∙ ap (λ b. cond b (0, k) (1, k - x)) a)
    | inr c ↦
        let w = ltb-false k x a in
        let v = ltb-false (k - x) y c in
        let both : ltb k (x + y) ≡ false = le-ltb k (x + y) (omega arith) in
        let same : (k - x) - y ≡ k - (x + y) = omega arith in
        ap (λ b. cond b (0, k) (later (find (y ∷ xs) (k - x)))) a ∙ ap (λ b. later (cond b (0, k - x) (later (find xs ((k - x) - y))))) c
        ∙ ap (λ n. later (later (find xs n))) same
        ∙ ap (λ q. later (later q)) (found_pairs xs (k - (x + y)) (omega arith))
        ∙ sym (ap (λ b. refine (x ∷ (y ∷ xs)) (cond b (0, k) (later (find (pair_sums xs) (k - (x + y)))))) both ∙ further x y xs (find (pair_sums xs) (k - (x + y))))
  ]
]

-- the unit stands within a count of the list
pub found_within : (counts : List ℕ) (k : ℕ) → k < total counts → ((find counts k).0 < length counts) × ((find counts k).1 < get_or counts (find counts k).0 0)
found_within [] k h = absurd (omega arith)
found_within (x ∷ xs) k h = elim (ltb k x) as (λ b. ltb k x ≡ b → ((cond b (0, k) (later (find xs (k - x)))).0 < suc (length xs)) × ((cond b (0, k) (later (find xs (k - x)))).1 < get_or (x ∷ xs) (cond b (0, k) (later (find xs (k - x)))).0 0)) [
  | true ↦ λ e. (omega arith, ltb-true k x e)
  | false ↦ λ e. let z = ltb-false k x e in let r = found_within xs (k - x) (omega arith) in (omega (arith, r.0), r.1)
] refl

pub pairs_total : (counts : List ℕ) → total (pair_sums counts) ≡ total counts
pairs_total [] = refl
pairs_total (x ∷ []) = refl
pairs_total (x ∷ (y ∷ xs)) = let e = pairs_total xs in omega arith

pub one_in_total : (counts : List ℕ) (at : ℕ) → get_or counts at 0 ≤ total counts
one_in_total [] at = omega arith
one_in_total (x ∷ xs) zero = omega arith
one_in_total (x ∷ xs) (suc at) = let e = one_in_total xs at in omega arith

half_suc : (n : ℕ) → suc (suc n) / 2 ≡ suc (n / 2)
half_suc n = omega arith

pub pair_place : (counts : List ℕ) (at : ℕ) → at < length counts → at / 2 < length (pair_sums counts)
pair_place [] at h = absurd (omega arith)
pair_place (x ∷ []) at h = omega arith
pair_place (x ∷ (y ∷ xs)) zero h = omega arith
pair_place (x ∷ (y ∷ xs)) (suc zero) h = omega arith
pair_place (x ∷ (y ∷ xs)) (suc (suc at)) h = let e = pair_place xs at (omega arith) in let d = half_suc at in omega arith

pub pair_has : (counts : List ℕ) (at : ℕ) → get_or counts at 0 ≤ get_or (pair_sums counts) (at / 2) 0
pair_has [] at = omega arith
pair_has (x ∷ []) zero = omega arith
pair_has (x ∷ []) (suc at) = omega arith
pair_has (x ∷ (y ∷ xs)) zero = omega arith
pair_has (x ∷ (y ∷ xs)) (suc zero) = omega arith
pair_has (x ∷ (y ∷ xs)) (suc (suc at)) = subst (λ n. get_or xs at 0 ≤ get_or ((x + y) ∷ pair_sums xs) n 0) (sym (half_suc at)) (pair_has xs at)

pub pair_sums_set : (counts : List ℕ) (at n : ℕ) → at < length counts → (get_or (pair_sums counts) (at / 2) 0 + n) ≡ (get_or counts at 0 + n) + (get_or (pair_sums counts) (at / 2) 0 - get_or counts at 0)
pair_sums_set counts at n h = let e = pair_has counts at in omega arith

-- a count that is 1 more
pub raised_pairs : (counts : List ℕ) (at : ℕ) → at < length counts → pair_sums (set counts at (get_or counts at 0 + 1)) ≡ set (pair_sums counts) (at / 2) (get_or (pair_sums counts) (at / 2) 0 + 1)
raised_pairs [] at h = absurd (omega arith)
raised_pairs (x ∷ []) zero h = refl
raised_pairs (x ∷ []) (suc at) h = absurd (omega arith)
raised_pairs (x ∷ (y ∷ xs)) zero h = ap (λ n. n ∷ pair_sums xs) (omega arith)
raised_pairs (x ∷ (y ∷ xs)) (suc zero) h = ap (λ n. n ∷ pair_sums xs) (omega arith)
raised_pairs (x ∷ (y ∷ xs)) (suc (suc at)) h =
    ap (λ l. (x + y) ∷ l) (raised_pairs xs at (omega arith))
    ∙ ap (λ n. set ((x + y) ∷ pair_sums xs) n (get_or ((x + y) ∷ pair_sums xs) n 0 + 1)) (sym (half_suc at))

-- and one that is 1 less
pub lowered_pairs : (counts : List ℕ) (at : ℕ) → 0 < get_or counts at 0 → pair_sums (set counts at (get_or counts at 0 - 1)) ≡ set (pair_sums counts) (at / 2) (get_or (pair_sums counts) (at / 2) 0 - 1)
lowered_pairs [] at h = absurd (omega arith)
lowered_pairs (x ∷ []) zero h = refl
lowered_pairs (x ∷ []) (suc at) h = absurd (omega arith)
lowered_pairs (x ∷ (y ∷ xs)) zero h = ap (λ n. n ∷ pair_sums xs) (omega arith)
lowered_pairs (x ∷ (y ∷ xs)) (suc zero) h = ap (λ n. n ∷ pair_sums xs) (omega arith)
lowered_pairs (x ∷ (y ∷ xs)) (suc (suc at)) h =
    ap (λ l. (x + y) ∷ l) (lowered_pairs xs at h)
    ∙ ap (λ n. set ((x + y) ∷ pair_sums xs) n (get_or ((x + y) ∷ pair_sums xs) n 0 - 1)) (sym (half_suc at))

-- the levels of a tower
pub level_pairs : (levels : List (List ℕ)) (n : ℕ) → IsTower levels → suc n < length levels → get_or levels (suc n) [] ≡ pair_sums (get_or levels n [])
level_pairs [] n h l = absurd (omega arith)
level_pairs (counts ∷ []) n h l = absurd (omega arith)
level_pairs (counts ∷ (sums ∷ above)) zero h l = h.0
level_pairs (counts ∷ (sums ∷ above)) (suc n) h l = level_pairs (sums ∷ above) n h.1 (omega arith)

pub level_total : (levels : List (List ℕ)) (n : ℕ) → IsTower levels → n < length levels → total (get_or levels n []) ≡ total (first_level levels)
level_total [] n h l = absurd (omega arith)
level_total (counts ∷ above) zero h l = refl
level_total (counts ∷ []) (suc n) h l = absurd (omega arith)
level_total (counts ∷ (sums ∷ above)) (suc n) h l = level_total (sums ∷ above) n h.1 (omega arith) ∙ ap total h.0 ∙ pairs_total counts

pub level_place : (levels : List (List ℕ)) (n at : ℕ) → IsTower levels → HasPlace at levels → n < length levels → halved n at < length (get_or levels n [])
level_place [] n at h p l = absurd (omega arith)
level_place (counts ∷ above) zero at h p l = p
level_place (counts ∷ []) (suc n) at h p l = absurd (omega arith)
level_place (counts ∷ (sums ∷ above)) (suc n) at h p l =
    level_place (sums ∷ above) n (at / 2) h.1 (subst (λ s. at / 2 < length s) (sym h.0) (pair_place counts at p)) (omega arith)

pub level_unit : (levels : List (List ℕ)) (n at : ℕ) → IsTower levels → HasUnit at levels → n < length levels → 0 < get_or (get_or levels n []) (halved n at) 0
level_unit [] n at h p l = absurd (omega arith)
level_unit (counts ∷ above) zero at h p l = p
level_unit (counts ∷ []) (suc n) at h p l = absurd (omega arith)
level_unit (counts ∷ (sums ∷ above)) (suc n) at h p l =
    level_unit (sums ∷ above) n (at / 2) h.1 (subst (λ s. 0 < get_or s (at / 2) 0) (sym h.0) (let e = pair_has counts at in omega arith)) (omega arith)

pub level_last : (levels : List (List ℕ)) (n : ℕ) → IsTower levels → suc n ≡ length levels → length (get_or levels n []) ≤ 1
level_last [] n h l = absurd (omega arith)
level_last (counts ∷ []) zero h l = h
level_last (counts ∷ []) (suc n) h l = absurd (omega arith)
level_last (counts ∷ (sums ∷ above)) zero h l = absurd (omega arith)
level_last (counts ∷ (sums ∷ above)) (suc n) h l = level_last (sums ∷ above) n h.1 (omega arith)

-- one level more is changed
module _ (f : ℕ → ℕ) where
  pub level_left : (n at : ℕ) (levels : List (List ℕ)) → get_or (changed_to f n at levels) n [] ≡ get_or levels n []
  level_left zero at levels = refl
  level_left (suc n) at [] = refl
  level_left (suc n) at (counts ∷ above) = level_left n (at / 2) above

  pub changed_more : (n at : ℕ) (levels : List (List ℕ)) → n < length levels
      → set (changed_to f n at levels) n (set (get_or levels n []) (halved n at) (f (get_or (get_or levels n []) (halved n at) 0))) ≡ changed_to f (suc n) at levels
  changed_more n at [] l = absurd (omega arith)
  changed_more zero at (counts ∷ above) l = refl
  changed_more (suc n) at (counts ∷ above) l = ap (λ ls. set counts at (f (get_or counts at 0)) ∷ ls) (changed_more n (at / 2) above (omega arith))

  pub changed_all : (n at : ℕ) (levels : List (List ℕ)) → length levels ≤ n → changed_to f n at levels ≡ changed f at levels
  changed_all zero at [] l = refl
  changed_all zero at (counts ∷ above) l = absurd (omega arith)
  changed_all (suc n) at [] l = refl
  changed_all (suc n) at (counts ∷ above) l = ap (λ ls. set counts at (f (get_or counts at 0)) ∷ ls) (changed_all n (at / 2) above (omega arith))

  pub changed_length : (n at : ℕ) (levels : List (List ℕ)) → length (changed_to f n at levels) ≡ length levels
  changed_length zero at levels = refl
  changed_length (suc n) at [] = refl
  changed_length (suc n) at (counts ∷ above) = ap suc (changed_length n (at / 2) above)

  pub changed_first : (at : ℕ) (levels : List (List ℕ)) → first_level (changed f at levels) ≡ set (first_level levels) at (f (get_or (first_level levels) at 0))
  changed_first at [] = refl
  changed_first at (counts ∷ above) = refl

halved_more : (n at : ℕ) → halved (suc n) at ≡ halved n at / 2
halved_more zero at = refl
halved_more (suc n) at = halved_more n (at / 2)

pub halved_next : (n at : ℕ) → halved (n + 1) at ≡ halved n at / 2
halved_next n at = let e : n + 1 ≡ suc n = omega arith in ap (λ m. halved m at) e ∙ halved_more n at

-- a tower stays one
pub raised_tower : (at : ℕ) (levels : List (List ℕ)) → IsTower levels → HasPlace at levels → IsTower (changed (λ n. n + 1) at levels)
raised_tower at [] h p = tt
raised_tower at (counts ∷ []) h p = subst (λ n. n ≤ 1) (sym (length-set counts at (get_or counts at 0 + 1))) h
raised_tower at (counts ∷ (sums ∷ above)) h p = (
  ap (λ l. set l (at / 2) (get_or l (at / 2) 0 + 1)) h.0 ∙ sym (raised_pairs counts at p),
  raised_tower (at / 2) (sums ∷ above) h.1 (subst (λ s. at / 2 < length s) (sym h.0) (pair_place counts at p)),
)

pub lowered_tower : (at : ℕ) (levels : List (List ℕ)) → IsTower levels → HasUnit at levels → IsTower (changed (λ n. n - 1) at levels)
lowered_tower at [] h p = tt
lowered_tower at (counts ∷ []) h p = subst (λ n. n ≤ 1) (sym (length-set counts at (get_or counts at 0 - 1))) h
lowered_tower at (counts ∷ (sums ∷ above)) h p = (
  ap (λ l. set l (at / 2) (get_or l (at / 2) 0 - 1)) h.0 ∙ sym (lowered_pairs counts at p),
  lowered_tower (at / 2) (sums ∷ above) h.1 (subst (λ s. 0 < get_or s (at / 2) 0) (sym h.0) (let e = pair_has counts at in omega arith)),
)

-- a pair begins within the list
pub pair_begins : (counts : List ℕ) (place : ℕ) → place < length (pair_sums counts) → 2 * place < length counts
pair_begins [] place h = absurd (omega arith)
pair_begins (x ∷ []) place h = omega arith
pair_begins (x ∷ (y ∷ xs)) zero h = omega arith
pair_begins (x ∷ (y ∷ xs)) (suc place) h = let e = pair_begins xs place (omega arith) in omega arith

-- counts of bits
pub bits_below : (counts : List ℕ) (at : ℕ) → All IsBit counts → at < length counts → get_or counts at 0 ≡ 0 → total counts + 1 ≤ length counts
bits_below [] at h p z = absurd (omega arith)
bits_below (x ∷ xs) zero h p z = let e = bits_total xs (λ k d l. h (suc k) d (omega arith)) in omega arith
  where
    bits_total : (xs : List ℕ) → All IsBit xs → total xs ≤ length xs
    bits_total [] h = omega arith
    bits_total (y ∷ ys) h = let e = bits_total ys (λ k d l. h (suc k) d (omega arith)) in let f = h zero 0 (omega arith) in omega arith
bits_below (x ∷ xs) (suc at) h p z = let e = bits_below xs at (λ k d l. h (suc k) d (omega arith)) (omega arith) z in let f = h zero 0 (omega arith) in omega arith

pub total_zeros : (n : ℕ) → total (replicate n 0) ≡ 0
total_zeros zero = refl
total_zeros (suc n) = let e = total_zeros n in omega arith

pub total_append : (xs ys : List ℕ) → total (xs ++ ys) ≡ total xs + total ys
total_append [] ys = omega arith
total_append (x ∷ xs) ys = let e = total_append xs ys in omega arith

pub bits_fit : (counts : List ℕ) → All IsBit counts → total counts ≤ length counts
bits_fit [] h = omega arith
bits_fit (y ∷ ys) h = let e = bits_fit ys (λ k d l. h (suc k) d (omega arith)) in let f = h zero 0 (omega arith) in omega arith

pub find_only : (counts : List ℕ) (k : ℕ) → length counts ≤ 1 → k < total counts → find counts k ≡ (0, k)
find_only [] k l h = absurd (omega arith)
find_only (x ∷ []) k l h = ap (λ b. cond b (0, k) (later (0, k - x))) (lt-ltb k x (omega arith))
find_only (x ∷ (y ∷ xs)) k l h = absurd (omega arith)

pub two_in_total : (counts : List ℕ) (n : ℕ) → get_or counts n 0 + get_or counts (n + 1) 0 ≤ total counts
two_in_total [] n = omega arith
two_in_total (x ∷ xs) zero = let e = one_in_total xs 0 in omega arith
two_in_total (x ∷ xs) (suc n) =
    let e = two_in_total xs n in
    let same : get_or (x ∷ xs) (suc n + 1) 0 ≡ get_or xs (n + 1) 0 = ap (λ m. get_or (x ∷ xs) m 0) (moved n) in
    omega (arith, e, same)
  where
    moved : (m : ℕ) → suc m + 1 ≡ suc (m + 1)
    moved m = omega arith

-- from one level to the next one below
module _ (levels : List (List ℕ)) (k n m place left : ℕ) (tower : IsTower levels) (next : suc m ≡ n) (within : n < length levels) (there : k < total (first_level levels)) (found : (place, left) ≡ find (get_or levels n []) k) where
  below : List ℕ
  below = get_or levels m []

  is_pairs : get_or levels n [] ≡ pair_sums (get_or levels m [])
  is_pairs = ap (λ j. get_or levels j []) (sym next) ∙ level_pairs levels m tower (omega arith)

  found_there : (place, left) ≡ find (pair_sums (get_or levels m [])) k
  found_there = found ∙ ap (λ l. find l k) is_pairs

  in_level : k < total (get_or levels m [])
  in_level = let e = level_total levels m tower (omega arith) in omega arith

  halves : find (get_or levels m []) k ≡ cond (ltb left (get_or (get_or levels m []) (2 * place) 0)) (2 * place, left) (suc (2 * place), left - get_or (get_or levels m []) (2 * place) 0)
  halves = found_pairs (get_or levels m []) k in_level ∙ ap (refine (get_or levels m [])) (sym found_there)

  doubled : 2 * place ≡ place * 2
  doubled = omega arith

  pub seek_within : place * 2 < length (get_or levels m [])
  seek_within =
      let e = pairs_total (get_or levels m []) in
      let r = (found_within (pair_sums (get_or levels m [])) k (let i = in_level in omega arith)).0 in
      let p = pair_begins (get_or levels m []) place (subst (λ q. q.0 < length (pair_sums (get_or levels m []))) (sym found_there) r) in
      omega (arith, p)

  pub seek_low : left < get_or (get_or levels m []) (place * 2) 0 → (place * 2, left) ≡ find (get_or levels m []) k
  seek_low l = sym (halves
      ∙ ap (λ d. cond (ltb left (get_or (get_or levels m []) d 0)) (d, left) (suc d, left - get_or (get_or levels m []) d 0)) doubled
      ∙ ap (λ b. cond b (place * 2, left) (suc (place * 2), left - get_or (get_or levels m []) (place * 2) 0)) (lt-ltb left _ l))

  pub seek_high : get_or (get_or levels m []) (place * 2) 0 ≤ left → (place * 2 + 1, left - get_or (get_or levels m []) (place * 2) 0) ≡ find (get_or levels m []) k
  seek_high l = sym (halves
      ∙ ap (λ d. cond (ltb left (get_or (get_or levels m []) d 0)) (d, left) (suc d, left - get_or (get_or levels m []) d 0)) doubled
      ∙ ap (λ b. cond b (place * 2, left) (suc (place * 2), left - get_or (get_or levels m []) (place * 2) 0)) (le-ltb left _ l)
      ∙ ap (λ d. (d, left - get_or (get_or levels m []) (place * 2) 0)) e)
    where
      e : suc (place * 2) ≡ place * 2 + 1
      e = omega arith

pairs_length : (counts : List ℕ) → length (pair_sums counts) ≤ length counts
pairs_length [] = omega arith
pairs_length (x ∷ []) = omega arith
pairs_length (x ∷ (y ∷ xs)) = let e = pairs_length xs in omega arith

pub level_length : (levels : List (List ℕ)) (n : ℕ) → IsTower levels → n < length levels → length (get_or levels n []) ≤ length (first_level levels)
level_length [] n h l = absurd (omega arith)
level_length (counts ∷ above) zero h l = omega arith
level_length (counts ∷ []) (suc n) h l = absurd (omega arith)
level_length (counts ∷ (sums ∷ above)) (suc n) h l =
    let e = level_length (sums ∷ above) n h.1 (omega arith) in
    let f = pairs_length counts in
    let g = ap length h.0 in
    omega (arith, e, f, g)

pub pairs_shorter : (counts : List ℕ) → 1 < length counts → length (pair_sums counts) < length counts
pairs_shorter [] h = absurd (omega arith)
pairs_shorter (x ∷ []) h = absurd (omega arith)
pairs_shorter (x ∷ (y ∷ xs)) h = let e = pairs_length xs in omega arith

pub has_place : (levels : List (List ℕ)) (at : ℕ) → at < length (first_level levels) → HasPlace at levels
has_place [] at l = tt
has_place (counts ∷ above) at l = l

pub has_unit : (levels : List (List ℕ)) (at : ℕ) → 0 < get_or (first_level levels) at 0 → HasUnit at levels
has_unit [] at l = tt
has_unit (counts ∷ above) at l = l

bit_first : (x : ℕ) (xs ys : List ℕ) → x ≤ 1 → All IsBit ys → (k d : ℕ) → k < length (x ∷ ys) → get_or (x ∷ ys) k d ≤ 1
bit_first x xs ys l h zero d p = l
bit_first x xs ys l h (suc k) d p = h k d (omega arith)

bits_rest : (x : ℕ) (xs : List ℕ) → All IsBit (x ∷ xs) → All IsBit xs
bits_rest x xs h k d p = h (suc k) d (omega arith)

pub bits_set : (counts : List ℕ) (at n : ℕ) → n ≤ 1 → All IsBit counts → All IsBit (set counts at n)
bits_set [] at n l h = h
bits_set (x ∷ xs) zero n l h = bit_first n xs xs l (bits_rest x xs h)
bits_set (x ∷ xs) (suc at) n l h = bit_first x xs (set xs at n) (h zero 0 (omega arith)) (bits_set xs at n l (bits_rest x xs h))

-- what a set keeps
abbrev pub IsKept : List (List ℕ) → Type 0
IsKept levels = IsTower levels × (All IsBit (first_level levels) × (length (first_level levels) < 2 ^ 32))

pub put_keeps : (levels after : List (List ℕ)) (at : ℕ) → after ≡ changed (λ n. n + 1) at levels → IsKept levels → at < length (first_level levels) → get_or (first_level levels) at 0 ≡ 0 → IsKept after
put_keeps levels after at e h l z = subst IsKept (sym e) (
  raised_tower at levels h.0 (has_place levels at l),
  subst (λ counts. All IsBit counts × (length counts < 2 ^ 32)) (sym (changed_first (λ n. n + 1) at levels)) (
    bits_set (first_level levels) at _ (omega arith) h.1.0,
    subst (λ n. n < 2 ^ 32) (sym (length-set (first_level levels) at (get_or (first_level levels) at 0 + 1))) h.1.1,
  ),
)

pub take_keeps : (levels after : List (List ℕ)) (at : ℕ) → after ≡ changed (λ n. n - 1) at levels → IsKept levels → get_or (first_level levels) at 0 ≡ 1 → IsKept after
take_keeps levels after at e h z = subst IsKept (sym e) (
  lowered_tower at levels h.0 (has_unit levels at (omega arith)),
  subst (λ counts. All IsBit counts × (length counts < 2 ^ 32)) (sym (changed_first (λ n. n - 1) at levels)) (
    bits_set (first_level levels) at _ (omega arith) h.1.0,
    subst (λ n. n < 2 ^ 32) (sym (length-set (first_level levels) at (get_or (first_level levels) at 0 - 1))) h.1.1,
  ),
)

pub put_makes : (levels after : List (List ℕ)) (at : ℕ) → after ≡ changed (λ n. n + 1) at levels → get_or (first_level levels) at 0 ≡ 0 → first_level after ≡ set (first_level levels) at 1
put_makes levels after at e z = ap first_level e ∙ changed_first (λ n. n + 1) at levels ∙ ap (λ n. set (first_level levels) at (n + 1)) z

pub take_makes : (levels after : List (List ℕ)) (at : ℕ) → after ≡ changed (λ n. n - 1) at levels → get_or (first_level levels) at 0 ≡ 1 → first_level after ≡ set (first_level levels) at 0
take_makes levels after at e z = ap first_level e ∙ changed_first (λ n. n - 1) at levels ∙ ap (λ n. set (first_level levels) at (n - 1)) z

-- the top of a tower counts all
pub top_total : (levels : List (List ℕ)) (n : ℕ) → IsTower levels → suc n ≡ length levels → get_or (get_or levels n []) 0 0 ≡ total (first_level levels)
top_total levels n h l =
    let one = level_last levels n h l in
    let all = level_total levels n h (omega arith) in
    single (get_or levels n []) one ∙ all
  where
    single : (c : List ℕ) → length c ≤ 1 → get_or c 0 0 ≡ total c
    single [] l = refl
    single (x ∷ []) l = omega arith
    single (x ∷ (y ∷ xs)) l = absurd (omega arith)

pub total_take : (n : ℕ) (xs : List ℕ) → total (take n xs) ≤ total xs
total_take zero xs = omega arith
total_take (suc n) [] = omega arith
total_take (suc n) (x ∷ xs) = let e = total_take n xs in omega arith

pub total_grown : (n m : ℕ) (xs : List ℕ) → total (take n xs ++ replicate m 0) ≤ total xs
total_grown n m xs = let a = total_append (take n xs) (replicate m 0) in let b = total_zeros m in let e = total_take n xs in omega arith

pub grown_fits : (n m : ℕ) (was now more : List ℕ) → All IsBit was → length was < 2 ^ 32 → now ≡ was → more ≡ take n now ++ replicate m 0 → total more < 2 ^ 32
grown_fits n m was now more bits short same e =
    let f = bits_fit was bits in
    let g = total_grown n m now in
    let s = ap total same in
    let t = ap total e in
    omega arith

pub some_from_false : (n : ℕ) → eqb n 0 ≡ false → 0 < n
some_from_false zero e = absurd (cc)
some_from_false (suc n) e = omega arith
