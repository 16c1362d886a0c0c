-- What a list of spots tells: the row and the cown of each, and how many lead to a row.
use Rattle.std.proofs.Common.{Bool, List, None, Option, Some, [], ap, arith, cond, count_by, eqb, false, get_or, inl, inr, length, map, refl, set, suc, true, zero, ℕ, ◌&&◌, ◌++◌, ◌+◌, ◌<◌, ◌≤◌, ◌∙◌, ◌∷◌, ◌≡◌, filter}
use Rattle.std.proofs.lemmas.Bool.{eq-eqb}
use Rattle.std.proofs.lemmas.List.Sums.{sum_by-cons}
use Rattle.lf_base.specs.declared.ids.CownId.{CownId}
use Rattle.lf_base.specs.Sets.{Member}
use Rattle.lf_queue.specs.declared.row.Row.{Row}
use Rattle.lf_queue.specs.declared.spot.Spot.{Spot}
use Rattle.lf_queue.specs.Lines.{bit, is_ahead, is_led, is_next, joined, leads_to, led_on, no_spot, row_cowns, spot_at, with_next}

abbrev pub pair_of : Spot → ℕ × CownId
pair_of s = (s.row, s.cown)

abbrev pub pairs : List Spot → List (ℕ × CownId)
pairs spots = map pair_of spots

-- ---- pairs tell the cowns of a row
abbrev pub cowns_in : ℕ → List (ℕ × CownId) → List CownId
cowns_in p xs = map (λ x. x.1) (filter (λ x. eqb x.0 p) xs)

pub row_cowns_pairs : (spots : List Spot) (p : ℕ) → row_cowns spots p ≡ cowns_in p (pairs spots)
row_cowns_pairs [] p = refl
row_cowns_pairs (s ∷ spots) p = elim (eqb s.row p) as (λ b. map (λ (t : Spot). t.cown) (cond b (s ∷ filter (λ (t : Spot). eqb t.row p) spots) (filter (λ (t : Spot). eqb t.row p) spots)) ≡ map (λ (x : ℕ × CownId). x.1) (cond b ((s.row, s.cown) ∷ filter (λ (x : ℕ × CownId). eqb x.0 p) (pairs spots)) (filter (λ (x : ℕ × CownId). eqb x.0 p) (pairs spots)))) [
  | true ↦ ap (λ l. s.cown ∷ l) (row_cowns_pairs spots p)
  | false ↦ row_cowns_pairs spots p
]

pub cowns_append : (p : ℕ) (xs ys : List (ℕ × CownId)) → cowns_in p (xs ++ ys) ≡ cowns_in p xs ++ cowns_in p ys
cowns_append p [] ys = refl
cowns_append p (x ∷ xs) ys = elim (eqb x.0 p) as (λ b. map (λ (y : ℕ × CownId). y.1) (cond b (x ∷ filter (λ (y : ℕ × CownId). eqb y.0 p) (xs ++ ys)) (filter (λ (y : ℕ × CownId). eqb y.0 p) (xs ++ ys))) ≡ map (λ (y : ℕ × CownId). y.1) (cond b (x ∷ filter (λ (y : ℕ × CownId). eqb y.0 p) xs) (filter (λ (y : ℕ × CownId). eqb y.0 p) xs)) ++ cowns_in p ys) [
  | true ↦ ap (λ l. x.1 ∷ l) (cowns_append p xs ys)
  | false ↦ cowns_append p xs ys
]

abbrev pub all_in : ℕ → List CownId → List (ℕ × CownId)
all_in n cowns = map (λ c. (n, c)) cowns

eqb_itself : (n : ℕ) → eqb n n ≡ true
eqb_itself n = eq-eqb n n refl

pub cowns_of_all : (n : ℕ) (cowns : List CownId) → cowns_in n (all_in n cowns) ≡ cowns
cowns_of_all n [] = refl
cowns_of_all n (c ∷ cs) = ap (λ b. map (λ (y : ℕ × CownId). y.1) (cond b ((n, c) ∷ filter (λ (y : ℕ × CownId). eqb y.0 n) (all_in n cs)) (filter (λ (y : ℕ × CownId). eqb y.0 n) (all_in n cs)))) (eqb_itself n) ∙ ap (λ l. c ∷ l) (cowns_of_all n cs)

pub cowns_of_none : (p n : ℕ) (cowns : List CownId) → eqb n p ≡ false → cowns_in p (all_in n cowns) ≡ []
cowns_of_none p n [] e = refl
cowns_of_none p n (c ∷ cs) e = ap (λ b. map (λ (y : ℕ × CownId). y.1) (cond b ((n, c) ∷ filter (λ (y : ℕ × CownId). eqb y.0 p) (all_in n cs)) (filter (λ (y : ℕ × CownId). eqb y.0 p) (all_in n cs)))) e ∙ cowns_of_none p n cs e

pub no_row_cowns : (spots : List Spot) (p : ℕ) → ((s : Spot) → Member s spots → eqb s.row p ≡ false) → row_cowns spots p ≡ []
no_row_cowns [] p h = refl
no_row_cowns (s ∷ spots) p h = ap (λ b. map (λ (t : Spot). t.cown) (cond b (s ∷ filter (λ (t : Spot). eqb t.row p) spots) (filter (λ (t : Spot). eqb t.row p) spots))) (h s (inl refl)) ∙ no_row_cowns spots p (λ t m. h t (inr m))

-- ---- a spot that is replaced by one of its row and cown
pub pairs_set : (spots : List Spot) (k : ℕ) (y : Spot) → pair_of y ≡ pair_of (spot_at spots k) → pairs (set spots k y) ≡ pairs spots
pairs_set [] k y e = refl
pairs_set (x ∷ xs) zero y e = ap (λ q. q ∷ pairs xs) e
pairs_set (x ∷ xs) (suc k) y e = ap (λ l. pair_of x ∷ l) (pairs_set xs k y e)

pub pairs_append : (xs ys : List Spot) → pairs (xs ++ ys) ≡ pairs xs ++ pairs ys
pairs_append [] ys = refl
pairs_append (x ∷ xs) ys = ap (λ l. pair_of x ∷ l) (pairs_append xs ys)

pub pairs_length : (xs : List Spot) → length (pairs xs) ≡ length xs
pairs_length [] = refl
pairs_length (x ∷ xs) = ap suc (pairs_length xs)

pub pairs_at : (xs : List Spot) (k : ℕ) → get_or (pairs xs) k (pair_of no_spot) ≡ pair_of (spot_at xs k)
pairs_at [] k = refl
pairs_at (x ∷ xs) zero = refl
pairs_at (x ∷ xs) (suc k) = pairs_at xs k

pub led_pairs : (rows : List Row) (spots : List Spot) (last : Option ℕ) → pairs (led_on rows spots last) ≡ pairs spots
led_pairs rows spots None = refl
led_pairs rows spots (Some k) = elim (is_ahead rows (spot_at spots k).row) as (λ b. pairs (cond b (with_next spots k (length rows)) spots) ≡ pairs spots) [
  | true ↦ pairs_set spots k _ refl
  | false ↦ refl
]

pub joined_pairs : (rows : List Row) (spots : List Spot) (last : Option ℕ) (c : CownId) → pairs (joined rows spots last c) ≡ pairs spots ++ (length rows, c) ∷ []
joined_pairs rows spots last c = pairs_append (led_on rows spots last) _ ∙ ap (λ l. l ++ (length rows, c) ∷ []) (led_pairs rows spots last)

-- ---- how many lead to a row
bit_is : (b : Bool) → cond {A = ℕ} b 1 0 ≡ bit b
bit_is true = refl
bit_is false = refl

pub count_first : (q : Spot → Bool) (x : Spot) (xs : List Spot) → count_by q (x ∷ xs) ≡ bit (q x) + count_by q xs
count_first q x xs = sum_by-cons (λ y. cond (q y) 1 0) x xs ∙ ap (λ n. n + count_by q xs) (bit_is (q x))

pub count_append : (q : Spot → Bool) (xs ys : List Spot) → count_by q (xs ++ ys) ≡ count_by q xs + count_by q ys
count_append q [] ys = omega arith
count_append q (x ∷ xs) ys = let a = count_first q x (xs ++ ys) in let b = count_first q x xs in let d = count_append q xs ys in omega arith

pub count_set : (q : Spot → Bool) (xs : List Spot) (k : ℕ) (y : Spot) → k < length xs → count_by q (set xs k y) + bit (q (spot_at xs k)) ≡ count_by q xs + bit (q y)
count_set q [] k y l = absurd (omega arith)
count_set q (x ∷ xs) zero y l = let a = count_first q y xs in let b = count_first q x xs in omega arith
count_set q (x ∷ xs) (suc k) y l =
    let a = count_first q x (set xs k y) in let b = count_first q x xs in let d = count_set q xs k y (omega arith) in omega arith

none_leads : (p : ℕ) (o : Option ℕ) → ((q : ℕ) → o ≡ Some q → ⊥) → is_next p o ≡ false
none_leads p None h = refl
none_leads p (Some q) h = absurd (h q refl)

pub count_joined : (rows : List Row) (spots : List Spot) (last : Option ℕ) (c : CownId) (p : ℕ)
    → ((k : ℕ) → last ≡ Some k → k < length spots)
    → ((k q : ℕ) → last ≡ Some k → is_ahead rows (spot_at spots k).row ≡ true → (spot_at spots k).next ≡ Some q → ⊥)
    → count_by (leads_to p) (joined rows spots last c) ≡ count_by (leads_to p) spots + bit (is_led rows spots last && eqb (length rows) p)
count_joined rows spots last c p within free =
    let a = count_append (leads_to p) (led_on rows spots last) (record { cown = c; row = length rows; next = None } ∷ []) in
    let b = count_first (leads_to p) (record { cown = c; row = length rows; next = None }) [] in
    let d = count_led last within free in
    let e : count_by (leads_to p) [] ≡ 0 = refl in
    omega (arith, a, b, d, e)
  where
    count_led : (o : Option ℕ) → ((k : ℕ) → o ≡ Some k → k < length spots) → ((k q : ℕ) → o ≡ Some k → is_ahead rows (spot_at spots k).row ≡ true → (spot_at spots k).next ≡ Some q → ⊥)
        → count_by (leads_to p) (led_on rows spots o) ≡ count_by (leads_to p) spots + bit (is_led rows spots o && eqb (length rows) p)
    count_led None within free = omega arith
    count_led (Some k) within free = elim (is_ahead rows (spot_at spots k).row) as (λ b. is_ahead rows (spot_at spots k).row ≡ b → count_by (leads_to p) (cond b (with_next spots k (length rows)) spots) ≡ count_by (leads_to p) spots + bit (b && eqb (length rows) p)) [
      | true ↦ λ e.
          let a = count_set (leads_to p) spots k (record (spot_at spots k) { next = Some (length rows) }) (within k refl) in
          let n = ap bit (none_leads p (spot_at spots k).next (λ q f. free k q refl e f)) in
          omega (arith, a, n)
      | false ↦ λ e. omega arith
    ] refl

pub bit_small : (b : Bool) → bit b ≤ 1
bit_small true = omega arith
bit_small false = omega arith
