-- The levels of a set as lists of counts, while a loop goes over them.
use Rattle.std.proofs.Common.{Global, ◌-◌, ◌++◌, List, Vec, [], ap, arith, get_or, length, map, refl, set, subst, suc, sym, zero, ℕ, ◌+◌, ◌<◌, ◌∙◌, ◌∷◌, ◌≡◌}
use Rattle.lf_queue.specs.Counts.{IsTower, changed_to, first_level, halved, total}
use Rattle.std.proofs.lemmas.List.{get_or_read, nil_from_length}
use Rattle.lf_queue.proofs.Counts.{changed_more, level_left, top_total}

abbrev pub items_of : List (Vec ℕ Global) → List (List ℕ)
items_of levels = map (λ level. level.items) levels

pub items_at : (levels : List (Vec ℕ Global)) (i : ℕ) (d : Vec ℕ Global) → i < length levels → get_or (items_of levels) i [] ≡ (get_or levels i d).items
items_at [] i d l = absurd (omega arith)
items_at (x ∷ xs) zero d l = refl
items_at (x ∷ xs) (suc i) d l = items_at xs i d (omega arith)

pub items_set : (levels : List (Vec ℕ Global)) (i : ℕ) (v : Vec ℕ Global) → items_of (set levels i v) ≡ set (items_of levels) i v.items
items_set [] i v = refl
items_set (x ∷ xs) zero v = refl
items_set (x ∷ xs) (suc i) v = ap (λ l. x.items ∷ l) (items_set xs i v)

pub items_length : (levels : List (Vec ℕ Global)) → length (items_of levels) ≡ length levels
items_length [] = refl
items_length (x ∷ xs) = ap suc (items_length xs)

module _ (f : ℕ → ℕ) (was now : List (Vec ℕ Global)) (i at : ℕ) (d : Vec ℕ Global) (there : i < length now) (so_far : items_of now ≡ changed_to f i at (items_of was)) where
  pub still : (get_or now i d).items ≡ get_or (items_of was) i []
  still = sym (items_at now i d there) ∙ ap (λ l. get_or l i []) so_far ∙ level_left f i at (items_of was)

  pub one_more : (n : ℕ) → length now ≡ length was → n ≡ get_or (get_or now i d).items (halved i at) 0
      → set (items_of now) i (set (get_or now i d).items (halved i at) (f n)) ≡ changed_to f (i + 1) at (items_of was)
  one_more n same is =
      ap (λ m. set (items_of now) i (set (get_or now i d).items (halved i at) (f m))) (is ∙ ap (λ l. get_or l (halved i at) 0) still)
      ∙ ap (λ l. set (items_of now) i (set l (halved i at) (f (get_or (get_or (items_of was) i []) (halved i at) 0)))) still
      ∙ ap (λ l. set l i (set (get_or (items_of was) i []) (halved i at) (f (get_or (get_or (items_of was) i []) (halved i at) 0)))) so_far
      ∙ changed_more f i at (items_of was) (let e = items_length was in omega arith)
      ∙ ap (λ n. changed_to f n at (items_of was)) e
    where
      e : suc i ≡ i + 1
      e = omega arith

pub not_none : (levels : List (Vec ℕ Global)) (k : ℕ) → k < total (first_level (items_of levels)) → 0 < length levels
not_none [] k h = absurd (omega arith)
not_none (x ∷ xs) k h = omega arith

-- the count at a place of a level, as code reads it
pub read_count : (levels : List (Vec ℕ Global)) (i place : ℕ) (v : Vec ℕ Global) (n : ℕ) → i < length levels → v ≡ get_or levels i v → place < length (get_or (items_of levels) i [])
    → n ≡ get_or v.items place n → n ≡ get_or (get_or (items_of levels) i []) place 0
read_count levels i place v n l is within read =
    let same : v.items ≡ get_or (items_of levels) i [] = ap (λ w. w.items) is ∙ sym (items_at levels i v l) in
    get_or_read v.items place n (subst (λ xs. place < length xs) (sym same) within) read 0 ∙ ap (λ xs. get_or xs place 0) same

pub read_length : (levels : List (Vec ℕ Global)) (i : ℕ) (v : Vec ℕ Global) → i < length levels → v ≡ get_or levels i v → v.len ≡ length (get_or (items_of levels) i [])
read_length levels i v l is = v.ok.0 ∙ ap (λ w. length w.items) is ∙ ap length (sym (items_at levels i v l))

-- the first count of the last level
pub last_count : (levels : List (Vec ℕ Global)) → IsTower (items_of levels) → 0 < length levels → get_or (get_or (items_of levels) (length levels - 1) []) 0 0 ≡ total (first_level (items_of levels))
last_count levels h l = top_total (items_of levels) (length levels - 1) h (let e = items_length levels in omega arith)

pub total_none : (levels : List (Vec ℕ Global)) → length levels ≡ 0 → total (first_level (items_of levels)) ≡ 0
total_none [] h = refl
total_none (x ∷ xs) h = absurd (omega arith)

pub items_push : (levels more : List (Vec ℕ Global)) (v : Vec ℕ Global) (above : List (List ℕ)) → more ≡ levels ++ v ∷ [] → items_of more ++ above ≡ items_of levels ++ (v.items ∷ above)
items_push levels more v above e = ap (λ l. items_of l ++ above) e ∙ go levels
  where
    go : (ls : List (Vec ℕ Global)) → items_of (ls ++ v ∷ []) ++ above ≡ items_of ls ++ (v.items ∷ above)
    go [] = refl
    go (x ∷ xs) = ap (λ l. x.items ∷ l) (go xs)

-- the first level stands whatever comes above it
pub first_stays : (levels : List (Vec ℕ Global)) (v : List ℕ) (above : List (List ℕ)) → first_level (items_of levels ++ (v ∷ above)) ≡ first_level (items_of levels ++ (v ∷ []))
first_stays [] v above = refl
first_stays (x ∷ xs) v above = refl

pub no_last_count : (levels : List (Vec ℕ Global)) (v : Vec ℕ Global) → IsTower (items_of levels) → 0 < length levels → v ≡ get_or levels (length levels - 1) v → length v.items ≡ 0 → total (first_level (items_of levels)) ≡ 0
no_last_count levels v h l is none =
    sym (last_count levels h l)
    ∙ ap (λ xs. get_or xs 0 0) (items_at levels (length levels - 1) v (omega arith) ∙ ap (λ w. w.items) (sym is) ∙ nil_from_length v.items none)

pub last_read : (levels : List (Vec ℕ Global)) (v : Vec ℕ Global) (n : ℕ) → IsTower (items_of levels) → 0 < length levels → v ≡ get_or levels (length levels - 1) v → 0 < length v.items → n ≡ get_or v.items 0 0 → n ≡ total (first_level (items_of levels))
last_read levels v n h l is some read =
    read
    ∙ ap (λ xs. get_or xs 0 0) (sym (items_at levels (length levels - 1) v (omega arith) ∙ ap (λ w. w.items) (sym is)))
    ∙ last_count levels h l
