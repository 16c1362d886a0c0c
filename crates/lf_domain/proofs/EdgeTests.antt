-- Tests of the edges of a list: how many pass, and whether one does.
use Rattle.std.proofs.Common.{Bool, List, [], ap, arith, cond, false, inl, inr, refl, suc, sym, true, zero, ℕ, ◌+◌, ◌-◌, ◌<◌, ◌||◌, ◌∙◌, ◌∷◌, ◌≡◌}
use Rattle.std.proofs.lemmas.List.Sums.{sum_by-cons}
use Rattle.std.specs.List.{count_by, list_any}
use Rattle.lf_base.specs.EdgeLists.{SameEdges}
use Rattle.lf_base.specs.Edges.{Edge}
use Rattle.lf_base.specs.Sets.{Member}

-- what one edge counts
abbrev pub edge_bit : Bool → ℕ
edge_bit b = cond b 1 0

pub count_cons : (p : Edge → Bool) (e : Edge) (es : List Edge) → count_by p (e ∷ es) ≡ edge_bit (p e) + count_by p es
count_cons p e es = sum_by-cons (λ x. cond (p x) 1 0) e es

-- whether some edge passes is read off their count
abbrev pub some_of : ℕ → Bool
some_of zero = false
some_of (suc n) = true

one_more : (n : ℕ) → suc n ≡ 1 + n
one_more n = omega arith

none_more : (n : ℕ) → n ≡ 0 + n
none_more n = omega arith

pub any_counts : (p : Edge → Bool) (es : List Edge) → list_any p es ≡ some_of (count_by p es)
any_counts p [] = refl
any_counts p (e ∷ es) =
    elim (p e) as (λ b. (b || list_any p es) ≡ some_of (cond b 1 0 + count_by p es)) [
      | true ↦ ap some_of (one_more (count_by p es))
      | false ↦ any_counts p es ∙ ap some_of (none_more (count_by p es))
    ]
    ∙ ap some_of (sym (count_cons p e es))

pub same_any : (p : Edge → Bool) (xs ys : List Edge) → SameEdges xs ys → list_any p xs ≡ list_any p ys
same_any p xs ys same = any_counts p xs ∙ ap some_of (same p) ∙ sym (any_counts p ys)

-- tests that agree on the edges of a list
pub count_alike : (p q : Edge → Bool) (es : List Edge) → ((e : Edge) → Member e es → p e ≡ q e) → count_by p es ≡ count_by q es
count_alike p q [] h = refl
count_alike p q (e ∷ es) h = omega (arith, count_cons p e es, count_cons q e es, ap {B = ℕ} edge_bit (h e (inl refl)), count_alike p q es (λ x m. h x (inr m)))

pub any_alike : (p q : Edge → Bool) (es : List Edge) → ((e : Edge) → Member e es → p e ≡ q e) → list_any p es ≡ list_any q es
any_alike p q es h = any_counts p es ∙ ap some_of (count_alike p q es h) ∙ sym (any_counts q es)

-- ---- a number that is raised or lowered where a test holds
pub left_of : (k n m : ℕ) → k + n ≡ k + m → n ≡ m
left_of k n m e = omega (arith, e)

pub zero_bit : (n : ℕ) (b : Bool) → b ≡ false → edge_bit b + n ≡ n
zero_bit n b e = let f : 0 + n ≡ n = omega arith in ap {B = ℕ} (λ t. cond t 1 0 + n) e ∙ f

pub raised_bit : (n : ℕ) (a b : Bool) → a ≡ b → cond a (n + 1) n ≡ edge_bit b + n
raised_bit n true b e = let f : n + 1 ≡ 1 + n = omega arith in f ∙ ap {B = ℕ} (λ t. cond t 1 0 + n) e
raised_bit n false b e = sym (zero_bit n b (sym e))

pub lowered_bit : (n : ℕ) (a b : Bool) → a ≡ b → (a ≡ true → 0 < n) → edge_bit b + cond a (n - 1) n ≡ n
lowered_bit n true b e h = let f : 1 + (n - 1) ≡ n = omega (arith, h refl) in ap {B = ℕ} (λ t. cond t 1 0 + (n - 1)) (sym e) ∙ f
lowered_bit n false b e h = zero_bit n b (sym e)
