-- Lists of texts without repeats: what a further text and the fixed ones do to them.
use Rattle.std.proofs.Common.{zero, suc, ◌≡◌, ◌∙◌, ◌<◌, ◌+◌, ◌||◌, ℕ, Bool, true, false, cond, not, List, [], ◌∷◌, ◌++◌, length, get_or, sym, ap, refl, arith, append_assoc, append-nil, map, drop, drop-cons, add-one}
use Rattle.std.specs.Prelude.{if◌then◌else◌}
use Rattle.std.specs.List.{list_any, position_or_len}
use Rattle.std.specs.Str.{bytes_eq}
use Rattle.std.proofs.lemmas.Grind.{common_steps}
use Rattle.std.proofs.lemmas.Slice.Eq.{bytes_eq-Decides}
use Rattle.std.proofs.lemmas.Option.{unwrap_or-slice_get}
use Rattle.std.proofs.lemmas.List.Sums.{passes_at_first}
use Rattle.std.proofs.lemmas.List.Folds.{list_any-append, list_any_at}
use Rattle.std.proofs.lemmas.Bool.{both_ways, false_from_ne_true}
use Rattle.lf_base.proofs.ListLemmas.Sublists.{differ_push}
use Rattle.lf_base.specs.Texts.{Text, with_text, with_texts, place_of, text_at, fixed_texts, TextsDiffer, Grows}

pub bytes_eq_self : (text : Text) → bytes_eq text text ≡ true
bytes_eq_self text = (bytes_eq-Decides text text).1 refl

pub bytes_eq_same : (s t : Text) → bytes_eq s t ≡ true → s ≡ t
bytes_eq_same s t = (bytes_eq-Decides s t).0

-- a text that is there has a place
pub place_of_within : (texts : List Text) (text : Text) → list_any (bytes_eq text) texts ≡ true → place_of texts text < length texts
place_of_within texts text = go texts
  where
    go : (ts : List Text) → list_any (bytes_eq text) ts ≡ true → position_or_len (bytes_eq text) ts < length ts
    go [] e = grind (arith, common_steps)
    go (t ∷ ts) e = by_test (bytes_eq text t) e (go ts)
      where
        by_test : (b : Bool) → (b || list_any (bytes_eq text) ts) ≡ true → (list_any (bytes_eq text) ts ≡ true → position_or_len (bytes_eq text) ts < length ts) → cond (not b) (1 + position_or_len (bytes_eq text) ts) 0 < length (t ∷ ts)
        by_test true e more = omega arith
        by_test false e more = omega (arith, more e)

-- the text at the place of a text that is there
pub text_at-place_of : (texts : List Text) (text : Text) → list_any (bytes_eq text) texts ≡ true → text_at texts (place_of texts text) ≡ text
text_at-place_of texts text there =
    unwrap_or-slice_get texts (place_of texts text) []
    ∙ sym (bytes_eq_same text (get_or texts (place_of texts text) []) (passes_at_first (bytes_eq text) texts [] (place_of_within texts text there)))

-- what is there stays there, at its place, when texts come after it
pub list_any_grows : (texts more : List Text) (text : Text) → list_any (bytes_eq text) texts ≡ true → list_any (bytes_eq text) (texts ++ more) ≡ true
list_any_grows texts more text there = list_any-append (bytes_eq text) texts more ∙ ap (λ b. b || list_any (bytes_eq text) more) there

pub place_of_grows : (texts more : List Text) (text : Text) → list_any (bytes_eq text) texts ≡ true → place_of (texts ++ more) text ≡ place_of texts text
place_of_grows [] more text there = cc
place_of_grows (t ∷ texts) more text there = by_test (bytes_eq text t) there (place_of_grows texts more text)
  where
    by_test : (b : Bool) → (b || list_any (bytes_eq text) texts) ≡ true → (list_any (bytes_eq text) texts ≡ true → place_of (texts ++ more) text ≡ place_of texts text)
        → cond (not b) (1 + place_of (texts ++ more) text) 0 ≡ cond (not b) (1 + place_of texts text) 0
    by_test true e rest = refl
    by_test false e rest = ap (λ n. 1 + n) (rest e)

-- with a text: it is there, and so is all that was there
pub list_any-with_text : (texts : List Text) (text : Text) → list_any (bytes_eq text) (with_text texts text) ≡ true
list_any-with_text texts text = by_test (list_any (bytes_eq text) texts) refl
  where
    last : list_any (bytes_eq text) (text ∷ []) ≡ true
    last = ap (λ b. b || false) (bytes_eq_self text)

    any : (b c : Bool) → c ≡ true → (b || c) ≡ true
    any true c e = refl
    any false c e = e

    by_test : (b : Bool) → list_any (bytes_eq text) texts ≡ b → list_any (bytes_eq text) (if b then texts else texts ++ text ∷ []) ≡ true
    by_test true e = e
    by_test false e = list_any-append (bytes_eq text) texts (text ∷ []) ∙ any (list_any (bytes_eq text) texts) (list_any (bytes_eq text) (text ∷ [])) last

-- texts that only grow
pub grows_self : (texts : List Text) → Grows texts texts
grows_self texts = record { more = []; is = sym (append-nil texts) }

pub grows_on : (a b c : List Text) → Grows a b → Grows b c → Grows a c
grows_on a b c g h = record { more = g.more ++ h.more; is = h.is ∙ ap (λ l. l ++ h.more) g.is ∙ append_assoc a g.more h.more }

pub grows-with_text : (texts : List Text) (text : Text) → Grows texts (with_text texts text)
grows-with_text texts text = by_test (list_any (bytes_eq text) texts)
  where
    by_test : (b : Bool) → Grows texts (if b then texts else texts ++ text ∷ [])
    by_test true = grows_self texts
    by_test false = record { more = text ∷ []; is = refl }

pub grows-with_texts : (texts seen : List Text) → Grows texts (with_texts texts seen)
grows-with_texts texts [] = grows_self texts
grows-with_texts texts (text ∷ seen) =
    grows_on texts (with_text texts text) (with_texts (with_text texts text) seen) (grows-with_text texts text) (grows-with_texts (with_text texts text) seen)

pub list_any_kept : (before after : List Text) (text : Text) → Grows before after → list_any (bytes_eq text) before ≡ true → list_any (bytes_eq text) after ≡ true
list_any_kept before after text g there = ap (list_any (bytes_eq text)) g.is ∙ list_any_grows before g.more text there

pub place_of_kept : (before after : List Text) (text : Text) → Grows before after → list_any (bytes_eq text) before ≡ true → place_of after text ≡ place_of before text
place_of_kept before after text g there = ap (λ texts. place_of texts text) g.is ∙ place_of_grows before g.more text there

-- the place that a text gets is its place from then on
pub place_of-with_text : (texts after : List Text) (text : Text) → Grows (with_text texts text) after → place_of after text ≡ place_of texts text
place_of-with_text texts after text g =
    place_of_kept (with_text texts text) after text g (list_any-with_text texts text) ∙ by_test (list_any (bytes_eq text) texts) refl
  where
    at_end : (ts : List Text) → list_any (bytes_eq text) ts ≡ false → place_of (ts ++ text ∷ []) text ≡ place_of ts text
    at_end [] e = ap (λ b. cond (not b) 1 0) (bytes_eq_self text)
    at_end (t ∷ ts) e = inner (bytes_eq text t) e (at_end ts)
      where
        inner : (b : Bool) → (b || list_any (bytes_eq text) ts) ≡ false → (list_any (bytes_eq text) ts ≡ false → place_of (ts ++ text ∷ []) text ≡ place_of ts text)
            → cond (not b) (1 + place_of (ts ++ text ∷ []) text) 0 ≡ cond (not b) (1 + place_of ts text) 0
        inner true e rest = refl
        inner false e rest = ap (λ n. 1 + n) (rest e)

    by_test : (b : Bool) → list_any (bytes_eq text) texts ≡ b → place_of (if b then texts else texts ++ text ∷ []) text ≡ place_of texts text
    by_test true e = refl
    by_test false e = at_end texts e

-- no text comes twice
place_at : (texts : List Text) (n : ℕ) → TextsDiffer texts → n < length texts → place_of texts (get_or texts n []) ≡ n
place_at [] n differ within = absurd (omega arith)
place_at (x ∷ xs) zero differ within = ap (λ b. cond (not b) (1 + place_of xs x) 0) (bytes_eq_self x)
place_at (x ∷ xs) (suc n) differ within =
    let text = get_or xs n [] in
    let later : n < length xs = omega (arith, within) in
    let other : bytes_eq text x ≡ false = false_from_ne_true _ (λ e. both_ways _ differ.0 (list_any_at (λ y. bytes_eq y x) xs n [] later e)) in
    let found : place_of (x ∷ xs) text ≡ 1 + n = ap (λ b. cond (not b) (1 + place_of xs text) 0) other ∙ ap (λ m. 1 + m) (place_at xs n differ.1 later) in
    omega (arith, found)

pub place_of-text_at : (texts : List Text) (place : ℕ) → TextsDiffer texts → place < length texts → place_of texts (text_at texts place) ≡ place
place_of-text_at texts place differ within = ap (place_of texts) (unwrap_or-slice_get texts place []) ∙ place_at texts place differ within

pub Differ-with_text : (texts : List Text) (text : Text) → TextsDiffer texts → TextsDiffer (with_text texts text)
Differ-with_text texts text differ = by_test (list_any (bytes_eq text) texts) refl
  where
    by_test : (b : Bool) → list_any (bytes_eq text) texts ≡ b → TextsDiffer (if b then texts else texts ++ text ∷ [])
    by_test true e = differ
    by_test false e = differ_push bytes_eq texts text differ e

pub Differ-with_texts : (texts seen : List Text) → TextsDiffer texts → TextsDiffer (with_texts texts seen)
Differ-with_texts texts [] differ = differ
Differ-with_texts texts (text ∷ seen) differ = Differ-with_texts (with_text texts text) seen (Differ-with_text texts text differ)

pub Differ-fixed_texts : TextsDiffer fixed_texts
Differ-fixed_texts = Differ-with_texts [] fixed_texts tt

drop_next : {X : Type 0} (items : List X) (i : ℕ) (item : X) → i < length items → drop i items ≡ get_or items i item ∷ drop (i + 1) items
drop_next items i item within = rw (add-one, drop-cons items i item)

-- one text more of those that are seen one after another
pub with_texts_next : {X : Type 0} (now : X → Text) (texts after : List Text) (text : Text) (items : List X) (i : ℕ) (item : X)
    → i < length items → text ≡ now (get_or items i item) → after ≡ with_text texts text
    → with_texts after (map now (drop (i + 1) items)) ≡ with_texts texts (map now (drop i items))
with_texts_next now texts after text items i item within is e =
    let f = λ (t : Text). with_texts (with_text texts t) (map now (drop (i + 1) items)) in
    ap (λ ts. with_texts ts (map now (drop (i + 1) items))) e ∙ ap f is
    ∙ sym (ap (λ l. with_texts texts (map now l)) (drop_next items i item within))
