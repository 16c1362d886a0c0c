-- The keys of a set of byte vectors, as a list of texts.
use Rattle.std.proofs.Common.{◌≡◌, ◌∙◌, ◌+◌, ◌||◌, ℕ, List, [], ◌∷◌, ◌++◌, Bool, true, false, cond, not, map, length, sym, ap, refl, Vec, Global, Some, None, subst, nat_lt}
use Rattle.std.specs.List.{list_any, position, position_or_len}
use Rattle.std.specs.Str.{bytes_eq}
use Rattle.lf_base.specs.Texts.{Text, with_text, place_of, TextsDiffer}
use Rattle.lf_base.proofs.TextLemmas.TextLists.{Differ-with_text}

abbrev pub Key : Type 0
Key = Vec ℕ Global

abbrev pub texts_of : List Key → List Text
texts_of = map (λ key. key.items)

any_of : (test : Text → Bool) (keys : List Key) → list_any (λ (key : Key). test key.items) keys ≡ list_any test (texts_of keys)
any_of test [] = refl
any_of test (key ∷ keys) = ap (λ b. test key.items || b) (any_of test keys)

place_of_keys : (test : Text → Bool) (keys : List Key) → position_or_len (λ (key : Key). test key.items) keys ≡ position_or_len test (texts_of keys)
place_of_keys test [] = refl
place_of_keys test (key ∷ keys) = ap (λ n. cond (not (test key.items)) (1 + n) 0) (place_of_keys test keys)

-- a text that is found is at this place
pub found_at : (text : Text) (keys : List Key) (i : ℕ) → position (λ (key : Key). bytes_eq text key.items) keys ≡ Some i → i ≡ place_of (texts_of keys) text
found_at text keys i found = go (nat_lt (position_or_len (λ (key : Key). bytes_eq text key.items) keys) (length keys)) found
  where
    go : (b : Bool) → cond b (Some (position_or_len (λ (key : Key). bytes_eq text key.items) keys)) None ≡ Some i → i ≡ place_of (texts_of keys) text
    go true e = let same : position_or_len (λ (key : Key). bytes_eq text key.items) keys ≡ i = cc in sym same ∙ place_of_keys (bytes_eq text) keys
    go false e = cc

-- where a text is found, the texts stay
pub kept : (text : Text) (keys : List Key) → list_any (λ (key : Key). bytes_eq text key.items) keys ≡ true → texts_of keys ≡ with_text (texts_of keys) text
kept text keys any = let e : list_any (bytes_eq text) (texts_of keys) ≡ true = sym (any_of (bytes_eq text) keys) ∙ any in rw e refl

texts_more : (keys : List Key) (key : Key) → texts_of (keys ++ key ∷ []) ≡ texts_of keys ++ key.items ∷ []
texts_more [] key = refl
texts_more (k ∷ keys) key = ap (λ l. k.items ∷ l) (texts_more keys key)

-- the texts with a new key
pub added : (text : Text) (keys after : List Key) (key : Key) → key.items ≡ text
    → after ≡ cond (list_any (λ (k : Key). bytes_eq key.items k.items) keys) keys (keys ++ key ∷ [])
    → texts_of after ≡ with_text (texts_of keys) text
added text keys after key is e =
    let any = any_of (bytes_eq key.items) keys in
    ap texts_of e ∙ go (list_any (λ (k : Key). bytes_eq key.items k.items) keys)
    ∙ ap (λ b. cond b (texts_of keys) (texts_of keys ++ key.items ∷ [])) any
    ∙ ap (λ (t : Text). cond (list_any (bytes_eq t) (texts_of keys)) (texts_of keys) (texts_of keys ++ t ∷ [])) is
  where
    go : (b : Bool) → texts_of (cond b keys (keys ++ key ∷ [])) ≡ cond b (texts_of keys) (texts_of keys ++ key.items ∷ [])
    go true = refl
    go false = texts_more keys key

pub placed : (text : Text) (keys : List Key) (key : Key) (i : ℕ) → key.items ≡ text → i ≡ position_or_len (λ (k : Key). bytes_eq key.items k.items) keys → i ≡ place_of (texts_of keys) text
placed text keys key i is e = e ∙ place_of_keys (bytes_eq key.items) keys ∙ ap (λ (t : Text). position_or_len (bytes_eq t) (texts_of keys)) is

-- with a new key no text comes twice
pub differ_added : (text : Text) (keys after : List Key) → TextsDiffer (texts_of keys) → texts_of after ≡ with_text (texts_of keys) text → TextsDiffer (texts_of after)
differ_added text keys after differ is = subst TextsDiffer (sym is) (Differ-with_text (texts_of keys) text differ)
