-- The texts of a script: a list of byte lists without repeats, which begins with fixed ones.
use Rattle.std.specs.Prelude.{◌≡◌, ℕ, Bool, ◌==◌, List, [], ◌∷◌, ◌++◌, codes, fold, if◌then◌else◌, slice_get, unwrap_or}
use Rattle.std.specs.List.{list_any, position_or_len}
use Rattle.std.specs.Str.{bytes_eq}
use Rattle.lf_base.specs.declared.ids.TextId.{TextId}
use Rattle.lf_base.specs.Sets.{Differ}

abbrev pub Text : Type 0
Text = List ℕ

-- the texts with this one, which goes last where it is new
abbrev pub with_text : List Text → Text → List Text
with_text texts text = if list_any (bytes_eq text) texts then texts else texts ++ text ∷ []

-- the place of a text that is there
abbrev pub place_of : List Text → Text → ℕ
place_of texts text = position_or_len (bytes_eq text) texts

-- the text at a place, and the empty text past the end
abbrev pub text_at : List Text → ℕ → Text
text_at texts place = unwrap_or (slice_get texts place) []

-- two places are one text's
abbrev pub same_text : TextId → TextId → Bool
same_text a b = a.index == b.index

-- the texts that come first in each script: the one key of a cown, the answers of `owner`, and the built-in names
abbrev pub fixed_texts : List Text
fixed_texts =
    codes "value" ∷ codes "local" ∷ codes "region" ∷ codes "frozen" ∷ codes "cown"
    ∷ codes "print" ∷ codes "Region" ∷ codes "Cown" ∷ codes "freeze" ∷ codes "merge" ∷ codes "dissolve"
    ∷ codes "close" ∷ codes "refs" ∷ codes "borrowed" ∷ codes "open_children" ∷ codes "owner" ∷ codes "is_closed" ∷ []

-- the texts after these were seen one after another
abbrev pub with_texts : List Text → List Text → List Text
with_texts texts seen = fold with_text texts seen

-- no text comes twice
abbrev pub TextsDiffer : List Text → Type 0
TextsDiffer texts = Differ bytes_eq texts

-- the second list is the first with texts after it
pub record Grows (before after : List Text) : Type 0 where
  pub more : List Text
  pub is : after ≡ before ++ more
