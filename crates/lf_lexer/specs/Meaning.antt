-- What the bytes between the quotes of a text mean, as a function.
use Rattle.std.specs.Prelude.{◌≡◌, ℕ, ◌==◌, List, [], ◌∷◌, if◌then◌else◌, take, drop}
use Rattle.lf_base.specs.Texts.{Text}
use Rattle.lf_lexer.specs.declared.texts.TextEnd.{TextEnd}
use Rattle.lf_lexer.specs.declared.texts.TextEnd.TheVariants.{Closed}
use Rattle.lf_lexer.specs.declared.front.Front.{Front}
use Rattle.lf_lexer.specs.declared.front.Front.TheVariants as front

-- a pair stands for its second byte
unfoldable pub meaning : List ℕ → Text
meaning [] = []
meaning (byte ∷ []) = byte ∷ []
meaning (byte ∷ next ∷ rest) = if byte == 92 then next ∷ meaning rest else byte ∷ meaning (next ∷ rest)

-- the bytes before the end of a text that is closed mean this text
abbrev pub EndMeans : Text → List ℕ → TextEnd → Type 0
EndMeans text bytes (Closed len) = text ≡ meaning (take len bytes)
EndMeans text bytes _ = Unit {0}

-- the bytes between the quotes of a text at the front mean this text
abbrev pub FrontMeans : Text → List ℕ → Front → Type 0
FrontMeans text bytes (front.Text len) = text ≡ meaning (take len (drop 1 bytes))
FrontMeans text bytes _ = Unit {0}
