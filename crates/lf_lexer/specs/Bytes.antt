-- The kinds of bytes that tokens are made of.
use Rattle.std.specs.Prelude.{◌≡◌, ℕ, ◌==◌, ◌||◌, ◌&&◌, Bool, not, true, false, List, [], ◌∷◌, codes, nat_le}

-- `0` to `9`
abbrev pub is_digit : ℕ → Bool
is_digit byte = nat_le 48 byte && nat_le byte 57

-- a letter or `_`
abbrev pub is_letter : ℕ → Bool
is_letter byte = (nat_le 97 byte && nat_le byte 122) || (nat_le 65 byte && nat_le byte 90) || (byte == 95)

-- what a name goes on with
abbrev pub is_name_byte : ℕ → Bool
is_name_byte byte = is_letter byte || is_digit byte

-- the words of the language, which are no names
abbrev pub words : List (List ℕ)
words =
    codes "and" ∷ codes "def" ∷ codes "drop" ∷ codes "elif" ∷ codes "else" ∷ codes "False" ∷ codes "if" ∷ codes "move"
    ∷ codes "None" ∷ codes "not" ∷ codes "or" ∷ codes "pass" ∷ codes "return" ∷ codes "True"
    ∷ codes "when" ∷ codes "while" ∷ codes "with" ∷ []

-- what stands in a text for itself
abbrev pub is_text_byte : ℕ → Bool
is_text_byte byte = nat_le 32 byte && nat_le byte 126 && not (byte == 34) && not (byte == 92)

-- each of the bytes passes
abbrev pub Passes : (ℕ → Bool) → List ℕ → Type 0
Passes test [] = Unit {0}
Passes test (byte ∷ bytes) = (test byte ≡ true) × Passes test bytes

-- the first of the bytes, if there is one, doesn't pass
abbrev pub PassesNoMore : (ℕ → Bool) → List ℕ → Type 0
PassesNoMore test [] = Unit {0}
PassesNoMore test (byte ∷ bytes) = test byte ≡ false
