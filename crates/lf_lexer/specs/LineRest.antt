-- Of the bytes that are left of a script, those that belong to the line at their front.
use Rattle.std.specs.Prelude.{ℕ, ◌==◌, ◌||◌, ◌&&◌, Bool, true, List, [], ◌∷◌, if◌then◌else◌}

-- the line ends before these bytes: by a line feed, by a carriage return directly before one, or with the script
abbrev pub ends_line : List ℕ → Bool
ends_line [] = true
ends_line (byte ∷ []) = byte == 10
ends_line (byte ∷ next ∷ rest) = (byte == 10) || ((byte == 13) && (next == 10))

-- the bytes before the line's end
abbrev pub line_rest : List ℕ → List ℕ
line_rest [] = []
line_rest (byte ∷ bytes) = if ends_line (byte ∷ bytes) then [] else byte ∷ line_rest bytes

-- nothing but a comment is left of the line
abbrev pub ends_tokens : List ℕ → Bool
ends_tokens [] = true
ends_tokens (byte ∷ bytes) = ends_line (byte ∷ bytes) || (byte == 35)
