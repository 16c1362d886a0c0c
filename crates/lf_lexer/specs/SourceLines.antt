-- The lines of a script with their ends, and what stands on them.
use Rattle.std.specs.Prelude.{ℕ, ◌+◌, ◌==◌, ◌&&◌, Bool, true, false, List, [], ◌∷◌, if◌then◌else◌}
use Rattle.std.specs.List.{prefix_len}
use Rattle.lf_base.specs.Lines.{with_byte}

-- a line ends at a line feed, which is kept here, or at the end of the bytes
abbrev pub full_lines : List ℕ → List (List ℕ)
full_lines [] = []
full_lines (byte ∷ bytes) = if byte == 10 then (10 ∷ []) ∷ full_lines bytes else with_byte byte (full_lines bytes)

-- the number of bytes of the first line, with its end
abbrev pub full_line_len : List ℕ → ℕ
full_line_len [] = 0
full_line_len (byte ∷ bytes) = if byte == 10 then 1 else 1 + full_line_len bytes

-- the end of a line: a line feed, and a carriage return directly before it
abbrev pub is_line_end : List ℕ → Bool
is_line_end (byte ∷ []) = byte == 10
is_line_end (byte ∷ next ∷ []) = (byte == 13) && (next == 10)
is_line_end _ = false

-- a line without its end
abbrev pub content : List ℕ → List ℕ
content [] = []
content (byte ∷ bytes) = if is_line_end (byte ∷ bytes) then [] else byte ∷ content bytes

-- the indentation: the number of leading spaces
abbrev pub indentation : List ℕ → ℕ
indentation bytes = prefix_len (λ byte. byte == 32) bytes

-- nothing but spaces and at most a comment
abbrev pub is_blank : List ℕ → Bool
is_blank [] = true
is_blank (byte ∷ bytes) = if byte == 32 then is_blank bytes else byte == 35
