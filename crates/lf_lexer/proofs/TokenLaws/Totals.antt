-- How many bytes lines have, and how many tokens they make.
use Rattle.std.proofs.Common.{◌≡◌, ◌∙◌, ℕ, suc, ◌+◌, ◌*◌, ◌<◌, ◌≤◌, Bool, true, false, List, [], ◌∷◌, ◌++◌, length, map, refl, ap, arith, true≢false, length-append}
use Rattle.std.specs.Prelude.{◌==◌, if◌then◌else◌}
use Rattle.std.proofs.lemmas.List.{length-map}
use Rattle.lf_base.specs.Lines.{with_byte}
use Rattle.lf_base.specs.Texts.{Text}
use Rattle.lf_lexer.specs.declared.tokens.Token.{Token}
use Rattle.lf_lexer.specs.declared.line_start.LineStart.{LineStart}
use Rattle.lf_lexer.specs.Pieces.{PieceForm, line_end, Piece, RestSpells}
use Rattle.lf_lexer.specs.Pieces as p
use Rattle.lf_lexer.specs.SourceLines.{full_lines, content, indentation, is_blank, is_line_end}
use Rattle.lf_lexer.specs.Levels.{Closes, Indents}
use Rattle.lf_lexer.specs.Levels as v
use Rattle.lf_lexer.specs.Tokens.{token_of}
use Rattle.lf_lexer.specs.Reading.{empty_piece, end_of, line_pieces, line_after, closing, LineSpells, LinesSpell, Spells, first_line}
use Rattle.lf_lexer.specs.Reading as spell
use Rattle.lf_lexer.proofs.OneOutcome.Outcomes.{longest_some}

-- the number of bytes of these lines
abbrev pub total : List (List ℕ) → ℕ
total [] = 0
total (line ∷ lines) = length line + total lines

total_with_byte : (byte : ℕ) (lines : List (List ℕ)) → total (with_byte byte lines) ≡ suc (total lines)
total_with_byte byte [] = refl
total_with_byte byte (line ∷ lines) = omega arith

pub total_full_lines : (bytes : List ℕ) → total (full_lines bytes) ≡ length bytes
total_full_lines [] = refl
total_full_lines (byte ∷ bytes) = by_test (byte == 10) (total_full_lines bytes)
  where
    by_test : (b : Bool) → total (full_lines bytes) ≡ length bytes → total (if b then (10 ∷ []) ∷ full_lines bytes else with_byte byte (full_lines bytes)) ≡ length (byte ∷ bytes)
    by_test true e = omega arith
    by_test false e = let w = total_with_byte byte (full_lines bytes) in omega arith

pub content_within : (bytes : List ℕ) → length (content bytes) ≤ length bytes
content_within [] = omega arith
content_within (byte ∷ bytes) = by_test (is_line_end (byte ∷ bytes)) (content_within bytes)
  where
    by_test : (b : Bool) → length (content bytes) ≤ length bytes → length (if b then [] else byte ∷ content bytes) ≤ length (byte ∷ bytes)
    by_test true e = omega arith
    by_test false e = omega arith

pub filled_some : (bytes : List ℕ) → is_blank bytes ≡ false → 0 < length bytes
filled_some [] filled = absurd (true≢false filled)
filled_some (byte ∷ bytes) filled = omega arith

-- the tokens of a line end within it, and are no more than its bytes
pub ends_within : (line : LineStart) (at : ℕ) (bytes : List ℕ) (pieces : List Piece) → RestSpells line at bytes pieces → (end : ℕ) → end ≤ at → end_of end pieces ≤ at + length bytes
ends_within line at _ _ p.ended end le = omega arith
ends_within line at _ _ p.comment end le = omega arith
ends_within line at _ pieces (p.space {rest = rest} spells) end le = let e = ends_within line (at + 1) rest pieces spells end (omega arith) in omega arith
ends_within line at _ _ (p.next {word = word} {rest = rest} {pieces = pieces} longest spells) end le =
    let e = ends_within line (at + length word) rest pieces spells (at + length word) (omega arith) in let l = length-append word rest in omega arith

pub pieces_within : (line : LineStart) (at : ℕ) (bytes : List ℕ) (pieces : List Piece) → RestSpells line at bytes pieces → length pieces ≤ length bytes
pieces_within line at _ _ p.ended = omega arith
pieces_within line at _ _ p.comment = omega arith
pieces_within line at _ pieces (p.space {rest = rest} spells) = let e = pieces_within line (at + 1) rest pieces spells in omega arith
pieces_within line at _ _ (p.next {word = word} {rest = rest} {form = form} {pieces = pieces} longest spells) =
    let e = pieces_within line (at + length word) rest pieces spells in let some = longest_some word rest form longest in let l = length-append word rest in omega arith

closes_count : (indent : ℕ) (levels after : List ℕ) (forms : List PieceForm) → Closes indent levels after forms → length forms + length after ≡ length levels
closes_count indent levels _ _ (v.met met) = omega arith
closes_count indent _ after _ (v.closed {levels = levels} {forms = forms} lt rest) = let e = closes_count indent levels after forms rest in omega arith

indents_count : (levels : List ℕ) (indent : ℕ) (after : List ℕ) (forms : List PieceForm) → Indents levels indent after forms → length forms + length after ≤ length levels + 2
indents_count levels indent _ _ (v.deeper deep room) = omega arith
indents_count levels indent after forms (v.back closing) = let e = closes_count indent levels after forms closing in omega arith

closing_count : (size last : ℕ) (levels : List ℕ) → length (closing size last levels) ≡ length levels + 1
closing_count size last [] = refl
closing_count size last (level ∷ levels) = let e = closing_count size last levels in omega arith

line_count : (line : LineStart) (indent : ℕ) (forms : List PieceForm) (tokens : List Piece) → length (line_pieces line indent forms tokens) ≡ length forms + (length tokens + 1)
line_count line indent forms tokens =
    let ends = empty_piece line (end_of 0 tokens) line_end ∷ [] in
    let a = length-append (map (empty_piece line indent) forms) (tokens ++ ends) in
    let b = length-append tokens ends in
    let c = length-map forms (empty_piece line indent) in
    omega arith

lines_count : (size : ℕ) (levels : List ℕ) (last : ℕ) (line : LineStart) (lines : List (List ℕ)) (pieces : List Piece) → LinesSpell size levels last line lines pieces
    → length pieces ≤ 4 * total lines + length levels + 1
lines_count size levels last line _ _ spell.no_line = let e = closing_count size last levels in omega arith
lines_count size levels last line _ pieces (spell.after_blank {bytes = bytes} {lines = lines} blank rest) = let e = lines_count size levels last (line_after line bytes) lines pieces rest in omega arith
lines_count size levels last line _ _ (spell.after_filled {after = after} {bytes = bytes} {lines = lines} {pieces = pieces} {others = others} s rest) =
    let e = lines_count size after line.number (line_after line bytes) lines others rest in
    let here : length pieces ≡ length s.forms + (length s.tokens + 1) = ap length s.pieces_are ∙ line_count line (indentation (content bytes)) s.forms s.tokens in
    let levels_moved = indents_count levels (indentation (content bytes)) after s.forms s.indents in
    let few = pieces_within line 0 (content bytes) s.tokens s.spells in
    let some = filled_some (content bytes) s.filled in
    let within = content_within bytes in
    let both = length-append pieces others in
    omega arith

pub tokens_count : (bytes : List ℕ) (tokens : List Token) (texts : List Text) → Spells bytes tokens texts → length tokens ≤ 4 * length bytes + 1
tokens_count bytes tokens texts s =
    let e = lines_count (length bytes) [] 0 first_line (full_lines bytes) s.pieces s.spelled in
    let all = total_full_lines bytes in
    let same : length tokens ≡ length s.pieces = ap length s.tokens_are ∙ length-map s.pieces (token_of texts) in
    omega arith
