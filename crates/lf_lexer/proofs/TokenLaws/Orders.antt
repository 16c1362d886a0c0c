-- The order of the places and the spans of each script's tokens.
use Rattle.std.proofs.Common.{◌≡◌, ◌∙◌, ℕ, suc, ◌+◌, ◌-◌, ◌<◌, ◌≤◌, ◌⊎◌, inl, inr, Bool, true, false, cond, List, [], ◌∷◌, ◌++◌, length, map, drop, refl, sym, ap, subst, arith, one-add, true≢false}
use Rattle.std.specs.Prelude.{◌==◌}
use Rattle.std.proofs.lemmas.Bool.Decides.{Decides-eqb}
use Rattle.lf_base.specs.Texts.{Text}
use Rattle.lf_lexer.specs.declared.tokens.Token.{Token}
use Rattle.lf_lexer.specs.declared.line_start.LineStart.{LineStart}
use Rattle.lf_lexer.specs.Pieces.{PieceForm, line_end, level_opens, level_closes, script_end, Piece, RestSpells}
use Rattle.lf_lexer.specs.Pieces as p
use Rattle.lf_lexer.specs.SourceLines.{full_lines, content, indentation, is_blank}
use Rattle.lf_lexer.specs.Levels.{Closes, Indents}
use Rattle.lf_lexer.specs.Levels as v
use Rattle.lf_lexer.specs.Tokens.{lexeme_of, token_of}
use Rattle.lf_lexer.specs.Reading.{empty_piece, end_of, line_pieces, line_after, closing, LineSpells, LinesSpell, Spells, first_line}
use Rattle.lf_lexer.specs.Reading as spell
use Rattle.lf_lexer.specs.Layout.{has_bytes}
use Rattle.lf_lexer.specs.Order.{HasSpan, InTokenOrder}
use Rattle.lf_lexer.proofs.TokenLaws.Layouts.{longest_bytes, none_blank, line_tokens}
use Rattle.lf_lexer.proofs.OneOutcome.Outcomes.{longest_some, skip_space}
use Rattle.lf_lexer.proofs.TokenLaws.Totals.{total, total_full_lines, content_within, ends_within}

-- a place and a byte at or before those of a line after so many of its bytes
record EndsBefore (line : LineStart) (at l c b : ℕ) : Type 0 where
  place : (l < line.number) ⊎ ((l ≡ line.number) × (c ≤ at + 1))
  byte : b ≤ line.start + at

before_more : (line : LineStart) (at at' l c b : ℕ) → at ≤ at' → EndsBefore line at l c b → EndsBefore line at' l c b
before_more line at at' l c b le before = record { place = by_place before.place; byte = let e = before.byte in omega arith }
  where
    by_place : (l < line.number) ⊎ ((l ≡ line.number) × (c ≤ at + 1)) → (l < line.number) ⊎ ((l ≡ line.number) × (c ≤ at' + 1))
    by_place (inl lt) = inl lt
    by_place (inr same) = inr (same.0, (let e = same.1 in omega arith))

-- the spaces before a line's first token
skip_spaces : (line : LineStart) (at : ℕ) (bytes : List ℕ) (pieces : List Piece) → RestSpells line at bytes pieces
    → RestSpells line (at + indentation bytes) (drop (indentation bytes) bytes) pieces
skip_spaces line at [] pieces spells = subst (λ (n : ℕ). RestSpells line n [] pieces) (let e : at ≡ at + 0 = omega arith in e) spells
skip_spaces line at (byte ∷ bytes) pieces spells = by_test (byte == 32) refl (λ s. skip_spaces line (at + 1) bytes pieces s)
  where
    by_test : (b : Bool) → (byte == 32) ≡ b → (RestSpells line (at + 1) bytes pieces → RestSpells line (at + 1 + indentation bytes) (drop (indentation bytes) bytes) pieces)
        → RestSpells line (at + cond b (1 + indentation bytes) 0) (drop (cond b (1 + indentation bytes) 0) (byte ∷ bytes)) pieces
    by_test true e skip =
        rw (one-add (indentation bytes))
        (subst (λ (n : ℕ). RestSpells line n (drop (indentation bytes) bytes) pieces) (let s : at + 1 + indentation bytes ≡ at + suc (indentation bytes) = omega arith in s)
        (skip (skip_space line at bytes pieces (subst (λ (first : ℕ). RestSpells line at (first ∷ bytes) pieces) ((Decides-eqb byte 32).0 e) spells))))
    by_test false e skip = subst (λ (n : ℕ). RestSpells line n (byte ∷ bytes) pieces) (let s : at ≡ at + 0 = omega arith in s) spells

-- where the last token ends, whatever stands before the first one
end_of_some : (line : LineStart) (bytes : List ℕ) (pieces : List Piece) (end : ℕ) → RestSpells line 0 bytes pieces → is_blank bytes ≡ false → end_of end pieces ≡ end_of 0 pieces
end_of_some line bytes [] end spells filled = absurd (true≢false (sym (none_blank line 0 bytes spells) ∙ filled))
end_of_some line bytes (piece ∷ pieces) end spells filled = refl

module _ (texts : List Text) where
  -- a token without bytes
  ordered_empty : (line : LineStart) (at : ℕ) (form : PieceForm) (l c b : ℕ) (others : List Token) → has_bytes (lexeme_of texts form []) ≡ false → EndsBefore line at l c b
      → ((l c b : ℕ) → EndsBefore line at l c b → InTokenOrder l c b others) → InTokenOrder l c b (token_of texts (empty_piece line at form) ∷ others)
  ordered_empty line at form l c b others no_bytes before later = (
    record {
      place = before.place;
      start = before.byte;
      span = subst (λ (has : Bool). HasSpan has (token_of texts (empty_piece line at form))) (sym no_bytes) (let e : line.start + at ≡ line.start + at + 0 = omega arith in e);
    },
    later line.number (at + 1 + (line.start + at + 0 - (line.start + at))) (line.start + at + 0) (record { place = inr (refl, (omega arith)); byte = omega arith }),
  )

  -- the tokens of a line
  ordered_rest : (line : LineStart) (at : ℕ) (bytes : List ℕ) (pieces : List Piece) → RestSpells line at bytes pieces → (end : ℕ) → end ≤ at → (l c b : ℕ) → EndsBefore line end l c b
      → (others : List Token) → ((l c b : ℕ) → EndsBefore line (end_of end pieces) l c b → InTokenOrder l c b others) → InTokenOrder l c b (map (token_of texts) pieces ++ others)
  ordered_rest line at _ _ p.ended end le l c b before others later = later l c b before
  ordered_rest line at _ _ p.comment end le l c b before others later = later l c b before
  ordered_rest line at _ pieces (p.space {rest = rest} spells) end le l c b before others later =
      ordered_rest line (at + 1) rest pieces spells end (omega arith) l c b before others later
  ordered_rest line at _ _ (p.next {word = word} {rest = rest} {form = form} {pieces = pieces} longest spells) end le l c b before others later =
      let piece : Piece = record { form = form; line = line; at = at; bytes = word } in
      let here = before_more line end at l c b le before in
      let len = length word in (
        record {
          place = here.place;
          start = here.byte;
          span =
              subst (λ (has : Bool). HasSpan has (token_of texts piece)) (sym (longest_bytes texts word rest form word longest))
              (let some = longest_some word rest form longest in let e : line.start + at < line.start + at + len = omega arith in e);
        },
        ordered_rest line (at + len) rest pieces spells (at + len) (omega arith) line.number (at + 1 + (line.start + at + len - (line.start + at))) (line.start + at + len)
            (record { place = inr (refl, (omega arith)); byte = omega arith }) others later,
      )

  -- its levels
  ordered_closes : (line : LineStart) (indent : ℕ) (levels after : List ℕ) (forms : List PieceForm) → Closes indent levels after forms → (l c b : ℕ) → EndsBefore line indent l c b
      → (others : List Token) → ((l c b : ℕ) → EndsBefore line indent l c b → InTokenOrder l c b others) → InTokenOrder l c b (map (token_of texts) (map (empty_piece line indent) forms) ++ others)
  ordered_closes line indent levels _ _ (v.met met) l c b before others later = later l c b before
  ordered_closes line indent _ after _ (v.closed {levels = levels} {forms = forms} lt rest) l c b before others later =
      ordered_empty line indent level_closes l c b _ refl before (λ l' c' b' before'. ordered_closes line indent levels after forms rest l' c' b' before' others later)

  ordered_indent : (line : LineStart) (levels : List ℕ) (indent : ℕ) (after : List ℕ) (forms : List PieceForm) → Indents levels indent after forms → (l c b : ℕ) → EndsBefore line indent l c b
      → (others : List Token) → ((l c b : ℕ) → EndsBefore line indent l c b → InTokenOrder l c b others) → InTokenOrder l c b (map (token_of texts) (map (empty_piece line indent) forms) ++ others)
  ordered_indent line levels indent _ _ (v.deeper deep room) l c b before others later = ordered_empty line indent level_opens l c b others refl before later
  ordered_indent line levels indent after forms (v.back closing) l c b before others later = ordered_closes line indent levels after forms closing l c b before others later

  -- the end of the script
  ordered_closing : (size last : ℕ) (levels : List ℕ) (l c b : ℕ) → EndsBefore (record { number = last + 1; start = size }) 0 l c b → InTokenOrder l c b (map (token_of texts) (closing size last levels))
  ordered_closing size last [] l c b before = ordered_empty (record { number = last + 1; start = size }) 0 script_end l c b [] refl before (λ l' c' b' before'. tt)
  ordered_closing size last (level ∷ levels) l c b before =
      ordered_empty (record { number = last + 1; start = size }) 0 level_closes l c b _ refl before (λ l' c' b' before'. ordered_closing size last levels l' c' b' before')

  -- a line that isn't blank
  ordered_line : (line : LineStart) (levels after : List ℕ) (bytes : List ℕ) (pieces others : List Piece) (s : LineSpells line levels after bytes pieces) (l c b : ℕ) → EndsBefore line 0 l c b
      → ((l c b : ℕ) → EndsBefore line (end_of 0 s.tokens) l c b → InTokenOrder l c b (map (token_of texts) others)) → InTokenOrder l c b (map (token_of texts) (pieces ++ others))
  ordered_line line levels after bytes pieces others s l c b before later =
      let indent = indentation bytes in
      let ends = token_of texts (empty_piece line (end_of 0 s.tokens) line_end) in
      let stripped : RestSpells line indent (drop indent bytes) s.tokens =
      subst (λ (n : ℕ). RestSpells line n (drop indent bytes) s.tokens) (let e : 0 + indent ≡ indent = omega arith in e) (skip_spaces line 0 bytes s.tokens s.spells) in
      subst (InTokenOrder l c b) (sym (ap (λ (ps : List Piece). map (token_of texts) (ps ++ others)) s.pieces_are ∙ line_tokens texts line indent s.forms s.tokens others))
      (ordered_indent line levels indent after s.forms s.indents l c b (before_more line 0 indent l c b (omega arith) before) _
      (λ l' c' b' before'.
      ordered_rest line indent (drop indent bytes) s.tokens stripped indent (omega arith) l' c' b' before' (ends ∷ map (token_of texts) others)
      (λ l2 c2 b2 before2.
      ordered_empty line (end_of 0 s.tokens) line_end l2 c2 b2 (map (token_of texts) others) refl
      (subst (λ (n : ℕ). EndsBefore line n l2 c2 b2) (end_of_some line bytes s.tokens indent s.spells s.filled) before2) later)))

  not_after : (line : LineStart) (at l c b : ℕ) → EndsBefore line at l c b → l ≤ line.number
  not_after line at l c b before = by_place before.place
    where
      by_place : (l < line.number) ⊎ ((l ≡ line.number) × (c ≤ at + 1)) → l ≤ line.number
      by_place (inl lt) = omega arith
      by_place (inr same) = let e = same.0 in omega arith

  -- a place of this line is before the one after it
  before_next : (line next : LineStart) (at l c b : ℕ) → next.number ≡ line.number + 1 → line.start + at ≤ next.start → EndsBefore line at l c b → EndsBefore next 0 l c b
  before_next line next at l c b number start before =
      record { place = inl (let le = not_after line at l c b before in omega arith); byte = let e = before.byte in omega arith }

  ordered_lines : (size : ℕ) (levels : List ℕ) (last : ℕ) (line : LineStart) (lines : List (List ℕ)) (pieces : List Piece) → LinesSpell size levels last line lines pieces
      → line.start + total lines ≤ size → (l c b : ℕ) → EndsBefore line 0 l c b → EndsBefore (record { number = last + 1; start = size }) 0 l c b → InTokenOrder l c b (map (token_of texts) pieces)
  ordered_lines size levels last line _ _ spell.no_line room l c b before before_end = ordered_closing size last levels l c b before_end
  ordered_lines size levels last line _ pieces (spell.after_blank {bytes = bytes} {lines = lines} blank rest) room l c b before before_end =
      ordered_lines size levels last (line_after line bytes) lines pieces rest (omega arith) l c b
      (before_next line (line_after line bytes) 0 l c b refl (omega arith) before) before_end
  ordered_lines size levels last line _ _ (spell.after_filled {after = after} {bytes = bytes} {lines = lines} {pieces = pieces} {others = others} s rest) room l c b before before_end =
      let within = ends_within line 0 (content bytes) s.tokens s.spells 0 (omega arith) in
      let short = content_within bytes in
      ordered_line line levels after (content bytes) pieces others s l c b before
      (λ l' c' b' before'.
      ordered_lines size after line.number (line_after line bytes) lines others rest (omega arith) l' c' b'
      (before_next line (line_after line bytes) (end_of 0 s.tokens) l' c' b' refl (omega arith) before')
      (before_next line (record { number = line.number + 1; start = size }) (end_of 0 s.tokens) l' c' b' refl (omega arith) before'))

pub tokens_in_order : (bytes : List ℕ) (tokens : List Token) (texts : List Text) → Spells bytes tokens texts → InTokenOrder 1 1 0 tokens
tokens_in_order bytes tokens texts s =
    subst (InTokenOrder 1 1 0) (sym s.tokens_are)
    (ordered_lines texts (length bytes) [] 0 first_line (full_lines bytes) s.pieces s.spelled (let e = total_full_lines bytes in omega arith) 1 1 0
    (record { place = inr (refl, (omega arith)); byte = omega arith }) (record { place = inr (refl, (omega arith)); byte = omega arith }))
