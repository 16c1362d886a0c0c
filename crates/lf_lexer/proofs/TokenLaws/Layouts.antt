-- How the tokens of each script lie.
use Rattle.std.proofs.Common.{◌≡◌, ◌∙◌, ℕ, ◌+◌, true, false, List, [], ◌∷◌, ◌++◌, length, map, refl, sym, ap, subst, true≢false, append_assoc}
use Rattle.std.proofs.lemmas.List.{map-append}
use Rattle.lf_base.specs.Texts.{Text}
use Rattle.lf_lexer.specs.declared.tokens.Token.{Token}
use Rattle.lf_lexer.specs.declared.line_start.LineStart.{LineStart}
use Rattle.lf_lexer.specs.Pieces.{PieceForm, line_end, level_opens, level_closes, Piece, Longest, RestSpells}
use Rattle.lf_lexer.specs.Pieces as p
use Rattle.lf_lexer.specs.SourceLines.{full_lines, content, indentation, is_blank}
use Rattle.lf_lexer.specs.Levels.{Closes, Indents}
use Rattle.lf_lexer.specs.Levels as v
use Rattle.lf_lexer.specs.Tokens.{lexeme_of, token_of}
use Rattle.lf_lexer.specs.Reading.{empty_piece, end_of, line_pieces, line_after, closing, LineSpells, LinesSpell, Spells, first_line}
use Rattle.lf_lexer.specs.Reading as spell
use Rattle.lf_lexer.specs.Layout.{has_bytes, LayoutSpot, at_line, after_open, after_close, in_line, BetweenLines, Laid}
use Rattle.lf_lexer.specs.Layout as l

-- a token of a line has bytes
pub longest_bytes : (texts : List Text) (word rest : List ℕ) (form : PieceForm) (bytes : List ℕ) → Longest word rest form → has_bytes (lexeme_of texts form bytes) ≡ true
longest_bytes texts _ rest _ bytes (p.a_name letter passes stops no_word) = refl
longest_bytes texts _ rest _ bytes (p.a_word letter passes stops word) = refl
longest_bytes texts _ rest _ bytes (p.a_number digit passes stops small) = refl
longest_bytes texts _ rest _ bytes (p.a_text good) = refl
longest_bytes texts _ rest _ bytes (p.a_short_sign no_long sign) = refl
longest_bytes texts _ rest _ bytes (p.a_long_sign sign) = refl

-- a line without tokens is blank
pub none_blank : (line : LineStart) (at : ℕ) (bytes : List ℕ) → RestSpells line at bytes [] → is_blank bytes ≡ true
none_blank line at _ p.ended = refl
none_blank line at _ p.comment = refl
none_blank line at _ (p.space {rest = rest} spells) = none_blank line (at + 1) rest spells

module _ (texts : List Text) where
  -- within a line
  laid_rest : (line : LineStart) (at : ℕ) (bytes : List ℕ) (pieces : List Piece) (depth : ℕ) (others : List Token) → RestSpells line at bytes pieces → Laid in_line depth others
      → Laid in_line depth (map (token_of texts) pieces ++ others)
  laid_rest line at _ _ depth others p.ended laid = laid
  laid_rest line at _ _ depth others p.comment laid = laid
  laid_rest line at _ pieces depth others (p.space {rest = rest} spells) laid = laid_rest line (at + 1) rest pieces depth others spells laid
  laid_rest line at _ _ depth others (p.next {word = word} {rest = rest} {form = form} {pieces = pieces} longest spells) laid =
      l.goes_on (longest_bytes texts word rest form word longest) (laid_rest line (at + length word) rest pieces depth others spells laid)

  -- a line that has a token
  laid_line : (spot : LayoutSpot) (line : LineStart) (at : ℕ) (bytes : List ℕ) (pieces : List Piece) (depth : ℕ) (others : List Token) → RestSpells line at bytes pieces → is_blank bytes ≡ false
      → Laid in_line depth others → Laid spot depth (map (token_of texts) pieces ++ others)
  laid_line spot line at _ _ depth others p.ended filled laid = absurd (true≢false filled)
  laid_line spot line at _ _ depth others p.comment filled laid = absurd (true≢false filled)
  laid_line spot line at _ pieces depth others (p.space {rest = rest} spells) filled laid = laid_line spot line (at + 1) rest pieces depth others spells filled laid
  laid_line spot line at _ _ depth others (p.next {word = word} {rest = rest} {form = form} {pieces = pieces} longest spells) filled laid =
      l.goes_on (longest_bytes texts word rest form word longest) (laid_rest line (at + length word) rest pieces depth others spells laid)

  -- levels that close before a line
  laid_closes : (line : LineStart) (indent : ℕ) (spot : LayoutSpot) (levels after : List ℕ) (forms : List PieceForm) (others : List Token) → BetweenLines spot → Closes indent levels after forms
      → ((s : LayoutSpot) → Laid s (length after) others) → Laid spot (length levels) (map (token_of texts) (map (empty_piece line indent) forms) ++ others)
  laid_closes line indent spot levels _ _ others between (v.met met) laid = laid spot
  laid_closes line indent spot _ after _ others between (v.closed {levels = levels} {forms = forms} lt rest) laid =
      l.closes between refl (laid_closes line indent after_close levels after forms others tt rest laid)

  laid_indent : (line : LineStart) (levels : List ℕ) (indent : ℕ) (after : List ℕ) (forms : List PieceForm) (others : List Token) → Indents levels indent after forms
      → ((s : LayoutSpot) → Laid s (length after) others) → Laid at_line (length levels) (map (token_of texts) (map (empty_piece line indent) forms) ++ others)
  laid_indent line levels indent _ _ others (v.deeper deep room) laid = l.opens refl (laid after_open)
  laid_indent line levels indent after forms others (v.back closing) laid = laid_closes line indent at_line levels after forms others tt closing laid

  laid_closing : (spot : LayoutSpot) (size last : ℕ) (levels : List ℕ) → BetweenLines spot → Laid spot (length levels) (map (token_of texts) (closing size last levels))
  laid_closing spot size last [] between = l.ends between refl
  laid_closing spot size last (level ∷ levels) between = l.closes between refl (laid_closing after_close size last levels tt)

  -- the tokens of a line's pieces
  pub line_tokens : (line : LineStart) (indent : ℕ) (forms : List PieceForm) (pieces others : List Piece)
      → map (token_of texts) (line_pieces line indent forms pieces ++ others)
      ≡ map (token_of texts) (map (empty_piece line indent) forms)
      ++ (map (token_of texts) pieces ++ token_of texts (empty_piece line (end_of 0 pieces) line_end) ∷ map (token_of texts) others)
  line_tokens line indent forms pieces others =
      let levels = map (empty_piece line indent) forms in
      let ends = empty_piece line (end_of 0 pieces) line_end in
      ap (map (token_of texts)) (append_assoc levels (pieces ++ ends ∷ []) others ∙ ap (λ (ps : List Piece). levels ++ ps) (append_assoc pieces (ends ∷ []) others))
      ∙ map-append (token_of texts) levels (pieces ++ ends ∷ others)
      ∙ ap (λ (ts : List Token). map (token_of texts) levels ++ ts) (map-append (token_of texts) pieces (ends ∷ others))

  laid_lines : (size : ℕ) (levels : List ℕ) (last : ℕ) (line : LineStart) (lines : List (List ℕ)) (pieces : List Piece) → LinesSpell size levels last line lines pieces
      → Laid at_line (length levels) (map (token_of texts) pieces)
  laid_lines size levels last line _ _ spell.no_line = laid_closing at_line size last levels tt
  laid_lines size levels last line _ pieces (spell.after_blank {bytes = bytes} {lines = lines} blank rest) = laid_lines size levels last (line_after line bytes) lines pieces rest
  laid_lines size levels last line _ _ (spell.after_filled {after = after} {bytes = bytes} {lines = lines} {pieces = pieces} {others = others} s rest) =
      let indent = indentation (content bytes) in
      let later = laid_lines size after line.number (line_after line bytes) lines others rest in
      subst (Laid at_line (length levels)) (sym (ap (λ (ps : List Piece). map (token_of texts) (ps ++ others)) s.pieces_are ∙ line_tokens line indent s.forms s.tokens others))
      (laid_indent line levels indent after s.forms _ s.indents
      (λ spot. laid_line spot line 0 (content bytes) s.tokens (length after) _ s.spells s.filled (l.line_ends refl later)))

pub tokens_laid : (bytes : List ℕ) (tokens : List Token) (texts : List Text) → Spells bytes tokens texts → Laid at_line 0 tokens
tokens_laid bytes tokens texts s =
    subst (Laid at_line 0) (sym s.tokens_are) (laid_lines texts (length bytes) [] 0 first_line (full_lines bytes) s.pieces s.spelled)
