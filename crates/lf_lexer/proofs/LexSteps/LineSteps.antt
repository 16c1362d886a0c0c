-- The lines of a script, one after another.
use Rattle.std.proofs.Common.{◌≡◌, ◌∙◌, ℕ, suc, ◌+◌, ◌<◌, Bool, true, false, List, [], ◌∷◌, ◌++◌, length, map, take, drop, refl, sym, ap, subst, append_assoc, one-add, arith, true≢false}
use Rattle.std.specs.Prelude.{◌==◌, if◌then◌else◌}
use Rattle.std.proofs.lemmas.Bool.Decides.{Decides-eqb}
use Rattle.lf_base.specs.declared.refusals.Refusal.{Refusal}
use Rattle.lf_base.specs.declared.refusals.ReadFail.{ReadFail}
use Rattle.lf_base.specs.declared.refusals.ReadFail.TheVariants as fail
use Rattle.lf_base.specs.Lines.{with_byte}
use Rattle.lf_base.specs.Texts.{Text, with_texts}
use Rattle.lf_base.proofs.TextLemmas.TextLists.{grows_self}
use Rattle.lf_lexer.specs.declared.tokens.Token.{Token}
use Rattle.lf_lexer.specs.declared.lexed.Lexed.{Lexed}
use Rattle.lf_lexer.specs.declared.line_start.LineStart.{LineStart}
use Rattle.lf_lexer.specs.Pieces.{Piece}
use Rattle.lf_lexer.specs.SourceLines.{full_lines, full_line_len, content}
use Rattle.lf_lexer.specs.Tokens.{texts_of_pieces, token_of}
use Rattle.lf_lexer.specs.Reading.{first_line, line_after, closing, LinesSpell, Spells}
use Rattle.lf_lexer.specs.Reading as spell
use Rattle.lf_lexer.specs.Refusals.{LinesRefused, LexFailsAs}
use Rattle.lf_lexer.specs.Refusals as r
use Rattle.lf_lexer.specs.Lexing.{AddsPieces, StartsEmpty, Descend, LexesLine, RefusesLine, LexesLines}
use Rattle.lf_lexer.proofs.LexSteps.Adding.{adds_none, adds_on}

-- the first line with its end, and the lines after it
pub full_lines_next : (byte : ℕ) (bytes : List ℕ) → full_lines (byte ∷ bytes)
    ≡ take (full_line_len (byte ∷ bytes)) (byte ∷ bytes) ∷ full_lines (drop (full_line_len (byte ∷ bytes)) (byte ∷ bytes))
full_lines_next byte [] = by_test (byte == 10) refl
  where
    by_test : (b : Bool) → (byte == 10) ≡ b → (if b then (10 ∷ []) ∷ [] else (byte ∷ []) ∷ []) ≡ take (if b then 1 else 1 + 0) (byte ∷ []) ∷ full_lines (drop (if b then 1 else 1 + 0) (byte ∷ []))
    by_test true e = ap (λ (first : ℕ). (first ∷ []) ∷ []) (sym ((Decides-eqb byte 10).0 e))
    by_test false e = refl
full_lines_next byte (next ∷ rest) = by_test (byte == 10) refl (full_lines_next next rest)
  where
    by_test : (b : Bool) → (byte == 10) ≡ b
        → full_lines (next ∷ rest) ≡ take (full_line_len (next ∷ rest)) (next ∷ rest) ∷ full_lines (drop (full_line_len (next ∷ rest)) (next ∷ rest))
        → (if b then (10 ∷ []) ∷ full_lines (next ∷ rest) else with_byte byte (full_lines (next ∷ rest)))
        ≡ take (if b then 1 else 1 + full_line_len (next ∷ rest)) (byte ∷ next ∷ rest) ∷ full_lines (drop (if b then 1 else 1 + full_line_len (next ∷ rest)) (byte ∷ next ∷ rest))
    by_test true e h = ap (λ (first : ℕ). (first ∷ []) ∷ full_lines (next ∷ rest)) (sym ((Decides-eqb byte 10).0 e))
    by_test false e h =
        ap (with_byte byte) h
        ∙ ap (λ (n : ℕ). take n (byte ∷ next ∷ rest) ∷ full_lines (drop n (byte ∷ next ∷ rest))) (sym (one-add (full_line_len (next ∷ rest))))

-- the lines so far of a script, of which this rest is left
pub record LinesSoFar (bytes : List ℕ) (old new : Lexed) (levels : List ℕ) (last : ℕ) (line : LineStart) (rest : List ℕ) : Type 0 where
  pub pieces : List Piece
  pub on : (others : List Piece) → LinesSpell (length bytes) levels last line (full_lines rest) others
      → LinesSpell (length bytes) [] 0 first_line (full_lines bytes) (pieces ++ others)
  pub refused : (refusal : Refusal) → LinesRefused levels line (full_lines rest) refusal → LinesRefused [] first_line (full_lines bytes) refusal
  pub descend : Descend levels
  pub adds : AddsPieces old new pieces

pub lines_start : (bytes : List ℕ) (old : Lexed) (levels : List ℕ) → levels ≡ [] → LinesSoFar bytes old old levels 0 first_line bytes
lines_start bytes old levels none = subst (λ (l : List ℕ). LinesSoFar bytes old old l 0 first_line bytes) (sym none) (record {
  pieces = [];
  on = λ others spells. spells;
  refused = λ refusal is. is;
  descend = tt;
  adds = adds_none old;
})

-- one line more
pub lines_step : (bytes : List ℕ) (old new newer : Lexed) (levels after : List ℕ) (last next_last : ℕ) (line : LineStart) (rest here later : List ℕ) (filled : Bool)
    → full_lines rest ≡ here ∷ full_lines later → LexesLine line (content here) levels after new newer filled → next_last ≡ (if filled then line.number else last)
    → LinesSoFar bytes old new levels last line rest → LinesSoFar bytes old newer after next_last (line_after line here) later
lines_step bytes old new newer levels after last next_last line rest here later false split blank last_is s =
    subst (λ (l : List ℕ). LinesSoFar bytes old newer l next_last (line_after line here) later) (sym blank.levels_stay)
    (subst (λ (x : Lexed). LinesSoFar bytes old x levels next_last (line_after line here) later) (sym blank.lexed_stays)
    (subst (λ (n : ℕ). LinesSoFar bytes old new levels n (line_after line here) later) (sym last_is) (record {
      pieces = s.pieces;
      on = λ others spells. s.on others (subst (λ (ls : List (List ℕ)). LinesSpell (length bytes) levels last line ls others) (sym split) (spell.after_blank blank.blank spells));
      refused = λ refusal is. s.refused refusal (subst (λ (ls : List (List ℕ)). LinesRefused levels line ls refusal) (sym split) (r.after_blank blank.blank is));
      descend = s.descend;
      adds = s.adds;
    })))
lines_step bytes old new newer levels after last next_last line rest here later true split lexes last_is s =
    subst (λ (n : ℕ). LinesSoFar bytes old newer after n (line_after line here) later) (sym last_is) (record {
      pieces = s.pieces ++ lexes.pieces;
      on = λ others spells.
          subst (LinesSpell (length bytes) [] 0 first_line (full_lines bytes)) (sym (append_assoc s.pieces lexes.pieces others))
          (s.on (lexes.pieces ++ others)
          (subst (λ (ls : List (List ℕ)). LinesSpell (length bytes) levels last line ls (lexes.pieces ++ others)) (sym split) (spell.after_filled lexes.spells spells)));
      refused = λ refusal is. s.refused refusal (subst (λ (ls : List (List ℕ)). LinesRefused levels line ls refusal) (sym split) (r.after_filled lexes.spells is));
      descend = lexes.descend;
      adds = adds_on old new newer s.pieces lexes.pieces s.adds lexes.adds;
    })

pub lines_end : (bytes : List ℕ) (old new : Lexed) (levels : List ℕ) (last : ℕ) (line : LineStart) (rest : List ℕ) → rest ≡ []
    → LinesSoFar bytes old new levels last line rest → LexesLines bytes old new levels last
lines_end bytes old new levels last line rest none s = record {
  pieces = s.pieces;
  spelled = s.on (closing (length bytes) last levels) (subst (λ (bs : List ℕ). LinesSpell (length bytes) levels last line (full_lines bs) (closing (length bytes) last levels)) (sym none) spell.no_line);
  adds = s.adds;
}

pub lines_refused : (bytes : List ℕ) (old new : Lexed) (levels : List ℕ) (last : ℕ) (line : LineStart) (rest here later : List ℕ) (f : ReadFail)
    → full_lines rest ≡ here ∷ full_lines later → RefusesLine line levels (content here) f → LinesSoFar bytes old new levels last line rest → LexFailsAs bytes f
lines_refused bytes old new levels last line rest here later (fail.Refused refusal) split refused s =
    s.refused refusal (subst (λ (ls : List (List ℕ)). LinesRefused levels line ls refusal) (sym split) (r.on_this_line refused))
lines_refused bytes old new levels last line rest here later fail.OutOfMemory split refused s = tt

-- the first line of a rest, and what is left after it
pub lines_split : (rest here later : List ℕ) (len : ℕ) → 0 < length rest → len ≡ full_line_len rest → here ≡ take len rest → later ≡ drop len rest
    → full_lines rest ≡ here ∷ full_lines later
lines_split [] here later len some len_is here_is after_is = absurd (omega arith)
lines_split (byte ∷ bytes) here later len some len_is here_is after_is =
    full_lines_next byte bytes
    ∙ ap (λ (n : ℕ). take n (byte ∷ bytes) ∷ full_lines (drop n (byte ∷ bytes))) (sym len_is)
    ∙ ap (λ (l : List ℕ). l ∷ full_lines (drop len (byte ∷ bytes))) (sym here_is)
    ∙ ap (λ (l : List ℕ). here ∷ full_lines l) (sym after_is)

pub some_line : (rest : List ℕ) → 0 < length rest → 0 < full_line_len rest
some_line [] some = absurd (omega arith)
some_line (byte ∷ rest) some = by_test (byte == 10)
  where
    by_test : (b : Bool) → 0 < (if b then 1 else 1 + full_line_len rest)
    by_test true = omega arith
    by_test false = omega arith

-- what the test on the rest's length says
pub nothing_left : (rest : List ℕ) (empty : Bool) → empty ≡ (length rest == 0) → empty ≡ true → rest ≡ []
nothing_left [] empty e t = refl
nothing_left (byte ∷ rest) empty e t = let none : suc (length rest) ≡ 0 = (Decides-eqb (suc (length rest)) 0).0 (sym e ∙ t) in absurd (omega arith)

pub something_left : (rest : List ℕ) (empty : Bool) → empty ≡ (length rest == 0) → empty ≡ false → 0 < length rest
something_left [] empty e f = absurd (true≢false (sym e ∙ f))
something_left (byte ∷ rest) empty e f = omega arith

-- all lines, and the end of the script
pub script_spelled : (bytes : List ℕ) (start old new : Lexed) (levels : List ℕ) (last : ℕ) → StartsEmpty start → LexesLines bytes start old levels last
    → AddsPieces old new (closing (length bytes) last levels) → Spells bytes new.tokens new.texts
script_spelled bytes start old new levels last empty lexes closes =
    let all = lexes.pieces ++ closing (length bytes) last levels in
    let adds = adds_on start old new lexes.pieces (closing (length bytes) last levels) lexes.adds closes in
    record {
      pieces = all;
      spelled = lexes.spelled;
      texts_are = adds.texts ∙ ap (λ (ts : List Text). with_texts ts (texts_of_pieces all)) empty.texts;
      tokens_are = adds.tokens new.texts (grows_self new.texts) ∙ ap (λ (ts : List Token). ts ++ map (token_of new.texts) all) empty.tokens;
    }
