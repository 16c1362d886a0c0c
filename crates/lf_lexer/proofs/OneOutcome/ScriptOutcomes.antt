-- What comes of the lines of a script, as a function.
use Rattle.std.proofs.Common.{◌≡◌, ◌∙◌, ℕ, suc, ◌<◌, ◌≤◌, ◌||◌, ◌⊎◌, inl, inr, Bool, true, false, List, [], ◌∷◌, ◌++◌, length, map, refl, sym, ap, subst, arith}
use Rattle.std.specs.Prelude.{◌==◌, nat_lt, if◌then◌else◌}
use Rattle.std.proofs.lemmas.Bool.{lt-ltb, ltb-true, le-ltb, ltb-false}
use Rattle.std.proofs.lemmas.Bool.Decides.{nat_tests, Decides-eqb}
use Rattle.lf_base.specs.declared.limits.TheConstants.{MOST_INDENT_LEVELS}
use Rattle.lf_base.specs.declared.refusals.Refusal.{Refusal}
use Rattle.lf_base.specs.declared.refusals.RefusalKind.{RefusalKind}
use Rattle.lf_base.specs.declared.refusals.RefusalKind.TheVariants.{BadIndent, TooDeepIndent}
use Rattle.lf_base.specs.Texts.{Text}
use Rattle.lf_lexer.specs.declared.tokens.Token.{Token}
use Rattle.lf_lexer.specs.declared.line_start.LineStart.{LineStart}
use Rattle.lf_lexer.specs.Pieces.{PieceForm, level_opens, level_closes, Piece}
use Rattle.lf_lexer.specs.SourceLines.{full_lines, content, indentation, is_blank}
use Rattle.lf_lexer.specs.Levels.{innermost, is_level, Closes, Indents, IndentRefused}
use Rattle.lf_lexer.specs.Levels as v
use Rattle.lf_lexer.specs.Tokens.{script_texts, token_of}
use Rattle.lf_lexer.specs.Reading.{first_line, line_after, line_pieces, closing, LineSpells, LinesSpell, Spells}
use Rattle.lf_lexer.specs.Reading as spell
use Rattle.lf_lexer.specs.Refusals.{refusal_at, RestRefused, LineRefused, LinesRefused, IsFirstLexRefusal}
use Rattle.lf_lexer.specs.Refusals as r
use Rattle.lf_lexer.specs.Lexing.{Descend}
use Rattle.lf_lexer.proofs.LexSteps.LevelSteps.{none_below, is_innermost}
use Rattle.lf_lexer.proofs.OneOutcome.Outcomes.{Outcome, spelled, refused, rest_outcome, spells_outcome, refused_outcome, OutcomeIs, outcome_is}

-- what comes of an indentation: the levels after it and their forms, or what is refused
pub data LevelsSettled : Type 0 where
  settled : List ℕ → List PieceForm → LevelsSettled
  missed : RefusalKind → LevelsSettled

abbrev pub with_close : LevelsSettled → LevelsSettled
with_close (settled after forms) = settled after (level_closes ∷ forms)
with_close (missed kind) = missed kind

abbrev pub closes : ℕ → List ℕ → LevelsSettled
closes indent [] = if indent == 0 then settled [] [] else missed BadIndent
closes indent (level ∷ levels) =
    if nat_lt indent level then with_close (closes indent levels) else
    if indent == level then settled (level ∷ levels) [] else missed BadIndent

abbrev pub opens : List ℕ → ℕ → LevelsSettled
opens levels indent = if nat_lt (length levels) MOST_INDENT_LEVELS then settled (indent ∷ levels) (level_opens ∷ []) else missed TooDeepIndent

abbrev pub settles : List ℕ → ℕ → LevelsSettled
settles levels indent = if nat_lt (innermost levels) indent then opens levels indent else closes indent levels

-- the function gives what the definitions say

met_closes : (indent : ℕ) (levels : List ℕ) → innermost levels ≡ indent → closes indent levels ≡ settled levels []
met_closes indent [] met = let e : (indent == 0) ≡ true = grind (arith, nat_tests) in ap (λ (b : Bool). if b then settled [] [] else missed BadIndent) e
met_closes indent (level ∷ levels) met =
    let no : nat_lt indent level ≡ false = le-ltb indent level (omega arith) in
    let yes : (indent == level) ≡ true = grind (arith, nat_tests) in
    rw (no, yes) refl

closes_settles : (indent : ℕ) (levels after : List ℕ) (forms : List PieceForm) → Closes indent levels after forms → closes indent levels ≡ settled after forms
closes_settles indent levels _ _ (v.met met) = met_closes indent levels met
closes_settles indent _ after _ (v.closed {level = level} {levels = levels} {forms = forms} lt rest) =
    rw (lt-ltb indent level lt) (ap with_close (closes_settles indent levels after forms rest))

-- levels that close are further in
closes_low : (indent : ℕ) (levels after : List ℕ) (forms : List PieceForm) → Closes indent levels after forms → indent ≤ innermost levels
closes_low indent levels _ _ (v.met met) = omega arith
closes_low indent _ after _ (v.closed lt rest) = omega arith

missed_closes : (indent : ℕ) (levels : List ℕ) → is_level indent levels ≡ false → closes indent levels ≡ missed BadIndent
missed_closes indent [] none = ap (λ (b : Bool). if b then settled [] [] else missed BadIndent) none
missed_closes indent (level ∷ levels) none = by_test (nat_lt indent level) (indent == level) refl none (missed_closes indent levels)
  where
    by_test : (b e : Bool) → (indent == level) ≡ e → (e || is_level indent levels) ≡ false → (is_level indent levels ≡ false → closes indent levels ≡ missed BadIndent)
        → (if b then with_close (closes indent levels) else if e then settled (level ∷ levels) [] else missed BadIndent) ≡ missed BadIndent
    by_test b true e none rest = cc
    by_test true false e none rest = ap with_close (rest none)
    by_test false false e none rest = refl

pub indents_settle : (levels : List ℕ) (indent : ℕ) (after : List ℕ) (forms : List PieceForm) → Indents levels indent after forms → settles levels indent ≡ settled after forms
indents_settle levels indent _ _ (v.deeper deeper room) = rw (lt-ltb (innermost levels) indent deeper, lt-ltb (length levels) MOST_INDENT_LEVELS room) refl
indents_settle levels indent after forms (v.back closing) =
    rw (le-ltb (innermost levels) indent (closes_low indent levels after forms closing)) (closes_settles indent levels after forms closing)

pub refused_settles : (levels : List ℕ) (indent : ℕ) (kind : RefusalKind) → IndentRefused levels indent kind → settles levels indent ≡ missed kind
refused_settles levels indent _ (v.no_level lt none) = rw (le-ltb (innermost levels) indent (omega arith)) (missed_closes indent levels none)
refused_settles levels indent _ (v.too_deep deeper many) = rw (lt-ltb (innermost levels) indent deeper, le-ltb (length levels) MOST_INDENT_LEVELS many) refl

-- and what it gives is so
pub record SettledLevels (levels : List ℕ) (indent : ℕ) (after : List ℕ) (forms : List PieceForm) : Type 0 where
  pub indents : Indents levels indent after forms
  pub descend : Descend after

abbrev pub SettledIs : List ℕ → ℕ → LevelsSettled → Type 0
SettledIs levels indent (settled after forms) = SettledLevels levels indent after forms
SettledIs levels indent (missed kind) = IndentRefused levels indent kind

record ClosedLevels (indent : ℕ) (levels after : List ℕ) (forms : List PieceForm) : Type 0 where
  closes : Closes indent levels after forms
  descend : Descend after

abbrev ClosesIs : ℕ → List ℕ → LevelsSettled → Type 0
ClosesIs indent levels (settled after forms) = ClosedLevels indent levels after forms
ClosesIs indent levels (missed kind) = (kind ≡ BadIndent) × (is_level indent levels ≡ false)

closes_is : (indent : ℕ) (levels : List ℕ) → Descend levels → ClosesIs indent levels (closes indent levels)
closes_is indent [] descend = by_test (indent == 0) refl
  where
    by_test : (b : Bool) → (indent == 0) ≡ b → ClosesIs indent [] (if b then settled [] [] else missed BadIndent)
    by_test true e = record { closes = v.met (sym ((Decides-eqb indent 0).0 e)); descend = tt }
    by_test false e = (refl, e)
closes_is indent (level ∷ levels) descend = by_below (nat_lt indent level) refl (closes_is indent levels descend.1)
  where
    later : (s : LevelsSettled) → indent < level → ClosesIs indent levels s → ClosesIs indent (level ∷ levels) (with_close s)
    later (settled after forms) lt is = record { closes = v.closed lt is.closes; descend = is.descend }
    later (missed kind) lt is =
        let other : (indent == level) ≡ false = grind (arith, nat_tests) in
        (is.0, ap (λ (b : Bool). b || is_level indent levels) other ∙ is.1)

    by_here : (b : Bool) → (indent == level) ≡ b → level ≤ indent → ClosesIs indent (level ∷ levels) (if b then settled (level ∷ levels) [] else missed BadIndent)
    by_here true e le = record { closes = v.met (sym ((Decides-eqb indent level).0 e)); descend = descend }
    by_here false e le =
        let above : level < indent = grind (arith, nat_tests) in
        (refl, ap (λ (b : Bool). b || is_level indent levels) e ∙ none_below indent levels descend.1 (let d = descend.0 in omega arith))

    by_below : (b : Bool) → nat_lt indent level ≡ b → ClosesIs indent levels (closes indent levels)
        → ClosesIs indent (level ∷ levels) (if b then with_close (closes indent levels) else if indent == level then settled (level ∷ levels) [] else missed BadIndent)
    by_below true e is = later (closes indent levels) (ltb-true indent level e) is
    by_below false e is = by_here (indent == level) refl (ltb-false indent level e)

pub settled_is : (levels : List ℕ) (indent : ℕ) → Descend levels → SettledIs levels indent (settles levels indent)
settled_is levels indent descend = by_deeper (nat_lt (innermost levels) indent) refl
  where
    by_room : (b : Bool) → nat_lt (length levels) MOST_INDENT_LEVELS ≡ b → innermost levels < indent
        → SettledIs levels indent (if b then settled (indent ∷ levels) (level_opens ∷ []) else missed TooDeepIndent)
    by_room true e lt = record { indents = v.deeper lt (ltb-true (length levels) MOST_INDENT_LEVELS e); descend = (lt, descend) }
    by_room false e lt = v.too_deep lt (ltb-false (length levels) MOST_INDENT_LEVELS e)

    by_closes : (s : LevelsSettled) → indent ≤ innermost levels → ClosesIs indent levels s → SettledIs levels indent s
    by_closes (settled after forms) le is = record { indents = v.back is.closes; descend = is.descend }
    by_closes (missed kind) le is =
        let other = is_innermost indent levels is.1 in
        subst (IndentRefused levels indent) (sym is.0) (v.no_level (below (innermost levels) le other) is.1)
      where
        below : (n : ℕ) → indent ≤ n → ¬ (n ≡ indent) → indent < n
        below n le other = grind (arith, nat_tests)

    by_deeper : (b : Bool) → nat_lt (innermost levels) indent ≡ b
        → SettledIs levels indent (if b then opens levels indent else closes indent levels)
    by_deeper true e = by_room (nat_lt (length levels) MOST_INDENT_LEVELS) refl (ltb-true (innermost levels) indent e)
    by_deeper false e = by_closes (closes indent levels) (ltb-false (innermost levels) indent e) (closes_is indent levels descend)

-- what comes of lines: their pieces, or the first refusal
pub data PiecesRead : Type 0 where
  pieces_of : List Piece → PiecesRead
  refuses : Refusal → PiecesRead

abbrev pub with_pieces : List Piece → PiecesRead → PiecesRead
with_pieces pieces (pieces_of others) = pieces_of (pieces ++ others)
with_pieces pieces (refuses refusal) = refuses refusal

-- what comes of a line that isn't blank: the read after it goes by the levels after it
abbrev pub after_rest : (List ℕ → PiecesRead) → LineStart → ℕ → List ℕ → List PieceForm → Outcome → PiecesRead
after_rest go line indent after forms (spelled tokens) = with_pieces (line_pieces line indent forms tokens) (go after)
after_rest go line indent after forms (refused kind place) = refuses (refusal_at line kind place)

abbrev pub after_indent : (List ℕ → PiecesRead) → LineStart → List ℕ → LevelsSettled → PiecesRead
after_indent go line bytes (settled after forms) = after_rest go line (indentation bytes) after forms (rest_outcome (suc (length bytes)) line 0 bytes)
after_indent go line bytes (missed kind) = refuses (refusal_at line kind (indentation bytes))

abbrev pub after_line : (List ℕ → PiecesRead) → (List ℕ → PiecesRead) → LineStart → List ℕ → List ℕ → Bool → PiecesRead
after_line skip go line levels bytes true = skip levels
after_line skip go line levels bytes false = after_indent go line bytes (settles levels (indentation bytes))

pub lines_read : ℕ → List ℕ → ℕ → LineStart → List (List ℕ) → PiecesRead
lines_read size levels last line [] = pieces_of (closing size last levels)
lines_read size levels last line (bytes ∷ lines) =
    after_line (λ (after : List ℕ). lines_read size after last (line_after line bytes) lines)
    (λ (after : List ℕ). lines_read size after line.number (line_after line bytes) lines) line levels (content bytes) (is_blank (content bytes))

-- what is spelled is read
filled_read : (go : List ℕ → PiecesRead) (line : LineStart) (levels after : List ℕ) (bytes : List ℕ) (pieces : List Piece) → LineSpells line levels after bytes pieces
    → after_indent go line bytes (settles levels (indentation bytes)) ≡ with_pieces pieces (go after)
filled_read go line levels after bytes pieces l =
    ap (after_indent go line bytes) (indents_settle levels (indentation bytes) after l.forms l.indents)
    ∙ ap (after_rest go line (indentation bytes) after l.forms) (spells_outcome (suc (length bytes)) line 0 bytes l.tokens l.spells (omega arith))
    ∙ ap (λ (ps : List Piece). with_pieces ps (go after)) (sym l.pieces_are)

pub spelled_read : (size : ℕ) (levels : List ℕ) (last : ℕ) (line : LineStart) (lines : List (List ℕ)) (pieces : List Piece) → LinesSpell size levels last line lines pieces
    → lines_read size levels last line lines ≡ pieces_of pieces
unfolding lines_read
spelled_read size levels last line _ _ spell.no_line = refl
spelled_read size levels last line _ pieces (spell.after_blank {bytes = bytes} {lines = lines} is rest) =
    ap (after_line (λ (after : List ℕ). lines_read size after last (line_after line bytes) lines)
    (λ (after : List ℕ). lines_read size after line.number (line_after line bytes) lines) line levels (content bytes)) is
    ∙ spelled_read size levels last (line_after line bytes) lines pieces rest
spelled_read size levels last line _ _ (spell.after_filled {after = after} {bytes = bytes} {lines = lines} {pieces = pieces} {others = others} l rest) =
    ap (after_line (λ (after : List ℕ). lines_read size after last (line_after line bytes) lines)
    (λ (after : List ℕ). lines_read size after line.number (line_after line bytes) lines) line levels (content bytes)) l.filled
    ∙ filled_read (λ (after : List ℕ). lines_read size after line.number (line_after line bytes) lines) line levels after (content bytes) pieces l
    ∙ ap (with_pieces pieces) (spelled_read size after line.number (line_after line bytes) lines others rest)

-- what is refused is refused
line_read : (go : List ℕ → PiecesRead) (line : LineStart) (levels : List ℕ) (bytes : List ℕ) (refusal : Refusal) → LineRefused line levels bytes refusal
    → (is_blank bytes ≡ false) × (after_indent go line bytes (settles levels (indentation bytes)) ≡ refuses refusal)
line_read go line levels bytes _ (r.indented {kind = kind} filled is) =
    (filled, ap (after_indent go line bytes) (refused_settles levels (indentation bytes) kind is))
line_read go line levels bytes _ (r.on_line {after = after} {forms = forms} {kind = kind} {place = place} filled indents is) = (
  filled,
  ap (after_indent go line bytes) (indents_settle levels (indentation bytes) after forms indents)
      ∙ ap (after_rest go line (indentation bytes) after forms) (refused_outcome (suc (length bytes)) line 0 bytes kind place is (omega arith)),
)

pub refused_read : (size : ℕ) (levels : List ℕ) (last : ℕ) (line : LineStart) (lines : List (List ℕ)) (refusal : Refusal) → LinesRefused levels line lines refusal
    → lines_read size levels last line lines ≡ refuses refusal
unfolding lines_read
refused_read size levels last line _ refusal (r.on_this_line {bytes = bytes} {lines = lines} is) =
    let here = line_read (λ (after : List ℕ). lines_read size after line.number (line_after line bytes) lines) line levels (content bytes) refusal is in
    ap (after_line (λ (after : List ℕ). lines_read size after last (line_after line bytes) lines)
    (λ (after : List ℕ). lines_read size after line.number (line_after line bytes) lines) line levels (content bytes)) here.0
    ∙ here.1
refused_read size levels last line _ refusal (r.after_blank {bytes = bytes} {lines = lines} is rest) =
    ap (after_line (λ (after : List ℕ). lines_read size after last (line_after line bytes) lines)
    (λ (after : List ℕ). lines_read size after line.number (line_after line bytes) lines) line levels (content bytes)) is
    ∙ refused_read size levels last (line_after line bytes) lines refusal rest
refused_read size levels last line _ refusal (r.after_filled {after = after} {bytes = bytes} {lines = lines} {pieces = pieces} l rest) =
    ap (after_line (λ (after : List ℕ). lines_read size after last (line_after line bytes) lines)
    (λ (after : List ℕ). lines_read size after line.number (line_after line bytes) lines) line levels (content bytes)) l.filled
    ∙ filled_read (λ (after : List ℕ). lines_read size after line.number (line_after line bytes) lines) line levels after (content bytes) pieces l
    ∙ ap (with_pieces pieces) (refused_read size after line.number (line_after line bytes) lines refusal rest)

-- what is read is so
abbrev pub ReadIs : ℕ → List ℕ → ℕ → LineStart → List (List ℕ) → PiecesRead → Type 0
ReadIs size levels last line lines (pieces_of pieces) = LinesSpell size levels last line lines pieces
ReadIs size levels last line lines (refuses refusal) = LinesRefused levels line lines refusal

read_after_blank : (size : ℕ) (levels : List ℕ) (last : ℕ) (line : LineStart) (bytes : List ℕ) (lines : List (List ℕ)) (o : PiecesRead) → is_blank (content bytes) ≡ true
    → ReadIs size levels last (line_after line bytes) lines o → ReadIs size levels last line (bytes ∷ lines) o
read_after_blank size levels last line bytes lines (pieces_of pieces) blank is = spell.after_blank blank is
read_after_blank size levels last line bytes lines (refuses refusal) blank is = r.after_blank blank is

read_after_filled : (size : ℕ) (levels after : List ℕ) (last : ℕ) (line : LineStart) (bytes : List ℕ) (lines : List (List ℕ)) (pieces : List Piece) (o : PiecesRead)
    → LineSpells line levels after (content bytes) pieces → ReadIs size after line.number (line_after line bytes) lines o → ReadIs size levels last line (bytes ∷ lines) (with_pieces pieces o)
read_after_filled size levels after last line bytes lines pieces (pieces_of others) l is = spell.after_filled l is
read_after_filled size levels after last line bytes lines pieces (refuses refusal) l is = r.after_filled l is

pub read_is : (size : ℕ) (levels : List ℕ) (last : ℕ) (line : LineStart) (lines : List (List ℕ)) → Descend levels → ReadIs size levels last line lines (lines_read size levels last line lines)
unfolding lines_read
read_is size levels last line [] descend = spell.no_line
read_is size levels last line (bytes ∷ lines) descend =
    by_blank (is_blank (content bytes)) refl (λ after n d. read_is size after n (line_after line bytes) lines d)
  where
    by_rest : (after : List ℕ) (forms : List PieceForm) (o : Outcome) → is_blank (content bytes) ≡ false → SettledLevels levels (indentation (content bytes)) after forms
        → OutcomeIs line 0 (content bytes) o
        → ((after : List ℕ) (n : ℕ) → Descend after → ReadIs size after n (line_after line bytes) lines (lines_read size after n (line_after line bytes) lines))
        → ReadIs size levels last line (bytes ∷ lines)
        (after_rest (λ (after : List ℕ). lines_read size after line.number (line_after line bytes) lines) line (indentation (content bytes)) after forms o)
    by_rest after forms (spelled tokens) filled s is later =
        read_after_filled size levels after last line bytes lines (line_pieces line (indentation (content bytes)) forms tokens)
        (lines_read size after line.number (line_after line bytes) lines)
        (record { filled = filled; forms = forms; indents = s.indents; tokens = tokens; spells = is; pieces_are = refl })
        (later after line.number s.descend)
    by_rest after forms (refused kind place) filled s is later = r.on_this_line (r.on_line filled s.indents is)

    by_settled : (s : LevelsSettled) → is_blank (content bytes) ≡ false → SettledIs levels (indentation (content bytes)) s
        → ((after : List ℕ) (n : ℕ) → Descend after → ReadIs size after n (line_after line bytes) lines (lines_read size after n (line_after line bytes) lines))
        → ReadIs size levels last line (bytes ∷ lines)
        (after_indent (λ (after : List ℕ). lines_read size after line.number (line_after line bytes) lines) line (content bytes) s)
    by_settled (settled after forms) filled is later =
        by_rest after forms (rest_outcome (suc (length (content bytes))) line 0 (content bytes)) filled is (outcome_is (suc (length (content bytes))) line 0 (content bytes) (omega arith)) later
    by_settled (missed kind) filled is later = r.on_this_line (r.indented filled is)

    by_blank : (b : Bool) → is_blank (content bytes) ≡ b
        → ((after : List ℕ) (n : ℕ) → Descend after → ReadIs size after n (line_after line bytes) lines (lines_read size after n (line_after line bytes) lines))
        → ReadIs size levels last line (bytes ∷ lines)
        (after_line (λ (after : List ℕ). lines_read size after last (line_after line bytes) lines)
        (λ (after : List ℕ). lines_read size after line.number (line_after line bytes) lines) line levels (content bytes) b)
    by_blank true e later = read_after_blank size levels last line bytes lines (lines_read size levels last (line_after line bytes) lines) e (later levels last descend)
    by_blank false e later = by_settled (settles levels (indentation (content bytes))) e (settled_is levels (indentation (content bytes)) descend) later

-- the whole script
abbrev pub script_read : List ℕ → PiecesRead
script_read bytes = lines_read (length bytes) [] 0 first_line (full_lines bytes)

pub spells_read : (bytes : List ℕ) (tokens : List Token) (texts : List Text) (s : Spells bytes tokens texts) → script_read bytes ≡ pieces_of s.pieces
spells_read bytes tokens texts s = spelled_read (length bytes) [] 0 first_line (full_lines bytes) s.pieces s.spelled

pub first_refusal_read : (bytes : List ℕ) (refusal : Refusal) → IsFirstLexRefusal bytes refusal → script_read bytes ≡ refuses refusal
first_refusal_read bytes refusal is = refused_read (length bytes) [] 0 first_line (full_lines bytes) refusal is

pieces_in : PiecesRead → List Piece
pieces_in (pieces_of pieces) = pieces
pieces_in (refuses refusal) = []

pub pieces_once : (bytes : List ℕ) (t t' : List Token) (x x' : List Text) (s : Spells bytes t x) (s' : Spells bytes t' x') → s.pieces ≡ s'.pieces
unfolding pieces_in
pieces_once bytes t t' x x' s s' = ap pieces_in (sym (spells_read bytes t x s) ∙ spells_read bytes t' x' s')

pub texts_once : (bytes : List ℕ) (t t' : List Token) (x x' : List Text) → Spells bytes t x → Spells bytes t' x' → x ≡ x'
texts_once bytes t t' x x' s s' = s.texts_are ∙ ap script_texts (pieces_once bytes t t' x x' s s') ∙ sym s'.texts_are

pub tokens_once : (bytes : List ℕ) (t t' : List Token) (x x' : List Text) → Spells bytes t x → Spells bytes t' x' → t ≡ t'
tokens_once bytes t t' x x' s s' =
    s.tokens_are ∙ ap (λ (ts : List Text). map (token_of ts) s.pieces) (texts_once bytes t t' x x' s s')
    ∙ ap (map (token_of x')) (pieces_once bytes t t' x x' s s') ∙ sym s'.tokens_are

pub refusal_once : (bytes : List ℕ) (q q' : Refusal) → IsFirstLexRefusal bytes q → IsFirstLexRefusal bytes q' → q ≡ q'
refusal_once bytes q q' f f' = let e = sym (first_refusal_read bytes q f) ∙ first_refusal_read bytes q' f' in cc

pub never_both : (bytes : List ℕ) (t : List Token) (x : List Text) (q : Refusal) → Spells bytes t x → IsFirstLexRefusal bytes q → ⊥
never_both bytes t x q s f = let e = sym (spells_read bytes t x s) ∙ first_refusal_read bytes q f in cc

pub spelled_or_refused : (bytes : List ℕ) → ((t : List Token) × ((x : List Text) × Spells bytes t x)) ⊎ ((q : Refusal) × IsFirstLexRefusal bytes q)
spelled_or_refused bytes = by_read (script_read bytes) (read_is (length bytes) [] 0 first_line (full_lines bytes) tt)
  where
    by_read : (o : PiecesRead) → ReadIs (length bytes) [] 0 first_line (full_lines bytes) o → ((t : List Token) × ((x : List Text) × Spells bytes t x)) ⊎ ((q : Refusal) × IsFirstLexRefusal bytes q)
    by_read (pieces_of pieces) is = inl (
      map (token_of (script_texts pieces)) pieces,
      (script_texts pieces, record { pieces = pieces; spelled = is; texts_are = refl; tokens_are = refl }),
    )
    by_read (refuses refusal) is = inr (refusal, is)
