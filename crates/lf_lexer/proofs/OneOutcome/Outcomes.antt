-- What comes of a line's rest, and of the lines of a script, as functions.
use Rattle.std.proofs.Common.{◌≡◌, ◌∙◌, ℕ, zero, suc, ◌+◌, ◌-◌, ◌<◌, ◌≤◌, ◌⊎◌, inl, inr, List, [], ◌∷◌, ◌++◌, length, take, drop, refl, sym, ap, subst, arith, append_assoc, length-append, length-drop, lit<}
use Rattle.std.proofs.Math.Seq.{take-append_seam, drop-append_seam}
use Rattle.std.proofs.lemmas.List.{length-take-le, take-append-drop}
use Rattle.lf_base.specs.declared.refusals.RefusalKind.{RefusalKind}
use Rattle.lf_lexer.specs.declared.front.Front.{Front}
use Rattle.lf_lexer.specs.declared.front.Front.TheVariants as f
use Rattle.lf_lexer.specs.declared.line_start.LineStart.{LineStart}
use Rattle.lf_lexer.specs.Front.{front}
use Rattle.lf_lexer.specs.Meaning.{meaning}
use Rattle.lf_lexer.specs.Pieces.{PieceForm, name, number, text_of, mark_of, Piece, TextBytes, Longest, RestSpells}
use Rattle.lf_lexer.specs.Pieces as p
use Rattle.lf_lexer.specs.Refusals.{FrontRefused, RestRefused}
use Rattle.lf_lexer.specs.Refusals as r
use Rattle.lf_lexer.proofs.NextPiece.Fronts.{token_front, longest_front, refused_front, Taken, Stands, stands}
use Rattle.lf_lexer.proofs.NextPiece.TextBytes.{meaning_is}

-- what comes of a line's rest: its pieces, or what is refused and where
pub data Outcome : Type 0 where
  spelled : List Piece → Outcome
  refused : RefusalKind → ℕ → Outcome

abbrev pub with_piece : Piece → Outcome → Outcome
with_piece piece (spelled pieces) = spelled (piece ∷ pieces)
with_piece piece (refused kind place) = refused kind place

abbrev pub at_front : LineStart → ℕ → List ℕ → PieceForm → ℕ → Piece
at_front line at bytes form len = record { form = form; line = line; at = at; bytes = take len bytes }

-- by what stands at the front, and what comes of the rest after it
abbrev pub front_outcome : (ℕ → List ℕ → Outcome) → LineStart → ℕ → List ℕ → Front → Outcome
front_outcome go line at bytes f.End = spelled []
front_outcome go line at bytes f.Space = go (at + 1) (drop 1 bytes)
front_outcome go line at bytes (f.Name len) = with_piece (at_front line at bytes name len) (go (at + len) (drop len bytes))
front_outcome go line at bytes (f.Number value len) = with_piece (at_front line at bytes number len) (go (at + len) (drop len bytes))
front_outcome go line at bytes (f.Text len) = with_piece (at_front line at bytes (text_of (meaning (take len (drop 1 bytes)))) (len + 2)) (go (at + (len + 2)) (drop (len + 2) bytes))
front_outcome go line at bytes (f.Sign mark len) = with_piece (at_front line at bytes (mark_of mark) len) (go (at + len) (drop len bytes))
front_outcome go line at bytes (f.Refused kind offset) = refused kind (at + offset)

-- by rounds
pub rest_outcome : ℕ → LineStart → ℕ → List ℕ → Outcome
rest_outcome zero line at bytes = spelled []
rest_outcome (suc rounds) line at bytes = front_outcome (rest_outcome rounds line) line at bytes (front bytes)

-- a token has a byte
pub longest_some : (word rest : List ℕ) (form : PieceForm) → Longest word rest form → 0 < length word
longest_some _ rest _ (p.a_name letter passes stops no_word) = omega arith
longest_some _ rest _ (p.a_word letter passes stops word) = omega arith
longest_some _ rest _ (p.a_number digit passes stops small) = omega arith
longest_some _ rest _ (p.a_text good) = omega arith
longest_some _ rest _ (p.a_short_sign no_long sign) = omega arith
longest_some _ rest _ (p.a_long_sign sign) = omega arith

-- a token at the front
module _ (go : ℕ → List ℕ → Outcome) (line : LineStart) (at : ℕ) where
  taken_on : (word rest : List ℕ) (form : PieceForm) (len : ℕ) → len ≡ length word
      → with_piece (at_front line at (word ++ rest) form len) (go (at + len) (drop len (word ++ rest)))
      ≡ with_piece (record { form = form; line = line; at = at; bytes = word }) (go (at + length word) rest)
  taken_on word rest form len long =
      ap (λ (n : ℕ). with_piece (at_front line at (word ++ rest) form n) (go (at + n) (drop n (word ++ rest)))) long
      ∙ ap (λ (w : List ℕ). with_piece (record { form = form; line = line; at = at; bytes = w }) (go (at + length word) (drop (length word) (word ++ rest)))) (take-append_seam word rest)
      ∙ ap (λ (rest' : List ℕ). with_piece (record { form = form; line = line; at = at; bytes = word }) (go (at + length word) rest')) (drop-append_seam word rest)

  pub token_on : (word rest : List ℕ) (form : PieceForm) → Longest word rest form
      → front_outcome go line at (word ++ rest) (token_front form word) ≡ with_piece (record { form = form; line = line; at = at; bytes = word }) (go (at + length word) rest)
  token_on _ rest _ (p.a_name {byte = byte} {bytes = bytes} letter passes stops no_word) = taken_on (byte ∷ bytes) rest name (length (byte ∷ bytes)) refl
  token_on _ rest _ (p.a_word {byte = byte} {bytes = bytes} {mark = mark} letter passes stops word) = taken_on (byte ∷ bytes) rest (mark_of mark) (length (byte ∷ bytes)) refl
  token_on _ rest _ (p.a_number {byte = byte} {bytes = bytes} digit passes stops small) = taken_on (byte ∷ bytes) rest number (length (byte ∷ bytes)) refl
  token_on _ rest _ (p.a_text {bytes = bytes} {text = text} good) =
      let word : List ℕ = 34 ∷ (bytes ++ 34 ∷ []) in
      let len = length word - 2 in
      let long : len ≡ length bytes = let l = length-append bytes (34 ∷ []) in omega arith in
      let inner : take len (drop 1 (word ++ rest)) ≡ bytes =
      ap (λ (n : ℕ). take n ((bytes ++ 34 ∷ []) ++ rest)) long ∙ ap (take (length bytes)) (append_assoc bytes (34 ∷ []) rest) ∙ take-append_seam bytes (34 ∷ rest) in
      ap (λ (t : List ℕ). with_piece (at_front line at (word ++ rest) (text_of t) (len + 2)) (go (at + (len + 2)) (drop (len + 2) (word ++ rest)))) (ap meaning inner ∙ meaning_is bytes text good)
      ∙ taken_on word rest (text_of text) (len + 2) (let l = length-append bytes (34 ∷ []) in omega arith)
  token_on _ rest _ (p.a_short_sign {byte = byte} {mark = mark} no_long sign) = taken_on (byte ∷ []) rest (mark_of mark) 1 refl
  token_on _ rest _ (p.a_long_sign {byte = byte} {next = next} {mark = mark} sign) = taken_on (byte ∷ next ∷ []) rest (mark_of mark) 2 refl

shorter : (word rest : List ℕ) (form : PieceForm) (rounds : ℕ) → Longest word rest form → length (word ++ rest) < suc rounds → length rest < rounds
shorter word rest form rounds longest lt = let some = longest_some word rest form longest in let l = length-append word rest in omega arith

-- what is spelled comes out
pub spells_outcome : (rounds : ℕ) (line : LineStart) (at : ℕ) (bytes : List ℕ) (pieces : List Piece) → RestSpells line at bytes pieces → length bytes < rounds
    → rest_outcome rounds line at bytes ≡ spelled pieces
unfolding front rest_outcome
spells_outcome zero line at bytes pieces spells lt = absurd (omega arith)
spells_outcome (suc rounds) line at _ _ p.ended lt = refl
spells_outcome (suc rounds) line at _ _ p.comment lt = refl
spells_outcome (suc rounds) line at _ pieces (p.space {rest = rest} spells) lt = spells_outcome rounds line (at + 1) rest pieces spells (omega arith)
spells_outcome (suc rounds) line at _ _ (p.next {word = word} {rest = rest} {form = form} {pieces = others} longest spells) lt =
    ap (front_outcome (rest_outcome rounds line) line at (word ++ rest)) (longest_front word rest form longest)
    ∙ token_on (rest_outcome rounds line) line at word rest form longest
    ∙ ap (with_piece (record { form = form; line = line; at = at; bytes = word }))
    (spells_outcome rounds line (at + length word) rest others spells (shorter word rest form rounds longest lt))

-- what is refused comes out
pub refused_outcome : (rounds : ℕ) (line : LineStart) (at : ℕ) (bytes : List ℕ) (kind : RefusalKind) (place : ℕ) → RestRefused at bytes kind place → length bytes < rounds
    → rest_outcome rounds line at bytes ≡ refused kind place
unfolding front rest_outcome
refused_outcome zero line at bytes kind place is lt = absurd (omega arith)
refused_outcome (suc rounds) line at _ _ _ (r.at_front {offset = offset} {bytes = bytes} {kind = kind} is) lt =
    ap (front_outcome (rest_outcome rounds line) line at bytes) (refused_front bytes kind offset is)
refused_outcome (suc rounds) line at _ kind place (r.after_space {rest = rest} is) lt = refused_outcome rounds line (at + 1) rest kind place is (omega arith)
refused_outcome (suc rounds) line at _ kind place (r.after_token {word = word} {rest = rest} {form = form} longest is) lt =
    ap (front_outcome (rest_outcome rounds line) line at (word ++ rest)) (longest_front word rest form longest)
    ∙ token_on (rest_outcome rounds line) line at word rest form longest
    ∙ ap (with_piece (record { form = form; line = line; at = at; bytes = word }))
    (refused_outcome rounds line (at + length word) rest kind place is (shorter word rest form rounds longest lt))

-- what comes out is so
abbrev pub OutcomeIs : LineStart → ℕ → List ℕ → Outcome → Type 0
OutcomeIs line at bytes (spelled pieces) = RestSpells line at bytes pieces
OutcomeIs line at bytes (refused kind place) = RestRefused at bytes kind place

after_taken : (line : LineStart) (at : ℕ) (bytes : List ℕ) (form : PieceForm) (len : ℕ) (o : Outcome) → Taken bytes len form → OutcomeIs line (at + len) (drop len bytes) o
    → OutcomeIs line at bytes (with_piece (at_front line at bytes form len) o)
after_taken line at bytes form len (spelled pieces) taken is =
    let piece = at_front line at bytes form len in
    subst (λ (all : List ℕ). RestSpells line at all (piece ∷ pieces)) (take-append-drop len bytes)
    (p.next taken.longest (subst (λ (n : ℕ). RestSpells line (at + n) (drop len bytes) pieces) (sym (length-take-le len bytes taken.within)) is))
after_taken line at bytes form len (refused kind place) taken is =
    subst (λ (all : List ℕ). RestRefused at all kind place) (take-append-drop len bytes)
    (r.after_token taken.longest (subst (λ (n : ℕ). RestRefused (at + n) (drop len bytes) kind place) (sym (length-take-le len bytes taken.within)) is))

after_space : (line : LineStart) (at : ℕ) (bytes : List ℕ) (o : Outcome) → bytes ≡ 32 ∷ drop 1 bytes → OutcomeIs line (at + 1) (drop 1 bytes) o → OutcomeIs line at bytes o
after_space line at bytes (spelled pieces) space is = subst (λ (all : List ℕ). RestSpells line at all pieces) (sym space) (p.space is)
after_space line at bytes (refused kind place) space is = subst (λ (all : List ℕ). RestRefused at all kind place) (sym space) (r.after_space is)

pub outcome_is : (rounds : ℕ) (line : LineStart) (at : ℕ) (bytes : List ℕ) → length bytes < rounds → OutcomeIs line at bytes (rest_outcome rounds line at bytes)
unfolding rest_outcome front
outcome_is zero line at bytes lt = absurd (omega arith)
outcome_is (suc rounds) line at bytes lt =
    by_front (front bytes) (stands bytes) (λ len some within. outcome_is rounds line (at + len) (drop len bytes) (let d = length-drop len bytes in omega arith))
  where
    ends : (bytes ≡ []) ⊎ (bytes ≡ 35 ∷ drop 1 bytes) → RestSpells line at bytes []
    ends (inl e) = subst (λ (all : List ℕ). RestSpells line at all []) (sym e) p.ended
    ends (inr e) = subst (λ (all : List ℕ). RestSpells line at all []) (sym e) p.comment

    by_taken : (form : PieceForm) (len : ℕ) → Taken bytes len form
        → ((len : ℕ) → 0 < len → len ≤ length bytes → OutcomeIs line (at + len) (drop len bytes) (rest_outcome rounds line (at + len) (drop len bytes)))
        → OutcomeIs line at bytes (with_piece (at_front line at bytes form len) (rest_outcome rounds line (at + len) (drop len bytes)))
    by_taken form len taken after =
        after_taken line at bytes form len (rest_outcome rounds line (at + len) (drop len bytes)) taken (after len taken.some taken.within)

    by_front : (x : Front) → Stands bytes x
        → ((len : ℕ) → 0 < len → len ≤ length bytes → OutcomeIs line (at + len) (drop len bytes) (rest_outcome rounds line (at + len) (drop len bytes)))
        → OutcomeIs line at bytes (front_outcome (rest_outcome rounds line) line at bytes x)
    by_front f.End is after = ends is
    by_front f.Space is after =
        after_space line at bytes (rest_outcome rounds line (at + 1) (drop 1 bytes)) is (after 1 (lit< tt) (let e = ap length is in omega arith))
    by_front (f.Name len) taken after = by_taken name len taken after
    by_front (f.Number value len) taken after = by_taken number len taken.0 after
    by_front (f.Text len) taken after = by_taken (text_of (meaning (take len (drop 1 bytes)))) (len + 2) taken after
    by_front (f.Sign mark len) taken after = by_taken (mark_of mark) len taken after
    by_front (f.Refused kind offset) is after = r.at_front is

-- after a space
pub skip_space : (line : LineStart) (at : ℕ) (rest : List ℕ) (pieces : List Piece) → RestSpells line at (32 ∷ rest) pieces → RestSpells line (at + 1) rest pieces
unfolding rest_outcome front
skip_space line at rest pieces spells =
    subst (OutcomeIs line (at + 1) rest) (spells_outcome (suc (suc (length rest))) line at (32 ∷ rest) pieces spells (omega arith)) (outcome_is (suc (length rest)) line (at + 1) rest (omega arith))
