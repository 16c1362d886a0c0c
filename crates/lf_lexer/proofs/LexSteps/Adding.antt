-- Pieces that come to what was lexed before, one after another.
use Rattle.std.proofs.Common.{◌≡◌, ◌∙◌, ℕ, ◌+◌, ◌≤◌, List, [], ◌∷◌, ◌++◌, length, map, take, pos, refl, sym, ap, subst, append-nil, append_assoc, ℤ}
use Rattle.std.specs.Str.Parse.{digits_value}
use Rattle.std.proofs.lemmas.List.{length-take-le, map-append}
use Rattle.std.proofs.lemmas.Grind.{flat_map-append, fold-append}
use Rattle.lf_base.specs.Texts.{Text, place_of, with_text, with_texts, Grows}
use Rattle.lf_base.proofs.TextLemmas.TextLists.{place_of-with_text, grows_on, grows-with_texts}
use Rattle.lf_lexer.specs.declared.tokens.Mark.{Mark}
use Rattle.lf_lexer.specs.declared.tokens.Lexeme.{Lexeme}
use Rattle.lf_lexer.specs.declared.tokens.Lexeme.TheVariants as lexeme
use Rattle.lf_lexer.specs.declared.tokens.Token.{Token}
use Rattle.lf_lexer.specs.declared.lexed.Lexed.{Lexed}
use Rattle.lf_lexer.specs.declared.line_start.LineStart.{LineStart}
use Rattle.lf_lexer.specs.Places.{token_at}
use Rattle.lf_lexer.specs.Lexed.{with_token, with_name, with_quoted}
use Rattle.lf_lexer.specs.Pieces.{PieceForm, name, number, text_of, mark_of, Piece}
use Rattle.lf_lexer.specs.Tokens.{texts_of_form, texts_of_pieces, lexeme_of, token_of}
use Rattle.lf_lexer.specs.Reading.{empty_piece}
use Rattle.lf_lexer.specs.Lexing.{AddsPieces}

pub adds_none : (lexed : Lexed) → AddsPieces lexed lexed []
adds_none lexed = record { texts = refl; tokens = λ after grows. sym (append-nil lexed.tokens) }

pub adds_on : (a b c : Lexed) (before later : List Piece) → AddsPieces a b before → AddsPieces b c later → AddsPieces a c (before ++ later)
adds_on a b c before later first second = record {
  texts =
      second.texts ∙ ap (λ (ts : List Text). with_texts ts (texts_of_pieces later)) first.texts
      ∙ sym (fold-append with_text a.texts (texts_of_pieces before) (texts_of_pieces later))
      ∙ ap (with_texts a.texts) (sym (flat_map-append (λ (piece : Piece). texts_of_form piece.form piece.bytes) before later));
  tokens = λ after grows.
      let token = token_of after in
      let grown = grows_on b.texts c.texts after (subst (Grows b.texts) (sym second.texts) (grows-with_texts b.texts (texts_of_pieces later))) grows in
      second.tokens after grows ∙ ap (λ (ts : List Token). ts ++ map token later) (first.tokens after grown)
      ∙ append_assoc a.tokens (map token before) (map token later)
      ∙ ap (λ (ts : List Token). a.tokens ++ ts) (sym (map-append token before later));
}

-- a piece whose token has no text
adds_plain : (old new : Lexed) (piece : Piece) (l : Lexeme) (len : ℕ) → texts_of_form piece.form piece.bytes ≡ [] → ((after : List Text) → lexeme_of after piece.form piece.bytes ≡ l)
    → length piece.bytes ≡ len → new ≡ with_token old (token_at piece.line piece.at l len) → AddsPieces old new (piece ∷ [])
adds_plain old new piece l len no_text lexeme_is long is = record {
  texts = ap (λ (x : Lexed). x.texts) is ∙ ap (with_texts old.texts) (sym (append-nil (texts_of_form piece.form piece.bytes) ∙ no_text));
  tokens = λ after grows.
      ap (λ (x : Lexed). x.tokens) is
      ∙ ap (λ (x : Lexeme). old.tokens ++ token_at piece.line piece.at x len ∷ []) (sym (lexeme_is after))
      ∙ ap (λ (n : ℕ). old.tokens ++ token_at piece.line piece.at (lexeme_of after piece.form piece.bytes) n ∷ []) (sym long);
}

pub adds_empty : (old new : Lexed) (line : LineStart) (at : ℕ) (form : PieceForm) (l : Lexeme) → texts_of_form form [] ≡ [] → ((after : List Text) → lexeme_of after form [] ≡ l)
    → new ≡ with_token old (token_at line at l 0) → AddsPieces old new (empty_piece line at form ∷ [])
adds_empty old new line at form l no_text lexeme_is is = adds_plain old new (empty_piece line at form) l 0 no_text lexeme_is refl is

-- a piece at the front of a line's rest
module _ (line : LineStart) (at len : ℕ) (rest : List ℕ) (old new : Lexed) (within : len ≤ length rest) where
  abbrev at_front : PieceForm → Piece
  at_front form = record { form = form; line = line; at = at; bytes = take len rest }

  pub adds_number : (value : ℤ) → value ≡ pos (digits_value 10 (take len rest)) → new ≡ with_token old (token_at line at (lexeme.Number value) len) → AddsPieces old new (at_front number ∷ [])
  adds_number value value_is is =
      adds_plain old new (at_front number) (lexeme.Number value) len refl (λ after. ap lexeme.Number (sym value_is)) (length-take-le len rest within) is

  pub adds_mark : (mark : Mark) → new ≡ with_token old (token_at line at (lexeme.Mark mark) len) → AddsPieces old new (at_front (mark_of mark) ∷ [])
  adds_mark mark is = adds_plain old new (at_front (mark_of mark)) (lexeme.Mark mark) len refl (λ after. refl) (length-take-le len rest within) is

  pub adds_name : new ≡ with_name line old at (take len rest) → AddsPieces old new (at_front name ∷ [])
  adds_name is = record {
    texts = ap (λ (l : Lexed). l.texts) is;
    tokens = λ after grows.
        let word = take len rest in
        let grown = subst (λ (ts : List Text). Grows ts after) (ap (λ (l : Lexed). l.texts) is) grows in
        let place : place_of after word ≡ place_of old.texts word = place_of-with_text old.texts after word grown in
        ap (λ (l : Lexed). l.tokens) is
        ∙ ap (λ (n : ℕ). old.tokens ++ token_at line at (lexeme.Name (record { index = n })) (length word) ∷ []) (sym place);
  }

pub adds_quoted : (line : LineStart) (at len : ℕ) (rest : List ℕ) (old new : Lexed) (text : Text) → len + 2 ≤ length rest → new ≡ with_quoted line old at text len
    → AddsPieces old new ((record { form = text_of text; line = line; at = at; bytes = take (len + 2) rest }) ∷ [])
adds_quoted line at len rest old new text within is = record {
  texts = ap (λ (l : Lexed). l.texts) is;
  tokens = λ after grows.
      let grown = subst (λ (ts : List Text). Grows ts after) (ap (λ (l : Lexed). l.texts) is) grows in
      let place : place_of after text ≡ place_of old.texts text = place_of-with_text old.texts after text grown in
      let long : length (take (len + 2) rest) ≡ len + 2 = length-take-le (len + 2) rest within in
      ap (λ (l : Lexed). l.tokens) is
      ∙ ap (λ (n : ℕ). old.tokens ++ token_at line at (lexeme.Text (record { index = n })) (len + 2) ∷ []) (sym place)
      ∙ ap (λ (n : ℕ). old.tokens ++ token_at line at (lexeme.Text (record { index = place_of after text })) n ∷ []) (sym long);
}
