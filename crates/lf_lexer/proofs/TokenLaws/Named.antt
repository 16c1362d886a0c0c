-- The texts that the tokens of each script name are there.
use Rattle.std.proofs.Common.{ℕ, ◌<◌, List, [], ◌∷◌, length, map, sym, subst}
use Rattle.std.proofs.lemmas.Grind.{fold-append}
use Rattle.lf_base.specs.Texts.{Text, place_of, with_text, with_texts, fixed_texts, Grows, TextsDiffer}
use Rattle.lf_base.proofs.TextLemmas.TextLists.{place_of_within, list_any_kept, list_any-with_text, grows_self, grows_on, grows-with_texts, Differ-with_texts, Differ-fixed_texts}
use Rattle.lf_lexer.specs.declared.tokens.Token.{Token}
use Rattle.lf_lexer.specs.Pieces.{PieceForm, name, number, text_of, mark_of, line_end, level_opens, level_closes, script_end, Piece}
use Rattle.lf_lexer.specs.Tokens.{texts_of_form, texts_of_pieces, lexeme_of, token_of}
use Rattle.lf_lexer.specs.Reading.{Spells}
use Rattle.lf_lexer.specs.NamedTexts.{NamesWithin, AllNameWithin}

-- a text that was seen is there from then on
seen_within : (base : List Text) (text : Text) (after : List Text) → Grows (with_text base text) after → place_of after text < length after
seen_within base text after grows =
    place_of_within after text (list_any_kept (with_text base text) after text grows (list_any-with_text base text))

form_within : (base : List Text) (form : PieceForm) (bytes : List ℕ) (after : List Text) → Grows (with_texts base (texts_of_form form bytes)) after → NamesWithin (length after) (lexeme_of after form bytes)
form_within base name bytes after grows = seen_within base bytes after grows
form_within base number bytes after grows = tt
form_within base (text_of text) bytes after grows = seen_within base text after grows
form_within base (mark_of mark) bytes after grows = tt
form_within base line_end bytes after grows = tt
form_within base level_opens bytes after grows = tt
form_within base level_closes bytes after grows = tt
form_within base script_end bytes after grows = tt

pieces_named : (base : List Text) (pieces : List Piece) (after : List Text) → Grows (with_texts base (texts_of_pieces pieces)) after → AllNameWithin (length after) (map (token_of after) pieces)
pieces_named base [] after grows = tt
pieces_named base (piece ∷ pieces) after grows =
    let here = with_texts base (texts_of_form piece.form piece.bytes) in
    let rest : Grows (with_texts here (texts_of_pieces pieces)) after =
    subst (λ (ts : List Text). Grows ts after) (fold-append with_text base (texts_of_form piece.form piece.bytes) (texts_of_pieces pieces)) grows in (
      form_within base piece.form piece.bytes after (grows_on here (with_texts here (texts_of_pieces pieces)) after (grows-with_texts here (texts_of_pieces pieces)) rest),
      pieces_named here pieces after rest,
    )

pub tokens_named : (bytes : List ℕ) (tokens : List Token) (texts : List Text) → Spells bytes tokens texts → AllNameWithin (length texts) tokens
tokens_named bytes tokens texts s =
    subst (AllNameWithin (length texts)) (sym s.tokens_are)
    (pieces_named fixed_texts s.pieces texts (subst (λ (ts : List Text). Grows ts texts) s.texts_are (grows_self texts)))

pub texts_begin : (bytes : List ℕ) (tokens : List Token) (texts : List Text) → Spells bytes tokens texts → Grows fixed_texts texts
texts_begin bytes tokens texts s = subst (Grows fixed_texts) (sym s.texts_are) (grows-with_texts fixed_texts (texts_of_pieces s.pieces))

pub texts_differ : (bytes : List ℕ) (tokens : List Token) (texts : List Text) → Spells bytes tokens texts → TextsDiffer texts
texts_differ bytes tokens texts s = subst TextsDiffer (sym s.texts_are) (Differ-with_texts fixed_texts (texts_of_pieces s.pieces) Differ-fixed_texts)
