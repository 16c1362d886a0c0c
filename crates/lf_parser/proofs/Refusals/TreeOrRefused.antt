-- Tokens that end once make a tree, or have a refusal: reading them decides.
use Rattle.std.proofs.Common.{◌≡◌, ℕ, ◌+◌, ◌⊎◌, List, [], ◌∷◌, length, get_or, refl, inl, inr, arith}
use Rattle.lf_lexer.specs.declared.tokens.Token.{Token}
use Rattle.lf_parser.specs.Parsers.{ReadOutcome, Ok, Err}
use Rattle.lf_parser.specs.Plain.{PlainTree}
use Rattle.lf_parser.specs.ReadingFunctions as read
use Rattle.lf_parser.specs.Refusals.{LinesFit, EndsOnce, IsFirstPast, stopped, too_many}
use Rattle.lf_parser.specs.Limits.{within_limits}
use Rattle.lf_parser.specs.Laws.{HasTreeOrRefusal}
use Rattle.lf_parser.proofs.Refusals.ExactReading.{read_script, refused_script}
use Rattle.lf_parser.proofs.Refusals.LongLines.{fit_or_past}
use Rattle.lf_parser.proofs.Refusals.WithLineLimit.{stopped_whole, up_to_past, whole_prefix, taken_prefix, stopped_prefix}

module _ (tokens : List Token) (ends : EndsOnce tokens) (d : Token) where
  by_whole : LinesFit tokens → (o : ReadOutcome PlainTree) → within_limits read.a_script (length tokens + 1) tokens ≡ o → HasTreeOrRefusal tokens
  by_whole fits (Ok tree left) e = inl (tree, ((read_script _ tokens left tree ends e).tree, fits))
  by_whole fits (Err c left) e =
      let s = refused_script _ tokens left c ends (omega arith) e in
      inr (stopped c s.token, stopped_whole tokens left c s fits)

  by_prefix : (i : ℕ) (p : IsFirstPast tokens i) (o : ReadOutcome PlainTree) → within_limits read.a_script (i + 2) (up_to_past tokens i d p) ≡ o → HasTreeOrRefusal tokens
  by_prefix i p (Ok tree left) e = inr (too_many (get_or tokens i d), whole_prefix tokens i d p (i + 2) left tree ends e)
  by_prefix i p (Err c []) e = inr (too_many (get_or tokens i d), taken_prefix tokens i d p (i + 2) [] c (omega arith) e)
  by_prefix i p (Err c (x ∷ r)) e = inr (stopped c x, stopped_prefix tokens i d p (i + 2) (x ∷ r) c (omega arith) (omega arith) e)

  by_lines : LinesFit tokens ⊎ ((i : ℕ) × IsFirstPast tokens i) → HasTreeOrRefusal tokens
  by_lines (inl fits) = by_whole fits (within_limits read.a_script (length tokens + 1) tokens) refl
  by_lines (inr p) = by_prefix p.0 p.1 (within_limits read.a_script (p.0 + 2) (up_to_past tokens p.0 d p.1)) refl

pub has_tree_or_refusal : (tokens : List Token) → EndsOnce tokens → HasTreeOrRefusal tokens
has_tree_or_refusal [] ends = absurd ends
has_tree_or_refusal (t ∷ ts) ends = by_lines (t ∷ ts) ends t (fit_or_past (t ∷ ts))
