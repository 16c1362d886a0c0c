-- Each script is read, or has a first refusal.
use Rattle.std.proofs.Common.{◌≡◌, ℕ, ◌⊎◌, List, Option, Some, None, refl, inl, inr}
use Rattle.lf_base.specs.declared.refusals.Refusal.{Refusal}
use Rattle.lf_base.specs.Texts.{Text}
use Rattle.lf_lexer.specs.declared.tokens.Token.{Token}
use Rattle.lf_lexer.specs.Reading.{Spells}
use Rattle.lf_lexer.specs.Refusals as lexer
use Rattle.lf_lexer.proofs.TokenLaws.Layouts.{tokens_laid}
use Rattle.lf_lexer.proofs.OneOutcome.ScriptOutcomes.{spelled_or_refused}
use Rattle.lf_parser.specs.Plain.{PlainTree}
use Rattle.lf_parser.specs.Laws.{HasTreeOrRefusal}
use Rattle.lf_parser.proofs.Refusals.TreeOrRefused.{has_tree_or_refusal}
use Rattle.lf_parser.proofs.Refusals.ReadableTokens.{ends_once}
use Rattle.lf_codegen.specs.Earliest.{earliest}
use Rattle.lf_codegen.specs.NameRefusals.{refusals}
use Rattle.lf_codegen.specs.ScriptReading.{IsParsed, IsRead, IsFirstRefusal}
use Rattle.lf_codegen.proofs.FirstRefusal.First.{kept_is_first, none_came}

module _ (bytes : List ℕ) where
  abbrev pub ReadOr : Type 0
  ReadOr = ((texts : List Text) × ((tree : PlainTree) × IsRead bytes texts tree)) ⊎ ((refusal : Refusal) × IsFirstRefusal bytes refusal)

  by_names : (texts : List Text) (tree : PlainTree) → IsParsed bytes texts tree → (first : Option Refusal)
      → earliest None (refusals texts tree) ≡ first → ReadOr
  by_names texts tree p None e = inl (texts, (tree, record { parsed = p; resolves = none_came (refusals texts tree) e }))
  by_names texts tree p (Some refusal) e =
      inr (refusal, inr (inr (record { texts = texts; tree = tree; parsed = p; refused = kept_is_first (refusals texts tree) refusal e })))

  by_tokens : (tokens : List Token) (texts : List Text) → Spells bytes tokens texts → HasTreeOrRefusal tokens → ReadOr
  by_tokens tokens texts s (inl d) =
      by_names texts d.0 (record { tokens = tokens; spelled = s; derived = d.1 }) (earliest None (refusals texts d.0)) refl
  by_tokens tokens texts s (inr r) = inr (r.0, inr (inl (record { tokens = tokens; texts = texts; spelled = s; refused = r.1 })))

  by_bytes : ((tokens : List Token) × ((texts : List Text) × Spells bytes tokens texts))
      ⊎ ((refusal : Refusal) × lexer.IsFirstLexRefusal bytes refusal) → ReadOr
  by_bytes (inl s) = by_tokens s.0 s.1.0 s.1.1 (has_tree_or_refusal s.0 (ends_once (tokens_laid bytes s.0 s.1.0 s.1.1)))
  by_bytes (inr r) = inr (r.0, inl r.1)

  pub read_or : ReadOr
  read_or = by_bytes (spelled_or_refused bytes)
