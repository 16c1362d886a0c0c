-- The texts that the tree of a script names are there.
use Rattle.std.proofs.Common.{◌≡◌, ◌<◌, ℕ, List, [], ◌∷◌, ◌++◌, length, flat_map, refl, inl, inr}
use Rattle.lf_base.specs.declared.ids.TextId.{TextId}
use Rattle.lf_base.specs.Sets.{Member}
use Rattle.lf_base.specs.Texts.{Text}
use Rattle.lf_base.proofs.ListLemmas.Members.{Member_of_append}
use Rattle.lf_base.proofs.ListLemmas.Sublists.{sub_within}
use Rattle.lf_lexer.specs.declared.tokens.Token.{Token}
use Rattle.lf_lexer.specs.NamedTexts.{AllNameWithin}
use Rattle.lf_lexer.proofs.TokenLaws.Named.{tokens_named}
use Rattle.lf_parser.specs.Plain.{PlainTree}
use Rattle.lf_parser.specs.Grammar as form
use Rattle.lf_parser.specs.Refusals.{AnyCount, Derives}
use Rattle.lf_parser.proofs.Order.FunctionsAndMain.{script_spread}
use Rattle.lf_parser.proofs.Order.MergedLists.{first_part, second_part}
use Rattle.lf_codegen.specs.ScriptReading.{IsParsed, IsRead}
use Rattle.lf_codegen.specs.TextsNamed.{stmt_texts, block_texts, function_texts, tree_texts, TextsAreThere, IsFitForCode}
use Rattle.lf_codegen.proofs.Answering.OneAnswer.{derives, parsed_lines}
use Rattle.lf_codegen.proofs.FrameOrder.WhenOrder.{whens_rise}
use Rattle.lf_codegen.proofs.TextsOfTokens.StatementTexts.{stmts_texts_last, blocks_add, stmt_adds, def_adds}
use Rattle.lf_codegen.proofs.TextsOfTokens.TextsAmongTokens.{texts_among}

derived_texts : (count : ℕ) (tokens : List Token) (tree : PlainTree) → Derives tokens tree → AllNameWithin count tokens
    → (t : TextId) → Member t (tree_texts tree) → t.index < count
derived_texts count tokens tree d w t m =
    let h = d.2 in
    let s = script_spread (texts_among count) tt function_texts stmt_texts block_texts (stmts_texts_last count) AnyCount d.0 d.1 h.0
    (def_adds count AnyCount d.0 d.1 h.0) (stmt_adds count AnyCount d.0 d.1 (form.blocks AnyCount d.0 d.1 h.0)
    (blocks_add count AnyCount d.0 d.1 h.0))
    refl tokens tree h.1 in
    s.stand.within w t (elim (Member_of_append t (flat_map function_texts tree.functions) (block_texts tree.main) m) [
      | inl k ↦ sub_within (first_part s.merged) t k
      | inr k ↦ sub_within (second_part s.merged) t k
    ])

texts_there : (bytes : List ℕ) (texts : List Text) (tree : PlainTree) → IsParsed bytes texts tree → TextsAreThere texts tree
texts_there bytes texts tree p =
    derived_texts (length texts) p.tokens tree (derives p.tokens tree p.derived) (tokens_named bytes p.tokens texts p.spelled)

pub read_is_fit : (bytes : List ℕ) (texts : List Text) (tree : PlainTree) → IsRead bytes texts tree
    → IsFitForCode (record { texts = texts; tree = tree })
read_is_fit bytes texts tree r = record {
  resolves = r.resolves;
  texts_there = texts_there bytes texts tree r.parsed;
  whens_in_order = whens_rise tree (parsed_lines bytes texts tree r.parsed);
}
