-- The lines of the statements of a script's tree ascend as their tokens do.
use Rattle.std.proofs.Common.{List, refl, subst, sym, ◌≤◌}
use Rattle.std.specs.Prelude.{eqb, ltb}
use Rattle.lf_base.specs.declared.limits.TheConstants.{MOST_EXPRESSION_LEVELS}
use Rattle.lf_base.specs.Texts.{Text}
use Rattle.lf_lexer.specs.declared.tokens.Token.{Token}
use Rattle.lf_lexer.specs.LineOrder.{OnLines}
use Rattle.lf_lexer.specs.Reading.{AreSpelled}
use Rattle.lf_lexer.proofs.TokenLaws.LineOrders.{tokens_on_lines}
use Rattle.lf_parser.specs.Plain.{PlainTree}
use Rattle.lf_parser.specs.Refusals.{AnyCount, Derives, IsTree}
use Rattle.lf_parser.specs.TreeLines.{stmt_lines, block_lines, function_lines, LinesInOrder}
use Rattle.lf_parser.proofs.Refusals.ExactReading.{limits_levels}
use Rattle.lf_parser.proofs.Order.LinesInTokenOrder.{at_line, lines_among, lines_ascend, lines_apart}
use Rattle.lf_parser.proofs.Order.MergedLists.{first_part, second_part, count_of_both, ascending_part, once_in, brought_part}
use Rattle.lf_parser.proofs.Order.FunctionsAndMain.{script_spread}
use Rattle.lf_parser.proofs.Order.StatementLinesInOrder.{stmts_lines_last, stmt_lined, def_lined}

pub lines_in_order : (tokens : List Token) (tree : PlainTree) → OnLines 1 tokens → Derives tokens tree → LinesInOrder tree
lines_in_order tokens tree o d =
    let h = d.2 in
    let s = script_spread lines_among at_line function_lines stmt_lines block_lines stmts_lines_last AnyCount d.0 d.1 h.0 (def_lined AnyCount d.0 d.1 h.0) (stmt_lined AnyCount d.0 d.1 h.0) refl tokens tree h.1 in
    let rise = lines_ascend s.stand 1 o in
    let of_functions = ascending_part ltb (first_part s.merged) rise in
    record {
      main = ascending_part ltb (second_part s.merged) rise;
      functions = of_functions;
      each = λ f m. ascending_part ltb (brought_part function_lines f tree.functions m) of_functions;
      once = λ line. subst (λ n. n ≤ 1) (sym (count_of_both (eqb line) s.merged)) (once_in ltb (eqb line) (lines_apart line) s.items rise);
    }

-- what `parse` answers for a script's tokens
pub read_lines_in_order : (tokens : List Token) (texts : List Text) (tree : PlainTree) → AreSpelled tokens texts → IsTree tokens tree → LinesInOrder tree
read_lines_in_order tokens texts tree s h = let d = limits_levels tokens tree h.0 in lines_in_order tokens tree (tokens_on_lines s.bytes tokens texts s.spelled) (d.0, MOST_EXPRESSION_LEVELS, d.1)
