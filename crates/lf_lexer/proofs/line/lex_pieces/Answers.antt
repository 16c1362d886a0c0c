use Rattle.std.proofs.Common.{◌∙◌, ◌+◌, ℕ, List, sym, ap, subst, arith, length, length-drop}
use Rattle.std.proofs.lemmas.Grind.{common_steps}
use Rattle.lf_lexer.specs.LineRest.{line_rest}
use Rattle.lf_lexer.proofs.LineBytes.LineRests.{rest_short, rest_drop}
use Rattle.lf_lexer.proofs.LexSteps.PieceSteps.{piece_there, space_takes, step_piece, step_space, step_end, step_stops, step_refused, PiecesSoFar}
use Rattle.lf_lexer.proofs.line.lex_pieces.Goals as goal

pub returns-in-End-clause-lexed : goal.returns-in-End-clause-lexed
returns-in-End-clause-lexed c =
    step_end c.args.line c.args.indent (line_rest c.args.bytes.now) c.args.lexed.now c.loop-after.lexed _ c.loop-after.at (line_rest c.loop-after.rest.now) c.loop-after.end
    (sym c.in-End.is ∙ c.in_ok-lex_step.ensures.step) c.in_ok-lex_step.ensures.lexed c.loop-after.invariant.so_far

pub returns-in-End-clause-stop : goal.returns-in-End-clause-stop
returns-in-End-clause-stop c =
    step_stops c.args.line c.args.indent (line_rest c.args.bytes.now) c.args.lexed.now c.loop-after.lexed c.loop-after.at (line_rest c.loop-after.rest.now) c.loop-after.end
    (sym c.in-End.is ∙ c.in_ok-lex_step.ensures.step) c.loop-after.invariant.so_far

pub loop-after-preserved-in-Space : goal.loop-after-preserved-in-Space
loop-after-preserved-in-Space c =
    let rest = c.loop-after.rest.now in
    let is = sym c.in-Space.is ∙ c.in_ok-lex_step.ensures.step in
    let some = space_takes (line_rest rest) is in
    let left = ap line_rest c.split_at.ensures.back ∙ rest_drop 1 rest some in
    let within = c.in_ok-lex_step.ensures.within in
    record {
      long = let len = ap length left ∙ length-drop 1 (line_rest rest) in let long = c.loop-after.invariant.long in omega arith;
      room = grind (arith, common_steps, length-drop);
      begun = omega arith;
      ended = omega arith;
      so_far =
          subst (λ (bytes : List ℕ). PiecesSoFar c.args.line c.args.indent (line_rest c.args.bytes.now) c.args.lexed.now c.lex_step.new.lexed (c.loop-after.at + 1) bytes c.loop-after.end)
          (sym left)
          (step_space c.args.line c.args.indent (line_rest c.args.bytes.now) c.args.lexed.now c.loop-after.lexed _ c.loop-after.at (line_rest rest) c.loop-after.end
          is c.in_ok-lex_step.ensures.lexed c.loop-after.invariant.so_far);
    }

pub loop-after-smaller : goal.loop-after-smaller
loop-after-smaller c =
    let takes = (piece_there (line_rest c.loop-after.rest.now) c.in-Piece.len (sym c.in-Piece.is ∙ c.in_ok-lex_step.ensures.step)).taken in
    let some = takes.some in
    let within = takes.within in
    let short = rest_short c.loop-after.rest.now in
    grind (arith, common_steps, length-drop)

pub loop-after-preserved : goal.loop-after-preserved
loop-after-preserved c =
    let rest = c.loop-after.rest.now in
    let is = sym c.in-Piece.is ∙ c.in_ok-lex_step.ensures.step in
    let takes = (piece_there (line_rest rest) c.in-Piece.len is).taken in
    let left = ap line_rest c.split_at-in-Piece.ensures.back ∙ rest_drop c.in-Piece.len rest takes.within in
    let within = takes.within in
    let short = rest_short rest in
    record {
      long = let len = ap length left ∙ length-drop c.in-Piece.len (line_rest rest) in let long = c.loop-after.invariant.long in omega arith;
      room = grind (arith, common_steps, length-drop);
      begun = omega arith;
      ended = omega arith;
      so_far =
          subst (λ (bytes : List ℕ). PiecesSoFar c.args.line c.args.indent (line_rest c.args.bytes.now) c.args.lexed.now c.lex_step.new.lexed (c.loop-after.at + c.in-Piece.len) bytes
          (c.loop-after.at + c.in-Piece.len))
          (sym left)
          (step_piece c.args.line c.args.indent (line_rest c.args.bytes.now) c.args.lexed.now c.loop-after.lexed _ c.loop-after.at (line_rest rest) c.loop-after.end c.in-Piece.len
          is c.in_ok-lex_step.ensures.lexed c.loop-after.invariant.so_far);
    }

pub returns-in-Refused-clause-refused : goal.returns-in-Refused-clause-refused
returns-in-Refused-clause-refused c = record {
  kind = c.in-Refused.kind;
  place = c.loop-after.at + c.in-Refused.offset;
  refused =
      step_refused c.args.line c.args.indent (line_rest c.args.bytes.now) c.args.lexed.now c.loop-after.lexed c.loop-after.at (line_rest c.loop-after.rest.now) c.loop-after.end
      c.in-Refused.kind c.in-Refused.offset
      (sym c.in-Refused.is ∙ c.in_ok-lex_step.ensures.step) c.loop-after.invariant.so_far;
  is = c.refusal.ensures;
}
