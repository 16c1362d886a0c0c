use Rattle.std.proofs.Common.{◌∙◌, ◌+◌, ℕ, List, refl, ap, arith, length-drop}
use Rattle.std.proofs.lemmas.Grind.{common_steps}
use Rattle.lf_lexer.specs.Front.{text_end}
use Rattle.lf_lexer.specs.LineRest.{line_rest}
use Rattle.lf_lexer.proofs.LineBytes.LineRests.{rest_drop}
use Rattle.lf_lexer.proofs.NextPiece.TextEnds.{step_ends, step_within, text_starts, text_goes, text_meant}
use Rattle.lf_lexer.proofs.texts.text_end.Goals as goal

pub returns-in-Closes-clause-end : goal.returns-in-Closes-clause-end
returns-in-Closes-clause-end c = step_ends c.loop-offset.at (line_rest c.loop-offset.rest.now) _ _ c.in-Closes.ensures.step c.loop-offset.invariant.same

pub returns-in-Open-clause-end : goal.returns-in-Open-clause-end
returns-in-Open-clause-end c = step_ends c.loop-offset.at (line_rest c.loop-offset.rest.now) _ _ c.in-Open.ensures.step c.loop-offset.invariant.same

pub returns-in-Bad-clause-end : goal.returns-in-Bad-clause-end
returns-in-Bad-clause-end c = step_ends c.loop-offset.at (line_rest c.loop-offset.rest.now) _ _ c.in-Bad.ensures.step c.loop-offset.invariant.same

pub loop-offset-preserved : goal.loop-offset-preserved
loop-offset-preserved c = record {
  long = let w = c.in-Goes.ensures.within in grind (arith, common_steps, length-drop);
  same =
      ap (λ (left : List ℕ). text_end (c.loop-offset.at + c.in-Goes.len) (line_rest left)) c.split_at.ensures.back
      ∙ ap (text_end (c.loop-offset.at + c.in-Goes.len)) (rest_drop c.in-Goes.len c.loop-offset.rest.now (step_within (line_rest c.loop-offset.rest.now) c.in-Goes.len c.in-Goes.ensures.step))
      ∙ step_ends c.loop-offset.at (line_rest c.loop-offset.rest.now) _ _ c.in-Goes.ensures.step c.loop-offset.invariant.same;
  means =
      text_goes c.args.bytes.now c.loop-offset.at c.loop-offset.rest.now c.loop-offset.text.items _ c.push.new.self.items c.in-Goes.len c.in-Goes.ensures.step c.in-Goes.ensures.within.0 c.split_at.ensures.back
      c.in_ok-push-in-Goes.ensures.items
      c.loop-offset.invariant.means;
}

pub returns-in-Closes-clause-text : goal.returns-in-Closes-clause-text
returns-in-Closes-clause-text c = text_meant c.args.bytes.now c.loop-offset.at c.loop-offset.rest.now c.loop-offset.text.items c.loop-offset.invariant.means

pub loop-offset-init : goal.loop-offset-init
loop-offset-init c = record { long = omega arith; same = refl; means = text_starts c.args.bytes.now c.clear.new.self.items c.clear.ensures.items }
