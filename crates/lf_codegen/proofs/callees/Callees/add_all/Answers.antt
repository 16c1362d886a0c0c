use Rattle.std.proofs.Common.{◌≡◌, ◌∙◌, ap, subst, [], map, take, arith}
use Rattle.std.proofs.lemmas.List.{take_all}
use Rattle.lf_parser.specs.Plain.{plain_function}
use Rattle.lf_codegen.specs.Earliest.{earliest}
use Rattle.lf_codegen.specs.NameRefusals.{names_refusals, refusals_at}
use Rattle.lf_codegen.specs.TablesMean.{Knows}
use Rattle.lf_codegen.proofs.FirstRefusal.Judging.{duplicate, judged_functions}
use Rattle.lf_codegen.proofs.OverLists.Loops.{map_item}
use Rattle.lf_codegen.proofs.callees.Callees.add_all.Goals as goal

pub loop-function-preserved : goal.loop-function-preserved
loop-function-preserved c texts knows =
    let before = c.loop-function.invariant texts knows in
    let known = map plain_function (take c.loop-function.function-index c.args.functions.now) in
    let f = plain_function c.function-item.result in
    let step = map_item plain_function c.args.functions.now c.loop-function.function-index c.function-item.result c.loop-function-test.true
    c.function-item.is in (
      subst (Knows _ texts) step (c.in_ok-add.ensures texts known before.0),
      c.note.ensures
          ∙ ap (λ k. earliest c.loop-function.first.refusal (refusals_at k f.name)) (c.duplicate.ensures texts known before.0)
          ∙ ap (λ r. earliest r (duplicate texts known f)) before.1
          ∙ judged_functions texts c.args.first.now.refusal known f
          ∙ ap (λ l. earliest c.args.first.now.refusal (names_refusals texts [] l)) step,
    )

pub returns : goal.returns
returns c texts knows =
    subst (λ l. Knows c.loop-function.self texts (map plain_function l)
    × (c.loop-function.first.refusal ≡ earliest c.args.first.now.refusal (names_refusals texts [] (map plain_function l))))
    (take_all c.loop-function.function-index c.args.functions.now (grind arith)) (c.loop-function.invariant texts knows)
