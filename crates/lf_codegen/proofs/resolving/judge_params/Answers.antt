use Rattle.std.proofs.Common.{sym, subst, take}
use Rattle.std.proofs.lemmas.List.{take_more}
use Rattle.lf_codegen.specs.NameSets.{HasNames}
use Rattle.lf_codegen.proofs.FirstRefusal.Judging.{param_step}
use Rattle.lf_codegen.proofs.resolving.judge_params.Goals as goal

pub loop-param-preserved : goal.loop-param-preserved
loop-param-preserved c =
    let i = c.loop-param.param-index in
    let before = c.loop-param.invariant in (
      subst (HasNames c.add.new.self) (sym (take_more c.args.params.now i _ c.loop-param-test.true))
          (c.in_ok-is_new.ensures.has (take i c.args.params.now) before.0),
      param_step c.args.first.now.refusal c.args.params.now i _ c.loop-param-test.true c.in_ok-is_new.is_new c.then_some.result
          c.loop-param.first.refusal c.note.new.self.refusal
          (c.in_ok-is_new.ensures.is_new (take i c.args.params.now) before.0) c.then_some.ensures c.note.ensures before.1,
    )
