use Rattle.std.proofs.Common.{subst, ◌++◌}
use Rattle.std.proofs.lemmas.List.{take_all}
use Rattle.lf_code.specs.VarSets.{HasVars}
use Rattle.lf_code.proofs.Checks.NewNumbers.{all_added, one_added, put_in}
use Rattle.lf_code.proofs.var_set.VarSet.add_new.Goals as goal

pub loop-v-preserved : goal.loop-v-preserved
loop-v-preserved c known has =
    let old = c.loop-v.invariant known has in (
      put_in c.loop-v.self c.add.new.self known c.args.vars.now c.loop-v.v-index _ c.loop-v-test.true c.in_ok-add.ensures.has old.0,
      one_added c.loop-v.self known c.args.vars.now c.loop-v.v-index _ c.in_ok-add.field-0 c.loop-v-test.true c.in_ok-add.ensures.is_new
          c.if-not-branch.false old.0 old.1,
    )

pub returns : goal.returns
returns c known has =
    let old = c.loop-v.invariant known has in (
      all_added known c.args.vars.now c.loop-v.v-index c.loop-v-test.false old.1,
      λ _. subst (λ l. HasVars c.loop-v.self (known ++ l)) (take_all c.loop-v.v-index c.args.vars.now c.loop-v-test.false) old.0,
    )
