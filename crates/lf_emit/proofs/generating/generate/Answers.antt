use Rattle.std.proofs.Common.{subst, sym, ◌∙◌}
use Rattle.lf_code.specs.CodeStep.{Program}
use Rattle.lf_code.specs.Ticked.{Ticked}
use Rattle.lf_code.specs.ValidCode.{ValidCode}
use Rattle.lf_codegen.specs.RunOne.{MeansTree}
use Rattle.lf_emit.specs.Scopes.{plain_script}
use Rattle.lf_emit.proofs.WholeCode.{code_of}
use Rattle.lf_emit.proofs.generating.generate.Goals as goal

pub new-requires : goal.new-requires
new-requires c =
    let is = code_of c.args.texts c.tree.result.now c.args.resolved.now c.in_ok-bodies.bodies c.tree.ensures c.in_ok-bodies.ensures in
    subst ValidCode (sym is) (c.code_is_valid.ensures (plain_script c.args.texts c.args.resolved.now) c.requires)

pub returns-clause-code : goal.returns-clause-code
returns-clause-code c =
    c.new.ensures ∙ code_of c.args.texts c.tree.result.now c.args.resolved.now c.in_ok-bodies.bodies c.tree.ensures c.in_ok-bodies.ensures

pub returns-clause-valid : goal.returns-clause-valid
returns-clause-valid c =
    subst ValidCode (sym (returns-clause-code c)) (c.code_is_valid.ensures (plain_script c.args.texts c.args.resolved.now) c.requires)

pub returns-clause-ticked : goal.returns-clause-ticked
returns-clause-ticked c =
    subst Ticked (sym (returns-clause-code c)) (c.code_is_ticked.ensures (plain_script c.args.texts c.args.resolved.now))

pub returns-clause-means : goal.returns-clause-means
returns-clause-means c =
    let s = plain_script c.args.texts c.args.resolved.now in
    subst (λ (code : Program). MeansTree code s) (sym (returns-clause-code c)) (c.code_means_tree.ensures s)
