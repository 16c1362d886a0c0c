use Rattle.std.proofs.Common.{[], ap, ◌∙◌}
use Rattle.lf_base.specs.declared.values.Value.TheVariants.{Int}
use Rattle.lf_core.specs.Cores.{with_ended}
use Rattle.lf_core.specs.Tasks.{outcome_of}
use Rattle.lf_core.proofs.callers.end.Goals as goal

pub returns-in-Ok-commit_again : goal.returns-in-Ok-commit_again
returns-in-Ok-commit_again c = (
  outcome_of (λ counter. Int counter.count) (λ counter. []) c.in-Ok.done,
  c.in-Ok-commit_again.ensures.ended ∙ ap (λ n. with_ended n (outcome_of (λ counter. Int counter.count) (λ counter. []) c.in-Ok.done) c.args.core.now) c.in-Ok.ensures.number,
)
