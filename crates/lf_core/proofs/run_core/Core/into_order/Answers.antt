use Rattle.std.proofs.Common.{ap, ◌∙◌}
use Rattle.lf_core.specs.Cores.{CoreState}
use Rattle.lf_core.specs.World.{order_of}
use Rattle.lf_core.proofs.run_core.Core.into_order.Goals as goal

pub returns : goal.returns
returns g c = c.into_order.ensures ∙ ap (λ (s : CoreState). order_of s.world) c.self.view_is
