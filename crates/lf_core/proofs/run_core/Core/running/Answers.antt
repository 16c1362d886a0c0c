use Rattle.std.proofs.Common.{ap, arith, length, ◌+◌, ◌-◌, ◌∙◌, ◌≡◌}
use Rattle.lf_core.specs.Contents.{left_in}
use Rattle.lf_core.specs.CoreViews.{core_state}
use Rattle.lf_core.specs.Cores.{CoreState, going}
use Rattle.lf_core.proofs.KeptCores.{all_going}
use Rattle.lf_core.proofs.run_core.Core.running.Goals as goal

pub overflow_cast-result : goal.overflow_cast-result
overflow_cast-result g c = omega (arith, all_going _ _ c.self.invariant, c.self.invariant.running_count, c.self.invariant.within, c.self.invariant.most, c.len.ensures, c.len-2.ensures, c.self.inside.abandoned.ok.0)

pub overflow_sub-result : goal.overflow_sub-result
overflow_sub-result g c = omega (arith, all_going _ _ c.self.invariant, c.self.invariant.running_count, c.len.ensures, c.len-2.ensures, c.self.inside.abandoned.ok.0)

pub returns : goal.returns
returns g c =
    let core = core_state c.self.inside.queue (left_in g.C.Stored.content g.C.Stored.rows c.self.inside.contents) c.self.inside.frozen c.self.inside.log c.self.inside.next c.self.inside.started c.self.inside.abandoned.items c.self.inside.budget in
    let here : c.self.inside.started - (c.len.result + c.len-2.result) ≡ length (going core) = omega (arith, all_going core _ c.self.invariant, c.self.invariant.running_count, c.len.ensures, c.len-2.ensures, c.self.inside.abandoned.ok.0) in
    here ∙ ap (λ (s : CoreState). length (going s)) c.self.view_is
