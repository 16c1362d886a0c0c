-- Where none runs and some wait, the lowest waiting one is ready.
use Rattle.std.proofs.Common.{[], ap, true, ◌∙◌, ◌≡◌, ◌≤◌}
use Rattle.lf_base.specs.declared.behaviours.Job.{Job}
use Rattle.lf_base.specs.Sets.{Member}
use Rattle.lf_core.specs.World.{World, is_ready}
use Rattle.lf_queue.specs.Ready as jobs
use Rattle.lf_queue.proofs.ReadyLaws.{lowest}

pub lowest_ready : {C : Type 0} (w : World C) → w.running ≡ [] → (j : Job) → ((k : Job) → Member k w.waiting → j.id ≤ k.id) → is_ready w j ≡ true
lowest_ready w idle j low = ap (λ running. jobs.is_ready w.waiting running j) idle ∙ lowest w.waiting j low
