use Rattle.std.proofs.Common.{ap, ◌∙◌, ◌-◌, ◌++◌}
use Rattle.std.specs.Vec.{vec_len}
use Rattle.lf_queue.specs.Counts.{first_level}
use Rattle.lf_queue.proofs.Counts.{grown_fits}
use Rattle.lf_queue.proofs.Levels.{items_of}
use Rattle.lf_queue.proofs.ready_set.ReadySet.grow.Goals as goal

pub levels_over-requires : goal.levels_over-requires
levels_over-requires c =
    grown_fits c.max-wanted.result (c.max-wanted.result - vec_len c.extend_from_slice.new.self) (first_level (items_of c.self.inside.levels.items)) c.extend_from_slice.new.self.items c.resize.new.self.items c.self.invariant.1.0 c.self.invariant.1.1
    (c.in_ok-extend_from_slice.ensures.items ∙ ap (λ l. l ++ c.counts-old.result.now) c.in_ok-counts.ensures.items ∙ c.counts-old.ensures ∙ ap (λ l. first_level (items_of l)) c.deref.ensures.value)
    c.in_ok-resize.ensures.items
