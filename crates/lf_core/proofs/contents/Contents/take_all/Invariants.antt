use Rattle.std.proofs.Common.{drop, length, ◌++◌, ◌+◌, ◌≡◌, ◌≤◌}
use Rattle.std.specs.Vec.{vec_capacity, vec_len}
use Rattle.lf_base.specs.Names.{same_cown}
use Rattle.lf_base.specs.Sets.{Differ}
use Rattle.lf_core.specs.Contents.{kept}
use Rattle.lf_core.specs.Keyed.{pick, without}
use Rattle.lf_core.proofs.contents.Contents.take_all.Given as goal

abbrev pub invariant-loop-cown : goal.invariant-loop-cown
invariant-loop-cown g l =
    (l.held.items ++ pick (drop l.cown-index l.cowns) (kept l.self.places.entries) ≡ l.fn.held.items ++ pick l.cowns (kept l.fn.self.places.entries))
    × ((without (drop l.cown-index l.cowns) (kept l.self.places.entries) ≡ without l.cowns (kept l.fn.self.places.entries))
    × ((vec_len l.held + length (drop l.cown-index l.cowns) ≤ vec_capacity l.held)
    × Differ same_cown (drop l.cown-index l.cowns)))
