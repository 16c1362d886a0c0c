use Rattle.std.proofs.Common.{false, take, ◌≡◌}
use Rattle.lf_base.specs.ContentResult.{has_cown}
use Rattle.lf_heap.proofs.contents.CownContents.place.Given as goal

-- the cowns so far are others
abbrev pub invariant-loop-at : goal.invariant-loop-at
invariant-loop-at l = has_cown (take l.at l.self.held) l.cown ≡ false
