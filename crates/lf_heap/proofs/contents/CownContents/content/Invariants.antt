use Rattle.std.proofs.Common.{drop, ◌≡◌}
use Rattle.lf_base.specs.ContentResult.{content_at}
use Rattle.lf_heap.proofs.contents.CownContents.content.Given as goal

-- the contents that are left give the one that is asked for
abbrev pub invariant-loop-name : goal.invariant-loop-name
invariant-loop-name l = content_at (drop l.name-index l.name-items) l.cown ≡ content_at l.self.held l.cown
