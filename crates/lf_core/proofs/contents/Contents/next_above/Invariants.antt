use Rattle.std.proofs.Common.{◌≡◌}
use Rattle.lf_core.specs.Contents.{kept, next_content}
use Rattle.lf_core.proofs.NextContents.{first_of}
use Rattle.lf_core.proofs.contents.Contents.next_above.Given as goal

abbrev pub invariant-loop-cown : goal.invariant-loop-cown
invariant-loop-cown g l =
    (goal.iterator-loop-cown g).can_next l.cown-iterator × ((goal.iterator-loop-cown g).is_finite l.cown-iterator
    × (first_of (kept l.cown-iterator) ≡ next_content (kept l.fn.self.places.entries) l.fn.after))
