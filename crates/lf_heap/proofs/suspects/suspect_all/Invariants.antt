use Rattle.std.proofs.Common.{length, map, reverse, ◌+◌, ◌++◌, ◌≡◌}
use Rattle.lf_heap.specs.Suspecting.{suspected}
use Rattle.lf_heap.proofs.suspects.suspect_all.Given as goal

abbrev pub invariant-loop-name : goal.invariant-loop-name
invariant-loop-name l = record {
  listed : map (suspected l.fn.kind) (reverse l.names.names) ++ l.work.suspects ≡ map (suspected l.fn.kind) (reverse l.fn.names.names) ++ l.fn.work.suspects;
  capacity : l.work.spare + length l.work.suspects ≡ l.fn.work.spare + length l.fn.work.suspects;
  room : l.work.spare + length l.fn.names.names ≡ l.fn.work.spare + length l.names.names;
  list : l.names.spare + length l.names.names ≡ l.fn.names.spare + length l.fn.names.names;
}

abbrev pub decreases-loop-name : goal.decreases-loop-name
decreases-loop-name l = length l.names.names
