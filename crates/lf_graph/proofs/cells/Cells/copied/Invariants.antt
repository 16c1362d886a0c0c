use Rattle.std.proofs.Common.{List, slice_get, take, ◌≡◌}
use Rattle.lf_base.specs.declared.values.Key.{Key}
use Rattle.lf_graph.specs.Cells.{IsFieldList, cells_of, pairs}
use Rattle.lf_graph.proofs.cells.Cells.copied.Given as goal

abbrev pub invariant-loop-turn : goal.invariant-loop-turn
invariant-loop-turn l = (keys : List Key) → IsFieldList (cells_of l.self) l.o l.fn.ends keys → (l.fields ≡ take l._turn (pairs (cells_of l.self) l.o keys)) × (l.key ≡ slice_get keys l._turn)
