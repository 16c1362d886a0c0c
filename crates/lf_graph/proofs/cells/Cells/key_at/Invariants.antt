use Rattle.std.proofs.Common.{List, ◌≡◌, slice_get}
use Rattle.lf_base.specs.declared.values.Key.{Key}
use Rattle.lf_graph.specs.Cells.{IsFieldList, cells_of}
use Rattle.lf_graph.proofs.cells.Cells.key_at.Given as goal

abbrev pub invariant-loop-step : goal.invariant-loop-step
invariant-loop-step l = (keys : List Key) → IsFieldList (cells_of l.self) l.o l.fn.ends keys → l.key ≡ slice_get keys l._step
