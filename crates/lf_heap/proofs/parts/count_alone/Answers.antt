use Rattle.std.proofs.Common.{refl}
use Rattle.lf_base.specs.Edges.{Slot}
use Rattle.lf_heap.proofs.parts.count_alone.Goals as goal

pub returns : goal.returns
returns g c of es may = c.count_borrow.ensures.counted of es Slot may refl
