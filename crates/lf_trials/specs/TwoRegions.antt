-- A state for trials of edges: two regions of a bridge each, without edges.
use Rattle.std.specs.Prelude.{[]}
use Rattle.lf_base.specs.PlainChanges.{first_state, region_result}
use Rattle.lf_base.specs.PlainState.{State}

abbrev pub two_regions : State
two_regions = region_result (region_result (first_state 1 []))
