use Rattle.std.proofs.Common.{drop, ◌≡◌}
use Rattle.lf_base.specs.TakeResult.{field_at}
use Rattle.lf_heap.proofs.frozen.field_of_row.Given as goal

-- the fields that are left give the value
abbrev pub invariant-loop-name : goal.invariant-loop-name
invariant-loop-name l = field_at (drop l.name-index l.name-items) l.key ≡ field_at l.row.fields l.key
