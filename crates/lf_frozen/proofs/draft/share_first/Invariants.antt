use Rattle.std.proofs.Common.{take, ◌+◌, ◌≡◌, ◌≤◌}
use Rattle.std.specs.Vec.{vec_capacity, vec_len}
use Rattle.lf_frozen.proofs.draft.share_first.Given as goal

abbrev pub invariant-loop-table : goal.invariant-loop-table
invariant-loop-table l = record {
  tables : l.shared.items ≡ take l.table-index l.table-items;
  which : l.table-items ≡ take l.count l.tables.items;
  length : vec_len l.shared ≡ l.table-index;
  room : l.count + 1 ≤ vec_capacity l.shared;
}
