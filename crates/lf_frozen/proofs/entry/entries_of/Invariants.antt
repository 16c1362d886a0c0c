use Rattle.std.proofs.Common.{map, take, ◌≡◌}
use Rattle.std.specs.List.{All}
use Rattle.lf_frozen.specs.Entries.{LeadsToRow, row_behind}
use Rattle.lf_frozen.proofs.entry.entries_of.Given as goal

-- an entry for each row before this one
abbrev pub invariant-loop-at : goal.invariant-loop-at
invariant-loop-at l = record {
  rows : map (row_behind l.rows) l.entries.items ≡ take l.at l.rows;
  leads : All (LeadsToRow l.rows) l.entries.items;
}
