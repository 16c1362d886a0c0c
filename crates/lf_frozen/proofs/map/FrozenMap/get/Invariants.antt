use Rattle.std.proofs.Common.{None, take, ◌≡◌}
use Rattle.lf_frozen.specs.Entries.{Apart, put_by_name, rows_of_tables}
use Rattle.lf_frozen.specs.FrozenRows.{frozen_at}
use Rattle.lf_frozen.proofs.map.FrozenMap.get.Given as goal

-- no table before this one has a row of the name
abbrev pub invariant-loop-table : goal.invariant-loop-table
invariant-loop-table l = record {
  missing : frozen_at (rows_of_tables (take l.table-index l.table-items)) l.o ≡ None;
  whole : put_by_name (rows_of_tables l.table-items) ≡ l.self;
  apart : Apart (rows_of_tables l.table-items);
}
