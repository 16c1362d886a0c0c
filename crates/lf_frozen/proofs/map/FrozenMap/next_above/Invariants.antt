use Rattle.std.proofs.Common.{take, ◌≡◌}
use Rattle.std.specs.Option.{option_copied}
use Rattle.lf_frozen.specs.Entries.{Apart, put_by_name, rows_of_tables}
use Rattle.lf_frozen.proofs.NextRows.{IsNext}
use Rattle.lf_frozen.proofs.map.FrozenMap.next_above.Given as goal

-- of the tables before this one, the row has the least name above the given one
abbrev pub invariant-loop-table : goal.invariant-loop-table
invariant-loop-table l = record {
  next : IsNext (rows_of_tables (take l.table-index l.table-items)) l.after (option_copied l.next);
  whole : put_by_name (rows_of_tables l.table-items) ≡ l.self;
  apart : Apart (rows_of_tables l.table-items);
}
