use Rattle.std.proofs.Common.{rules}
use Rattle.std.proofs.lemmas.List.Sorted.{IsPartitionPoint-from_clause}
use Rattle.lf_frozen.specs.declared.entry.RowEntry.{RowEntry}
use Rattle.lf_frozen.specs.Entries.{is_passed}
use Rattle.lf_frozen.proofs.Searches.{entries_parted}
use Rattle.lf_frozen.proofs.table.place.Goals as goal

pub returns-clause-place : goal.returns-clause-place
returns-clause-place c =
    IsPartitionPoint-from_clause (λ (entry : RowEntry). is_passed c.args.o c.args.equal entry.name) c.args.entries.now
    c.partition_point.result
    c.partition_point.ensures.partitioned (entries_parted c.args.entries.now c.args.o c.args.equal c.requires)
    (λ a r f' called. search rules)
