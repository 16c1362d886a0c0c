use Rattle.std.proofs.Common.{subst, sym}
use Rattle.std.specs.Prelude.{option_to_list}
use Rattle.lf_poolstore.specs.UnitRows.{bare}
use Rattle.lf_poolstore.specs.Units.{Writes}
use Rattle.lf_poolstore.proofs.NarrowRows.{none_kept, none_written, one_written}
use Rattle.lf_poolstore.proofs.unit.moves.seeded.Goals as goal

pub added-requires-clause-keeps : goal.added-requires-clause-keeps
added-requires-clause-keeps c = none_kept c.args.cells.now c.args.name c.args.refs c.new-row.result c.new-row.ensures.row

pub returns-in-Some-clause-written : goal.returns-in-Some-clause-written
returns-in-Some-clause-written c =
    subst (λ t. Writes c.args.cells.now c.added.new.cells (bare c.added.result) c.added.result (option_to_list t)) (sym c.in-Some.is)
    (one_written c.args.cells.now c.added.new.cells c.args.name c.args.refs c.new-row.result c.added.result _ c.new-row.ensures.row c.added.ensures.row c.added.ensures.written)

pub returns-in-None-clause-written : goal.returns-in-None-clause-written
returns-in-None-clause-written c =
    subst (λ t. Writes c.args.cells.now c.args.cells.now (bare c.new-row.result) c.new-row.result (option_to_list t)) (sym c.in-None.is)
    (none_written c.args.cells.now c.args.name c.args.refs c.new-row.result c.new-row.ensures.row)
