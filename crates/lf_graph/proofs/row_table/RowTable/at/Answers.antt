use Rattle.std.proofs.Common.{ap, sym, ◌∙◌}
use Rattle.std.specs.Option.{option_copied}
use Rattle.lf_graph.proofs.LinkedRows.RowTableSteps.{row_at_place}
use Rattle.lf_graph.proofs.row_table.RowTable.at.Goals as goal

pub unreachable-requires : goal.unreachable-requires
unreachable-requires c = row_at_place c.args.self.now.rows c.args.self.now.index c.args.self.now.leads c.requires.0 c.args.place c.requires.1 (sym c.get.ensures ∙ ap option_copied c.in_default.is)
