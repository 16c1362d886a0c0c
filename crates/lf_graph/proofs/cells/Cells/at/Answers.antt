use Rattle.std.proofs.Common.{ap, sym, ◌∙◌}
use Rattle.std.specs.Option.{option_copied}
use Rattle.lf_graph.specs.Cells.{cells_of}
use Rattle.lf_graph.proofs.FieldTable.CellLists.{no_key_at, pair_at}
use Rattle.lf_graph.proofs.cells.Cells.at.Goals as goal

pub returns-in_err-cell : goal.returns-in_err-cell
returns-in_err-cell c keys old = absurd (no_key_at (cells_of c.args.self.now) c.args.o c.args.ends keys c.args.at c.in_ok-key.key old (sym (c.key_at.ensures keys old) ∙ c.in_ok-key.was) (sym c.get.ensures ∙ ap option_copied c.in_err-cell.was))

pub returns : goal.returns
returns c keys old = pair_at (cells_of c.args.self.now) c.args.o keys c.args.at c.in_ok-key.key c.in_ok-cell.cell.now (sym (c.key_at.ensures keys old) ∙ c.in_ok-key.was) (sym c.get.ensures ∙ ap option_copied c.in_ok-cell.was)
