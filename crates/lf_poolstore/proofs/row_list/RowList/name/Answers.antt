use Rattle.std.proofs.Common.{None, Some, ap, cond, option_map, sym, ◌∙◌}
use Rattle.std.proofs.lemmas.Bool.Decides.{Decides-eqb}
use Rattle.lf_pool.specs.declared.cell.TheConstants.{NONE}
use Rattle.lf_pool.proofs.Beheads.{node_other}
use Rattle.lf_poolstore.specs.declared.unit_row.UnitRow.{UnitRow}
use Rattle.lf_poolstore.specs.RowLists.{name_by}
use Rattle.lf_poolstore.proofs.row_list.RowList.name.Goals as goal

pub returns-then-at-eq-NONE : goal.returns-then-at-eq-NONE
returns-then-at-eq-NONE c = sym (ap (λ b. name_by c.args.self.now.entries (cond b None (Some c.args.at))) ((Decides-eqb c.args.at NONE).1 c.if-at-eq-NONE.true))

pub returns : goal.returns
returns c =
    sym (ap (name_by c.args.self.now.entries) (node_other c.args.at c.if-at-eq-NONE.false) ∙ ap (option_map (λ (r : UnitRow). r.name)) c.row.ensures.row)
