use Rattle.std.proofs.Common.{ap, option_map, sym, ◌∙◌}
use Rattle.lf_base.specs.declared.values.Key.{Key}
use Rattle.lf_base.specs.declared.values.Value.{Value}
use Rattle.lf_poolstore.specs.RowLists.{numbers}
use Rattle.lf_poolstore.proofs.CellFields.{found_in_range, value_found, value_in}
use Rattle.lf_poolstore.proofs.Written.{replaced_writes}
use Rattle.lf_poolstore.proofs.unit.fields.replaced.Goals as goal

pub pair-old-requires : goal.pair-old-requires
pair-old-requires c = found_in_range c.args.cells.now c.args.key c.args.row.fields (numbers c.args.cells.now c.args.row.fields) c.args.cell c.requires.keeps.chain c.requires.found

pub set-requires : goal.set-requires
set-requires c = record { there = found_in_range c.args.cells.now c.args.key c.args.row.fields (numbers c.args.cells.now c.args.row.fields) c.args.cell c.requires.keeps.chain c.requires.found }

pub returns-clause-value : goal.returns-clause-value
returns-clause-value c =
    sym (value_found c.args.cells.now c.args.key (numbers c.args.cells.now c.args.row.fields) ∙ ap (value_in c.args.cells.now) c.requires.found ∙ ap (option_map (λ (p : Key × Value). p.1)) c.pair-old.ensures)

pub returns-clause-written : goal.returns-clause-written
returns-clause-written c =
    replaced_writes c.args.cells.now c.set.new.self c.args.row c.requires.keeps c.args.key c.args.v c.args.cell c.requires.found c.set.ensures.chains c.set.ensures.value c.set.ensures.items
