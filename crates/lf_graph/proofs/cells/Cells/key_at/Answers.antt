use Rattle.std.proofs.Common.{ap, arith, slice_get, sym, ◌∙◌, ◌≡◌}
use Rattle.lf_base.specs.Links.{next_from}
use Rattle.lf_base.specs.Names.{same_key}
use Rattle.lf_base.proofs.ListLemmas.LinkedLists.{IsList-step}
use Rattle.lf_graph.specs.Cells.{cells_of, has_cell, link_of}
use Rattle.lf_graph.proofs.FieldTable.CellMaps.{Decides-same_key}
use Rattle.lf_graph.proofs.cells.Cells.key_at.Goals as goal

pub loop-step-preserved : goal.loop-step-preserved
loop-step-preserved c keys old =
    let cells = cells_of c.args.self.now in
    c.step-key.ensures ∙ ap (next_from (link_of cells c.args.o)) (c.loop-step.invariant keys old)
    ∙ sym (IsList-step same_key Decides-same_key (link_of cells c.args.o) c.args.ends.first c.args.ends.last (has_cell cells c.args.o) keys c.loop-step._step old.list)

pub returns : goal.returns
returns c keys old =
    let e : c.loop-step._step ≡ c.args.at = grind arith in
    c.loop-step.invariant keys old ∙ ap (slice_get keys) e
