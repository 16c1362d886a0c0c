use Rattle.std.proofs.Common.{ap, sym, ◌∙◌}
use Rattle.slab.specs.Slab.{slab_len}
use Rattle.lf_graph.proofs.LinkedRows.RowTableSteps.{heads_same, names_lead_still}
use Rattle.lf_graph.proofs.row_table.RowTable.reserve.Goals as goal

pub invariant_of-self-2 : goal.invariant_of-self-2
invariant_of-self-2 c = record {
  leads = names_lead_still c.args.self.now.rows c.reserve.new.self c.args.self.now.index c.reserve-2.new.self (ap (λ s. s.slots) c.reserve.ensures.rest_kept) c.reserve-2.ensures.entries.2 c.args.self.now.leads;
  count = ap slab_len c.reserve.ensures.rest_kept ∙ c.args.self.now.count ∙ sym c.reserve-2.ensures.entries.1;
}

pub returns-in-Ok-clause-rows : goal.returns-in-Ok-clause-rows
returns-in-Ok-clause-rows c = heads_same c.args.self.now.rows c.reserve.new.self c.args.self.now.index c.reserve-2.new.self (ap (λ s. s.slots) c.reserve.ensures.rest_kept) c.reserve-2.ensures.entries.2
