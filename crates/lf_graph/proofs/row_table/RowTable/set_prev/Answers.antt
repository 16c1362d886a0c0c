use Rattle.std.proofs.Common.{refl, sym, ◌∙◌}
use Rattle.lf_base.specs.Links.{to_prev}
use Rattle.lf_graph.specs.Chains.{relink_head}
use Rattle.lf_graph.proofs.LinkedRows.RowTableSteps.{changed_heads, count_changed, names_lead_changed}
use Rattle.lf_graph.proofs.row_table.RowTable.set_prev.Goals as goal

pub invariant_of-self : goal.invariant_of-self
invariant_of-self c = record {
  leads = names_lead_changed c.args.self.now.rows c.args.self.now.index c.args.self.now.leads c.args.o c.in-Some.field-0.now (sym c.in-Some.ensures.value)
      c.in-Some-get_mut.head.now c.in-Some-get_mut.ensures.value (relink_head (to_prev c.args.prev)) refl;
  count = count_changed c.args.self.now.rows c.args.self.now.index c.args.self.now.leads c.args.o c.in-Some.field-0.now (sym c.in-Some.ensures.value)
      c.in-Some-get_mut.head.now c.in-Some-get_mut.ensures.value (relink_head (to_prev c.args.prev)) ∙ c.args.self.now.count;
}

pub returns-in-Some-get_mut-clause-rows : goal.returns-in-Some-get_mut-clause-rows
returns-in-Some-get_mut-clause-rows c =
    changed_heads c.args.self.now.rows c.args.self.now.index c.args.self.now.leads c.args.o c.in-Some.field-0.now (sym c.in-Some.ensures.value)
    c.in-Some-get_mut.head.now c.in-Some-get_mut.ensures.value (relink_head (to_prev c.args.prev))
