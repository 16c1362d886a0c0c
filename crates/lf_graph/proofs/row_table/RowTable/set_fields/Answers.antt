use Rattle.std.proofs.Common.{refl, ◌∙◌}
use Rattle.lf_graph.specs.Chains.{refield, restore_head}
use Rattle.lf_graph.proofs.LinkedRows.RowTableSteps.{changed_heads, count_changed, names_lead_changed}
use Rattle.lf_graph.proofs.row_table.RowTable.set_fields.Goals as goal

pub invariant_of-self : goal.invariant_of-self
invariant_of-self c = record {
  leads = names_lead_changed c.args.self.now.rows c.args.self.now.index c.args.self.now.leads c.requires.0 c.args.place c.requires.1
      c.in-Some.head.now c.in-Some.ensures.value (restore_head (refield c.args.fields)) refl;
  count = count_changed c.args.self.now.rows c.args.self.now.index c.args.self.now.leads c.requires.0 c.args.place c.requires.1
      c.in-Some.head.now c.in-Some.ensures.value (restore_head (refield c.args.fields)) ∙ c.args.self.now.count;
}

pub returns-in-Some-clause-rows : goal.returns-in-Some-clause-rows
returns-in-Some-clause-rows c o at =
    changed_heads c.args.self.now.rows c.args.self.now.index c.args.self.now.leads o c.args.place at
    c.in-Some.head.now c.in-Some.ensures.value (restore_head (refield c.args.fields))
