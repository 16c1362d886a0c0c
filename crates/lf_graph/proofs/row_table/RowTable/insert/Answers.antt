use Rattle.std.proofs.Common.{Some, ap, arith, sym, unwrap_or, ◌∙◌}
use Rattle.lf_base.proofs.NameLemmas.SameNames.{same_name_itself}
use Rattle.lf_base.specs.Names.{same_name}
use Rattle.lf_graph.specs.RowTables.{is_head_of}
use Rattle.slab.specs.Slab.{get}
use Rattle.lf_graph.proofs.LinkedRows.RowTableSteps.{heads_after, names_lead_after, no_row_no_key, vacant_apart}
use Rattle.lf_graph.proofs.row_table.RowTable.insert.Goals as goal

pub invariant_of-self : goal.invariant_of-self
invariant_of-self c = record {
  leads = names_lead_after c.args.self.now.rows c.insert_reserved-key.new.self c.args.self.now.index c.enter.new.index c.args.self.now.leads
      c.args.o c.insert_reserved-key.result (Some c.args.head) (Some c.insert_reserved-key.result)
      c.insert_reserved-key.ensures.updates c.enter.ensures.keys (vacant_apart c.args.self.now.rows c.args.self.now.index c.args.self.now.leads c.insert_reserved-key.result c.insert_reserved-key.ensures.was_vacant c.args.o)
      (λ k e. ap (λ u. is_head_of c.args.o (get c.insert_reserved-key.new.self (unwrap_or u k))) (sym e) ∙ ap (is_head_of c.args.o) c.insert_reserved-key.ensures.updates.changed ∙ ap (λ n. same_name n c.args.o) c.requires.named ∙ same_name_itself c.args.o);
  count = omega (arith, c.insert_reserved-key.ensures.len, c.args.self.now.count, c.enter.ensures.count (no_row_no_key c.args.self.now.rows c.args.self.now.index c.args.self.now.leads c.args.o c.requires.new));
}

pub returns-clause-rows : goal.returns-clause-rows
returns-clause-rows c =
    heads_after c.args.self.now.rows c.insert_reserved-key.new.self c.args.self.now.index c.enter.new.index c.args.self.now.leads
    c.args.o c.insert_reserved-key.result (Some c.args.head) (Some c.insert_reserved-key.result)
    c.insert_reserved-key.ensures.updates c.enter.ensures.keys (vacant_apart c.args.self.now.rows c.args.self.now.index c.args.self.now.leads c.insert_reserved-key.result c.insert_reserved-key.ensures.was_vacant c.args.o)
    c.insert_reserved-key.ensures.updates.changed
