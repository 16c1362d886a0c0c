use Rattle.std.proofs.Common.{None, ap, arith, cond, is_some, refl, subst, sym, true, ℕ, ◌+◌, ◌∙◌, ◌≡◌}
use Rattle.std.specs.Option.{IfSome}
use Rattle.slab.specs.Slab.{get, slab_len}
use Rattle.lf_graph.proofs.LinkedRows.RowTableSteps.{head_is_there, heads_after, keys_apart, name_found, names_lead_after, where_some}
use Rattle.lf_graph.proofs.row_table.RowTable.remove.Goals as goal

pub invariant_of-self-2 : goal.invariant_of-self-2
invariant_of-self-2 c = record {
  leads = names_lead_after c.args.self.now.rows c.try_remove.new.self c.args.self.now.index c.remove.new.self c.args.self.now.leads
      c.args.o c.in_ok-key.key None None
      c.try_remove.ensures.updates c.remove.ensures.updates.0 (keys_apart c.args.self.now.rows c.args.self.now.index c.args.self.now.leads c.args.o c.in_ok-key.key (sym c.remove.ensures.value ∙ c.in_ok-key.was))
      (λ k e. absurd (cc));
  count =
      let there : is_some (get c.args.self.now.rows c.in_ok-key.key) ≡ true
      = head_is_there c.args.o (get c.args.self.now.rows c.in_ok-key.key) (c.args.self.now.leads c.args.o c.in_ok-key.key (sym c.remove.ensures.value ∙ c.in_ok-key.was)) in
      let fewer : slab_len c.try_remove.new.self + 1 ≡ slab_len c.args.self.now.rows = where_some c.try_remove.result (ap is_some c.try_remove.ensures.value ∙ there) c.try_remove.ensures.len in
      omega (arith, fewer, c.remove.ensures.len, ap {B = ℕ} (λ o. cond (is_some o) 1 0) c.in_ok-key.was, c.args.self.now.count);
}

pub returns-clause-rows : goal.returns-clause-rows
returns-clause-rows c =
    heads_after c.args.self.now.rows c.try_remove.new.self c.args.self.now.index c.remove.new.self c.args.self.now.leads
    c.args.o c.in_ok-key.key None None
    c.try_remove.ensures.updates c.remove.ensures.updates.0 (keys_apart c.args.self.now.rows c.args.self.now.index c.args.self.now.leads c.args.o c.in_ok-key.key (sym c.remove.ensures.value ∙ c.in_ok-key.was))
    refl

pub returns-clause-named : goal.returns-clause-named
returns-clause-named c =
    subst (λ t. IfSome t (λ head. (head.row).name ≡ c.args.o)) (sym c.try_remove.ensures.value)
    (name_found c.args.o (get c.args.self.now.rows c.in_ok-key.key) (c.args.self.now.leads c.args.o c.in_ok-key.key (sym c.remove.ensures.value ∙ c.in_ok-key.was)))
