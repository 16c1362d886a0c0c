use Rattle.std.proofs.Common.{get_or, subst, sym, ◌-◌, ◌∙◌, ◌≡◌}
use Rattle.std.proofs.lemmas.List.{with_items_is}
use Rattle.lf_queue.specs.Counts.{changed}
use Rattle.lf_queue.proofs.Counts.{IsKept, take_keeps}
use Rattle.lf_queue.proofs.Levels.{items_of}
use Rattle.lf_queue.proofs.ready_set.ReadySet.take.Goals as goal

pub invariant_of-self : goal.invariant_of-self
invariant_of-self c =
    let same = with_items_is c.self.inside.levels c.lower.new.levels (c.lower.auto.levels ∙ c.deref_mut.ensures.len) in
    subst (λ l. IsKept (items_of l)) (sym same) (
    take_keeps (items_of c.self.inside.levels.items) (items_of c.lower.new.levels) c.args.at (subst (λ l. items_of c.lower.new.levels ≡ changed (λ n. n - 1) c.args.at (items_of l)) c.deref_mut.ensures.value c.lower.ensures) c.self.invariant
    (subst (λ l. get_or l c.args.at 0 ≡ 1) (sym c.self.view_is) c.requires))
