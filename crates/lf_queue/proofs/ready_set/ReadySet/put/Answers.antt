use Rattle.std.proofs.Common.{arith, get_or, length, subst, sym, ◌+◌, ◌<◌, ◌∙◌, ◌^◌, ◌≡◌}
use Rattle.std.proofs.lemmas.List.{with_items_is}
use Rattle.lf_queue.specs.Counts.{changed, first_level, total}
use Rattle.lf_queue.proofs.Counts.{IsKept, bits_below, put_keeps}
use Rattle.lf_queue.proofs.Levels.{items_of}
use Rattle.lf_queue.proofs.ready_set.ReadySet.put.Goals as goal

pub invariant_of-self : goal.invariant_of-self
invariant_of-self c =
    let same = with_items_is c.self.inside.levels c.raise.new.levels (c.raise.auto.levels ∙ c.deref_mut.ensures.len) in
    subst (λ l. IsKept (items_of l)) (sym same) (
    put_keeps (items_of c.self.inside.levels.items) (items_of c.raise.new.levels) c.args.at (subst (λ l. items_of c.raise.new.levels ≡ changed (λ n. n + 1) c.args.at (items_of l)) c.deref_mut.ensures.value c.raise.ensures) c.self.invariant
    (subst (λ l. c.args.at < length l) (sym c.self.view_is) c.requires.place)
    (subst (λ l. get_or l c.args.at 0 ≡ 0) (sym c.self.view_is) c.requires.out))

pub raise-requires-clause-fits : goal.raise-requires-clause-fits
raise-requires-clause-fits c =
    subst (λ l. total (first_level (items_of l)) + 1 < 2 ^ 32) (sym c.deref_mut.ensures.value) (
    let b = bits_below (first_level (items_of c.self.inside.levels.items)) c.args.at c.self.invariant.1.0
    (subst (λ l. c.args.at < length l) (sym c.self.view_is) c.requires.place)
    (subst (λ l. get_or l c.args.at 0 ≡ 0) (sym c.self.view_is) c.requires.out) in
    let s = c.self.invariant.1.1 in
    omega (arith, b, s))
