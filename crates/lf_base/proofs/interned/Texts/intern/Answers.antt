use Rattle.std.proofs.Common.{◌∙◌, sym, ap, is_some, arith}
use Rattle.std.proofs.lemmas.Grind.{common_steps}
use Rattle.lf_base.proofs.TextLemmas.TextKeys.{found_at, kept, added, placed, differ_added}
use Rattle.lf_base.proofs.interned.Texts.intern.Goals as goal

pub returns-in-Some-clause-place : goal.returns-in-Some-clause-place
returns-in-Some-clause-place c =
    rw (← c.self.view_is) (found_at c.args.text.now c.self.inside.set.keys c.in-Some.index (sym c.get_index_of.ensures.index ∙ c.in-Some.is))

pub returns-in-Some-clause-texts : goal.returns-in-Some-clause-texts
returns-in-Some-clause-texts c =
    rw (← c.self.view_is) (kept c.args.text.now c.self.inside.set.keys (sym c.get_index_of.ensures.found ∙ ap is_some c.in-Some.is))

pub invariant_of-self-2 : goal.invariant_of-self-2
invariant_of-self-2 c = (
  grind (arith, common_steps),
  differ_added c.args.text.now c.self.inside.set.keys c.insert_full.new.self.keys c.self.invariant.1
      (added c.args.text.now c.self.inside.set.keys c.insert_full.new.self.keys c.in-Ok.key c.in-Ok.ensures.items c.in-Ok-insert_full.ensures.keys),
)

pub returns-clause-place : goal.returns-clause-place
returns-clause-place c =
    rw (← c.self.view_is) (placed c.args.text.now c.self.inside.set.keys c.in-Ok.key c.in-Ok-insert_full.index c.in-Ok.ensures.items c.in-Ok-insert_full.ensures.index)

pub returns-clause-texts : goal.returns-clause-texts
returns-clause-texts c =
    rw (← c.self.view_is) (added c.args.text.now c.self.inside.set.keys c.insert_full.new.self.keys c.in-Ok.key c.in-Ok.ensures.items c.in-Ok-insert_full.ensures.keys)
