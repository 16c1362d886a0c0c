use Rattle.std.proofs.Common.{ap, subst, sym, ◌∙◌}
use Rattle.lf_base.specs.Accesses.{field_of}
use Rattle.lf_base.specs.WellFormed.{WellFormed}
use Rattle.lf_heap.specs.Heaps.{Domain}
use Rattle.lf_heap.proofs.Fields.FieldReads.{field_is, found_may_be_held, frozen_field_is}
use Rattle.lf_heap.proofs.parts.Parts.look_up.Goals as goal

pub returns-then-is_some-clause-value : goal.returns-then-is_some-clause-value
returns-then-is_some-clause-value g c =
    let h = c.self.inside in
    c.field.ensures.value
    ∙ sym (field_is h.birth h.objects h.contents h.frozen (g.S.Store.rows h.store) h.slots.items (((c.self.invariant.counted).counts).store).rows c.args.o c.args.key c.owner.result c.owner.ensures.owner
    (sym c.is_some.ensures ∙ c.if-is_some.true))
    ∙ ap (λ (d : Domain). field_of d.state c.args.o c.args.key) c.self.view_is

pub returns-then-is_some-clause-may : goal.returns-then-is_some-clause-may
returns-then-is_some-clause-may g c =
    found_may_be_held c.args.self.now.state c.args.o c.args.key c.field.result (subst (λ (d : Domain). WellFormed d.state) c.self.view_is (c.self.invariant.counted).well_formed)
    (returns-then-is_some-clause-value g c)

pub returns-clause-value : goal.returns-clause-value
returns-clause-value g c =
    let h = c.self.inside in
    c.frozen_field.ensures
    ∙ sym (frozen_field_is h.birth h.objects h.contents h.frozen (g.S.Store.rows h.store) h.slots.items (((c.self.invariant.counted).counts).store).rows c.args.o c.args.key c.owner.result c.owner.ensures.owner
    (sym c.is_some.ensures ∙ c.if-is_some.false))
    ∙ ap (λ (d : Domain). field_of d.state c.args.o c.args.key) c.self.view_is

pub returns-clause-may : goal.returns-clause-may
returns-clause-may g c =
    found_may_be_held c.args.self.now.state c.args.o c.args.key c.frozen_field.result (subst (λ (d : Domain). WellFormed d.state) c.self.view_is (c.self.invariant.counted).well_formed)
    (returns-clause-value g c)
