use Rattle.std.proofs.Common.{Some, inl, refl, subst, ◌≡◌}
use Rattle.lf_base.specs.declared.values.Owner.TheVariants.{Local}
use Rattle.lf_base.specs.declared.values.Value.TheVariants.{Obj}
use Rattle.lf_base.specs.HeapCalls.{Done, making_refusal, new_object_change}
use Rattle.lf_base.specs.PlainChanges.{next_object, object_result, with_slot}
use Rattle.lf_heap.specs.Heaps.{Domain}
use Rattle.lf_heap.proofs.Calls.Rests.{done, made_is, made_rests}
use Rattle.lf_heap.proofs.Calls.SlotsAfter.{slots_with_object}
use Rattle.lf_heap.proofs.heap.Heap.new_object.Goals as goal

pub invariant_of-self-2 : goal.invariant_of-self-2
invariant_of-self-2 g c =
    let s = c.self.inside.parts.state in
    made_rests c.self.inside.parts.state c.self.inside.work c.self.inside.rows c.self.invariant Local (inl refl) c.add_object.new.self.state c.add_slot.new.self.state c.in_ok-o.o c.in_ok-o.ensures.state c.in_ok-o.ensures.name c.add_slot.ensures.state c.watch_one_more.new.work c.watch_one_more.new.loose
    c.in_ok-rows.rows c.in_ok-rows.ensures.suspects c.in_ok-rows.ensures.names c.in_ok-rows.ensures.rows c.in_ok-rows.ensures.few c.in_ok-rows.ensures.enough c.in_ok-rows.ensures.listed

pub returns-clause-change : goal.returns-clause-change
returns-clause-change g c =
    let s = c.self.inside.parts.state in
    subst (λ (d : Domain). new_object_change d.state ≡ Done c.add_slot.new.self.state) c.self.view_is
    (done (making_refusal s) (with_slot (object_result s) (Some (Obj (next_object s)))) c.add_slot.new.self.state c.in_ok-o.ensures.answer
    (made_is c.self.inside.parts.state c.self.inside.work c.self.inside.rows c.self.invariant Local (inl refl) c.add_object.new.self.state c.add_slot.new.self.state c.in_ok-o.o c.in_ok-o.ensures.state c.in_ok-o.ensures.name c.add_slot.ensures.state))

pub returns-clause-slots : goal.returns-clause-slots
returns-clause-slots g c = slots_with_object c.args.self.now.state c.add_slot.new.self.state (returns-clause-change g c)
