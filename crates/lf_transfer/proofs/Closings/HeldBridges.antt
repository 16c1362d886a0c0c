-- The bridge that a slot holds: there is one at most.
use Rattle.std.proofs.Common.{None, Some, ap, sym, ℕ, ◌∙◌, ◌≡◌}
use Rattle.lf_base.specs.declared.ids.ObjId.{ObjId}
use Rattle.lf_base.specs.declared.values.Value.{Value}
use Rattle.lf_base.specs.Owners.{bridge_of}
use Rattle.lf_base.specs.PlainChanges.{slot_at}
use Rattle.lf_base.specs.PlainState.{State}
use Rattle.lf_base.proofs.ListLemmas.Tests.{some_is}
use Rattle.lf_transfer.specs.Closing.{HoldsBridge}

module _ (s : State) (at : ℕ) (r : ObjId) where
  pub no_slot : HoldsBridge s at r → slot_at s.slots at ≡ None → ⊥
  no_slot h e = let z : None ≡ Some h.value = sym e ∙ h.held in cc

  module _ (h : HoldsBridge s at r) (v : Value) where
    same_value : slot_at s.slots at ≡ Some v → bridge_of s v ≡ Some r
    same_value here = ap (bridge_of s) (some_is v h.value (sym here ∙ h.held)) ∙ h.bridge

    pub no_bridge : slot_at s.slots at ≡ Some v → bridge_of s v ≡ None → ⊥
    no_bridge here e = let z : None ≡ Some r = sym e ∙ same_value here in cc

    pub bridge_held : (q : ObjId) → slot_at s.slots at ≡ Some v → bridge_of s v ≡ Some q → q ≡ r
    bridge_held q here e = some_is q r (sym e ∙ same_value here)

  pub holds_here : (v : Value) → slot_at s.slots at ≡ Some v → bridge_of s v ≡ Some r → HoldsBridge s at r
  holds_here v here e = record { value = v; held = here; bridge = e }
