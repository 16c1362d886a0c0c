-- What a target and a key name, and what is refused before that is looked at.
use Rattle.std.proofs.Common.{None, Option, Some, [], ap, cond, sym, ◌∙◌, ◌≡◌}
use Rattle.std.specs.Option.{option_or}
use Rattle.lf_base.specs.declared.faults.Fault.{Fault}
use Rattle.lf_base.specs.declared.faults.Fault.TheVariants.{NoField, NotAcquired}
use Rattle.lf_base.specs.declared.ids.CownId.{CownId}
use Rattle.lf_base.specs.declared.values.Key.{Key}
use Rattle.lf_base.specs.declared.values.Value.{Value}
use Rattle.lf_base.specs.ContentResult.{has_cown}
use Rattle.lf_base.specs.Names.{key_of}
use Rattle.lf_base.specs.PlainChecks.{cown_refusal, is_content_key, plain_refusal}
use Rattle.lf_base.specs.PlainState.{State}
use Rattle.lf_heap.specs.Accesses.{target_value}
use Rattle.lf_heap.specs.declared.access.Target.{Target}

-- target and key are good: what is named is judged
pub named : (judged : Value → Option Key → Option Fault) (target key : Value) (t : Target) (k : Key) → None ≡ plain_refusal target key → target ≡ target_value t
    → key_of key ≡ Some k → option_or (plain_refusal target key) (judged target (key_of key)) ≡ judged (target_value t) (Some k)
named judged target key t k plain at by =
    ap (λ r. option_or r (judged target (key_of key))) (sym plain) ∙ ap (λ v. judged v (key_of key)) at ∙ ap (judged (target_value t)) by

-- one of them isn't
pub not_named : (rest : Option Fault) (target key : Value) (f : Fault) → Some f ≡ plain_refusal target key → Some f ≡ option_or (plain_refusal target key) rest
not_named rest target key f e = ap (λ r. option_or r rest) e

-- a cown's content where none is held
pub not_held : (s : State) (c : CownId) (k : Key) → s.held ≡ [] → cown_refusal s c k ≡ Some NotAcquired
not_held s c k none = ap (λ h. cond (has_cown h c) (cond (is_content_key k) None (Some NoField)) (Some NotAcquired)) none
