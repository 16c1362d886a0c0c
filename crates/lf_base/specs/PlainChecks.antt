-- What comes first in a read, a write and a take of any target.
use Rattle.std.specs.Prelude.{Bool, None, Option, Some, codes, cond, eqb, false, ℕ}
use Rattle.std.specs.Option.{option_or}
use Rattle.lf_base.specs.declared.faults.Fault.{Fault}
use Rattle.lf_base.specs.declared.faults.Fault.TheVariants.{Kind, NoField, NotAcquired, NotObject}
use Rattle.lf_base.specs.declared.ids.CownId.{CownId}
use Rattle.lf_base.specs.declared.values.Key.{Key}
use Rattle.lf_base.specs.declared.values.Key.TheVariants.{Int, Text}
use Rattle.lf_base.specs.declared.values.Value.{Value}
use Rattle.lf_base.specs.declared.values.Value.TheVariants.{Cown, Obj}
use Rattle.lf_base.specs.ContentResult.{has_cown}
use Rattle.lf_base.specs.Names.{key_of}
use Rattle.lf_base.specs.PlainState.{State}
use Rattle.lf_base.specs.Texts.{fixed_texts, place_of}

-- the target must be an object or a cown
abbrev pub target_refusal : Value → Option Fault
target_refusal (Obj o) = None
target_refusal (Cown c) = None
target_refusal _ = Some NotObject

-- the key must be a text or an integer
abbrev pub key_refusal : Option Key → Option Fault
key_refusal None = Some Kind
key_refusal (Some k) = None

-- the checks that come first: of the target, and then of the key
abbrev pub plain_refusal : Value → Value → Option Fault
plain_refusal target key = option_or (target_refusal target) (key_refusal (key_of key))

-- the place of the text `value` among the texts of every script
abbrev pub content_place : ℕ
content_place = place_of fixed_texts (codes "value")

-- the key of a cown's content: that text
abbrev pub is_content_key : Key → Bool
is_content_key (Text t) = eqb t.index content_place
is_content_key (Int n) = false

-- the cown must be held, and then the key be that of the content
abbrev pub cown_refusal : State → CownId → Key → Option Fault
cown_refusal s c k = cond (has_cown s.held c) (cond (is_content_key k) None (Some NoField)) (Some NotAcquired)
