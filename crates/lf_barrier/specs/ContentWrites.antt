-- A write of a content that was checked.
use Rattle.std.specs.Prelude.{None, Some, ◌≡◌, ◌⊎◌}
use Rattle.lf_base.specs.declared.ids.CownId.{CownId}
use Rattle.lf_base.specs.declared.values.Value.{Value}
use Rattle.lf_base.specs.declared.values.Value.TheVariants as value
use Rattle.lf_base.specs.ContentRefusal.{refusal_as_content}
use Rattle.lf_base.specs.ContentResult.{content_at}
use Rattle.lf_base.specs.NewCown.{next_cown}
use Rattle.lf_base.specs.PlainState.{State}

-- the content of c is `old`, or c is the next cown to be made, and v isn't refused as its content
pub record IsContentWrite (s : State) (c : CownId) (old v : Value) : Type 0 where
  pub was : (content_at s.held c ≡ Some old) ⊎ ((c ≡ next_cown s) × (old ≡ value.None))
  pub allowed : refusal_as_content s (Some old) v ≡ None
