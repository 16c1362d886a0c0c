-- Where the content of a held cown stands.
use Rattle.std.specs.Prelude.{List, length, ℕ, ◌<◌, ◌≡◌}
use Rattle.std.specs.List.{slice_set}
use Rattle.lf_base.specs.declared.ids.CownId.{CownId}
use Rattle.lf_base.specs.declared.values.Value.{Value}
use Rattle.lf_base.specs.ContentResult.{put_content}

-- a content of the cown that is put at this place of the list is put where the cown is
pub record IsPlaceOf (held : List (CownId × Value)) (c : CownId) (at : ℕ) : Type 0 where
  pub there : at < length held
  pub put : (v : Value) → slice_set held at (c, v) ≡ put_content held c v
