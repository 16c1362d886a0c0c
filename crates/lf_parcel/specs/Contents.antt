-- What a content of code tells: the value that its cown's field has, and the rows that it holds.
use Rattle.std.specs.Prelude.{List, []}
use Rattle.lf_base.specs.declared.values.Value.{Value}
use Rattle.lf_base.specs.declared.values.Value.TheVariants as value
use Rattle.lf_base.specs.PlainState.{Row}
use Rattle.lf_parcel.specs.declared.content.Content.{Content}
use Rattle.lf_parcel.specs.declared.content.Content.TheVariants.{Plain, Region}

abbrev pub content_value : {S P : Type 0} → Content S P → Value
content_value (Plain v) = v
content_value (Region p) = value.Obj p.root

abbrev pub content_rows : {S P : Type 0} → Content S P → List Row
content_rows (Plain v) = []
content_rows (Region p) = p.rows
