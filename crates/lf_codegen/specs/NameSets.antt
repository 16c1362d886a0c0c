-- Sets of names by their ids, in code and as lists of names.
use Rattle.std.specs.Prelude.{◌≡◌, List}
use Rattle.std.specs.HashSet.{contains}
use Rattle.lf_base.specs.declared.ids.TextId.{TextId}
use Rattle.lf_parser.specs.declared.name.Name.{Name}
use Rattle.lf_codegen.specs.declared.name_set.NameSet.{NameSet}
use Rattle.lf_base.specs.Texts.{same_text}
use Rattle.lf_codegen.specs.Frames.{is_among}

-- the set has the ids of these names
abbrev pub HasNames : NameSet → List Name → Type 0
HasNames set names = (id : TextId) → contains same_text set.ids id ≡ is_among id names
