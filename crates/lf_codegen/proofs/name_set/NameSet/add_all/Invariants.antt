use Rattle.std.proofs.Common.{◌++◌, List, take}
use Rattle.lf_parser.specs.declared.name.Name.{Name}
use Rattle.lf_codegen.specs.NameSets.{HasNames}
use Rattle.lf_codegen.proofs.name_set.NameSet.add_all.Given as goal

abbrev pub invariant-loop-name : goal.invariant-loop-name
invariant-loop-name l = (names : List Name) → HasNames l.fn.self names → HasNames l.self (names ++ take l.name-index l.more)
