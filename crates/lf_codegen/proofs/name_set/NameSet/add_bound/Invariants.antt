use Rattle.std.proofs.Common.{◌++◌, List, take, flat_map}
use Rattle.lf_parser.specs.declared.name.Name.{Name}
use Rattle.lf_codegen.specs.Frames.{binds}
use Rattle.lf_codegen.specs.NameSets.{HasNames}
use Rattle.lf_codegen.proofs.name_set.NameSet.add_bound.Given as goal

abbrev pub invariant-loop-mention : goal.invariant-loop-mention
invariant-loop-mention l =
    (names : List Name) → HasNames l.fn.self names → HasNames l.self (names ++ flat_map binds (take l.mention-index l.mentions))
