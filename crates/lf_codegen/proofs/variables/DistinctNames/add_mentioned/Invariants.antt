use Rattle.std.proofs.Common.{List, take, flat_map, fold}
use Rattle.lf_parser.specs.declared.name.Name.{Name}
use Rattle.lf_codegen.specs.Frames.{variable_of, with_new_name}
use Rattle.lf_codegen.specs.TablesMean.{AreOnce}
use Rattle.lf_codegen.proofs.variables.DistinctNames.add_mentioned.Given as goal

abbrev pub invariant-loop-mention : goal.invariant-loop-mention
invariant-loop-mention l =
    (names : List Name) → AreOnce l.fn.self names
    → AreOnce l.self (fold with_new_name names (flat_map variable_of (take l.mention-index l.mentions)))
