use Rattle.std.proofs.Common.{List, take, fold}
use Rattle.lf_parser.specs.declared.name.Name.{Name}
use Rattle.lf_codegen.specs.Frames.{with_new_name}
use Rattle.lf_codegen.specs.TablesMean.{AreOnce}
use Rattle.lf_codegen.proofs.variables.DistinctNames.add_all.Given as goal

abbrev pub invariant-loop-name : goal.invariant-loop-name
invariant-loop-name l = (names : List Name) → AreOnce l.fn.self names → AreOnce l.self (fold with_new_name names (take l.name-index l.more))
