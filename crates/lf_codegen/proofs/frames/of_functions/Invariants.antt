use Rattle.std.proofs.Common.{◌≡◌, ◌++◌, drop, map, flat_map}
use Rattle.lf_parser.specs.Plain.{plain_function}
use Rattle.lf_codegen.specs.Frames.{function_whens}
use Rattle.lf_codegen.specs.TablesMean.{plain_frames}
use Rattle.lf_codegen.proofs.frames.of_functions.Given as goal

abbrev pub invariant-loop-function : goal.invariant-loop-function
invariant-loop-function l =
    plain_frames l.out.items ++ flat_map function_whens (map plain_function (drop l.function-index l.functions))
    ≡ plain_frames l.fn.out.items ++ flat_map function_whens (map plain_function l.functions)
