use Rattle.std.proofs.Common.{◌≡◌, ◌++◌, drop, map}
use Rattle.lf_parser.specs.Plain.{plain_function}
use Rattle.lf_codegen.specs.Frames.{function_frame}
use Rattle.lf_codegen.specs.TablesMean.{plain_frames}
use Rattle.lf_codegen.proofs.frames.push_functions.Given as goal

abbrev pub invariant-loop-function : goal.invariant-loop-function
invariant-loop-function l =
    plain_frames l.out.items ++ map function_frame (map plain_function (drop l.function-index l.functions))
    ≡ plain_frames l.fn.out.items ++ map function_frame (map plain_function l.functions)
