use Rattle.std.proofs.Common.{drop, map, ◌++◌, ◌≡◌}
use Rattle.lf_parser.specs.Plain.{plain_function}
use Rattle.lf_codegen.specs.GeneratedCode.{generated_body}
use Rattle.lf_codegen.specs.Numbers.{function_named}
use Rattle.lf_emit.specs.Scopes.{plain_script}
use Rattle.lf_emit.proofs.generating.add_functions.Given as goal

abbrev pub invariant-loop-function : goal.invariant-loop-function
invariant-loop-function l =
    let s = plain_script l.tables.texts.now l.tables.tree.now in
    l.bodies ++ map (generated_body s) (map function_named (map plain_function (drop l.function-index l.functions)))
    ≡ l.fn.bodies ++ map (generated_body s) (map function_named (map plain_function (l.functions)))
