use Rattle.std.proofs.Common.{drop, map, ◌++◌, ◌≡◌}
use Rattle.lf_codegen.specs.GeneratedCode.{generated_body}
use Rattle.lf_codegen.specs.Numbers.{when_named}
use Rattle.lf_codegen.specs.TablesMean.{plain_frames}
use Rattle.lf_emit.specs.Scopes.{plain_script}
use Rattle.lf_emit.proofs.generating.add_whens.Given as goal

abbrev pub invariant-loop-frame : goal.invariant-loop-frame
invariant-loop-frame l =
    let s = plain_script l.tables.texts.now l.tables.tree.now in
    l.bodies ++ map (generated_body s) (map when_named (plain_frames (drop l.frame-index l.frames)))
    ≡ l.fn.bodies ++ map (generated_body s) (map when_named (plain_frames (l.frames)))
