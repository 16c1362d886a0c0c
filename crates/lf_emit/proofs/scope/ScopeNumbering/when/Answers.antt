use Rattle.std.proofs.Common.{arith, ◌∙◌}
use Rattle.std.proofs.lemmas.List.{length-map}
use Rattle.lf_parser.specs.Plain.{plain_function, plain_tree}
use Rattle.lf_codegen.specs.Frames.{frame_line, when_frames}
use Rattle.lf_emit.specs.Scopes.{when_keys}
use Rattle.lf_emit.proofs.PlaceTables.{place_turned}
use Rattle.lf_emit.proofs.scope.ScopeNumbering.when.Goals as goal

pub returns : goal.returns
returns c =
    let tree = plain_tree c.args.self.now.tree.now in
    let place = c.place-place.ensures (when_keys tree) c.args.self.now.whens_are ∙ place_turned frame_line (when_frames tree) c.args.line in
    omega (
      arith,
      c.in-Some-checked_add.ensures,
      c.in-Some.ensures,
      c.in-Ok.ensures,
      c.len.ensures,
      place,
      length-map
          c.args.self.now.tree.now.functions plain_function,
    )
