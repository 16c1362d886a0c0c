use Rattle.std.proofs.Common.{ap, map, subst, sym, ◌∙◌}
use Rattle.std.proofs.lemmas.Simd.{map-map}
use Rattle.lf_parser.specs.Plain.{plain_function}
use Rattle.lf_codegen.specs.Frames.{frame_line}
use Rattle.lf_codegen.specs.TablesMean.{plain_frame}
use Rattle.lf_emit.specs.PlaceTables.{HasPlaces}
use Rattle.lf_emit.proofs.generating.bodies_of.Goals as goal

pub invariant_of-tables : goal.invariant_of-tables
invariant_of-tables c = record {
  functions_are = subst (HasPlaces c.in_ok-function_places.field-0)
      (ap (map (λ f. f.name.id.index)) c.as_slice.ensures ∙ sym (map-map (λ f. f.name.id.index) plain_function c.args.tree.now.functions))
      c.in_ok-function_places.ensures;
  whens_are = subst (HasPlaces c.in_ok-when_places.field-0)
      (ap (map (λ f. f.line)) c.as_slice-2.ensures.value ∙ sym (map-map frame_line plain_frame c.in_ok-frames.frames.items)
      ∙ ap (map frame_line) c.in_ok-frames.ensures)
      c.in_ok-when_places.ensures;
}
