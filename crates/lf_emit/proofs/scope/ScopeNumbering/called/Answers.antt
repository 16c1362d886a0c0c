use Rattle.std.proofs.Common.{ap, arith, ◌∙◌, ◌≡◌}
use Rattle.lf_base.specs.Texts.{text_at}
use Rattle.lf_parser.specs.Plain.{plain_tree}
use Rattle.lf_codegen.specs.Callees.{built_ins}
use Rattle.lf_codegen.specs.Numbers.{called_in, function_number}
use Rattle.lf_emit.specs.Scopes.{function_keys}
use Rattle.lf_emit.proofs.PlaceTables.{place_by}
use Rattle.lf_emit.proofs.scope.ScopeNumbering.called.Goals as goal

pub returns : goal.returns
returns c =
    let tree = plain_tree c.args.self.now.tree.now in
    let place = c.place-place.ensures (function_keys tree) c.args.self.now.functions_are in
    let by_name = place_by (λ f. f.name.id.index) tree.functions c.args.id.index in
    let n : c.in-Some.body ≡ function_number tree c.args.id = omega (arith, c.in-Some.ensures, place ∙ by_name) in
    c.named.ensures ∙ ap (λ t. called_in built_ins t c.in-Some.body) c.text.ensures
    ∙ ap (called_in built_ins (text_at c.args.self.now.texts.now c.args.id.index)) n
