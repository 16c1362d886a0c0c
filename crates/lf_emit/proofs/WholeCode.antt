-- The code of a script, from its bodies.
use Rattle.std.proofs.Common.{List, ap, subst, ◌≡◌}
use Rattle.lf_base.specs.Texts.{Text}
use Rattle.lf_parser.specs.declared.tree.Tree.{Tree}
use Rattle.lf_code.specs.declared.body.Body.{Body}
use Rattle.lf_code.specs.Checking.{checked_code}
use Rattle.lf_codegen.specs.GeneratedCode.{program_of}
use Rattle.lf_emit.specs.Scopes.{plain_script}

pub code_of : (texts : List Text) (tree same : Tree) (bodies : List Body) → tree ≡ same
    → bodies ≡ (program_of (plain_script texts tree)).bodies → checked_code bodies texts ≡ program_of (plain_script texts same)
code_of texts tree same bodies one are =
    ap (λ bs. checked_code bs texts) (subst (λ t. bodies ≡ (program_of (plain_script texts t)).bodies) one are)
