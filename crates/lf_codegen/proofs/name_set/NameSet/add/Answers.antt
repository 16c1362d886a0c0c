use Rattle.std.proofs.Common.{◌∙◌, ap, true, cond}
use Rattle.lf_base.specs.Texts.{same_text}
use Rattle.lf_codegen.proofs.NameTables.SetsOfNames.{among_more}
use Rattle.lf_codegen.proofs.name_set.NameSet.add.Goals as goal

pub returns-clause-has : goal.returns-clause-has
returns-clause-has c names has id =
    c.in_ok-insert.ensures.updates.0 id ∙ ap (cond (same_text c.args.name.id id) true) (has id) ∙ among_more id names c.args.name
