use Rattle.std.proofs.Common.{◌++◌, ◌∙◌, ap, sym, append_assoc}
use Rattle.std.proofs.lemmas.List.{take_more}
use Rattle.lf_codegen.specs.Frames.{is_among}
use Rattle.lf_codegen.proofs.name_set.NameSet.add_all.Goals as goal

pub loop-name-preserved : goal.loop-name-preserved
loop-name-preserved c names has id =
    c.in_ok-add.ensures.has _ (c.loop-name.invariant names has) id
    ∙ ap (is_among id) (append_assoc names _ _
    ∙ ap (λ l. names ++ l) (sym (take_more c.args.more.now c.loop-name.name-index _ c.loop-name-test.true)))
