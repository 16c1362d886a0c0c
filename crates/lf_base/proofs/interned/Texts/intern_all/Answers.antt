use Rattle.std.proofs.Common.{◌∙◌}
use Rattle.lf_base.proofs.TextLemmas.TextLists.{with_texts_next}
use Rattle.lf_base.proofs.interned.Texts.intern_all.Goals as goal

pub loop-text-preserved : goal.loop-text-preserved
loop-text-preserved c =
    with_texts_next _ c.loop-text.self _ _ c.args.texts.now c.loop-text.text-index _ c.loop-text-test.true c.as_bytes.ensures.value c.in_ok-intern.ensures.texts ∙ c.loop-text.invariant
