use Rattle.std.proofs.Common.{ap, slice_get, ◌∙◌}
use Rattle.lf_settle.specs.WorkLists.{WorkList}
use Rattle.lf_settle.proofs.SuspectLists.{suspect_at}
use Rattle.lf_settle.proofs.work.Work.get.Goals as goal

pub returns : goal.returns
returns c = suspect_at c.self.inside.items.items c.args.self.now.suspects c.args.at c.item_at.result (ap (λ (w : WorkList). w.suspects) c.self.view_is) (c.item_at.ensures ∙ ap (λ l. slice_get l c.args.at) c.deref.ensures.value)
