use Rattle.std.proofs.Common.{subst, sym}
use Rattle.lf_base.specs.declared.values.Value.TheVariants as value
use Rattle.lf_base.specs.WellFormed.{SlotMayHold}
use Rattle.lf_heap.proofs.CownContents.ContentWrites.{still_may}
use Rattle.lf_heap.proofs.parts.Parts.take_content.Goals as goal

pub returns-clause-may : goal.returns-clause-may
returns-clause-may g c =
    subst (λ t. SlotMayHold t c.in_ok-old.old) (sym c.set_content.ensures.state) (still_may c.args.self.now.state c.args.c value.None c.in_ok-old.old c.in_ok-old.ensures.may)
