use Rattle.std.proofs.Common.{ap, sym, ◌∙◌, ◌||◌}
use Rattle.lf_base.specs.Owners.{has_row, owner_in}
use Rattle.lf_base.specs.Questions.{label_by}
use Rattle.lf_base.specs.Questions as questions
use Rattle.lf_domain.proofs.StoreEdges.{owner_told}
use Rattle.lf_heap.proofs.Answered.CountsAsked.{label_or_frozen}
use Rattle.lf_heap.proofs.questions.label_of.Goals as goal

pub returns-in-Obj : goal.returns-in-Obj
returns-in-Obj g c regions s d =
    c.label_at.ensures ∙ ap label_by (c.owner.ensures.owner ∙ sym (owner_told (g.S.Store.rows c.args.store.now) s.rows c.in-Obj.o ((d.counts).store).rows))
    ∙ label_or_frozen (has_row s.given c.in-Obj.o || has_row s.own c.in-Obj.o) (owner_in s.rows c.in-Obj.o) ∙ ap (questions.label_of s) (sym c.in-Obj.is)
