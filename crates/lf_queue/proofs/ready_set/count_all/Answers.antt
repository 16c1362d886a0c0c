use Rattle.std.proofs.Common.{ap, arith, eqb-true, get_or, length, subst, sym, ◌<◌, ◌∙◌}
use Rattle.lf_queue.proofs.Counts.{some_from_false}
use Rattle.lf_queue.proofs.Levels.{last_read, no_last_count, total_none}
use Rattle.lf_queue.proofs.ready_set.count_all.Goals as goal

pub returns-then-len-eq0 : goal.returns-then-len-eq0
returns-then-len-eq0 c = sym (total_none c.args.levels.now c.if-len-eq0.true)

pub returns-then-is_empty : goal.returns-then-is_empty
returns-then-is_empty c = sym (no_last_count c.args.levels.now c.index-levels-len.result c.requires (omega arith) c.index-levels-len.is
    (ap length (sym c.as_slice-top.ensures.value) ∙ eqb-true (length c.as_slice-top.result.now) 0 (sym c.is_empty.ensures ∙ c.if-is_empty.true)))

pub returns : goal.returns
returns c = last_read c.args.levels.now c.index-levels-len.result _ c.requires (omega arith) c.index-levels-len.is
    (subst (λ l. 0 < length l) c.as_slice-top.ensures.value (some_from_false (length c.as_slice-top.result.now) (sym c.is_empty.ensures ∙ c.if-is_empty.false)))
    (ap (λ l. get_or l 0 0) c.as_slice-top.ensures.value)
