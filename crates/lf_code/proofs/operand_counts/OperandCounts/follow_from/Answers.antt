use Rattle.std.proofs.Common.{get_or, rules, subst, sym, ◌-◌, ◌<◌, ◌≤◌}
use Rattle.std.proofs.lemmas.Option.{slice_get-get_or}
use Rattle.lf_code.specs.Operations.{ways}
use Rattle.lf_code.specs.OperandWalk.{OperandWalk}
use Rattle.lf_code.proofs.Checks.WalkSteps.{its_ways, seen_at, too_few, within_code}
use Rattle.lf_code.proofs.operand_counts.OperandCounts.follow_from.Goals as goal

pub offset_bounds-list-at : goal.offset_bounds-list-at
offset_bounds-list-at c =
    let within = within_code c.args.list.now c.args.self.now.counts.items c.args.self.now.left.items c.args.at c.requires in search rules

pub bounds-list-at : goal.bounds-list-at
bounds-list-at c = within_code c.args.list.now c.args.self.now.counts.items c.args.self.now.left.items c.args.at c.requires

pub count-count-requires : goal.count-count-requires
count-count-requires c = seen_at c.args.list.now c.args.self.now.counts.items c.args.self.now.left.items c.args.at c.requires

pub returns-then-count-needed-clause-onward : goal.returns-then-count-needed-clause-onward
returns-then-count-needed-clause-onward c =
    let i = get_or c.args.list.now c.args.at c.index-list-at.result in
    let got = slice_get-get_or c.args.list.now c.args.at c.index-list-at.result
    (within_code c.args.list.now c.args.self.now.counts.items c.args.self.now.left.items c.args.at c.requires) in
    too_few c.args.list.now c.args.self.now.counts.items c.args.self.now.left.items c.args.at c.count-count.result i c.requires
    c.count-count.ensures got
    (subst (λ n. c.count-count.result < n) c.needs-needed.ensures c.if-count-needed.true)

pub follow-requires-clause-next : goal.follow-requires-clause-next
follow-requires-clause-next c =
    let within = within_code c.args.list.now c.args.self.now.counts.items c.args.self.now.left.items c.args.at c.requires in search rules

pub returns-clause-onward : goal.returns-clause-onward
returns-clause-onward c =
    let i = get_or c.args.list.now c.args.at c.index-list-at.result in
    let got = slice_get-get_or c.args.list.now c.args.at c.index-list-at.result
    (within_code c.args.list.now c.args.self.now.counts.items c.args.self.now.left.items c.args.at c.requires) in
    c.in_ok-may.ensures.onward c.args.list.now
    (subst (λ n. OperandWalk c.args.list.now c.args.self.now.counts.items c.args.self.now.left.items
    (ways i.instr c.args.at (c.count-count.result - n))) (sym c.needs-needed.ensures)
    (its_ways c.args.list.now c.args.self.now.counts.items c.args.self.now.left.items c.args.at c.count-count.result i c.requires
    c.count-count.ensures got
    (subst (λ n. n ≤ c.count-count.result) c.needs-needed.ensures c.if-count-needed.false)))
