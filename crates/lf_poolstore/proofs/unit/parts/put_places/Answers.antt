use Rattle.std.proofs.Common.{arith, length, subst, suc, sym, ◌+◌, ◌∙◌, ◌≡◌, ◌≤◌}
use Rattle.lf_pool.proofs.Places.{no_number}
use Rattle.lf_poolstore.proofs.UnitPlaces.{Putting, all_put, far_put, none_put, one_put, put_room, put_there}
use Rattle.lf_poolstore.proofs.unit.parts.put_places.Goals as goal

pub loop-step-init : goal.loop-step-init
loop-step-init c = none_put c.args.rows.now.entries c.args.unit c.args.index.now c.first-at.result c.first-at.ensures c.requires.room

pub row-requires : goal.row-requires
row-requires c =
    let l = c.loop-step in
    put_there c.args.rows.now.entries c.args.unit c.args.index.now l.index l._step l.at l.invariant c.requires.numbers c.requires.names c.if-at.false

pub put-requires : goal.put-requires
put-requires c =
    let l = c.loop-step in
    put_room c.args.rows.now.entries c.args.unit c.args.index.now l.index l._step l.at l.invariant c.requires.numbers c.requires.names c.if-at.false c.row.result c.row.ensures.row

pub next-at-requires : goal.next-at-requires
next-at-requires c =
    let l = c.loop-step in
    put_there c.args.rows.now.entries c.args.unit c.args.index.now l.index l._step l.at l.invariant c.requires.numbers c.requires.names c.if-at.false

pub loop-step-preserved : goal.loop-step-preserved
loop-step-preserved c =
    let l = c.loop-step in
    let more : suc l._step ≡ l._step + 1 = grind arith in
    subst (λ k. Putting c.args.rows.now.entries c.args.unit c.args.index.now c.put.new.self k c.next-at.result) more
    (one_put c.args.rows.now.entries c.args.unit c.args.index.now l.index l._step l.at l.invariant c.requires.numbers c.requires.names c.if-at.false c.row.result c.row.ensures.row c.put.new.self c.next-at.result
    c.put.ensures.places c.put.ensures.room c.next-at.ensures)

pub returns-then-at : goal.returns-then-at
returns-then-at c =
    let l = c.loop-step in
    all_put c.args.rows.now.entries c.args.unit c.args.index.now l.index l._step l.at l.invariant (sym l.invariant.number ∙ no_number l.at c.if-at.true)

pub returns : goal.returns
returns c =
    let l = c.loop-step in
    let most : length c.args.rows.now.entries ≤ l._step = let m = c.most_rows-step-end.ensures in grind arith in
    far_put c.args.rows.now.entries c.args.unit c.args.index.now l.index l._step l.at l.invariant most
