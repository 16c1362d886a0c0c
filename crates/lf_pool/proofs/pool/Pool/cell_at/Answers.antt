use Rattle.std.proofs.Common.{Some, slice_get, suc, ap, sym, arith, ◌≡◌, ◌+◌, ◌≤◌, ◌∙◌}
use Rattle.std.specs.Prelude.{eqb}
use Rattle.std.proofs.lemmas.Bool.Decides.{Decides-eqb}
use Rattle.lf_base.proofs.ListLemmas.LinkedLists.{first_is, has-at}
use Rattle.lf_pool.proofs.Beheads.{node_other}
use Rattle.lf_pool.proofs.Places.{after_at, no_number, past_end}
use Rattle.lf_pool.proofs.pool.Pool.cell_at.Goals as goal

pub loop-step-init : goal.loop-step-init
loop-step-init g c xs left = sym left.begins ∙ sym (first_is xs)

pub next-cell-requires : goal.next-cell-requires
next-cell-requires g c =
    let l = c.loop-step in
    let xs = c.requires.0 in
    (xs, c.requires.1.chain, has-at eqb Decides-eqb xs l._step l.cell (sym (l.invariant xs c.requires.1) ∙ node_other l.cell c.if-cell.false))

pub loop-step-preserved : goal.loop-step-preserved
loop-step-preserved g c xs left =
    let l = c.loop-step in
    let at : slice_get xs l._step ≡ Some l.cell = sym (l.invariant xs left) ∙ node_other l.cell c.if-cell.false in
    let more : suc l._step ≡ l._step + 1 = grind arith in
    c.next-cell.ensures xs left.chain (has-at eqb Decides-eqb xs l._step l.cell at) ∙ after_at xs l.cell l._step left.chain.differ at ∙ ap (slice_get xs) more

pub returns-then-cell : goal.returns-then-cell
returns-then-cell g c xs left =
    let l = c.loop-step in
    let within : l._step ≤ c.args.place = grind arith in
    sym (past_end xs l._step c.args.place (sym (l.invariant xs left) ∙ no_number l.cell c.if-cell.true) within)

pub returns : goal.returns
returns g c xs left =
    let e : c.loop-step._step ≡ c.args.place = grind arith in
    c.loop-step.invariant xs left ∙ ap (slice_get xs) e
