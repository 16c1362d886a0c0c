use Rattle.std.proofs.Common.{List, Option, Some, arith, refl, subst, sym, ℕ, ◌∙◌, ◌≡◌}
use Rattle.lf_base.specs.declared.values.Owner.TheVariants.{Local}
use Rattle.lf_base.specs.CloseResult.{leads_into}
use Rattle.lf_base.specs.Owners.{owner_in}
use Rattle.lf_base.specs.Sets.{Member}
use Rattle.lf_base.specs.declared.ids.ObjId.{ObjId}
use Rattle.lf_base.specs.declared.values.Value.{Value}
use Rattle.lf_base.specs.PlainState.{State}
use Rattle.lf_graph.specs.RowOrder.{names_under}
use Rattle.lf_transfer.specs.Closing.{Closing}
use Rattle.lf_transfer.specs.LooseNames.{LooseNames}
use Rattle.lf_transfer.proofs.Closings.ClosedSteps.{stored_owner}
use Rattle.lf_transfer.proofs.Closings.LocalRows.{done_shut, fewer_locals, local_begins, local_goes_on, local_here, local_listed, local_over, local_there, locals_differ}
use Rattle.lf_transfer.proofs.closed_fields.close_rows.Goals as goal

pub loop-next-init : goal.loop-next-init
loop-next-init g c = record {
  closing = λ s at r before slots first. first;
  walk = local_begins (g.S.Store.rows c.args.store.now) c.first-next.result c.first-next.ensures.first;
  shut = λ s at r before slots first p m. absurd m;
  room = λ w. omega arith;
  order = λ w. refl;
}

pub close_row-requires-clause-closing : goal.close_row-requires-clause-closing
close_row-requires-clause-closing g c κs within =
    let h = c.requires.closing in
    let s = h.0 in let at = h.1.0 in let r = h.1.1.0 in let before = h.1.1.1.0 in let slots = h.1.1.1.1.0 in let first = h.1.1.1.1.1 in
    let now = c.loop-next.invariant.closing s at r before slots first in
    let rows = g.S.Store.rows c.loop-next.store in (
      s,
      (
        at,
        (
          r,
          (
            before,
            (
              slots,
              (
                now,
                sym (stored_owner s at r c.args.within.now.keys before rows c.loop-next.regions slots c.loop-next.names now c.in-Some.p)
                    ∙ local_here (names_under Local (g.S.Store.rows c.args.store.now)) c.loop-next.next c.loop-next.invariant.walk c.in-Some.p c.in-Some.is rows (((now.domain).counts).store).rows.differ (c.loop-next.invariant.order Local),
              ),
            ),
          ),
        ),
      ),
    )

pub next-next-requires : goal.next-next-requires
next-next-requires g c =
    let h = c.requires.closing in
    let s = h.0 in let at = h.1.0 in let r = h.1.1.0 in let before = h.1.1.1.0 in let slots = h.1.1.1.1.0 in let first = h.1.1.1.1.1 in
    let now = c.loop-next.invariant.closing s at r before slots first in
    let rows = g.S.Store.rows c.loop-next.store in
    let local : owner_in s.rows c.in-Some.p ≡ Some Local =
    sym (stored_owner s at r c.args.within.now.keys before rows c.loop-next.regions slots c.loop-next.names now c.in-Some.p)
    ∙ local_here (names_under Local (g.S.Store.rows c.args.store.now)) c.loop-next.next c.loop-next.invariant.walk c.in-Some.p c.in-Some.is rows (((now.domain).counts).store).rows.differ (c.loop-next.invariant.order Local) in
    let then_ = c.close_row.ensures.closing s at r before slots now local in
    record { there = local_there s at r c.args.within.now.keys before (g.S.Store.rows c.close_row.new.store) c.close_row.new.regions slots c.close_row.new.names then_ c.in-Some.p local }

pub loop-next-smaller : goal.loop-next-smaller
loop-next-smaller g c =
    let h = c.requires.closing in
    let s = h.0 in let at = h.1.0 in let r = h.1.1.0 in let before = h.1.1.1.0 in let slots = h.1.1.1.1.0 in let first = h.1.1.1.1.1 in
    let now = c.loop-next.invariant.closing s at r before slots first in
    let rows = g.S.Store.rows c.loop-next.store in
    let next = g.S.Store.rows c.close_row.new.store in
    let local : owner_in s.rows c.in-Some.p ≡ Some Local =
    sym (stored_owner s at r c.args.within.now.keys before rows c.loop-next.regions slots c.loop-next.names now c.in-Some.p)
    ∙ local_here (names_under Local (g.S.Store.rows c.args.store.now)) c.loop-next.next c.loop-next.invariant.walk c.in-Some.p c.in-Some.is rows (((now.domain).counts).store).rows.differ (c.loop-next.invariant.order Local) in
    let then_ = c.close_row.ensures.closing s at r before slots now local in
    fewer_locals (names_under Local (g.S.Store.rows c.args.store.now)) c.loop-next.next c.loop-next.invariant.walk c.in-Some.p c.in-Some.is next (((then_.domain).counts).store).rows.differ (c.close_row.ensures.order Local ∙ c.loop-next.invariant.order Local)
    c.next-next.result c.next-next.ensures.next (locals_differ (g.S.Store.rows c.args.store.now) (((first.domain).counts).store).rows.differ)

pub loop-next-preserved : goal.loop-next-preserved
loop-next-preserved g c =
    let h = c.requires.closing in
    let s = h.0 in let at = h.1.0 in let r = h.1.1.0 in let before = h.1.1.1.0 in let slots = h.1.1.1.1.0 in let first = h.1.1.1.1.1 in
    let now = c.loop-next.invariant.closing s at r before slots first in
    let rows = g.S.Store.rows c.loop-next.store in
    let next = g.S.Store.rows c.close_row.new.store in
    let local_to : (s2 : State) (at2 : ℕ) (r2 : ObjId) (before2 : LooseNames) (slots2 : List (Option Value))
    → Closing s2 at2 r2 c.args.within.now.keys before2 (g.S.Store.rows c.args.store.now) c.args.regions.now slots2 c.args.names.now → owner_in s2.rows c.in-Some.p ≡ Some Local
    = λ s2 at2 r2 before2 slots2 first2.
    let now2 = c.loop-next.invariant.closing s2 at2 r2 before2 slots2 first2 in
    sym (stored_owner s2 at2 r2 c.args.within.now.keys before2 rows c.loop-next.regions slots2 c.loop-next.names now2 c.in-Some.p)
    ∙ local_here (names_under Local (g.S.Store.rows c.args.store.now)) c.loop-next.next c.loop-next.invariant.walk c.in-Some.p c.in-Some.is rows (((now.domain).counts).store).rows.differ (c.loop-next.invariant.order Local) in
    let then_ = c.close_row.ensures.closing s at r before slots now (local_to s at r before slots first) in
    record {
      closing = λ s at r before slots first. c.close_row.ensures.closing s at r before slots (c.loop-next.invariant.closing s at r before slots first) (local_to s at r before slots first);
      walk = local_goes_on (names_under Local (g.S.Store.rows c.args.store.now)) c.loop-next.next c.loop-next.invariant.walk c.in-Some.p c.in-Some.is next (((then_.domain).counts).store).rows.differ (c.close_row.ensures.order Local ∙ c.loop-next.invariant.order Local)
          c.next-next.result c.next-next.ensures.next;
      shut = λ s at r before slots first. done_shut (leads_into s r) rows next (c.loop-next.invariant.walk).done c.in-Some.p (c.loop-next.invariant.shut s at r before slots first)
          (c.close_row.ensures.shut s at r before slots (c.loop-next.invariant.closing s at r before slots first) (local_to s at r before slots first)) c.close_row.ensures.others;
      room = λ w. omega (arith, c.close_row.ensures.room w, c.loop-next.invariant.room w);
      order = λ w. c.close_row.ensures.order w ∙ c.loop-next.invariant.order w;
    }

pub returns-clause-closing : goal.returns-clause-closing
returns-clause-closing g c = c.loop-next.invariant.closing

pub returns-clause-shut : goal.returns-clause-shut
returns-clause-shut g c s at r before slots first p local =
    c.loop-next.invariant.shut s at r before slots first p
    (subst (Member p) (c.loop-next.invariant.order Local ∙ local_over (names_under Local (g.S.Store.rows c.args.store.now)) c.loop-next.next c.loop-next.invariant.walk c.in_default.is) (local_listed (g.S.Store.rows c.loop-next.store) p local))

pub returns-clause-room : goal.returns-clause-room
returns-clause-room g c = c.loop-next.invariant.room
