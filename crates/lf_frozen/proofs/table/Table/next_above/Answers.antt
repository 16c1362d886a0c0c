use Rattle.std.proofs.Common.{List, Some, ap, length, subst, get_or, ◌<◌, ◌≤◌, ◌∙◌, ◌≡◌}
use Rattle.std.specs.Arc.{arc_value}
use Rattle.lf_frozen.specs.declared.row.FrozenRow.{FrozenRow}
use Rattle.lf_frozen.specs.Entries.{IsPlaceAfter, row_behind}
use Rattle.lf_frozen.specs.FrozenRows.{RiseByName, next_frozen}
use Rattle.lf_frozen.proofs.Searches.{next_here, next_nowhere, rows_rise}
use Rattle.lf_frozen.proofs.table.Table.next_above.Goals as goal

pub returns-in-Some-clause-next : goal.returns-in-Some-clause-next
returns-in-Some-clause-next c =
    let own = arc_value c.self.inside.batch in
    let entries = (arc_value c.self.inside.entries).items in
    let searched : c.deref-2.result.now ≡ entries = c.deref-2.ensures.value ∙ ap (λ v. v.items) c.deref.ensures in
    let looked : c.deref-4.result.now ≡ entries = c.deref-4.ensures.value ∙ ap (λ v. v.items) c.deref-3.ensures in
    ap Some (c.row.ensures ∙ ap (λ (rows : List FrozenRow). row_behind rows c.in-Some.entry.now) c.deref-in-Some.ensures)
    ∙ next_here own entries c.self.invariant.0 c.args.after c.place_after-at.result
    (subst (λ l. c.place_after-at.result ≤ length l) searched c.place_after-at.ensures.within)
    (subst (λ l. IsPlaceAfter c.args.after l c.place_after-at.result) searched c.place_after-at.ensures.place)
    c.in-Some.entry.now
    (subst (λ l. c.place_after-at.result < length l) looked c.in-Some.ensures.lookup.3.0)
    (subst (λ l. c.in-Some.entry.now ≡ get_or l c.place_after-at.result c.in-Some.entry.now) looked c.in-Some.ensures.lookup.1)
    ∙ ap (λ rows. next_frozen rows c.args.after) c.self.view_is

pub returns-in-None-clause-next : goal.returns-in-None-clause-next
returns-in-None-clause-next c =
    let own = arc_value c.self.inside.batch in
    let entries = (arc_value c.self.inside.entries).items in
    let searched : c.deref-2.result.now ≡ entries = c.deref-2.ensures.value ∙ ap (λ v. v.items) c.deref.ensures in
    let looked : c.deref-4.result.now ≡ entries = c.deref-4.ensures.value ∙ ap (λ v. v.items) c.deref-3.ensures in
    next_nowhere own entries c.self.invariant.0 c.args.after c.place_after-at.result
    (subst (λ l. c.place_after-at.result ≤ length l) searched c.place_after-at.ensures.within)
    (subst (λ l. IsPlaceAfter c.args.after l c.place_after-at.result) searched c.place_after-at.ensures.place)
    (subst (λ l. length l ≤ c.place_after-at.result) looked c.in-None.ensures.lookup.3)
    ∙ ap (λ rows. next_frozen rows c.args.after) c.self.view_is

pub returns-in-Some-clause-rising : goal.returns-in-Some-clause-rising
returns-in-Some-clause-rising c =
    subst RiseByName c.self.view_is (rows_rise (arc_value c.self.inside.batch) (arc_value c.self.inside.entries).items c.self.invariant.0
    c.self.invariant.1)

pub returns-in-None-clause-rising : goal.returns-in-None-clause-rising
returns-in-None-clause-rising c =
    subst RiseByName c.self.view_is (rows_rise (arc_value c.self.inside.batch) (arc_value c.self.inside.entries).items c.self.invariant.0
    c.self.invariant.1)
