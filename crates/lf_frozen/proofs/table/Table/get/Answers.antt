use Rattle.std.proofs.Common.{List, Some, ap, false, length, subst, sym, get_or, ◌<◌, ◌≤◌, ◌∙◌, ◌≡◌}
use Rattle.std.specs.Arc.{arc_value}
use Rattle.lf_frozen.specs.declared.row.FrozenRow.{FrozenRow}
use Rattle.lf_frozen.specs.Entries.{IsPlace, row_behind}
use Rattle.lf_frozen.specs.FrozenRows.{frozen_at}
use Rattle.lf_frozen.proofs.Searches.{found_here, none_here, other_here}
use Rattle.lf_frozen.proofs.table.Table.get.Goals as goal
use Rattle.lf_frozen.proofs.table.Table.get.Goals.{in_default-via-in-Some+else-is_same, in_default-via-in_default}

pub returns-in-Some : goal.returns-in-Some
returns-in-Some c =
    let own = arc_value c.self.inside.batch in
    let entries = (arc_value c.self.inside.entries).items in
    let searched : c.deref-2.result.now ≡ entries = c.deref-2.ensures.value ∙ ap (λ v. v.items) c.deref.ensures in
    let looked : c.deref-4.result.now ≡ entries = c.deref-4.ensures.value ∙ ap (λ v. v.items) c.deref-3.ensures in
    ap Some (c.row.ensures ∙ ap (λ (rows : List FrozenRow). row_behind rows c.in-Some.entry.now) c.deref-in-Some.ensures)
    ∙ found_here own entries c.self.invariant.0 c.self.invariant.1 c.args.o c.place-at.result
    (subst (λ l. c.place-at.result ≤ length l) searched c.place-at.ensures.within)
    (subst (λ l. IsPlace c.args.o false l c.place-at.result) searched c.place-at.ensures.place)
    c.in-Some.entry.now
    (subst (λ l. c.place-at.result < length l) looked c.in-Some.ensures.lookup.3.0)
    (subst (λ l. c.in-Some.entry.now ≡ get_or l c.place-at.result c.in-Some.entry.now) looked c.in-Some.ensures.lookup.1)
    (sym c.is_same.ensures ∙ c.if-is_same.true)
    ∙ ap (λ rows. frozen_at rows c.args.o) c.self.view_is

pub returns-in_default : goal.returns-in_default
returns-in_default c =
    let own = arc_value c.self.inside.batch in
    let entries = (arc_value c.self.inside.entries).items in
    let searched : c.deref-2.result.now ≡ entries = c.deref-2.ensures.value ∙ ap (λ v. v.items) c.deref.ensures in
    let looked : c.deref-4.result.now ≡ entries = c.deref-4.ensures.value ∙ ap (λ v. v.items) c.deref-3.ensures in
    let within = subst (λ l. c.place-at.result ≤ length l) searched c.place-at.ensures.within in
    let point = subst (λ l. IsPlace c.args.o false l c.place-at.result) searched c.place-at.ensures.place in
    elim c.in_default.branch [
      | in_default-via-in-Some+else-is_same w ↦
          other_here own entries c.self.invariant.0 c.self.invariant.1 c.args.o c.place-at.result within point w.in-Some.entry.now
          (subst (λ l. c.place-at.result < length l) looked w.in-Some.ensures.lookup.3.0)
          (subst (λ l. w.in-Some.entry.now ≡ get_or l c.place-at.result w.in-Some.entry.now) looked w.in-Some.ensures.lookup.1)
          (sym w.is_same.ensures ∙ w.if-is_same.false)
          ∙ ap (λ rows. frozen_at rows c.args.o) c.self.view_is
      | in_default-via-in_default w ↦
          none_here own entries c.self.invariant.0 c.self.invariant.1 c.args.o c.place-at.result within point
          (subst (λ l. length l ≤ c.place-at.result) looked w.in_default.ensures.lookup.3)
          ∙ ap (λ rows. frozen_at rows c.args.o) c.self.view_is
    ]
