use Rattle.std.proofs.Common.{ap, arith, length, subst, sym, true, ℕ, ◌∙◌, ◌≡◌}
use Rattle.lf_base.specs.declared.ids.ObjId.{ObjId}
use Rattle.lf_base.specs.CloseResult.{close_result, leads_into}
use Rattle.lf_base.specs.PlainState.{State}
use Rattle.lf_base.proofs.NameLemmas.SameNames.{same_name_itself}
use Rattle.lf_base.specs.Owners.{is_bridge, is_in}
use Rattle.lf_domain.specs.Counts.{CountsOf}
use Rattle.lf_laws.proofs.Contents.PartsAreTrees.{names_bridge}
use Rattle.lf_transfer.specs.Closing.{AreSlotsShut, HoldsBridge, LetsLoose}
use Rattle.lf_transfer.specs.LooseNames.{LooseNames}
use Rattle.lf_transfer.proofs.Closings.ClosedStates.{closing_begins, closing_ends}
use Rattle.lf_transfer.proofs.Closings.ClosedSteps.{no_more_names, ordered_length}
use Rattle.lf_transfer.proofs.closing.close_region.Goals as goal

holds : (s : State) (at : ℕ) (r : ObjId) → HoldsBridge s at r → is_bridge s.rows r ≡ true
holds s at r h = ap (is_in r) (names_bridge s h.value r h.bridge).1 ∙ same_name_itself r

pub find_below-requires-clause-region : goal.find_below-requires-clause-region
find_below-requires-clause-region g c κs within =
    let h = c.requires.opened in
    let rows = g.S.Store.rows c.args.store.now in (
      c.args.regions.now,
      (
        h.0,
        (
          h.1.0.domain,
          (
            holds h.0 c.args.kept c.args.r h.1.1,
            omega (arith, c.requires.room, sym (ap (λ (d : LooseNames). d.spare) c.work.view_is), ordered_length rows, ap length ((((h.1.0.domain).counts).store).rows.rise)),
          ),
        ),
      ),
    )

pub close_slots-requires-clause-closing : goal.close_slots-requires-clause-closing
close_slots-requires-clause-closing g c κs within =
    let h = c.requires.opened in
    let rows = g.S.Store.rows c.args.store.now in (
      h.0,
      (
        c.args.r,
        (
          c.work.inside.list,
          closing_begins h.0 rows c.args.regions.now c.args.slots.now h.1.0 c.args.kept c.args.r c.find_below.new.below.keys c.work.inside.list
              (c.find_below.ensures.names c.args.regions.now h.0 h.1.0.domain (holds h.0 c.args.kept c.args.r h.1.1))
              (omega (arith, c.requires.room, sym (ap (λ (d : LooseNames). d.spare) c.work.view_is), ordered_length rows, ap length ((((h.1.0.domain).counts).store).rows.rise))),
        ),
      ),
    )

pub close_rows-requires-clause-closing : goal.close_rows-requires-clause-closing
close_rows-requires-clause-closing g c κs within =
    let h = c.requires.opened in
    let rows = g.S.Store.rows c.args.store.now in
    let first = closing_begins h.0 rows c.args.regions.now c.args.slots.now h.1.0 c.args.kept c.args.r c.find_below.new.below.keys c.work.inside.list
    (c.find_below.ensures.names c.args.regions.now h.0 h.1.0.domain (holds h.0 c.args.kept c.args.r h.1.1))
    (omega (arith, c.requires.room, sym (ap (λ (d : LooseNames). d.spare) c.work.view_is), ordered_length rows, ap length ((((h.1.0.domain).counts).store).rows.rise))) in
    (h.0, (c.args.kept, (c.args.r, (c.work.inside.list, (c.close_slots.new.slots, c.close_slots.ensures.closing h.0 c.args.r c.work.inside.list first)))))

pub invariant_of-work : goal.invariant_of-work
invariant_of-work g c =
    let s = c.requires.opened.0 in let opened = c.requires.opened.1.0 in let held = c.requires.opened.1.1 in
    let rows = g.S.Store.rows c.args.store.now in
    let first = closing_begins s rows c.args.regions.now c.args.slots.now opened c.args.kept c.args.r c.find_below.new.below.keys c.work.inside.list
    (c.find_below.ensures.names c.args.regions.now s opened.domain (holds s c.args.kept c.args.r held))
    (omega (arith, c.requires.room, sym (ap (λ (d : LooseNames). d.spare) c.work.view_is), ordered_length rows, ap length ((((opened.domain).counts).store).rows.rise))) in
    let middle = c.close_slots.ensures.closing s c.args.r c.work.inside.list first in
    let last = c.close_rows.ensures.closing s c.args.kept c.args.r c.work.inside.list c.close_slots.new.slots middle in
    let bound = no_more_names s c.args.kept c.args.r c.find_below.new.below.keys c.work.inside.list (g.S.Store.rows c.close_rows.new.store) c.close_rows.new.regions c.close_slots.new.slots c.close_rows.new.names last in
    record { empty = c.clear.ensures.empty; enough = omega (arith, bound, c.find_below.ensures.capacity, c.clear.ensures.capacity, c.clear.ensures.empty, c.work.invariant.enough, c.requires.room, sym (ap (λ (d : LooseNames). d.spare) c.work.view_is), ap (λ (d : LooseNames). length d.names) c.work.view_is, ordered_length rows, ap length ((((opened.domain).counts).store).rows.rise), (last.loose).room) }

pub returns-clause-slots : goal.returns-clause-slots
returns-clause-slots g c s opened held =
    let rows = g.S.Store.rows c.args.store.now in
    let first = closing_begins s rows c.args.regions.now c.args.slots.now opened c.args.kept c.args.r c.find_below.new.below.keys c.work.inside.list
    (c.find_below.ensures.names c.args.regions.now s opened.domain (holds s c.args.kept c.args.r held))
    (omega (arith, c.requires.room, sym (ap (λ (d : LooseNames). d.spare) c.work.view_is), ordered_length rows, ap length ((((opened.domain).counts).store).rows.rise))) in
    let middle = c.close_slots.ensures.closing s c.args.r c.work.inside.list first in
    let last = c.close_rows.ensures.closing s c.args.kept c.args.r c.work.inside.list c.close_slots.new.slots middle in
    let ends = closing_ends s c.args.kept c.args.r c.find_below.new.below.keys c.work.inside.list (g.S.Store.rows c.close_rows.new.store) c.close_rows.new.regions c.close_slots.new.slots c.close_rows.new.names last
    (subst (λ n. AreSlotsShut (leads_into s c.args.r) c.args.kept n c.close_slots.new.slots) (sym c.close_slots.ensures.length) (c.close_slots.ensures.shut s c.args.r c.work.inside.list first))
    (c.close_rows.ensures.shut s c.args.kept c.args.r c.work.inside.list c.close_slots.new.slots middle) in
    ap (λ (u : State). u.slots) ends

pub returns-clause-counts : goal.returns-clause-counts
returns-clause-counts g c s opened held =
    let rows = g.S.Store.rows c.args.store.now in
    let first = closing_begins s rows c.args.regions.now c.args.slots.now opened c.args.kept c.args.r c.find_below.new.below.keys c.work.inside.list
    (c.find_below.ensures.names c.args.regions.now s opened.domain (holds s c.args.kept c.args.r held))
    (omega (arith, c.requires.room, sym (ap (λ (d : LooseNames). d.spare) c.work.view_is), ordered_length rows, ap length ((((opened.domain).counts).store).rows.rise))) in
    let middle = c.close_slots.ensures.closing s c.args.r c.work.inside.list first in
    let last = c.close_rows.ensures.closing s c.args.kept c.args.r c.work.inside.list c.close_slots.new.slots middle in
    let ends = closing_ends s c.args.kept c.args.r c.find_below.new.below.keys c.work.inside.list (g.S.Store.rows c.close_rows.new.store) c.close_rows.new.regions c.close_slots.new.slots c.close_rows.new.names last
    (subst (λ n. AreSlotsShut (leads_into s c.args.r) c.args.kept n c.close_slots.new.slots) (sym c.close_slots.ensures.length) (c.close_slots.ensures.shut s c.args.r c.work.inside.list first))
    (c.close_rows.ensures.shut s c.args.kept c.args.r c.work.inside.list c.close_slots.new.slots middle) in
    subst (CountsOf (g.S.Store.rows c.close_rows.new.store) c.close_rows.new.regions) ends (last.domain).counts

pub returns-clause-loose : goal.returns-clause-loose
returns-clause-loose g c s opened held =
    let rows = g.S.Store.rows c.args.store.now in
    let first = closing_begins s rows c.args.regions.now c.args.slots.now opened c.args.kept c.args.r c.find_below.new.below.keys c.work.inside.list
    (c.find_below.ensures.names c.args.regions.now s opened.domain (holds s c.args.kept c.args.r held))
    (omega (arith, c.requires.room, sym (ap (λ (d : LooseNames). d.spare) c.work.view_is), ordered_length rows, ap length ((((opened.domain).counts).store).rows.rise))) in
    let middle = c.close_slots.ensures.closing s c.args.r c.work.inside.list first in
    let last = c.close_rows.ensures.closing s c.args.kept c.args.r c.work.inside.list c.close_slots.new.slots middle in
    let ends = closing_ends s c.args.kept c.args.r c.find_below.new.below.keys c.work.inside.list (g.S.Store.rows c.close_rows.new.store) c.close_rows.new.regions c.close_slots.new.slots c.close_rows.new.names last
    (subst (λ n. AreSlotsShut (leads_into s c.args.r) c.args.kept n c.close_slots.new.slots) (sym c.close_slots.ensures.length) (c.close_slots.ensures.shut s c.args.r c.work.inside.list first))
    (c.close_rows.ensures.shut s c.args.kept c.args.r c.work.inside.list c.close_slots.new.slots middle) in
    subst (λ l. LetsLoose s (close_result s c.args.kept c.args.r) l c.close_rows.new.names.names) (ap (λ (d : LooseNames). d.names) c.work.view_is)
    (subst (λ (u : State). LetsLoose s u c.work.inside.list.names c.close_rows.new.names.names) ends (last.loose).names)

pub returns-clause-room : goal.returns-clause-room
returns-clause-room g c =
    let s = c.requires.opened.0 in let opened = c.requires.opened.1.0 in let held = c.requires.opened.1.1 in
    let rows = g.S.Store.rows c.args.store.now in
    let first = closing_begins s rows c.args.regions.now c.args.slots.now opened c.args.kept c.args.r c.find_below.new.below.keys c.work.inside.list
    (c.find_below.ensures.names c.args.regions.now s opened.domain (holds s c.args.kept c.args.r held))
    (omega (arith, c.requires.room, sym (ap (λ (d : LooseNames). d.spare) c.work.view_is), ordered_length rows, ap length ((((opened.domain).counts).store).rows.rise))) in
    let middle = c.close_slots.ensures.closing s c.args.r c.work.inside.list first in
    let last = c.close_rows.ensures.closing s c.args.kept c.args.r c.work.inside.list c.close_slots.new.slots middle in
    let bound = no_more_names s c.args.kept c.args.r c.find_below.new.below.keys c.work.inside.list (g.S.Store.rows c.close_rows.new.store) c.close_rows.new.regions c.close_slots.new.slots c.close_rows.new.names last in
    omega (arith, bound, c.find_below.ensures.capacity, c.clear.ensures.capacity, c.clear.ensures.empty, c.work.invariant.enough, c.requires.room, sym (ap (λ (d : LooseNames). d.spare) c.work.view_is), ap (λ (d : LooseNames). length d.names) c.work.view_is, ordered_length rows, ap length ((((opened.domain).counts).store).rows.rise), (last.loose).room)
