use Rattle.std.proofs.Common.{arith, subst, sym, refl}
use Rattle.lf_queue.specs.Lines.{KeepsJobs, last_of, place_of}
use Rattle.lf_queue.proofs.States.{same_keeps}
use Rattle.lf_queue.proofs.queue.Queue.reserve.Goals as goal

pub invariant_of-self : goal.invariant_of-self
invariant_of-self c =
    let inv = c.self.invariant in
    let e = c.reserve_jobs.ensures in (
      subst (λ rows. KeepsJobs rows c.self.inside.spots.items (last_of c.self.inside.lasts) (place_of c.reserve_jobs.new.places) c.reserve_jobs.new.ready) (sym e.rows) (
          same_keeps c.self.inside.rows.items c.self.inside.spots.items (last_of c.self.inside.lasts) (last_of c.self.inside.lasts) (place_of c.self.inside.places) (place_of c.reserve_jobs.new.places) c.self.inside.ready c.reserve_jobs.new.ready
          (λ d. refl) e.places e.marks inv.0),
      (omega (arith, e.len, e.row_room, inv.1.0), (inv.1.1.0, (omega (arith, e.place_room, inv.1.1.1.0), (inv.1.1.1.1.0, omega (arith, e.len, e.mark_room, inv.1.1.1.1.1))))),
    )

pub invariant_of-self-in_err-reserve_cowns : goal.invariant_of-self-in_err-reserve_cowns
invariant_of-self-in_err-reserve_cowns c =
    let inv = c.self.invariant in
    let e = c.reserve_jobs.ensures in
    let f = c.reserve_cowns.ensures in (
      subst (λ rows. KeepsJobs rows c.reserve_cowns.new.spots.items (last_of c.reserve_cowns.new.lasts) (place_of c.reserve_jobs.new.places) c.reserve_jobs.new.ready) (sym e.rows) (
          subst (λ spots. KeepsJobs c.self.inside.rows.items spots (last_of c.reserve_cowns.new.lasts) (place_of c.reserve_jobs.new.places) c.reserve_jobs.new.ready) (sym f.spots) (
          same_keeps c.self.inside.rows.items c.self.inside.spots.items (last_of c.self.inside.lasts) (last_of c.reserve_cowns.new.lasts) (place_of c.self.inside.places) (place_of c.reserve_jobs.new.places) c.self.inside.ready c.reserve_jobs.new.ready
          f.lasts e.places e.marks inv.0)),
      (omega (arith, e.len, e.row_room, inv.1.0), (omega (arith, f.len, f.spot_room, inv.1.1.0), (omega (arith, e.place_room, inv.1.1.1.0), (omega (arith, f.last_room, inv.1.1.1.1.0), omega (arith, e.len, e.mark_room, inv.1.1.1.1.1))))),
    )

pub invariant_of-self-2 : goal.invariant_of-self-2
invariant_of-self-2 c =
    let inv = c.self.invariant in
    let e = c.in_ok-reserve_jobs.ensures in
    let f = c.in_ok-reserve_cowns.ensures in
    let j = c.max-self-inside.ensures in
    let k = c.max-self-inside-2.ensures in (
      subst (λ rows. KeepsJobs rows c.reserve_cowns.new.spots.items (last_of c.reserve_cowns.new.lasts) (place_of c.reserve_jobs.new.places) c.reserve_jobs.new.ready) (sym e.rows) (
          subst (λ spots. KeepsJobs c.self.inside.rows.items spots (last_of c.reserve_cowns.new.lasts) (place_of c.reserve_jobs.new.places) c.reserve_jobs.new.ready) (sym f.spots) (
          same_keeps c.self.inside.rows.items c.self.inside.spots.items (last_of c.self.inside.lasts) (last_of c.reserve_cowns.new.lasts) (place_of c.self.inside.places) (place_of c.reserve_jobs.new.places) c.self.inside.ready c.reserve_jobs.new.ready
          f.lasts e.places e.marks inv.0)),
      (omega (arith, j, e.len, e.row_room, e.enough_rows, inv.1.0), (omega (arith, k, f.len, f.spot_room, f.enough_spots, inv.1.1.0), (omega (arith, j, e.place_room, e.enough_places, inv.1.1.1.0), (omega (arith, k, f.last_room, f.enough_lasts, inv.1.1.1.1.0), omega (arith, j, e.len, e.mark_room, e.enough_marks, inv.1.1.1.1.1))))),
    )
