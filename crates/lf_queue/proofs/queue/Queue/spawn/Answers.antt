use Rattle.std.proofs.Common.{Some, [], ap, arith, cond, eqb, length, refl, set, subst, sym, ◌++◌, ◌+◌, ◌-◌, ◌∙◌, ◌∷◌}
use Rattle.std.specs.HashMap.{spare}
use Rattle.std.specs.Vec.{vec_capacity, vec_len}
use Rattle.lf_queue.specs.declared.row.Stage.TheVariants.{Waiting}
use Rattle.lf_queue.specs.Lines.{last_of, place_of}
use Rattle.lf_queue.proofs.SpotLists.{bit_small}
use Rattle.lf_queue.specs.Queues.{IsAboveAll, QueueState}
use Rattle.lf_queue.proofs.Spawns.{keeps_after, marks_length, running_after, spawning_begins, spawning_on, waiting_after}
use Rattle.lf_queue.proofs.States.{same_state}
use Rattle.lf_queue.proofs.queue.Queue.spawn.Goals as goal

pub loop-cown-init : goal.loop-cown-init
loop-cown-init c = record {
  spawning = spawning_begins c.self.inside.rows.items c.self.inside.spots.items (last_of c.self.inside.lasts) (place_of c.self.inside.places) c.self.inside.ready c.self.invariant.0;
  rows = refl;
  places = refl;
  ready = refl;
  job_room = refl;
  cown_room = refl;
  capacity = refl;
  spots = omega arith;
  room = omega arith;
  behind = omega arith;
}

pub loop-cown-preserved : goal.loop-cown-preserved
loop-cown-preserved c = record {
  spawning = spawning_on c.self.inside.rows.items c.self.inside.spots.items c.loop-cown.self-inside.spots.items (last_of c.loop-cown.self-inside.lasts) (last_of c.join_line-led.new.lasts) c.as_slice-cown-items.result.now c.loop-cown.cown-index c.loop-cown.behind _ c.loop-cown.invariant.spawning c.loop-cown-test.true
      c.deref.result.now (c.deref.ensures.value ∙ ap (λ rows. rows.items) c.loop-cown.invariant.rows) c.join_line-led.new.spots.items c.join_line-led.ensures.spots c.join_line-led.result c.join_line-led.ensures.led c.with_one-behind.result c.with_one-behind.ensures c.join_line-led.ensures.entered;
  rows = c.loop-cown.invariant.rows;
  places = c.loop-cown.invariant.places;
  ready = c.loop-cown.invariant.ready;
  job_room = c.loop-cown.invariant.job_room;
  cown_room = c.loop-cown.invariant.cown_room;
  capacity = c.join_line-led.ensures.capacity ∙ c.loop-cown.invariant.capacity;
  spots = let d = c.loop-cown.invariant.spots in (c.join_line-led.ensures.spots_len ∙ ap (λ n. n + 1) d ∙ omega arith);
  room = let a = c.join_line-led.ensures.last_room in let b = c.loop-cown.invariant.room in omega (arith, a, b);
  behind = let a = c.with_one-behind.ensures in let b = bit_small c.join_line-led.result in let d = c.loop-cown.invariant.behind in omega (arith, a, b, d);
}

pub invariant_of-self : goal.invariant_of-self
invariant_of-self c =
    let above = subst (IsAboveAll c.args.job.id) (sym c.self.view_is) c.requires.above in
    let was = c.self.invariant in
    let inv = c.loop-cown.invariant in
    let rows = ap (λ rows. vec_len rows) inv.rows in
    let capacity = ap (λ rows. vec_capacity rows) inv.rows in
    let places = ap (λ places. spare places) inv.places in
    let one = c.requires.job_room in
    let same = ap (λ (q : QueueState). q.job_room) c.self.view_is in
    let many = c.requires.cown_room in
    let alike = ap (λ (q : QueueState). q.cown_room) c.self.view_is in
    let items = ap length c.as_slice-cown-items.ensures in
    let put = c.push_reserved.ensures in (
      keeps_after c.self.inside.rows.items c.self.inside.spots.items c.loop-cown.self-inside.spots.items (last_of c.self.inside.lasts) (last_of c.loop-cown.self-inside.lasts) (place_of c.self.inside.places) (place_of c.enter_place.new.places) c.self.inside.ready c.self.invariant.0 c.args.job c.loop-cown.behind
          c.loop-cown.cown-index c.as_slice-cown-items.result.now c.loop-cown.invariant.spawning c.as_slice-cown-items.ensures (omega arith)
          above.0 above.1
          c.len-row.result (c.len-row.ensures ∙ c.self.inside.rows.ok.0) (λ n. c.enter_place.ensures.entered n ∙ ap (λ places. cond (eqb c.args.job.id n) (Some c.len-row.result) (place_of places n)) c.loop-cown.invariant.places)
          c.mark.new.ready (c.mark.ensures ∙ ap (λ marks. cond (eqb c.loop-cown.behind 0) (set marks c.len-row.result 1) marks) c.loop-cown.invariant.ready) (let inv = c.self.invariant.1.1.1.1.1 in let one = c.requires.job_room in let same = ap (λ (q : QueueState). q.job_room) c.self.view_is in let len = c.self.inside.rows.ok.0 in omega (arith, inv, one, same, len))
          c.len-first.result (c.len-first.result + c.len-cowns.result) (c.len-first.ensures ∙ c.self.inside.spots.ok.0) (ap (λ n. c.len-first.result + n) c.len-cowns.ensures)
          c.push_reserved.new.self.items (c.push_reserved.ensures.items ∙ ap (λ rows. rows.items ++ record { id = c.args.job.id; stage = Waiting c.args.job; first = c.len-first.result; end = c.len-first.result + c.len-cowns.result; behind = c.loop-cown.behind } ∷ []) c.loop-cown.invariant.rows),
      (
        omega (arith, rows, capacity, put.len, put.capacity, one, same, inv.job_room, was.1.0),
        (
          omega (arith, inv.capacity, inv.spots, items, c.len-cowns.ensures, many, alike, inv.cown_room, c.loop-cown.self-inside.spots.ok.0, c.self.inside.spots.ok.0, c.loop-cown.auto.cown-index-end, was.1.1.0),
          (
            omega (arith, places, c.enter_place.ensures.room, one, same, inv.job_room, was.1.1.1.0),
            (
              omega (arith, inv.room, items, c.len-cowns.ensures, many, alike, inv.cown_room, c.loop-cown.auto.cown-index-end, was.1.1.1.1.0),
              omega (
                arith,
                rows,
                put.len,
                one,
                same,
                inv.job_room,
                marks_length c.self.inside.rows.items c.self.inside.spots.items c.loop-cown.self-inside.spots.items (last_of c.self.inside.lasts) (last_of c.loop-cown.self-inside.lasts) (place_of c.self.inside.places) (place_of c.enter_place.new.places) c.self.inside.ready c.self.invariant.0 c.args.job c.loop-cown.behind
                    c.loop-cown.cown-index c.as_slice-cown-items.result.now c.loop-cown.invariant.spawning c.as_slice-cown-items.ensures (omega arith)
                    above.0 above.1
                    c.len-row.result (c.len-row.ensures ∙ c.self.inside.rows.ok.0) (λ n. c.enter_place.ensures.entered n ∙ ap (λ places. cond (eqb c.args.job.id n) (Some c.len-row.result) (place_of places n)) c.loop-cown.invariant.places)
                    c.mark.new.ready (c.mark.ensures ∙ ap (λ marks. cond (eqb c.loop-cown.behind 0) (set marks c.len-row.result 1) marks) c.loop-cown.invariant.ready) (let inv = c.self.invariant.1.1.1.1.1 in let one = c.requires.job_room in let same = ap (λ (q : QueueState). q.job_room) c.self.view_is in let len = c.self.inside.rows.ok.0 in omega (arith, inv, one, same, len))
                    c.len-first.result (c.len-first.result + c.len-cowns.result) (c.len-first.ensures ∙ c.self.inside.spots.ok.0) (ap (λ n. c.len-first.result + n) c.len-cowns.ensures)
                    c.push_reserved.new.self.items (c.push_reserved.ensures.items ∙ ap (λ rows. rows.items ++ record { id = c.args.job.id; stage = Waiting c.args.job; first = c.len-first.result; end = c.len-first.result + c.len-cowns.result; behind = c.loop-cown.behind } ∷ []) c.loop-cown.invariant.rows),
                was.1.1.1.1.1,
              ),
            ),
          ),
        ),
      ),
    )

pub returns : goal.returns
returns c =
    let above = subst (IsAboveAll c.args.job.id) (sym c.self.view_is) c.requires.above in
    same_state _ _
    (waiting_after c.self.inside.rows.items c.self.inside.spots.items c.loop-cown.self-inside.spots.items (last_of c.self.inside.lasts) (last_of c.loop-cown.self-inside.lasts) (place_of c.self.inside.places) (place_of c.enter_place.new.places) c.self.inside.ready c.self.invariant.0 c.args.job c.loop-cown.behind
    c.loop-cown.cown-index c.as_slice-cown-items.result.now c.loop-cown.invariant.spawning c.as_slice-cown-items.ensures (omega arith)
    above.0 above.1
    c.len-row.result (c.len-row.ensures ∙ c.self.inside.rows.ok.0) (λ n. c.enter_place.ensures.entered n ∙ ap (λ places. cond (eqb c.args.job.id n) (Some c.len-row.result) (place_of places n)) c.loop-cown.invariant.places)
    c.mark.new.ready (c.mark.ensures ∙ ap (λ marks. cond (eqb c.loop-cown.behind 0) (set marks c.len-row.result 1) marks) c.loop-cown.invariant.ready) (let inv = c.self.invariant.1.1.1.1.1 in let one = c.requires.job_room in let same = ap (λ (q : QueueState). q.job_room) c.self.view_is in let len = c.self.inside.rows.ok.0 in omega (arith, inv, one, same, len))
    c.len-first.result (c.len-first.result + c.len-cowns.result) (c.len-first.ensures ∙ c.self.inside.spots.ok.0) (ap (λ n. c.len-first.result + n) c.len-cowns.ensures)
    c.push_reserved.new.self.items (c.push_reserved.ensures.items ∙ ap (λ rows. rows.items ++ record { id = c.args.job.id; stage = Waiting c.args.job; first = c.len-first.result; end = c.len-first.result + c.len-cowns.result; behind = c.loop-cown.behind } ∷ []) c.loop-cown.invariant.rows) ∙ ap (λ (q : QueueState). q.waiting ++ c.args.job ∷ []) c.self.view_is)
    (running_after c.self.inside.rows.items c.self.inside.spots.items c.loop-cown.self-inside.spots.items (last_of c.self.inside.lasts) (last_of c.loop-cown.self-inside.lasts) (place_of c.self.inside.places) (place_of c.enter_place.new.places) c.self.inside.ready c.self.invariant.0 c.args.job c.loop-cown.behind
    c.loop-cown.cown-index c.as_slice-cown-items.result.now c.loop-cown.invariant.spawning c.as_slice-cown-items.ensures (omega arith)
    above.0 above.1
    c.len-row.result (c.len-row.ensures ∙ c.self.inside.rows.ok.0) (λ n. c.enter_place.ensures.entered n ∙ ap (λ places. cond (eqb c.args.job.id n) (Some c.len-row.result) (place_of places n)) c.loop-cown.invariant.places)
    c.mark.new.ready (c.mark.ensures ∙ ap (λ marks. cond (eqb c.loop-cown.behind 0) (set marks c.len-row.result 1) marks) c.loop-cown.invariant.ready) (let inv = c.self.invariant.1.1.1.1.1 in let one = c.requires.job_room in let same = ap (λ (q : QueueState). q.job_room) c.self.view_is in let len = c.self.inside.rows.ok.0 in omega (arith, inv, one, same, len))
    c.len-first.result (c.len-first.result + c.len-cowns.result) (c.len-first.ensures ∙ c.self.inside.spots.ok.0) (ap (λ n. c.len-first.result + n) c.len-cowns.ensures)
    c.push_reserved.new.self.items (c.push_reserved.ensures.items ∙ ap (λ rows. rows.items ++ record { id = c.args.job.id; stage = Waiting c.args.job; first = c.len-first.result; end = c.len-first.result + c.len-cowns.result; behind = c.loop-cown.behind } ∷ []) c.loop-cown.invariant.rows) ∙ ap (λ (q : QueueState). q.running) c.self.view_is)
    (ap (λ n. n - 1) (c.loop-cown.invariant.job_room ∙ ap (λ (q : QueueState). q.job_room) c.self.view_is))
    (ap (λ n. n - c.len-cowns.result) (c.loop-cown.invariant.cown_room ∙ ap (λ (q : QueueState). q.cown_room) c.self.view_is) ∙ ap (λ n. c.args.self.now.cown_room - n) c.len-cowns.ensures)
