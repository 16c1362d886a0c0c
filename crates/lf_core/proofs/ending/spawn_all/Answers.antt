use Rattle.std.proofs.Common.{[], ap, arith, length, refl, reverse, sym, ◌++◌, ◌+◌, ◌∙◌, ◌∷◌}
use Rattle.std.specs.List.{sum_by}
use Rattle.std.proofs.lemmas.List.{append_assoc, length-reverse}
use Rattle.std.proofs.lemmas.List.Sums.{sum_by-append}
use Rattle.std.proofs.Common.{length-append}
use Rattle.lf_core.specs.Cores.{cowns_of}
use Rattle.lf_core.specs.World.{numbered}
use Rattle.lf_core.proofs.CoreStates.{numbered_next, reversed_last, sum_turned}
use Rattle.lf_queue.proofs.RisingNumbers.{above_spawned}
use Rattle.lf_queue.specs.Queues.{QueueState}
use Rattle.lf_core.proofs.ending.spawn_all.Goals as goal

pub loop-spawn-init : goal.loop-spawn-init
loop-spawn-init c =
    let count = sym (length-reverse c.turn_round.new.turned.items) ∙ ap length c.turn_round.ensures in
    let cowns = sym (sum_turned cowns_of c.turn_round.new.turned.items) ∙ ap (sum_by cowns_of) c.turn_round.ensures in
    record {
      waiting = ap (λ ss. c.args.queue.now.waiting ++ numbered c.args.next ss) c.turn_round.ensures;
      running = refl;
      next = ap (λ n. c.args.next + n) count;
      jobs = omega (arith, count, c.requires.jobs);
      cowns = omega (arith, cowns, c.requires.cowns);
      above = c.requires.above;
    }

pub loop-spawn-preserved : goal.loop-spawn-preserved
loop-spawn-preserved c =
    let inv = c.loop-spawn.invariant in
    let items = c.in-Some.ensures.items in
    let rest = reverse c.pop.new.self.items in
    let fewer = ap length items ∙ length-append c.pop.new.self.items (c.in-Some.spawn ∷ []) in
    let sums = ap (sum_by cowns_of) items ∙ sum_by-append cowns_of c.pop.new.self.items (c.in-Some.spawn ∷ []) in
    record {
      waiting = ap (λ (q : QueueState). q.waiting ++ numbered (c.loop-spawn.next + 1) rest) c.spawn.ensures
          ∙ append_assoc c.loop-spawn.queue.waiting _ (numbered (c.loop-spawn.next + 1) rest)
          ∙ ap (λ js. c.loop-spawn.queue.waiting ++ js) (sym (numbered_next c.loop-spawn.next c.in-Some.spawn rest))
          ∙ ap (λ ss. c.loop-spawn.queue.waiting ++ numbered c.loop-spawn.next ss) (sym (ap reverse items ∙ reversed_last c.pop.new.self.items c.in-Some.spawn))
          ∙ inv.waiting;
      running = ap (λ (q : QueueState). q.running) c.spawn.ensures ∙ inv.running;
      next = omega (arith, inv.next, fewer);
      jobs = let e = ap (λ (q : QueueState). q.job_room) c.spawn.ensures in omega (arith, e, inv.jobs, fewer);
      cowns = let e = ap (λ (q : QueueState). q.cown_room) c.spawn.ensures in omega (arith, e, inv.cowns, sums);
      above = rw c.spawn.ensures (above_spawned c.loop-spawn.next _ c.loop-spawn.queue refl inv.above);
    }
