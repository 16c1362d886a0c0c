use Rattle.lf_queue.proofs.ReadyLaws.{stays_ended, stays_spawned, stays_started}
use Rattle.lf_queue.proofs.laws.ready_stays.Goals as goal

pub returns : goal.returns
returns c = record {
  started = stays_started;
  ended = stays_ended;
  spawned = stays_spawned;
}
