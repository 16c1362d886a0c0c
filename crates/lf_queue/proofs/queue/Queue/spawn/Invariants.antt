use Rattle.std.proofs.Common.{take, ◌≡◌, ◌+◌, ◌≤◌, length}
use Rattle.std.specs.HashMap.{spare}
use Rattle.std.specs.Vec.{vec_capacity}
use Rattle.lf_queue.specs.Lines.{last_of}
use Rattle.lf_queue.proofs.Spawns.{Spawning}
use Rattle.lf_queue.proofs.queue.Queue.spawn.Given as goal

abbrev pub invariant-loop-cown : goal.invariant-loop-cown
invariant-loop-cown l = record {
  spawning : Spawning l.initial.self-inside.rows.items l.initial.self-inside.spots.items l.self-inside.spots.items (last_of l.self-inside.lasts) (take l.cown-index l.cown-items) l.behind;
  rows : l.self-inside.rows ≡ l.initial.self-inside.rows;
  places : l.self-inside.places ≡ l.initial.self-inside.places;
  ready : l.self-inside.ready ≡ l.initial.self-inside.ready;
  job_room : l.self-inside.job_room ≡ l.initial.self-inside.job_room;
  cown_room : l.self-inside.cown_room ≡ l.initial.self-inside.cown_room;
  capacity : vec_capacity l.self-inside.spots ≡ vec_capacity l.initial.self-inside.spots;
  spots : length l.self-inside.spots.items ≡ length l.initial.self-inside.spots.items + l.cown-index;
  room : spare l.initial.self-inside.lasts ≤ spare l.self-inside.lasts + l.cown-index;
  behind : l.behind ≤ l.cown-index;
}
