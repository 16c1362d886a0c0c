use Rattle.std.proofs.Common.{◌≡◌, length}
use Rattle.std.specs.Vec.{vec_capacity, vec_len}
use Rattle.lf_queue.proofs.Ends.{Leaving}
use Rattle.lf_queue.proofs.queue.Queue.ended.Given as goal

abbrev pub invariant-loop-spot : goal.invariant-loop-spot
invariant-loop-spot l = record {
  leaving : Leaving l.initial.self-inside.rows.items l.initial.self-inside.spots.items l.first l.spot l.self-inside.rows.items l.self-inside.spots.items l.self-inside.ready;
  places : l.self-inside.places ≡ l.initial.self-inside.places;
  lasts : l.self-inside.lasts ≡ l.initial.self-inside.lasts;
  job_room : l.self-inside.job_room ≡ l.initial.self-inside.job_room;
  cown_room : l.self-inside.cown_room ≡ l.initial.self-inside.cown_room;
  rows_len : vec_len l.self-inside.rows ≡ vec_len l.initial.self-inside.rows;
  rows_cap : vec_capacity l.self-inside.rows ≡ vec_capacity l.initial.self-inside.rows;
  spots_len : vec_len l.self-inside.spots ≡ vec_len l.initial.self-inside.spots;
  spots_cap : vec_capacity l.self-inside.spots ≡ vec_capacity l.initial.self-inside.spots;
  marks_len : length l.self-inside.ready ≡ length l.initial.self-inside.ready;
}
