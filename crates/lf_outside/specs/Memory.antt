-- A source and a sink in memory, and what a call leaves of each.
use Rattle.std.specs.Prelude.{ℕ, ◌-◌, List, [], ◌++◌, take, drop}
use Rattle.lf_outside.specs.Causes.{one_more}

-- the bytes left, the most that a call gives, the numbers of the calls that fail, the calls and the faults so far
pub record SourceState : Type 0 where
  pub left : List ℕ
  pub most : ℕ
  pub failing : List ℕ
  pub calls : ℕ
  pub faults : ℕ

abbrev pub source_state : List ℕ → ℕ → List ℕ → ℕ → ℕ → SourceState
source_state left most failing calls faults = record { left = left; most = most; failing = failing; calls = calls; faults = faults }

-- a source before its first call
abbrev pub fresh_source : List ℕ → ℕ → List ℕ → SourceState
fresh_source bytes most failing = source_state bytes most failing 0 0

-- a source after a call that gave so many bytes
abbrev pub after_read : SourceState → ℕ → SourceState
after_read s count = record s { left = drop count s.left; calls = one_more s.calls }

-- a source after a call that failed
abbrev pub after_failed_read : SourceState → SourceState
after_failed_read s = record s { calls = one_more s.calls; faults = one_more s.faults }

-- the bytes held, the room for more, the most that a call takes, the numbers of the calls that fail, the calls and the faults so far
pub record SinkState : Type 0 where
  pub held : List ℕ
  pub room : ℕ
  pub most : ℕ
  pub failing : List ℕ
  pub calls : ℕ
  pub faults : ℕ

abbrev pub sink_state : List ℕ → ℕ → ℕ → List ℕ → ℕ → ℕ → SinkState
sink_state held room most failing calls faults =
    record { held = held; room = room; most = most; failing = failing; calls = calls; faults = faults }

-- a sink before its first call
abbrev pub fresh_sink : ℕ → ℕ → List ℕ → SinkState
fresh_sink room most failing = sink_state [] room most failing 0 0

-- a sink after a call that took so many bytes of a piece
abbrev pub after_write : SinkState → ℕ → List ℕ → SinkState
after_write s count piece = record s { held = s.held ++ take count piece; room = s.room - count; calls = one_more s.calls }

-- a sink after a call that failed
abbrev pub after_failed_write : SinkState → SinkState
after_failed_write s = record s { calls = one_more s.calls; faults = one_more s.faults }
