-- A source or a sink at a moment: the bytes that it tells, and its faults so far.
use Rattle.std.specs.Prelude.{ℕ, List, Option}

-- the bytes that a source has left or a sink holds, where it tells them, and its faults so far
pub record Stream : Type 0 where
  pub bytes : Option (List ℕ)
  pub faults : ℕ

-- the moment of a source or a sink of which these two tell the bytes and the faults
abbrev pub stream_of : {T : Type 0} → (T → Option (List ℕ)) → (T → ℕ) → T → Stream
stream_of bytes faults moved = record { bytes = bytes moved; faults = faults moved }
