-- What a loop of reads or of writes moves.
use Rattle.std.specs.Prelude.{◌≡◌, ◌≤◌, ℕ, List, OnErr, OnOk, Result, length, take, Option}
use Rattle.std.specs.Io.KnownBytes.{Consumes, Appends}
use Rattle.lf_outside.specs.declared.streams.Failed.{Failed}
use Rattle.lf_outside.specs.Causes.{HasCause}
use Rattle.lf_outside.specs.Streams.{Stream}

-- exactly so many bytes were read
abbrev pub ConsumesSome : ℕ → Option (List ℕ) → Option (List ℕ) → Type 0
ConsumesSome count old new = (bytes : List ℕ) × (length bytes ≡ count) × Consumes old new bytes

-- at most so many bytes were read
abbrev pub ConsumesUpTo : ℕ → Option (List ℕ) → Option (List ℕ) → Type 0
ConsumesUpTo most old new = (bytes : List ℕ) × (length bytes ≤ most) × Consumes old new bytes

-- a prefix of these bytes was written
abbrev pub AppendsPrefix : List ℕ → Option (List ℕ) → Option (List ℕ) → Type 0
AppendsPrefix bytes old new = (count : ℕ) × (count ≤ length bytes) × Appends old new (take count bytes)

-- bytes were written to a sink, in their order; or a prefix of them, where a call failed
pub record Writes (bytes : List ℕ) (before after : Stream) (result : Result (Unit {0}) Failed) : Type 0 where
  pub all : OnOk result (Appends before.bytes after.bytes bytes)
  pub prefix : OnErr result (AppendsPrefix bytes before.bytes after.bytes)
  pub cause : HasCause before.faults after.faults result
