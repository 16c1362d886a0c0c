-- What an adapter over std is made of: a reader or a writer, and the count of the adapter's own faults.
use Rattle.std.specs.Prelude.{ℕ}
use Rattle.lf_outside.specs.declared.read_source.ReadSource.{ReadSource}
use Rattle.lf_outside.specs.declared.write_sink.WriteSink.{WriteSink}

-- the reader of a source
abbrev pub reader_of : {R : Type 0} → ReadSource R → R
reader_of s = s.inner

-- the faults of a source over a reader
abbrev pub read_faults : {R : Type 0} → ReadSource R → ℕ
read_faults s = s.faults

-- the writer of a sink
abbrev pub writer_of : {W : Type 0} → WriteSink W → W
writer_of s = s.inner

-- the faults of a sink over a writer
abbrev pub write_faults : {W : Type 0} → WriteSink W → ℕ
write_faults s = s.faults
