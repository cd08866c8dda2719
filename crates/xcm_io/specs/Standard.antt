-- What the adapters over std's readers and writers keep.
use Rattle.std.specs.Prelude.{ℕ}
use Rattle.xcm_io.specs.declared.standard.StdSource.{StdSource}
use Rattle.xcm_io.specs.declared.standard.StdSink.{StdSink}

-- the reader below
abbrev pub reader_of : {R : Type 0} → StdSource R → R
reader_of s = s.inner

-- how often a read has failed
abbrev pub read_faults : {R : Type 0} → StdSource R → ℕ
read_faults s = s.faults

-- the writer below
abbrev pub writer_of : {W : Type 0} → StdSink W → W
writer_of k = k.inner

-- how often a write has failed
abbrev pub write_faults : {W : Type 0} → StdSink W → ℕ
write_faults k = k.faults
