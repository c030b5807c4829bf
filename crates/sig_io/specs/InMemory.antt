-- What files and a sink in memory have: their bytes, and which of their calls fail.
use Rattle.std.specs.Prelude.{ℕ, List, String, Vec}
use Rattle.std.specs.declared.alloc.Global.{Global}
use Rattle.sig_io.specs.declared.memory.MemFiles.{MemFiles}
use Rattle.sig_io.specs.declared.memory.MemSink.{MemSink}

-- the names of the files with their bytes
abbrev pub files_in : MemFiles → List (String Global × Vec ℕ Global)
files_in m = m.files.items

-- the most bytes that a read gives
abbrev pub most_given : MemFiles → ℕ
most_given m = m.most

-- the numbers of the reads that fail
abbrev pub failing_reads : MemFiles → List ℕ
failing_reads m = m.failing.items

-- how many reads were called
abbrev pub reads_called : MemFiles → ℕ
reads_called m = m.calls

-- how many reads failed
abbrev pub failed_reads : MemFiles → ℕ
failed_reads m = m.faults

-- the bytes that the sink took
abbrev pub bytes_in : MemSink → List ℕ
bytes_in s = s.bytes.items

-- how many bytes the sink takes in all
abbrev pub room_of : MemSink → ℕ
room_of s = s.room

-- the numbers of the writes that fail
abbrev pub failing_writes : MemSink → List ℕ
failing_writes s = s.failing.items

-- how many writes were called
abbrev pub writes_called : MemSink → ℕ
writes_called s = s.calls

-- how many writes failed
abbrev pub failed_writes : MemSink → ℕ
failed_writes s = s.faults
