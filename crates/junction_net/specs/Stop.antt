-- Why several junctions are not run, or what they answered is not written.
use Rattle.std.specs.Prelude.{◌≡◌, ℕ, List, ◌++◌, codes, Result, Ok, Err}
use Rattle.junction_run.specs.declared.status.Status.{Status}
use Rattle.junction_run.specs.declared.status.Status.TheVariants as status
use Rattle.junction_run.specs.Answer.{note_of, line_note}
use Rattle.junction_run.specs.Loading.{Unloaded}
use Rattle.junction_run.specs.Loading as loading
use Rattle.junction_net.specs.declared.load.Unread.TheVariants as unread
use Rattle.junction_net.specs.declared.stop.NetStop.{NetStop}
use Rattle.junction_net.specs.declared.stop.NetStop.TheVariants.{Unread, Refused, WriteFault}
use Rattle.junction_net.specs.Net.{list_reason}

-- the status of a stop
abbrev pub stop_status : NetStop → Status
stop_status (Unread unread.Memory) = status.Memory
stop_status (Unread (unread.Fault name)) = status.ReadFault
stop_status (Unread (unread.TooLong name)) = status.TooLong
stop_status (Refused word line why) = status.RefusedFile
stop_status WriteFault = status.WriteFault

-- and its note
abbrev pub stop_note : NetStop → List ℕ
stop_note (Unread unread.Memory) = note_of (codes "Memory")
stop_note (Unread (unread.Fault name)) = note_of (name.now ++ codes ": ReadFault")
stop_note (Unread (unread.TooLong name)) = note_of (name.now ++ codes ": TooLong")
stop_note (Refused word line why) = line_note word.now line (list_reason why)
stop_note WriteFault = note_of (codes "WriteFault")

-- It was stopped so, where this tells which file is not as it must be, and which files are read: a refusal is that of the
-- files, and a file that failed is one that is read.
abbrev pub IsStop : (Unloaded → Type 0) → (List ℕ → Type 0) → NetStop → Type 0
IsStop Gives Reached (Unread unread.Memory) = Unit {0}
IsStop Gives Reached (Unread (unread.Fault name)) = Reached name.now
IsStop Gives Reached (Unread (unread.TooLong name)) = Gives (loading.TooLong name.now)
IsStop Gives Reached (Refused word line why) = Gives (loading.Refused word.now line (list_reason why))
IsStop Gives Reached WriteFault = Unit {0}

-- what is refused is the list of that name
abbrev pub RefusesAt : List ℕ → NetStop → Type 0
RefusesAt word (Unread why) = Unit {0}
RefusesAt word (Refused name line why) = name.now ≡ word
RefusesAt word WriteFault = Unit {0}

-- it was stopped with this status
abbrev pub StopsWith : {A : Type 0} → Status → Result A NetStop → Type 0
StopsWith status (Ok x) = ⊥
StopsWith status (Err stop) = stop_status stop ≡ status
