-- Why a command stops before its end.
use Rattle.std.specs.Prelude.{◌≡◌, ◌<◌, ℕ, List, length, Contains, Option, Some, Result, Ok, Err}
use Rattle.site_load.specs.declared.stop.SiteStop.{SiteStop}
use Rattle.site_load.specs.declared.stop.SiteStop.TheVariants as site
use Rattle.junction_run.specs.declared.status.Status.{Status}
use Rattle.junction_run.specs.declared.status.Status.TheVariants as status
use Rattle.junction_run.specs.declared.stop.LoadStop.{LoadStop}
use Rattle.junction_run.specs.declared.stop.LoadStop.TheVariants as load
use Rattle.junction_run.specs.declared.stop.Reason.TheVariants.{Site}
use Rattle.junction_run.specs.declared.stop.PlayStop.{PlayStop}
use Rattle.junction_run.specs.declared.stop.PlayStop.TheVariants as play
use Rattle.junction_run.specs.declared.stop.Stop.{Stop}
use Rattle.junction_run.specs.declared.stop.Stop.TheVariants.{Load, Play}
use Rattle.junction_run.specs.Loading.{Unloaded, Refusal}
use Rattle.junction_run.specs.Loading.{TooLong as LongFile, Refused as RefusedFile}
use Rattle.junction_run.specs.Reasons.{reason_text}

-- the status where loading stops
abbrev pub load_status : LoadStop → Status
load_status load.Memory = status.Memory
load_status (load.ReadFault word) = status.ReadFault
load_status (load.Refused word line reason) = status.RefusedFile
load_status (load.TooLong word) = status.TooLong

-- the status where playing stops
abbrev pub play_status : PlayStop → Status
play_status (play.ReadFault word) = status.ReadFault
play_status play.WriteFault = status.WriteFault
play_status (play.RefusedLine word line reason) = status.RefusedLine

-- the status of a stop
abbrev pub status_of : Stop → Status
status_of (Load stop) = load_status stop
status_of (Play stop) = play_status stop

-- what is said of the word that a stop of loading names, if it names one
abbrev pub LoadNames : (List ℕ → Type 0) → LoadStop → Type 0
LoadNames Fact load.Memory = Unit {0}
LoadNames Fact (load.ReadFault word) = Fact word.now
LoadNames Fact (load.Refused word line reason) = Fact word.now
LoadNames Fact (load.TooLong word) = Fact word.now

-- the same of a stop of playing
abbrev pub PlayNames : (List ℕ → Type 0) → PlayStop → Type 0
PlayNames Fact (play.ReadFault word) = Fact word.now
PlayNames Fact play.WriteFault = Unit {0}
PlayNames Fact (play.RefusedLine word line reason) = Fact word.now

-- the same of either
abbrev pub Names : (List ℕ → Type 0) → Stop → Type 0
Names Fact (Load stop) = LoadNames Fact stop
Names Fact (Play stop) = PlayNames Fact stop

-- loading stopped, at no other file than this one
abbrev pub IsAt : List ℕ → LoadStop → Type 0
IsAt name stop = LoadNames (λ word. word ≡ name) stop

-- loading stopped, at one of these files
abbrev pub IsAmong : List (List ℕ) → LoadStop → Type 0
IsAmong files stop = LoadNames (λ word. Contains files word) stop

-- playing stopped, at no other file than this one
abbrev pub PlaysAt : List ℕ → PlayStop → Type 0
PlaysAt name stop = PlayNames (λ word. word ≡ name) stop

-- a stop that names no other file than this one
abbrev pub StopsAt : List ℕ → Stop → Type 0
StopsAt name stop = Names (λ word. word ≡ name) stop

-- a stop that names one of these files, if any
abbrev pub StopsAmong : List (List ℕ) → Stop → Type 0
StopsAmong files stop = Names (λ word. Contains files word) stop

-- it was stopped with this status, as this tells it
abbrev pub StopsWith : {A S : Type 0} → (S → Status) → Status → Result A S → Type 0
StopsWith status_of status (Ok x) = ⊥
StopsWith status_of status (Err stop) = status_of stop ≡ status

-- Loading stopped so, where this tells what the files give, and these can be read: a refusal is that of the files, and a file
-- that failed is one that loading comes to.
abbrev pub IsUnloadedBy : {A : Type 0} → (Result A Unloaded → Type 0) → (List ℕ → Type 0) → LoadStop → Type 0
IsUnloadedBy Gives Reached load.Memory = Unit {0}
IsUnloadedBy Gives Reached (load.ReadFault word) = Reached word.now
IsUnloadedBy Gives Reached (load.Refused word line reason) = Gives (Err (RefusedFile word.now line (reason_text reason)))
IsUnloadedBy Gives Reached (load.TooLong word) = Gives (Err (LongFile word.now))

-- the same, where the files give this
abbrev pub IsLoadStop : {A : Type 0} → (List ℕ → Type 0) → LoadStop → Result A Unloaded → Type 0
IsLoadStop Reached stop loading = IsUnloadedBy (λ r. loading ≡ r) Reached stop

-- Loading answered so, where the files give this: its value, seen by a view, or a stop.
abbrev pub IsLoading : {A B : Type 0} → (List ℕ → Type 0) → (A → B) → Result A LoadStop → Result B Unloaded → Type 0
IsLoading Reached view (Ok x) loading = loading ≡ Ok (view x)
IsLoading Reached view (Err stop) loading = IsLoadStop Reached stop loading

-- a file could not be read whole: its read failed, or it has more bytes than its limit
abbrev pub IsUnread : ℕ → List ℕ → LoadStop → Type 0
IsUnread limit bytes load.Memory = Unit {0}
IsUnread limit bytes (load.ReadFault word) = Unit {0}
IsUnread limit bytes (load.Refused word line reason) = ⊥
IsUnread limit bytes (load.TooLong word) = limit < length bytes

-- a text is refused, where `Is` tells the value of its bytes, or the line and the reason of its refusal
abbrev pub IsRefusedBy : {V : Type 0} → (List ℕ → Result V Refusal → Type 0) → List ℕ → LoadStop → Type 0
IsRefusedBy Is bytes load.Memory = Unit {0}
IsRefusedBy Is bytes (load.ReadFault word) = ⊥
IsRefusedBy Is bytes (load.Refused word line reason) = Is bytes (Err (line, reason_text reason))
IsRefusedBy Is bytes (load.TooLong word) = ⊥

-- a stop at a file of the site, as one of loading
abbrev pub load_stop : SiteStop → LoadStop
load_stop site.Memory = load.Memory
load_stop (site.ReadFault word) = load.ReadFault word
load_stop (site.Refused word line reason) = load.Refused word line (Site reason)
load_stop (site.TooLong word) = load.TooLong word
