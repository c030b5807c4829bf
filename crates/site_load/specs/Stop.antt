-- Why a site is not taken.
use Rattle.std.specs.Prelude.{◌≡◌, ◌<◌, ℕ, List, length, Contains, Option, Some, Result, Ok, Err}
use Rattle.site_load.specs.declared.stop.SiteStop.{SiteStop}
use Rattle.site_load.specs.declared.stop.SiteStop.TheVariants as stop
use Rattle.site_load.specs.Loading.{Unloaded, Refusal, TooLong, Refused, text_limit}
use Rattle.site_load.specs.Reasons.{reason_text}

-- the stop names no other file than this one
abbrev pub IsAt : List ℕ → SiteStop → Type 0
IsAt name stop.Memory = Unit {0}
IsAt name (stop.ReadFault word) = word.now ≡ name
IsAt name (stop.Refused word line reason) = word.now ≡ name
IsAt name (stop.TooLong word) = word.now ≡ name

-- the stop names one of these files, if any
abbrev pub IsAmong : List (List ℕ) → SiteStop → Type 0
IsAmong files stop.Memory = Unit {0}
IsAmong files (stop.ReadFault word) = Contains files word.now
IsAmong files (stop.Refused word line reason) = Contains files word.now
IsAmong files (stop.TooLong word) = Contains files word.now

-- it was stopped by a read that failed
abbrev pub IsReadFault : {A : Type 0} → Result A SiteStop → Type 0
IsReadFault (Ok x) = ⊥
IsReadFault (Err stop.Memory) = ⊥
IsReadFault (Err (stop.ReadFault word)) = Unit {0}
IsReadFault (Err (stop.Refused word line reason)) = ⊥
IsReadFault (Err (stop.TooLong word)) = ⊥

-- Loading stopped so, where the files give this, and these can be read: a refusal is that of the files, and a file that failed is
-- one that loading comes to.
abbrev pub IsLoadStop : {A : Type 0} → (List ℕ → Type 0) → SiteStop → Result A Unloaded → Type 0
IsLoadStop Reached stop.Memory loading = Unit {0}
IsLoadStop Reached (stop.ReadFault word) loading = Reached word.now
IsLoadStop Reached (stop.Refused word line reason) loading = loading ≡ Err (Refused word.now line (reason_text reason))
IsLoadStop Reached (stop.TooLong word) loading = loading ≡ Err (TooLong word.now)

-- Loading answered so, where the files give this: its value, seen by a view, or a stop.
abbrev pub IsLoading : {A B : Type 0} → (List ℕ → Type 0) → (A → B) → Result A SiteStop → Result B Unloaded → Type 0
IsLoading Reached view (Ok x) loading = loading ≡ Ok (view x)
IsLoading Reached view (Err stop) loading = IsLoadStop Reached stop loading

-- a file could not be read whole: its read failed, or it has more bytes than its limit
abbrev pub IsUnread : List ℕ → SiteStop → Type 0
IsUnread bytes stop.Memory = Unit {0}
IsUnread bytes (stop.ReadFault word) = Unit {0}
IsUnread bytes (stop.Refused word line reason) = ⊥
IsUnread bytes (stop.TooLong word) = text_limit < length bytes

-- a text is refused, where this is its refusal
abbrev pub IsRefusedText : SiteStop → Option Refusal → Type 0
IsRefusedText stop.Memory refusal = Unit {0}
IsRefusedText (stop.ReadFault word) refusal = ⊥
IsRefusedText (stop.Refused word line reason) refusal = refusal ≡ Some (line, reason_text reason)
IsRefusedText (stop.TooLong word) refusal = ⊥
