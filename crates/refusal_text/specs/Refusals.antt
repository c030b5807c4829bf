-- What was refused in the records of a log, with what the pictures and the tables say of it.
use Rattle.std.specs.Prelude.{ℕ, ◌+◌, ◌-◌, ◌==◌, ◌&&◌, Bool, List, [], ◌∷◌, ◌++◌, length, map, replicate, if◌then◌else◌, nat_le}
use Rattle.sig_types.specs.declared.aspect.Aspect.TheVariants.{Red}
use Rattle.sig_types.specs.declared.numbers.StagePlace.{StagePlace}
use Rattle.sig_types.specs.declared.record.Record.{Record}
use Rattle.sig_types.specs.declared.refused.StageRefusal.{StageRefusal}
use Rattle.sig_types.specs.declared.refused.TurnRefusal.{TurnRefusal}
use Rattle.sig_types.specs.Rules.{Rules}
use Rattle.sig_types.specs.Turns.{Picture, History, shown, trace, is_on}
use Rattle.sig_types.specs.Words.{tabulate}
use Rattle.sig_guard.specs.Step.{last_picture}
use Rattle.log_judge.specs.declared.find.Terms.{Terms}
use Rattle.log_judge.specs.declared.past.GroupPast.{GroupPast}
use Rattle.log_judge.specs.declared.why.Asked.{Asked}
use Rattle.log_judge.specs.declared.why.Asked.TheVariants.{Start, End}
use Rattle.log_judge.specs.declared.why.Finding.{Finding}
use Rattle.log_judge.specs.declared.why.Finding.TheVariants as finding
use Rattle.log_judge.specs.declared.why.Reason.{Reason}
use Rattle.log_judge.specs.Explained.{finding_now, reason_now}
use Rattle.log_judge.specs.Stands.{past_of}
use Rattle.refusal_text.specs.declared.refusal.Refusal.{Refusal}
use Rattle.refusal_text.specs.declared.refusal.Refusal.TheVariants.{Command, Turn}
use Rattle.refusal_text.specs.declared.refusal.Said.{Said}
use Rattle.refusal_text.specs.declared.refusal.Said.TheVariants.{Borne, Unknown, Contradicted}

-- Seconds are places of a history, from 0.

-- what there is to know of each of so many groups after a history
abbrev pub pasts_of : Terms → ℕ → History → List GroupPast
pasts_of k n h = tabulate (λ g. past_of k (trace h g) (length h - 1)) n

-- whether a refused turn is borne out, with the numbers of its cause where it is
abbrev pub said_by : Finding → Reason → Said
said_by finding.Borne why = Borne why
said_by finding.Unknown why = Unknown
said_by finding.Contradicted why = Contradicted

-- so of a turn that was refused in the second that shows p, after so many pictures; where there is none, nothing is known
abbrev pub said_after : ℕ → Finding → Reason → Said
said_after n found why = if n == 0 then Unknown else said_by found why

-- what is said of a turn that was refused in the second after a history, which shows p
unfoldable pub said_of : Rules → Terms → History → Picture → TurnRefusal → Said
said_of r k h p turn =
    said_after (length h) (finding_now r k (length h) (last_picture h) (pasts_of k r.count h) p turn)
    (reason_now r (length h) (last_picture h) (pasts_of k r.count h) p turn)

-- which turn was asked: the end of a group that is on, else its start
abbrev pub asked_of : Picture → TurnRefusal → Asked
asked_of p turn = if is_on (shown p turn.group.0) then End else Start

-- a refused turn
abbrev pub turn_of : Rules → Terms → History → Picture → TurnRefusal → Refusal
turn_of r k h p turn = Turn (length h) turn (asked_of p turn) (said_of r k h p turn)

-- a refused stage command, with what ran or was active
abbrev pub command_of : ℕ → StagePlace → StageRefusal → Refusal
command_of second place refused = Command second refused place

-- what was refused in the second after a history: stage commands, then turns
abbrev pub refused_in : Rules → Terms → History → Record → List Refusal
refused_in r k h x = map (command_of (length h) x.place) x.stages ++ map (turn_of r k h x.picture) x.turns

-- whether a place is asked for, of a log whose place 0 has this second
abbrev pub is_asked : (first from to place : ℕ) → Bool
is_asked first from to place = nat_le from (first + place) && nat_le (first + place) to

-- what was refused in that second, where it is asked for
abbrev pub told_in : Rules → Terms → (first from to : ℕ) → History → Record → List Refusal
told_in r k first from to h x = if is_asked first from to (length h) then refused_in r k h x else []

-- what was refused in records that come after a history, each after the pictures before it
abbrev pub told_after : Rules → Terms → (first from to : ℕ) → History → List Record → List Refusal
told_after r k first from to h [] = []
told_after r k first from to h (x ∷ xs) = told_in r k first from to h x ++ told_after r k first from to (h ++ x.picture ∷ []) xs

-- the second of the first record of a log
abbrev pub first_second : List Record → ℕ
first_second [] = 0
first_second (x ∷ xs) = x.second.0

-- A log from second 1 on began at rest.
abbrev pub begins_at_rest : ℕ → Bool
begins_at_rest second = second == 1

-- how it is judged
abbrev pub terms_from : ℕ → Terms
terms_from second = record { rested = begins_at_rest second; tolerance = 0 }

-- what is known of the time before it: at rest the all-red second 0 stands before its first picture
abbrev pub known_before : (groups second : ℕ) → History
known_before groups second = if begins_at_rest second then replicate groups Red ∷ [] else []

-- the second of the first picture that is known
abbrev pub first_known : ℕ → ℕ
first_known second = if begins_at_rest second then 0 else second

-- what was refused in a log whose first record has this second, in the seconds that are asked for
abbrev pub refusals_from : Rules → (second from to : ℕ) → List Record → List Refusal
refusals_from r second from to records = told_after r (terms_from second) (first_known second) from to (known_before r.count second) records

-- what was refused in a log
unfoldable pub refusals_of : Rules → (from to : ℕ) → List Record → List Refusal
refusals_of r from to records = refusals_from r (first_second records) from to records
