-- The words of refusals, a line for each.
use Rattle.std.specs.Prelude.{ℕ, ◌+◌, ◌-◌, ◌==◌, List, [], ◌++◌, codes, length, Option, None, Some, if◌then◌else◌}
use Rattle.std.specs.List.{flat_map}
use Rattle.std.specs.Fmt.{decimal}
use Rattle.sig_types.specs.declared.numbers.GroupNo.{GroupNo}
use Rattle.sig_types.specs.declared.numbers.StagePlace.{StagePlace}
use Rattle.sig_types.specs.declared.numbers.StagePlace.TheVariants.{NoPlan, Stage, Inter}
use Rattle.pua_model.specs.Plan.{name_of}
use Rattle.signal_log.specs.Log.{rule_name}
use Rattle.log_judge.specs.declared.why.Asked.{Asked}
use Rattle.log_judge.specs.declared.why.Asked.TheVariants.{Start, End}
use Rattle.log_judge.specs.declared.why.Reason.{Reason}
use Rattle.log_judge.specs.declared.why.Reason.TheVariants.{NotYet, Least, On, Uncleared, Nothing}
use Rattle.refusal_text.specs.declared.refusal.Refusal.{Refusal}
use Rattle.refusal_text.specs.declared.refusal.Refusal.TheVariants.{Command, Turn}
use Rattle.refusal_text.specs.declared.refusal.Said.{Said}
use Rattle.refusal_text.specs.declared.refusal.Said.TheVariants.{Borne, Unknown, Contradicted}
use Rattle.refusal_text.specs.Words.{asked_name, command_text, second_of}
use Rattle.refusal_text.specs.Sums.{sums_text}

-- the verb of so many seconds
abbrev pub are_text : ℕ → List ℕ
are_text n = if n == 1 then codes " is " else codes " are "

-- a second as the log numbers it
abbrev pub second_text : (first place : ℕ) → List ℕ
second_text first place = codes " second " ++ decimal (first + place)

-- since when, and how long up to before this place
abbrev pub lasts_text : (first since second : ℕ) → List ℕ
lasts_text first since second = codes " since" ++ second_text first since ++ codes ", for " ++ decimal (second - since) ++ codes " s"

-- how many seconds are needed, and how many are missing
abbrev pub needed_text : (needed missing : ℕ) → List ℕ
needed_text needed missing =
    codes "; " ++ decimal needed ++ codes " s" ++ are_text needed ++ codes "needed, " ++ decimal missing ++ are_text missing ++ codes "missing"

-- the earliest second in which the turn is free of the cause
abbrev pub earliest_text : ℕ → Asked → ℕ → List ℕ
earliest_text first asked place = codes "; earliest " ++ asked_name asked ++ codes " in" ++ second_text first place

-- what a group shows that isn't yet red, or green
abbrev pub change_name : Asked → List ℕ
change_name Start = codes "amber"
change_name End = codes "red-amber"

-- what a group shows that is asked to start, or to end
abbrev pub stand_name : Asked → List ℕ
stand_name Start = codes "red"
stand_name End = codes "green"

-- the group for whose sake the earliest second is that one, where it is another than the one that is named
abbrev pub sake_text : List (List ℕ) → GroupNo → GroupNo → List ℕ
sake_text names other by = if by.0 == other.0 then [] else codes " because of " ++ name_of names by

-- an end, the green that would come after it, what it lacks, and the earliest start
abbrev pub uncleared_text : List (List ℕ) → ℕ → (group other : GroupNo) → (ended due least free : ℕ) → GroupNo → List ℕ
uncleared_text names first group other ended due least free by =
    name_of names other ++ codes " ended in" ++ second_text first ended ++ codes ", " ++ name_of names group ++ codes " would be green in"
    ++ second_text first due ++ needed_text least (ended + least - due) ++ earliest_text first Start free ++ sake_text names other by

-- the cause in numbers
abbrev pub cause_text : List (List ℕ) → (first second : ℕ) → GroupNo → Asked → Reason → List ℕ
cause_text names first second group asked (NotYet since time) =
    change_name asked ++ lasts_text first since second ++ codes "; its time is " ++ decimal time ++ codes " s"
    ++ earliest_text first asked (since + time + 1)
cause_text names first second group asked (Least since least) =
    stand_name asked ++ lasts_text first since second ++ needed_text least (since + least - second) ++ earliest_text first asked (since + least)
cause_text names first second group asked (On other since) = name_of names other ++ codes " has been on" ++ lasts_text first since second
cause_text names first second group asked (Uncleared other ended due least free by) = uncleared_text names first group other ended due least free by
cause_text names first second group asked Nothing = codes "no numbers"

-- the cause, or that it isn't borne out
abbrev pub said_text : List (List ℕ) → (first second : ℕ) → GroupNo → Asked → Said → List ℕ
said_text names first second group asked (Borne why) = cause_text names first second group asked why
said_text names first second group asked Unknown = asked_name asked ++ codes " refused; what would bear this out lies before the log"
said_text names first second group asked Contradicted = asked_name asked ++ codes " refused; the pictures and the tables do not bear this out"

-- what ran, or was active
abbrev pub place_words : StagePlace → List ℕ
place_words NoPlan = codes "no stage was active"
place_words (Stage s) = codes "stage " ++ decimal s.0 ++ codes " was active"
place_words (Inter from to t) =
    codes "interstage " ++ decimal from.0 ++ codes "-" ++ decimal to.0 ++ codes " was in its second " ++ decimal t

-- the other group after a space, where one is named
abbrev pub other_text : List (List ℕ) → Option GroupNo → List ℕ
other_text names None = []
other_text names (Some other) = codes " " ++ name_of names other

-- the words behind the second
abbrev pub refusal_text : List (List ℕ) → ℕ → Refusal → List ℕ
refusal_text names first (Command second refused place) =
    codes " " ++ command_text refused ++ codes " " ++ rule_name refused.rule ++ codes ": " ++ place_words place
refusal_text names first (Turn second turn asked said) =
    codes " " ++ name_of names turn.group ++ codes " " ++ rule_name turn.rule ++ other_text names turn.other ++ codes ": "
    ++ said_text names first second turn.group asked said

-- the line of a refusal
unfoldable pub line_text : List (List ℕ) → ℕ → Refusal → List ℕ
line_text names first refusal = decimal (first + second_of refusal) ++ refusal_text names first refusal ++ codes "\n"

-- the whole text, of a log of these groups whose place 0 has this second: a line for each refusal, how many there are, and how long
-- was waited for what
unfoldable pub words_text : List (List ℕ) → ℕ → List Refusal → List ℕ
words_text names first found =
    flat_map (line_text names first) found ++ codes "REFUSALS " ++ decimal (length found) ++ codes "\n" ++ sums_text names found
