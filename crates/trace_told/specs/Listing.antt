-- The listing of a second.
use Rattle.std.specs.Prelude.{ℕ, ◌+◌, ◌==◌, Bool, List, [], ◌∷◌, ◌++◌, codes, length, map, take, ℤ, pos, Option, None, Some, if◌then◌else◌, slice_index_or}
use Rattle.std.specs.Fmt.{decimal, signed_decimal}
use Rattle.std.specs.List.{flat_map}
use Rattle.sig_types.specs.declared.record.Record.{Record}
use Rattle.sig_types.specs.declared.refused.Fault.{Fault}
use Rattle.sig_types.specs.Counts.{Counts}
use Rattle.sig_types.specs.declared.kinds.CommandKind.{CommandKind}
use Rattle.sig_types.specs.declared.kinds.ReadingKind.{ReadingKind}
use Rattle.sig_types.specs.declared.kinds.TimerKind.{TimerKind}
use Rattle.sig_types.specs.Number.{equal, holds}
use Rattle.sig_types.specs.Pass.{Store, cell}
use Rattle.pua_model.specs.Plan.{PlanOf}
use Rattle.signal_log.specs.Log.{fault_name, record_text}
use Rattle.vap_ast.specs.Syntax.{Program}
use Rattle.vap_code.specs.Codes.{CodeOf}
use Rattle.vap_code.specs.Machine.{machine}
use Rattle.vap_code.specs.Stores.{stopped}
use Rattle.controller.specs.Past.{Site, Past, next_second}
use Rattle.controller.specs.Second.{past_after_second, record_of}
use Rattle.controller.specs.Seen.{sights_in}
use Rattle.trace_watch.specs.declared.event.Event.{Event}
use Rattle.trace_watch.specs.declared.event.Slot.{Slot}
use Rattle.trace_watch.specs.declared.event.Slot.TheVariants as slot
use Rattle.trace_watch.specs.declared.event.Event.TheVariants.{Begins, Returns, Wants, Calls, Reads, Takes, Gives, Tests, Sets, Times, Commands}
use Rattle.trace_watch.specs.Events.{events_of}
use Rattle.trace_told.specs.declared.columns.Column.{Column}
use Rattle.trace_told.specs.declared.columns.Column.TheVariants.{Variable, Timer, Cell}
use Rattle.trace_told.specs.Columns.{label_of}
use Rattle.trace_told.specs.ValueRows.{or_zero}
use Rattle.trace_told.specs.declared.kept.Kept.{Kept}
use Rattle.trace_told.specs.declared.became.Answered.{Answered}
use Rattle.trace_told.specs.Became.{answered, became_text, none_answered}
use Rattle.trace_told.specs.Words.{command_text, reading_text, slot_text, sub_text, timer_word}

-- ---- events

-- a value that may not be there
abbrev pub before_text : Option ℤ → List ℕ
before_text None = codes "none"
before_text (Some v) = signed_decimal v

-- the answer of a test
abbrev pub answer_text : Bool → List ℕ
answer_text answer = if answer then codes "yes" else codes "no"

-- a reading
abbrev pub read_text : ReadingKind → ℤ → ℤ → List ℕ
read_text kind a b = codes "\n  " ++ reading_text kind a b

-- the value that was taken
abbrev pub given_text : ℤ → List ℕ
given_text value = codes " = " ++ signed_decimal value

-- a test that has this value
abbrev pub tested_text : ℤ → List ℕ
tested_text value = codes "\n  test: " ++ answer_text (holds value)

-- an assignment, with the value before and after it
abbrev pub set_text : Program → Slot → Option ℤ → ℤ → List ℕ
set_text p slot before after =
    codes "\n  " ++ (slot_text p slot ++ (codes ": " ++ (before_text before ++ (codes " -> " ++ signed_decimal after))))

-- what is done with a timer
abbrev pub timer_text : Program → TimerKind → ℕ → List ℕ
timer_text p kind timer = codes "\n  " ++ (timer_word kind ++ (codes "(" ++ (slot_text p (slot.Timer timer) ++ codes ")")))

-- a command, behind which these events come, with what became of it
abbrev pub commanded_text : PlanOf → Record → Answered → CommandKind → ℤ → ℤ → List Event → List ℕ
commanded_text plan r done kind a b behind =
    codes "\n  " ++ (command_text kind a b ++ (codes ": " ++ became_text plan r done kind a b behind))

-- What is written of an event, behind a line feed where it begins a line of its own. These events come behind it.
abbrev pub event_text : PlanOf → Program → Record → Answered → Event → List Event → List ℕ
event_text plan p r done (Begins line) behind = codes "\nline " ++ decimal line
event_text plan p r done (Returns line) behind = codes "\nback in line " ++ decimal line
event_text plan p r done (Wants line) behind = codes "\nno unit for line " ++ decimal line
event_text plan p r done (Calls routine) behind = codes "\n  calls " ++ sub_text p routine
event_text plan p r done (Reads kind a b) behind = read_text kind a b
event_text plan p r done (Takes slot) behind = codes "\n  " ++ slot_text p slot
event_text plan p r done (Gives value) behind = given_text value
event_text plan p r done (Tests value) behind = tested_text value
event_text plan p r done (Sets slot before after) behind = set_text p slot before after
event_text plan p r done (Times kind timer) behind = timer_text p kind timer
event_text plan p r done (Commands kind a b) behind = commanded_text plan r done kind a b behind

-- what is written of these events, one after the other, where interstage commands before them were answered so
abbrev pub events_from : PlanOf → Program → Record → Answered → List Event → List ℕ
events_from plan p r done [] = []
events_from plan p r done (e ∷ es) = event_text plan p r done e es ++ events_from plan p r (answered r.place done e) es

-- what is written of the events of a second
unfoldable pub events_text : PlanOf → Program → Record → List Event → List ℕ
events_text plan p r events = events_from plan p r none_answered events

-- the events that are listed: at most 1,000,000
abbrev pub listed : List Event → List Event
listed events = take 1000000 events

-- what is written where so many events are listed: whether there may be more
abbrev pub full_text : ℕ → List ℕ
full_text count = if count == 1000000 then codes "\nno more than 1000000 events are listed" else []

-- ---- what changed

-- a value of a store: that of a timer is its count
abbrev pub value_in : Store → Column → ℤ
value_in s (Variable v) = slice_index_or s.variables v (pos 0)
value_in s (Timer t) = pos (slice_index_or s.timers t stopped).count
value_in s (Cell a place) = or_zero (cell s a (pos place))

-- a value that is kept of a store
abbrev pub kept_of : Store → Column → Kept
kept_of s column = record { column = column; before = value_in s column }

-- the same value, kept of a store
abbrev pub kept_anew : Store → Kept → Kept
kept_anew s kept = kept_of s kept.column

-- the value of which one was kept
abbrev pub column_of : Kept → Column
column_of kept = kept.column

-- the values that are kept of a store
abbrev pub kept_in : Store → List Column → List Kept
kept_in s columns = map (kept_of s) columns

-- a value that was changed, before and after
abbrev pub changed_text : Program → Column → (before after : ℤ) → List ℕ
changed_text p column before after =
    codes "\nchanged " ++ (label_of p column ++ (codes ": " ++ (signed_decimal before ++ (codes " -> " ++ signed_decimal after))))

-- a value, if it is another one than before
abbrev pub difference_text : Program → Column → (before after : ℤ) → List ℕ
difference_text p column before after = if equal before after then [] else changed_text p column before after

-- a value that differs from the one that was kept, with both
abbrev pub change_text : Program → Store → Kept → List ℕ
change_text p s kept = difference_text p kept.column kept.before (value_in s kept.column)

-- the values that differ from those that were kept
abbrev pub changes_text : Program → Store → List Kept → List ℕ
changes_text p s kept = flat_map (change_text p s) kept

-- ---- the second

-- the fault and its line, if there is one
abbrev pub fault_text : Option Fault → List ℕ
fault_text None = []
fault_text (Some fault) = codes "\nfault " ++ (fault_name fault.kind ++ (codes " in line " ++ decimal fault.line))

-- The listing of a second with these events and this record, which left this store, where these values were kept before it.
unfoldable pub listing_text : PlanOf → Program → List Event → Record → Store → List Kept → List ℕ
listing_text plan p events r s kept =
    codes "second " ++ (decimal r.second.0 ++ (events_text plan p r events ++ (full_text (length events)
    ++ (fault_text r.fault ++ (changes_text p s kept ++ (codes "\nrecord " ++ record_text plan.names r))))))

-- What is told of the second after a past with this frame, of a code at a site: its listing, with those of these values that it
-- changed.
abbrev pub second_text : Program → List Column → CodeOf → Site → Past → Counts → List ℕ
second_text p columns code site past frame =
    listing_text site.plan p (listed (events_of (sights_in code site past frame))) (record_of (machine code) site past frame)
    (past_after_second (machine code) site past frame).store (kept_in past.store columns)

-- The same, if it is the second behind so many.
abbrev pub second_told : Program → List Column → (before : ℕ) → CodeOf → Site → Past → Counts → List ℕ
second_told p columns before code site past frame =
    if next_second past == before + 1 then second_text p columns code site past frame else []
