-- What is told of a change.
use Rattle.std.specs.Prelude.{ℕ, ◌+◌, ◌-◌, ◌^◌, ◌==◌, min, Bool, not, ◌&&◌, ◌||◌, if◌then◌else◌, List, ◌++◌, codes, length}
use Rattle.vap_repair.specs.declared.edit.Edit.{Edit}
use Rattle.vap_repair.specs.declared.reader.Answer.{Answer}
use Rattle.vap_repair.specs.declared.reader.Answer.TheVariants as a
use Rattle.vap_repair.specs.declared.repair.Repair.{Repair}
use Rattle.program_advice.specs.Bytes.{between, has_line_end, run_before, run_behind, shown}

-- what the reader says of the text with a change
abbrev pub then_text : Answer → List ℕ
then_text a.Program = codes ": with this the program is accepted"
then_text a.Tree = codes ": with this only a check refuses it"
then_text (a.Unexpected place) = codes ": with this it is refused further on"
then_text a.Other = codes ": with this it is refused further on"

-- a change is of one line
abbrev pub is_of_line : List ℕ → Edit → Bool
is_of_line text e =
    not (has_line_end (between text e.from e.to)
    || (has_line_end e.first.now || (has_line_end e.middle.now || has_line_end e.last.now)))

-- a change puts nothing in the place of what it takes out
abbrev pub takes_out : Edit → Bool
takes_out e = (length e.first.now == 0) && ((length e.middle.now == 0) && (length e.last.now == 0))

-- what comes in the place of bytes of the text, as it can be shown
unfoldable pub new_text : List ℕ → Edit → ℕ → ℕ → List ℕ
new_text text e from to =
    shown (between text from e.from) ++ shown e.first.now ++ shown e.middle.now ++ shown e.last.now ++ shown (between text e.to to)

-- the same between quotes, and that it comes
unfoldable pub replaced_text : List ℕ → Edit → ℕ → ℕ → List ℕ
replaced_text text e from to = codes "`" ++ new_text text e from to ++ codes "` in the place of `"

-- what is done with bytes of the text
abbrev pub done_text : List ℕ → Edit → ℕ → ℕ → List ℕ
done_text text e from to =
    if (from == e.from) && ((to == e.to) && takes_out e) then codes "without `" else replaced_text text e from to

-- a change of bytes of the text, and what the reader says then
unfoldable pub change_text : List ℕ → Repair → ℕ → ℕ → List ℕ
change_text text r from to = done_text text r.edit from to ++ shown (between text from to) ++ codes "`" ++ then_text r.then

-- a change, with what stands beside it
abbrev pub beside_text : List ℕ → Repair → List ℕ
beside_text text r =
    change_text text r (r.edit.from - run_before text r.edit.from) (min (r.edit.to + run_behind text r.edit.to) (2 ^ 64 - 1))

-- a change takes out bytes before which a blank stands, or a line begins
abbrev pub is_told_alone : List ℕ → Edit → Bool
is_told_alone text e = takes_out e && (run_before text e.from == 0)

-- a change with what stands beside it, or alone
abbrev pub help_text : List ℕ → Repair → List ℕ
help_text text r = if is_told_alone text r.edit then change_text text r r.edit.from r.edit.to else beside_text text r
