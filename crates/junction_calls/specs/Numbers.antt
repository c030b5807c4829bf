-- Counts and records in plain numbers.
use Rattle.std.specs.Prelude.{◌≡◌, ◌<◌, ◌≤◌, ℕ, Option, Some, None, List, length, replicate, slice_index_or}
use Rattle.std.specs.List.{slice_get}
use Rattle.std.specs.Option.{ForSome}
use Rattle.sig_types.specs.Counts.{Counts}
use Rattle.sig_types.specs.LogForm.{letter}
use Rattle.sig_types.specs.RuleNumbers.{rule_number, fault_number}
use Rattle.sig_types.specs.declared.aspect.Aspect.{Aspect}
use Rattle.sig_types.specs.declared.aspect.Aspect.TheVariants.{Red}
use Rattle.sig_types.specs.declared.numbers.GroupNo.{GroupNo}
use Rattle.sig_types.specs.declared.numbers.StagePlace.{StagePlace}
use Rattle.sig_types.specs.declared.numbers.StagePlace.TheVariants as place
use Rattle.sig_types.specs.declared.record.Record.{Record}
use Rattle.sig_types.specs.declared.refused.Fault.{Fault}
use Rattle.sig_types.specs.declared.refused.TurnRefusal.{TurnRefusal}
use Rattle.controller.specs.Controls.{StandsFor}
use Rattle.controller.specs.Past.{Past}
use Rattle.controller.specs.declared.controller.Controller.{Controller}
use Rattle.junction_calls.specs.declared.counts.DetectorCounts.{DetectorCounts}
use Rattle.junction_calls.specs.declared.told.Told.{Told}

-- the frame has these counts
pub record IsFrame (c : DetectorCounts) (frame : Counts) : Type 0 where
  pub size : length frame ≡ 64
  pub counts : (p : ℕ) → p < 64 → slice_index_or frame p (0, 0) ≡ (slice_index_or c.fronts p 0, slice_index_or c.rears p 0)

-- what is held, if anything, stands for some past
abbrev pub IsPlaying : Option Controller → Type 0
IsPlaying o = ForSome o (λ c. (past : Past) × StandsFor c past)

-- all bytes from this place on are 0
abbrev pub AreZeroFrom : ℕ → List ℕ → Type 0
AreZeroFrom n bytes = (i : ℕ) → n ≤ i → slice_index_or bytes i 0 ≡ 0

-- 64 bytes: the letters of the aspects, and 0 behind them
pub record AreLetters (picture : List Aspect) (bytes : List ℕ) : Type 0 where
  pub size : length bytes ≡ 64
  pub letters : (g : ℕ) → g < length picture → slice_index_or bytes g 0 ≡ letter (slice_index_or picture g Red)
  pub rest : AreZeroFrom (length picture) bytes

-- 64 bytes: a number of each refused turn, and 0 behind them
pub record AreNumbers (number : TurnRefusal → ℕ) (turns : List TurnRefusal) (bytes : List ℕ) : Type 0 where
  pub size : length bytes ≡ 64
  pub numbers : (i : ℕ) (turn : TurnRefusal) → i < length turns → slice_get turns i ≡ Some turn → slice_index_or bytes i 0 ≡ number turn
  pub rest : AreZeroFrom (length turns) bytes

-- the numbers of a place: its kind, from, to, t
abbrev pub place_numbers : StagePlace → ℕ × ℕ × ℕ × ℕ
place_numbers place.NoPlan = (0, 0, 0, 0)
place_numbers (place.Stage s) = (1, 0, s.0, 0)
place_numbers (place.Inter from to t) = (2, from.0, to.0, t)

-- the numbers of a fault: its kind, its line
abbrev pub fault_numbers : Option Fault → ℕ × ℕ
fault_numbers None = (0, 0)
fault_numbers (Some f) = (fault_number f.kind, f.line)

-- the group in the way, or 255
abbrev pub other_number : Option GroupNo → ℕ
other_number None = 255
other_number (Some g) = g.0

-- what is told is this record, but for which stage commands were refused; all bytes that tell nothing are 0
pub record IsTold (r : Record) (t : Told) : Type 0 where
  pub second : t.second ≡ r.second.0
  pub place : (t.place, t.from, t.to, t.t) ≡ place_numbers r.place
  pub groups : t.groups ≡ length r.picture
  pub aspects : AreLetters r.picture t.aspects
  pub stages : t.stages ≡ length r.stages
  pub turns : t.turns ≡ length r.turns
  pub turn_groups : AreNumbers (λ turn. turn.group.0) r.turns t.turn_groups
  pub turn_rules : AreNumbers (λ turn. rule_number turn.rule) r.turns t.turn_rules
  pub turn_others : AreNumbers (λ turn. other_number turn.other) r.turns t.turn_others
  pub fault : (t.fault, t.fault_line) ≡ fault_numbers r.fault
  pub reserved : t.reserved ≡ replicate 2 0
