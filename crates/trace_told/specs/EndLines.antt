-- The lines of the first commands between pairs of stages.
use Rattle.std.specs.Prelude.{◌≡◌, ℕ, zero, suc, ◌+◌, ◌-◌, ◌*◌, ◌≤◌, Bool, false, ◌&&◌, ◌==◌, List, [], ◌∷◌, nat_le, Option, None, Some, ℤ, pos, negsuc, if◌then◌else◌, slice_index_or}
use Rattle.sig_types.specs.declared.kinds.CommandKind.TheVariants.{Interstage}
use Rattle.sig_types.specs.declared.numbers.StageNo.{StageNo}
use Rattle.sig_types.specs.declared.numbers.StagePlace.{StagePlace}
use Rattle.sig_types.specs.declared.numbers.StagePlace.TheVariants.{NoPlan, Stage, Inter}
use Rattle.vap_code.specs.declared.Instr.{Instr}
use Rattle.vap_code.specs.declared.Instr.TheVariants.{Do}
use Rattle.vap_code.specs.Sights.{Sight}
use Rattle.trace_told.specs.declared.end_lines.FirstLines.{FirstLines}

-- the stage that a number names, where a plan has as many stages as it can have
abbrev pub stage_in : ℤ → Option ℕ
stage_in (pos n) = if nat_le 1 n && nat_le n 32 then Some n else None
stage_in (negsuc n) = None

-- two stages, where both are there
abbrev pub both : Option ℕ → Option ℕ → Option (ℕ × ℕ)
both None b = None
both (Some a) None = None
both (Some a) (Some b) = Some (a, b)

-- the stages between which an instruction commands an interstage, if it does
abbrev pub commanded : Instr → List ℤ → Option (ℕ × ℕ)
commanded (Do Interstage) (y ∷ x ∷ below) = both (stage_in x) (stage_in y)
commanded i operands = None

-- whether these are stages a and b
abbrev pub is_pair : ℕ → ℕ → Option (ℕ × ℕ) → Bool
is_pair a b None = false
is_pair a b (Some stages) = stages.0 == a && stages.1 == b

-- the line of the first command of the interstage from stage a to stage b
abbrev pub first_line : ℕ → ℕ → List Sight → Option ℕ
first_line a b [] = None
first_line a b (s ∷ sights) = if is_pair a b (commanded s.instr s.state.operands) then Some s.state.line else first_line a b sights

-- where the line of a pair of stages is kept
abbrev pub pair_place : ℕ → ℕ → ℕ
pair_place a b = (a - 1) * 32 + (b - 1)

-- the line that is kept, or another where none is and it is to be
abbrev pub kept_or : Option ℕ → Bool → ℕ → Option ℕ
kept_or (Some line) such other = Some line
kept_or None such other = if such then Some other else None

-- stages have numbers from 1 to 32
pub record IsNumber (a : ℕ) : Type 0 where
  pub least : 1 ≤ a
  pub most : a ≤ 32

-- for each pair of stages the line is kept that an observer of these saw first
abbrev pub HasNoted : FirstLines → List Sight → Type 0
HasNoted kept sights = (a b : ℕ) → IsNumber a → IsNumber b → slice_index_or kept.lines (pair_place a b) None ≡ first_line a b sights

-- the stages of an interstage that is in its first second
abbrev pub begun_in : StagePlace → Option (StageNo × StageNo)
begun_in NoPlan = None
begun_in (Stage s) = None
begun_in (Inter from to zero) = Some (from, to)
begun_in (Inter from to (suc t)) = None
