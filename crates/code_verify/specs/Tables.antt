-- What the tables have at each place.
use Rattle.std.specs.Prelude.{◌≡◌, ℕ, ◌-◌, ◌<◌, ◌≤◌, List, [], ◌∷◌, length, Option, Some, None, IfSome, IsTrue, if◌then◌else◌}
use Rattle.std.specs.Option.{option_or}
use Rattle.sig_types.specs.Pass.{at}
use Rattle.vap_code.specs.declared.Instr.{Instr}
use Rattle.vap_code.specs.Codes.{CodeOf}
use Rattle.vap_code.specs.Valid.{heights, stretches, command_counts, from_last, stretch_of, commands_of, greatest, later_at, leaves, jumps_to, instr_at, target, is_tick}
use Rattle.code_verify.specs.declared.tables.Number.{Number}
use Rattle.code_verify.specs.declared.tables.Number.TheVariants.{Stretch, Commands}
use Rattle.code_verify.specs.declared.tables.Tables.{Tables}

-- what a jump brings to a place
abbrev pub brings : Instr → ℕ → ℕ → Option ℕ
brings i h p = if jumps_to i p then Some (leaves h i) else None

-- what the lowest place that jumps to p brings there, of those whose heights are given
abbrev pub first_jump : List Instr → List ℕ → ℕ → Option ℕ
first_jump [] hs p = None
first_jump (i ∷ is) [] p = None
first_jump (i ∷ is) (h ∷ hs) p = option_or (brings i h p) (first_jump is hs p)

-- a stretch or a command count, from the greatest among the successors
abbrev pub number_of : Number → Instr → ℕ → ℕ
number_of Stretch i later = stretch_of i later
number_of Commands i later = commands_of i later

-- the number of the n-th place from the end, from those after it
abbrev pub number_before : Number → List Instr → List ℕ → ℕ → List ℕ → ℕ
number_before number instrs starts n later =
    let p = length instrs - n in
    number_of number (instr_at instrs p) (greatest instrs starts p (later_at instrs p later))

-- the counts of all places, each from those of the places after it
abbrev pub counts_back : Number → List Instr → List ℕ → List ℕ
counts_back number instrs starts = from_last (number_before number instrs starts) (length instrs)

-- each jump leads to a place of the code, and further on or to a tick
abbrev pub JumpsAhead : List Instr → Type 0
JumpsAhead instrs = (p : ℕ) → p < length instrs →
    IfSome (target (instr_at instrs p)) (λ t. (t < length instrs) × (t ≤ p → IsTrue (is_tick (instr_at instrs t))))

-- the tables have the heights, stretches and command counts of the code
pub record IsTables (code : CodeOf) (t : Tables) : Type 0 where
  pub heights : t.heights.items ≡ heights code
  pub all_heights : length t.heights.items ≡ length code.instrs
  pub low : (k : ℕ) → k < length t.heights.items → at t.heights.items k 0 ≤ k
  pub stretches : t.stretches.items ≡ stretches code
  pub all_stretches : length t.stretches.items ≡ length code.instrs
  pub command_counts : t.command_counts.items ≡ command_counts code
  pub all_command_counts : length t.command_counts.items ≡ length code.instrs
