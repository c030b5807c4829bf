-- What the records of a run add up to, and the text that tells it.
use Rattle.std.specs.Prelude.{◌≡◌, ℕ, zero, suc, ◌+◌, ◌-◌, ◌*◌, ◌<◌, ◌≤◌, Bool, false, not, ◌&&◌, ◌==◌, cond, List, [], ◌∷◌, ◌++◌, codes, length, map, replicate, slice_index, slice_index_or, sum_by, count_by, Option, None, Some}
use Rattle.std.specs.Fmt.{decimal}
use Rattle.std.specs.List.{flat_map}
use Rattle.sig_types.specs.declared.aspect.Aspect.{Aspect}
use Rattle.sig_types.specs.declared.aspect.Aspect.TheVariants.{Red}
use Rattle.sig_types.specs.declared.aspect.Rule.{Rule}
use Rattle.sig_types.specs.declared.aspect.Rule.TheVariants.{Sequence, MinGreen, MinRed, Conflict, Intergreen, Running, WrongStage, NoInterstage}
use Rattle.sig_types.specs.declared.kinds.FaultKind.{FaultKind}
use Rattle.sig_types.specs.declared.kinds.FaultKind.TheVariants.{Budget, Overflow, ZeroDivisor, Index, Number}
use Rattle.sig_types.specs.declared.refused.Fault.{Fault}
use Rattle.sig_types.specs.declared.record.Record.{Record}
use Rattle.sig_types.specs.RuleNumbers.{rule_number, fault_number}
use Rattle.sig_types.specs.Turns.{History, is_green, trace, turns_green_at}
use Rattle.signal_log.specs.Log.{rule_name, fault_name}
use Rattle.signal_log.specs.declared.summary.Summary.{Summary}

-- ---- the counts, each of the whole list of records

-- the all-red second 0 of so many groups, and then the pictures of these records
abbrev pub history_of : ℕ → List Record → History
history_of groups rs = replicate groups Red ∷ map (λ r. r.picture) rs

-- for how many numbers below this one it is so
abbrev pub count_below : (ℕ → Bool) → ℕ → ℕ
count_below is zero = 0
count_below is (suc n) = count_below is n + cond (is n) 1 0

-- green now and not before
abbrev pub turned : (before now : Aspect) → Bool
turned before now = not (is_green before) && is_green now

-- in how many seconds of a history a group turns green
abbrev pub greens_in : History → ℕ → ℕ
greens_in h g = count_below (turns_green_at (trace h g)) (length h)

-- in how many seconds group g of so many turns green
unfoldable pub greens : ℕ → List Record → ℕ → ℕ
greens groups rs g = greens_in (history_of groups rs) g

-- whether it is this rule
abbrev pub is_rule : Rule → Rule → Bool
is_rule rule other = rule_number rule == rule_number other

-- the refusals of a second by a rule, those of stage commands and those of turns
abbrev pub refused_in : Rule → Record → ℕ
refused_in rule r = count_by (λ s. is_rule rule s.rule) r.stages + count_by (λ t. is_rule rule t.rule) r.turns

-- the refusals by a rule
unfoldable pub refusals_by : Rule → List Record → ℕ
refusals_by rule rs = sum_by (refused_in rule) rs

-- whether it is a fault of this kind
abbrev pub is_fault : FaultKind → Option Fault → Bool
is_fault kind None = false
is_fault kind (Some fault) = fault_number kind == fault_number fault.kind

-- in how many seconds the pass ended with a fault of this kind
unfoldable pub faulted : FaultKind → List Record → ℕ
faulted kind rs = count_by (λ r. is_fault kind r.fault) rs

-- ---- the text

-- the rules, in the order in which the text names them
abbrev pub rules : List Rule
rules = Sequence ∷ MinGreen ∷ MinRed ∷ Conflict ∷ Intergreen ∷ Running ∷ WrongStage ∷ NoInterstage ∷ []

-- the kinds of faults, in that order
abbrev pub kinds : List FaultKind
kinds = Budget ∷ Overflow ∷ ZeroDivisor ∷ Index ∷ Number ∷ []

-- a name after a space, and its count
abbrev pub tally : List ℕ → ℕ → List ℕ
tally name n = codes " " ++ name ++ codes ":" ++ decimal n

-- the groups from g on, with their counts
abbrev pub groups_text : (ℕ → ℕ) → ℕ → List (List ℕ) → List ℕ
groups_text count g [] = []
groups_text count g (name ∷ names) = tally name (count g) ++ groups_text count (g + 1) names

-- the rules, with their counts
abbrev pub rules_text : (Rule → ℕ) → List ℕ
rules_text count = flat_map (λ rule. tally (rule_name rule) (count rule)) rules

-- the kinds of faults, with their counts
abbrev pub kinds_text : (FaultKind → ℕ) → List ℕ
kinds_text count = flat_map (λ kind. tally (fault_name kind) (count kind)) kinds

-- The seed of a sample and its seconds; in how many seconds each group turns green; how many refusals there were by each rule;
-- and in how many seconds there was a fault of each kind. The names of the groups stand in the order of the plan.
unfoldable pub summary_text : (names : List (List ℕ)) (seed seconds : ℕ) → List Record → List ℕ
summary_text names seed seconds rs =
    codes "SAMPLE " ++ decimal seed ++ codes " " ++ decimal seconds ++ codes "\nGREENS"
    ++ groups_text (greens (length names) rs) 0 names
    ++ codes "\nREFUSED" ++ rules_text (λ rule. refusals_by rule rs)
    ++ codes "\nFAULTS" ++ kinds_text (λ kind. faulted kind rs) ++ codes "\n"

-- ---- what a summary stands for

-- the kept number of seconds in which a group turned green
abbrev pub kept_greens : Summary → ℕ → ℕ
kept_greens s g = slice_index s.greens g

-- the kept number of refusals by a rule
abbrev pub kept_refusals : Summary → Rule → ℕ
kept_refusals s rule = slice_index s.refused (rule_number rule - 1)

-- the kept number of seconds with a fault of a kind
abbrev pub kept_faults : Summary → FaultKind → ℕ
kept_faults s kind = slice_index s.faults (fault_number kind - 1)

-- one clause for each number that is kept
pub record HasCounts (s : Summary) (groups : ℕ) (rs : List Record) : Type 0 where
  pub groups_are : length s.last ≡ groups
  pub last_is : s.last ≡ slice_index_or (history_of groups rs) (length rs) []
  pub greens_are : (g : ℕ) → g < groups → kept_greens s g ≡ greens groups rs g
  pub refused_are : (rule : Rule) → kept_refusals s rule ≡ refusals_by rule rs
  pub faults_are : (kind : FaultKind) → kept_faults s kind ≡ faulted kind rs
  pub refused_fit : (rule : Rule) → refusals_by rule rs ≤ 10064 * length rs

-- A summary stands for these records of a site with so many groups.
unfoldable pub StandsFor : Summary → ℕ → List Record → Type 0
StandsFor s groups rs = HasCounts s groups rs
