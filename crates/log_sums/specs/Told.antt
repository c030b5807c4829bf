-- What records tell, second by second.
use Rattle.std.specs.Prelude.{◌≡◌, ℕ, ◌+◌, ◌≤◌, List, [], ◌∷◌, map, slice_index_or, Option, None, Some}
use Rattle.sig_types.specs.declared.aspect.Aspect.{Aspect}
use Rattle.sig_types.specs.declared.aspect.Aspect.TheVariants.{Red}
use Rattle.sig_types.specs.declared.numbers.StagePlace.{StagePlace}
use Rattle.sig_types.specs.declared.record.Record.{Record}
use Rattle.sig_types.specs.declared.refused.Fault.{Fault}
use Rattle.sig_types.specs.declared.refused.StageRefusal.{StageRefusal}
use Rattle.sig_types.specs.declared.refused.TurnRefusal.{TurnRefusal}
use Rattle.sig_types.specs.Counts.{count_in, fronts, rears}

-- what f tells of the record of second t; record k of a list is that of second k + 1, and in second 0 there is nothing
abbrev pub told : {A : Type 0} → (Record → A) → A → List Record → ℕ → A
told f nothing records t = slice_index_or (nothing ∷ map f records) t nothing

-- the two tell the same up to second n
abbrev pub AgreesTo : {A : Type 0} → (ℕ → A) → (ℕ → A) → ℕ → Type 0
AgreesTo a b n = (t : ℕ) → t ≤ n → a t ≡ b t

-- what a group shows
abbrev pub shown_by : ℕ → Record → Aspect
shown_by g r = slice_index_or r.picture g Red

-- the fronts of the detector at this place, which is its number less 1
abbrev pub fronts_by : ℕ → Record → ℕ
fronts_by p r = count_in fronts (p + 1) r.frame

-- its rears
abbrev pub rears_by : ℕ → Record → ℕ
rears_by p r = count_in rears (p + 1) r.frame

-- the stage or the interstage
abbrev pub places_by : Record → List StagePlace
places_by r = r.place ∷ []

-- the refused stage commands
abbrev pub commands_by : Record → List StageRefusal
commands_by r = r.stages

-- the refused turns
abbrev pub turns_by : Record → List TurnRefusal
turns_by r = r.turns

-- the turn, whatever group stood in the way
abbrev pub alone : TurnRefusal → TurnRefusal
alone r = record { group = r.group; rule = r.rule; other = None }

-- the refused turns by group and rule
abbrev pub rules_by : Record → List TurnRefusal
rules_by r = map alone r.turns

-- the fault, where there is one
abbrev pub fault_items : Option Fault → List Fault
fault_items None = []
fault_items (Some fault) = fault ∷ []

-- the fault of a second
abbrev pub faults_by : Record → List Fault
faults_by r = fault_items r.fault
