-- Where a run spends its units, and what it does with fewer.
use Rattle.std.specs.Prelude.{◌≡◌, ◌≤◌, ℕ, suc, List, [], ◌∷◌, ◌++◌, Some, length, slice_get}
use Rattle.sig_types.specs.declared.kinds.FaultKind.TheVariants.{Budget}
use Rattle.sig_types.specs.Pass.{World}
use Rattle.vap_code.specs.declared.Instr.{Instr}
use Rattle.vap_code.specs.declared.Instr.TheVariants.{Tick}
use Rattle.vap_code.specs.Machine.{State, Faulted, exec}
use Rattle.vap_code.specs.Sights.{Sight, sights_of}

-- the line at which an instruction spends a unit: that of a tick, where a unit is left
abbrev pub line_by : Instr → ℕ → List ℕ
line_by (Tick line) (suc units) = line ∷ []
line_by _ _ = []

-- the lines at which a run spends its units, in order: those of statements that begin, and those of returns
abbrev pub spent_in : List Sight → List ℕ
spent_in [] = []
spent_in (s ∷ sights) = line_by s.instr s.state.units ++ spent_in sights

-- a state with so many units
abbrev pub with_units : ℕ → State → State
with_units k s = record s { units = k }

-- with k units a run ends with the fault Budget at the line at which it spends unit k, from 0, where it has enough
abbrev pub UnitsTellLines : Type 0
UnitsTellLines =
    (instrs : List Instr) (starts : List ℕ) (world : World) (n k : ℕ) (s : State) (line : ℕ) →
    slice_get (spent_in (sights_of instrs starts world n s)) k ≡ Some line →
    exec instrs starts world n (with_units k s) ≡ Faulted Budget line

-- as many units as a run spends do for it
abbrev pub FewerUnitsSuffice : Type 0
FewerUnitsSuffice =
    (instrs : List Instr) (starts : List ℕ) (world : World) (n k : ℕ) (s : State) →
    length (spent_in (sights_of instrs starts world n s)) ≤ k → k ≤ s.units →
    exec instrs starts world n (with_units k s) ≡ exec instrs starts world n s

-- a run that ends for want of units has spent them all
abbrev pub BudgetIsSpent : Type 0
BudgetIsSpent =
    (instrs : List Instr) (starts : List ℕ) (world : World) (n : ℕ) (s : State) (line : ℕ) →
    exec instrs starts world n s ≡ Faulted Budget line → s.units ≤ length (spent_in (sights_of instrs starts world n s))

-- no run spends more units than it has
abbrev pub UnitsAreFew : Type 0
UnitsAreFew =
    (instrs : List Instr) (starts : List ℕ) (world : World) (n : ℕ) (s : State) →
    length (spent_in (sights_of instrs starts world n s)) ≤ s.units
