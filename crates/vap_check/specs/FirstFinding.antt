-- What is wrong with a program, and what of it stands first.
use Rattle.std.specs.Prelude.{ℕ, Bool, true, false, ◌||◌, ◌&&◌, ◌==◌, ◌≡◌, if◌then◌else◌, nat_lt, List, [], ◌∷◌, fold, Option, None, Some, Contains}
use Rattle.std.specs.List.{All}
use Rattle.vap_check.specs.declared.refusal.CheckWhy.{CheckWhy}
use Rattle.vap_check.specs.declared.refusal.CheckWhy.TheVariants.{ConstTwice, NameKind, LabelTwice, NoLabel, SubTwice, NoSub, ArraySize, AssignConst, Arity, Limit, StatementTooLong, ProgramTooLong}
use Rattle.vap_check.specs.declared.refusal.Which.TheVariants.{Variables, Timers, Arrays, Cells, Subroutines, Labels}
use Rattle.vap_check.specs.declared.finding.Finding.{Finding}

-- The place of a reason among all reasons, of which only the order counts: up to 9 it is the reason's number, and the
-- parts of the limits stand one after another.
abbrev pub order : CheckWhy → ℕ
order ConstTwice = 1
order NameKind = 2
order LabelTwice = 3
order NoLabel = 4
order SubTwice = 5
order NoSub = 6
order ArraySize = 7
order AssignConst = 8
order Arity = 9
order (Limit Variables) = 10
order (Limit Timers) = 11
order (Limit Arrays) = 12
order (Limit Cells) = 13
order (Limit Subroutines) = 14
order (Limit Labels) = 15
order StatementTooLong = 16
order ProgramTooLong = 17

-- in a lower line, or in the same line for an earlier reason
abbrev pub is_sooner : Finding → Finding → Bool
is_sooner f g = nat_lt f.line g.line || (f.line == g.line && nat_lt (order f.why) (order g.why))

-- the finding that stands: one of these, and none of them comes before it
abbrev pub IsFirst : List Finding → Finding → Type 0
IsFirst findings f = Contains findings f × All (λ g. is_sooner g f ≡ false) findings

-- the first of two findings, the one that was there on a tie
abbrev pub sooner : Option Finding → Finding → Option Finding
sooner None g = Some g
sooner (Some f) g = if is_sooner g f then Some g else Some f

-- the first of a finding and these
abbrev pub first_of_all : Option Finding → List Finding → Option Finding
first_of_all = fold sooner

-- a finding where something is wrong, else none
abbrev pub when : Bool → ℕ → CheckWhy → List Finding
when true line why = record { line = line; why = why } ∷ []
when false line why = []
