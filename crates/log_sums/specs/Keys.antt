-- The numbers by which stages, refusals and faults are told apart.
use Rattle.std.specs.Prelude.{ℕ, ◌+◌, ◌*◌, Option, None, Some}
use Rattle.sig_types.specs.declared.numbers.GroupNo.{GroupNo}
use Rattle.sig_types.specs.declared.numbers.StagePlace.{StagePlace}
use Rattle.sig_types.specs.declared.numbers.StagePlace.TheVariants.{NoPlan, Stage, Inter}
use Rattle.sig_types.specs.declared.refused.Fault.{Fault}
use Rattle.sig_types.specs.declared.refused.StageRefusal.{StageRefusal}
use Rattle.sig_types.specs.declared.refused.TurnRefusal.{TurnRefusal}
use Rattle.sig_types.specs.RuleNumbers.{fault_number, rule_number}

-- a stage, or an interstage in whatever second of it
abbrev pub place_code : StagePlace → ℕ
place_code NoPlan = 0
place_code (Stage s) = 1 + s.0
place_code (Inter a b t) = 1000 + a.0 * 1000 + b.0

-- a refused stage command, by its stages and its rule
abbrev pub command_code : StageRefusal → ℕ
command_code r = (r.from.0 * 1000 + r.to.0) * 1000 + rule_number r.rule

-- the other group, or none
abbrev pub other_code : Option GroupNo → ℕ
other_code None = 0
other_code (Some g) = 1 + g.0

-- a refused turn, by its group, its rule and the other group
abbrev pub turn_code : TurnRefusal → ℕ
turn_code r = (r.group.0 * 1000 + other_code r.other) * 1000 + rule_number r.rule

-- a fault, by its kind and its line
abbrev pub fault_code : Fault → ℕ
fault_code f = f.line * 1000 + fault_number f.kind
