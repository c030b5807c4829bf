-- The commands that a pass of a code gives.
use Rattle.std.specs.Prelude.{◌≡◌, ◌≤◌, [], length, Some, ℤ, All}
use Rattle.sig_types.specs.declared.kinds.CommandKind.{CommandKind}
use Rattle.sig_types.specs.declared.numbers.Command.{Command}
use Rattle.sig_types.specs.Pass.{Store, World, commands_after, unit_limit}
use Rattle.vap_code.specs.Codes.{CodeOf}
use Rattle.vap_code.specs.Machine.{machine}
use Rattle.vap_code.specs.Stores.{StoreFits}
use Rattle.vap_code.specs.Valid.{Valid}

-- the world has this command for some numbers
abbrev pub HasCommand : World → Command → Type 0
HasCommand world c = (kind : CommandKind) × ((a : ℤ) × ((b : ℤ) × (world.command kind a b ≡ Some c)))

-- a pass of a valid code gives at most as many commands as it has units
abbrev pub ValidCodesGiveFew : Type 0
ValidCodesGiveFew =
    (code : CodeOf) (world : World) (s : Store) → Valid code → StoreFits code s → length (commands_after (machine code world s)) ≤ unit_limit

-- a pass that begins with no command gives none but commands of its world
abbrev pub CodesGiveTheWorlds : Type 0
CodesGiveTheWorlds =
    (code : CodeOf) (world : World) (s : Store) → s.commands ≡ [] → All (HasCommand world) (commands_after (machine code world s))
