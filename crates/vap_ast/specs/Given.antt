-- The commands that a pass of a program gives.
use Rattle.std.specs.Prelude.{◌≡◌, ◌≤◌, [], length, Some, ℤ, All}
use Rattle.sig_types.specs.declared.kinds.CommandKind.{CommandKind}
use Rattle.sig_types.specs.declared.numbers.Command.{Command}
use Rattle.sig_types.specs.Pass.{Store, World, commands_after, unit_limit}
use Rattle.vap_ast.specs.Names.{Source}
use Rattle.vap_ast.specs.Passes.{program_logic}

-- the world has this command for some numbers
abbrev pub HasCommand : World → Command → Type 0
HasCommand world c = (kind : CommandKind) × ((a : ℤ) × ((b : ℤ) × (world.command kind a b ≡ Some c)))

-- a pass that begins with no command gives at most as many as it has units
abbrev pub ProgramsGiveFew : Type 0
ProgramsGiveFew =
    (source : Source) (world : World) (s : Store) → s.commands ≡ [] → length (commands_after (program_logic source world s)) ≤ unit_limit

-- such a pass gives none but commands of its world
abbrev pub ProgramsGiveTheWorlds : Type 0
ProgramsGiveTheWorlds =
    (source : Source) (world : World) (s : Store) → s.commands ≡ [] → All (HasCommand world) (commands_after (program_logic source world s))
