-- What the numbers of commands and readings name.
use Rattle.sig_types.specs.declared.kinds.CommandKind.{CommandKind}
use Rattle.sig_types.specs.declared.kinds.CommandKind.TheVariants as command
use Rattle.sig_types.specs.declared.kinds.ReadingKind.{ReadingKind}
use Rattle.sig_types.specs.declared.kinds.ReadingKind.TheVariants as reading
use Rattle.program_check.specs.declared.calls.CallKind.{CallKind}
use Rattle.program_check.specs.declared.calls.CallKind.TheVariants.{Command, Reading}
use Rattle.program_check.specs.declared.calls.Named.{Named}
use Rattle.program_check.specs.declared.calls.Named.TheVariants as named

-- what the numbers of a command name
abbrev pub command_names : CommandKind → Named
command_names command.Interstage = named.Interstage
command_names command.SgGreen = named.Group
command_names command.SgRed = named.Group
command_names command.ClearFronts = named.Detector
command_names command.ClearRears = named.Detector
command_names command.SetCycle = named.Nothing

-- what the numbers of a reading name
abbrev pub reading_names : ReadingKind → Named
reading_names reading.Detection = named.Detector
reading_names reading.Occupancy = named.Detector
reading_names reading.Headway = named.Detector
reading_names reading.FrontEnds = named.Detector
reading_names reading.RearEnds = named.Detector
reading_names reading.IsRed = named.Group
reading_names reading.IsRedAmber = named.Group
reading_names reading.IsGreen = named.Group
reading_names reading.IsAmber = named.Group
reading_names reading.TGreen = named.Group
reading_names reading.TRed = named.Group
reading_names reading.StageActive = named.Stage
reading_names reading.StageDuration = named.Stage
reading_names reading.InterstageActive = named.Interstage
reading_names reading.AnyInterstage = named.Nothing
reading_names reading.CycleSecond = named.Nothing
reading_names reading.CycleLength = named.Nothing

-- what the numbers of a command or a reading name
abbrev pub named_by : CallKind → Named
named_by (Command kind) = command_names kind
named_by (Reading kind) = reading_names kind
