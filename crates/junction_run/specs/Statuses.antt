-- The numbers of the statuses.
use Rattle.std.specs.Prelude.{ℕ}
use Rattle.junction_run.specs.declared.status.Status.{Status}
use Rattle.junction_run.specs.declared.status.Status.TheVariants.{Done, Memory, Words, ReadFault, WriteFault, RefusedFile, RefusedLine, TooLong}

-- the exit status of a program that answers so
abbrev pub number_of : Status → ℕ
number_of Done = 0
number_of Memory = 1
number_of Words = 2
number_of ReadFault = 3
number_of WriteFault = 4
number_of RefusedFile = 5
number_of RefusedLine = 6
number_of TooLong = 7
