-- Stays: the spans of a run at its stages and in its interstages.
use Rattle.sig_types.specs.declared.numbers.StagePlace.{StagePlace}
use Rattle.sig_types.specs.declared.numbers.StagePlace.TheVariants.{NoPlan, Stage, Inter}
use Rattle.log_chart.specs.declared.span.Span.{Span}

-- a stretch of seconds in which one stage is active, or one interstage runs
abbrev pub Stay : Type 0
Stay = Span StagePlace

-- the stage or the interstage, in whatever second of it
abbrev pub without_second : StagePlace → StagePlace
without_second NoPlan = NoPlan
without_second (Stage s) = Stage s
without_second (Inter a b t) = Inter a b 0
