-- What stops the reading of a row.
use Rattle.std.specs.Prelude.{◌≡◌, Option, Some}
use Rattle.pua_reader.specs.declared.refusal.PuaWhy.{PuaWhy}
use Rattle.pua_reader.specs.declared.refusal.RowStop.{RowStop}
use Rattle.pua_reader.specs.declared.refusal.RowStop.TheVariants.{Memory, Why}

-- what stops a row: want of memory, which can come at any row, or the reason by which the row is refused
abbrev pub RowStopIs : RowStop → Option PuaWhy → Type 0
RowStopIs Memory first = Unit {0}
RowStopIs (Why why) first = first ≡ Some why
