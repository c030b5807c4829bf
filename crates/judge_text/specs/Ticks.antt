-- How a number of ticks is told, in seconds.
use Rattle.std.specs.Prelude.{ℕ, ◌/◌, ◌%◌, List, ◌++◌, codes}
use Rattle.std.specs.Fmt.{decimal}
use Rattle.judge_text.specs.declared.tick.Tick.{Tick}
use Rattle.judge_text.specs.declared.tick.Tick.TheVariants.{Second, Tenth}

-- a number of seconds as it is; one of tenths with a point before its last digit
abbrev pub ticks_text : Tick → ℕ → List ℕ
ticks_text Second n = decimal n
ticks_text Tenth n = decimal (n / 10) ++ codes "." ++ decimal (n % 10)
