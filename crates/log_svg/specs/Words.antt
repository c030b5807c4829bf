-- Words of a diagram's reader: its title, and the time of the day.
use Rattle.std.specs.Prelude.{ℕ, ◌+◌, ◌-◌, ◌/◌, ◌%◌, ◌<◌, ◌≤◌, ◌==◌, List, [], ◌∷◌, ◌++◌, codes, length, Option, Some, None, if◌then◌else◌, nat_lt}
use Rattle.std.specs.List.{flat_map}
use Rattle.std.specs.Option.{ForSome}
use Rattle.std.specs.Fmt.{decimal}

-- how a diagram is to look: the seconds of a strip, the title, none where it is empty, the time of the day, in seconds after
-- midnight, at which second 1 begins, and of a site the minimum greens of the groups and the names of the stages
pub record Looked : Type 0 where
  pub strip : ℕ
  pub title : List ℕ
  pub begin : Option ℕ
  pub minimums : List ℕ
  pub stages : List (List ℕ)

-- a strip has 30 to 600 seconds, a title at most 80 bytes, and a day 86,400 seconds
pub record IsLook (look : Looked) : Type 0 where
  pub least : 30 ≤ look.strip
  pub most : look.strip ≤ 600
  pub title : length look.title ≤ 80
  pub begin : ForSome look.begin (λ t. t < 86400)

-- a byte of a title, as SVG has it
abbrev pub escaped : ℕ → List ℕ
escaped byte =
    if byte == 38 then codes "&amp;" else (if byte == 60 then codes "&lt;" else (if byte == 62 then codes "&gt;" else byte ∷ []))

-- a title, as SVG has it
abbrev pub title_words : List ℕ → List ℕ
title_words title = flat_map escaped title

-- a number of two digits
abbrev pub two_text : ℕ → List ℕ
two_text n = if nat_lt n 10 then codes "0" ++ decimal n else decimal n

-- a time of the day, so many seconds after midnight
unfoldable pub clock_text : ℕ → List ℕ
clock_text n = two_text (n / 3600) ++ codes ":" ++ two_text (n / 60 % 60) ++ codes ":" ++ two_text (n % 60)

-- the time of the day at which a second begins, where that of second 1 is known, or its number
abbrev pub moment_of : Option ℕ → ℕ → ℕ
moment_of None t = t
moment_of (Some begin) t = (begin + t - 1) % 86400

-- that in letters
abbrev pub below_text : Option ℕ → ℕ → List ℕ
below_text None t = decimal t
below_text (Some begin) t = clock_text (moment_of (Some begin) t)
