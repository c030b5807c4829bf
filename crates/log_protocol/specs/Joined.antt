-- What is kept of several histories, put together from what is kept of each.
use Rattle.std.specs.Prelude.{ℕ, ◌+◌, ◌-◌, ◌^◌, min, max, Bool, not, ◌&&◌, ◌||◌, ◌==◌, nat_lt, if◌then◌else◌}
use Rattle.log_judge.specs.declared.protocol.Extremes.{Extremes}
use Rattle.log_protocol.specs.declared.together.Together.{Together}

-- the sum, as far as it can be told
abbrev pub added : ℕ → ℕ → ℕ
added a b = min (a + b) (2 ^ 32 - 1)

-- the shortest is one of the later ones
abbrev pub is_later_shortest : Extremes → Extremes → Bool
is_later_shortest x y = not (y.count == 0) && (x.count == 0 || nat_lt y.least x.least)

-- these, and behind them those of a history that begins with this tick
abbrev pub joined : Extremes → ℕ → Extremes → Extremes
joined x first y = record {
  count = added x.count y.count;
  least = if is_later_shortest x y then y.least else x.least;
  second = if is_later_shortest x y then added first y.second else x.second;
  most = max x.most y.most;
}

-- so of the ticks in which two groups are green together
abbrev pub joined_greens : Together → ℕ → Together → Together
joined_greens x first y = record {
  seconds = added x.seconds y.seconds;
  first = if x.seconds == 0 && not (y.seconds == 0) then added first y.first else x.first;
}
