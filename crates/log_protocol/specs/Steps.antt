-- What is kept of two groups that are green together, with a second more.
use Rattle.std.specs.Prelude.{ℕ, ◌+◌, ◌-◌, ◌^◌, min, ◌&&◌, List, slice_index_or, if◌then◌else◌, ◌==◌}
use Rattle.sig_types.specs.declared.aspect.Aspect.{Aspect}
use Rattle.sig_types.specs.Turns.{is_green}
use Rattle.log_protocol.specs.declared.together.Together.{Together}

-- with a second more; the count stands still at the last one that it can tell
abbrev pub with_second : Together → ℕ → Together
with_second x second = record {
  seconds = min (x.seconds + 1) (2 ^ 32 - 1);
  first = if x.seconds == 0 then second else x.first;
}

-- with a second in which the two groups show these
abbrev pub with_both : Together → Aspect → Aspect → ℕ → Together
with_both x one other second = if is_green one && is_green other then with_second x second else x

-- no second yet
abbrev pub no_second : Together
no_second = record { seconds = 0; first = 0 }

-- what is kept at that place
abbrev pub together_at : List Together → ℕ → Together
together_at pairs q = slice_index_or pairs q no_second
