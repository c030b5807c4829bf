-- Runs of seconds, counted one second after another.
use Rattle.std.specs.Prelude.{◌≡◌, ℕ, suc, ◌+◌, ◌≤◌, ◌==◌, max, Bool, true, false, if◌then◌else◌, nat_lt}
use Rattle.refusal_text.specs.declared.wait.Counted.{Counted}
use Rattle.refusal_text.specs.Waits.{longest_below, runs_below, unbroken}

-- the numbers are no greater than the seconds that there were
pub record Fits (c : Counted) : Type 0 where
  pub next : c.next ≤ 4294967296
  pub length : c.length ≤ c.next
  pub runs : c.runs ≤ c.next

-- the seconds of the run that a second is added to
abbrev pub length_before : Counted → ℕ → ℕ
length_before c second = if second == c.next then c.length else 0

-- with one more second
abbrev pub counted_next : Counted → ℕ → Counted
counted_next c second = record {
  next = second + 1;
  length = length_before c second + 1;
  runs = if length_before c second == 0 then c.runs + 1 else c.runs;
  longest = max c.longest (length_before c second + 1);
}

-- with one more second, or with the last one again
abbrev pub counted_with : Counted → ℕ → Counted
counted_with c second = if nat_lt second c.next then c else counted_next c second

-- these are the runs of the seconds in which it is so
pub record AreCounted (f : ℕ → Bool) (c : Counted) : Type 0 where
  pub silent : (t : ℕ) → c.next ≤ t → f t ≡ false
  pub last : (t : ℕ) → suc t ≡ c.next → f t ≡ true
  pub length : unbroken f c.next ≡ c.length
  pub runs : runs_below f c.next ≡ c.runs
  pub longest : longest_below f c.next ≡ c.longest
