-- The longest run is one number.
use Rattle.std.proofs.Common.{◌≡◌, ◌∙◌, ℕ, zero, suc, ◌+◌, ◌-◌, ◌≤◌, max, min, Bool, true, false, if◌then◌else◌, sym, ap, arith}
use Rattle.log_sums.specs.Series.{most_to, since}
use Rattle.log_sums.specs.Spells.{run}
use Rattle.log_sums.specs.Tallies.{stretch}
use Rattle.refusal_text.specs.Waits.{longest_below, unbroken}
use Rattle.laws.specs.LongestRuns.{LongestRunsAgree}
use Rattle.laws.proofs.NeighbouringParts.{since_is}

one_more : (c : Bool) (a t : ℕ) → a ≤ t → (if c then a + 1 else 0) ≤ suc t
one_more true a t le = omega (arith, le)
one_more false a t le = omega arith

run_low : (h : ℕ → Bool) (t : ℕ) → run h t ≤ t
run_low h zero = omega arith
run_low h (suc t) = one_more (h (suc t)) (run h t) t (run_low h t)

-- a run is no longer than the seconds so far
least_is : (a t : ℕ) → a ≤ t → min a (t + 1 - 1) ≡ a
least_is a t le = omega (arith, le)

-- the series has the length of the run in each second
counted : (h : ℕ → Bool) (t : ℕ) → since 1 (stretch h 1) (suc t) ≡ run h (suc t)
counted h t = since_is (stretch h 1) 1 (suc t) (omega arith) ∙ least_is (run h (suc t)) (suc t) (run_low h (suc t))

module _ (h : ℕ → Bool) (start : h 0 ≡ false) where
  -- and so have the seconds before the next one
  unbroken_is_run : (t : ℕ) → unbroken h (suc t) ≡ run h t
  unbroken_is_run zero = ap (λ c. if c then unbroken h 0 + 1 else 0) start
  unbroken_is_run (suc t) = ap (λ k. if h (suc t) then k + 1 else 0) (unbroken_is_run t)

  longest : (n : ℕ) → most_to (since 1 (stretch h 1)) n ≡ longest_below h (suc n)
  longest zero = sym (ap (λ k. max 0 k) (unbroken_is_run 0))
  longest (suc n) = λ j. max (longest n j) ((counted h n ∙ sym (unbroken_is_run (suc n))) j)

pub longest_runs_agree : LongestRunsAgree
longest_runs_agree h n start = longest h start n
