-- What the fronts of detectors add up to that serve a group. It shows an aspect in each second from 1 on, and they have fronts in it.
use Rattle.std.specs.Prelude.{◌≡◌, ℕ, zero, suc, ◌+◌, ◌*◌, ◌≤◌, ◌==◌, Bool, if◌then◌else◌}
use Rattle.sig_types.specs.declared.aspect.Aspect.{Aspect}
use Rattle.log_sums.specs.declared.serve_sums.ServeSums.{ServeSums}
use Rattle.log_sums.specs.Groups.{greens_of}
use Rattle.log_sums.specs.Series.{AreFigures, AreLongFigures, since, sum_to}
use Rattle.log_sums.specs.Spells.{run}

-- the fronts of second t where the condition holds in it
abbrev pub fronts_in : (ℕ → Bool) → (ℕ → ℕ) → ℕ → ℕ
fronts_in h f t = if h t then f t else 0

-- the fronts of second t where it doesn't
abbrev pub fronts_out : (ℕ → Bool) → (ℕ → ℕ) → ℕ → ℕ
fronts_out h f t = if h t then 0 else f t

-- the fronts of the spell in which second t lies, up to and with that; 0 where the condition doesn't hold in it
abbrev pub served : (ℕ → Bool) → (ℕ → ℕ) → ℕ → ℕ
served h f zero = 0
served h f (suc t) = if h (suc t) then served h f t + f (suc t) else 0

-- the fronts of the spell that is over in second t, and one more, so that a spell without fronts counts too; 0 where none is over
abbrev pub served_by : (ℕ → Bool) → (ℕ → ℕ) → ℕ → ℕ
served_by h f zero = 0
served_by h f (suc t) = if h (suc t) then 0 else (if run h t == 0 then 0 else served h f t + 1)

-- how many seconds there are from the first front since the condition held last up to second t, both counted; 0 where there is no
-- such front, and where the condition holds in second t
abbrev pub waiting : (ℕ → Bool) → (ℕ → ℕ) → ℕ → ℕ
waiting h f zero = 0
waiting h f (suc t) = if h (suc t) then 0 else (if waiting h f t == 0 then (if f (suc t) == 0 then 0 else 1) else waiting h f t + 1)

-- how many seconds lie from that first front to second t, in which a spell begins; 0 where none begins, or there is no such front
abbrev pub waited : (ℕ → Bool) → (ℕ → ℕ) → ℕ → ℕ
waited h f zero = 0
waited h f (suc t) = if h (suc t) then waiting h f t else 0

-- The fronts in green and all others, those of each green that is over, and how long it took from the first front since a green to the
-- beginning of the next one. They count from second `from` on: a green where it is over, with all its fronts, and a time where it is over.
pub record AreServeSums (a : ℕ → Aspect) (f : ℕ → ℕ) (from n : ℕ) (x : ServeSums) : Type 0 where
  pub run_is : x.run ≡ run (greens_of a) n
  pub served_is : x.served ≡ served (greens_of a) f n
  pub waiting_is : x.waiting ≡ waiting (greens_of a) f n
  pub in_green_is : x.in_green ≡ sum_to (since from (fronts_in (greens_of a) f)) n
  pub not_in_green_is : x.not_in_green ≡ sum_to (since from (fronts_out (greens_of a) f)) n
  pub per_green_are : AreLongFigures (since from (served_by (greens_of a) f)) n x.per_green
  pub waits_are : AreFigures (since from (waited (greens_of a) f)) n x.waits
  pub in_green_fit : x.in_green ≤ n * 274877906944
  pub not_in_green_fit : x.not_in_green ≤ n * 274877906944
  pub per_green_fit : x.per_green.sum + x.served ≤ n * 549755813888
