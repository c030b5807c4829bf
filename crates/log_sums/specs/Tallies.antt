-- How often things came: stages, refusals, faults. Each second has some of them, which are told apart by a number, their code.
use Rattle.std.specs.Prelude.{◌≡◌, ℕ, zero, suc, ◌+◌, ◌-◌, ◌==◌, min, Bool, not, List, [], ◌∷◌, ◌++◌, All, map, fold, if◌then◌else◌}
use Rattle.std.specs.List.{count_by, list_any}
use Rattle.log_sums.specs.declared.tally.Counts.{Counts}
use Rattle.log_sums.specs.declared.tally.Tally.{Tally}
use Rattle.log_sums.specs.Series.{AreFigures, since}
use Rattle.log_sums.specs.Spells.{begins, held, run}

-- something came in second t
abbrev pub came : (ℕ → ℕ) → ℕ → Bool
came c t = not (c t == 0)

-- how many seconds of the run up to second t lie in the seconds from `from` on
abbrev pub stretch : (ℕ → Bool) → ℕ → ℕ → ℕ
stretch h from t = min (run h t) (t + 1 - from)

-- How often something came in the seconds 1 to n, as often as c tells in each; the runs of seconds in which it came, which are cut where
-- counting begins. They count from second `from` on.
pub record AreCounts (c : ℕ → ℕ) (from n : ℕ) (x : Counts) : Type 0 where
  pub times_are : AreFigures (since from c) n x.times
  pub run_is : x.run ≡ run (came c) n
  pub begun_are : AreFigures (since from (held (begins (came c)))) n x.begun
  pub runs_are : AreFigures (since from (stretch (came c) from)) n x.runs

-- where things have these codes, and come in the seconds
module _ {K : Type 0} (code : K → ℕ) where
  -- one of these has the code
  abbrev pub has_code : List K → ℕ → Bool
  has_code keys k = list_any (λ key. code key == k) keys

  -- these, and one more unless it is one of them
  abbrev pub with_key : List K → K → List K
  with_key keys x = if has_code keys (code x) then keys else keys ++ x ∷ []

  -- how many of these have the code
  abbrev pub times_in : ℕ → List K → ℕ
  times_in k items = count_by (λ x. code x == k) items

  -- how often the code came in second t
  abbrev pub times_of : (ℕ → List K) → ℕ → ℕ → ℕ
  times_of items k t = times_in k (items t)

  -- what came in the seconds 1 to n, in the order in which it came first
  abbrev pub keys_to : (ℕ → List K) → ℕ → List K
  keys_to items zero = []
  keys_to items (suc n) = fold with_key (keys_to items n) (items (suc n))

  -- a tally of each that came in the seconds 1 to n, in the order in which they came first; they count from second `from` on
  pub record AreTallies (items : ℕ → List K) (from n : ℕ) (xs : List (Tally K)) : Type 0 where
    pub keys_are : map (λ x. x.key) xs ≡ keys_to items n
    pub each : All (λ x. AreCounts (times_of items (code x.key)) from n x.counts) xs

  -- tallies of the seconds 1 to n, where these came in the next one too, which isn't counted yet
  pub record AwaitItems (items : ℕ → List K) (from n : ℕ) (seen : List K) (xs : List (Tally K)) : Type 0 where
    pub keys_are : map (λ x. x.key) xs ≡ fold with_key (keys_to items n) seen
    pub each : All (λ x. AreCounts (times_of items (code x.key)) from n x.counts) xs
