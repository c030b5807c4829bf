-- Sums of fronts fit.
use Rattle.std.proofs.Common.{◌≡◌, ℕ, ◌+◌, ◌*◌, ◌<◌, ◌≤◌, Bool, true, false, arith}
use Rattle.std.specs.Prelude.{if◌then◌else◌}

pub where_true : (b : Bool) (x m : ℕ) → x ≤ m → (if b then x else 0) ≤ m
where_true true x m most = most
where_true false x m most = omega arith

pub where_false : (b : Bool) (x m : ℕ) → x ≤ m → (if b then 0 else x) ≤ m
where_false true x m most = omega arith
where_false false x m most = most

-- the fronts of greens that are over, and of the one that runs, with a second more
pub over_fits : (green none from : Bool) (sum served fronts over now n : ℕ) → sum + served ≤ n * 549755813888 → fronts < 274877906944 →
    over ≡ (if from then (if green then 0 else (if none then 0 else served + 1)) else 0) → now ≡ (if green then served + fronts else 0) →
    sum + over + now ≤ (n + 1) * 549755813888
over_fits true none true sum served fronts over now n most few is new = omega (arith, most, few, is, new)
over_fits true none false sum served fronts over now n most few is new = omega (arith, most, few, is, new)
over_fits false true true sum served fronts over now n most few is new = omega (arith, most, few, is, new)
over_fits false false true sum served fronts over now n most few is new = omega (arith, most, few, is, new)
over_fits false none false sum served fronts over now n most few is new = omega (arith, most, few, is, new)

-- a sum of which no more than so much is added each second
pub sum_fits : (sum more new n : ℕ) → sum ≤ n * 274877906944 → more ≤ 274877906944 → new ≡ sum + more → new ≤ (n + 1) * 274877906944
sum_fits sum more new n most few is = omega (arith, most, few, is)
