-- What doesn't count yet.
use Rattle.std.proofs.Common.{◌≡◌, ℕ, ◌+◌, ◌≤◌, false, refl, arith}
use Rattle.std.specs.Prelude.{nat_le}
use Rattle.std.proofs.lemmas.Bool.{lt-leb}
use Rattle.log_sums.specs.Series.{since}

-- up to second n nothing counts that counts from the next one on
pub not_yet : (f : ℕ → ℕ) (n t : ℕ) → 1 ≤ t → t ≤ n → since (n + 1) f t ≡ 0
not_yet f n t some most =
    let past : nat_le (n + 1) t ≡ false = lt-leb (n + 1) t (omega (arith, most)) in
    rw past refl
