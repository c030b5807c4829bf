use Rattle.std.proofs.Common.{◌≡◌, ℕ, ◌+◌, ◌<◌, get_or, length, take}
use Rattle.sig_types.specs.declared.aspect.Aspect.{Aspect}
use Rattle.log_sums.specs.ServeSums.{AreServeSums}
use Rattle.log_sums.specs.declared.serves.Served.{Served}
use Rattle.log_sums.specs.Serves.{serves_of}
use Rattle.log_sums.proofs.restart_serves.restart_serves.Given as goal

abbrev pub invariant-loop-served : goal.invariant-loop-served
invariant-loop-served l = record {
  size : length l.copy.items ≡ l.served-index;
  serves : serves_of l.copy.items ≡ serves_of (take l.served-index l.serves);
  sums : (i : ℕ) (d e : Served) → i < length l.copy.items → (a : ℕ → Aspect) (f : ℕ → ℕ) (from n : ℕ) →
      AreServeSums a f from n (get_or l.serves i e).sums → AreServeSums a f (n + 1) n (get_or l.copy.items i d).sums;
}
