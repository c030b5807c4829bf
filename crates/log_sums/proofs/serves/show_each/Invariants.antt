use Rattle.std.proofs.Common.{◌≡◌, ℕ, ◌+◌, ◌<◌, ◌≤◌, get_or}
use Rattle.sig_types.specs.declared.aspect.Aspect.{Aspect}
use Rattle.sig_types.specs.declared.aspect.Aspect.TheVariants.{Red}
use Rattle.log_sums.specs.ServeSums.{AreServeSums}
use Rattle.log_sums.specs.declared.serves.Served.{Served}
use Rattle.log_sums.specs.Serves.{fronts_at, serves_of}
use Rattle.log_sums.proofs.serves.show_each.Given as goal

abbrev pub invariant-loop-place : goal.invariant-loop-place
invariant-loop-place l = record {
  serves : serves_of l.serves ≡ serves_of l.fn.serves;
  shown : (a : ℕ → Aspect) (f : ℕ → ℕ) (n i : ℕ) (d : Served) → i < l.place → l.fn.second ≡ n + 1 → l.fn.second < 1048576 →
      a l.fn.second ≡ get_or l.picture (get_or l.fn.serves i d).serve.group.0 Red →
      f l.fn.second ≡ fronts_at (get_or l.fn.serves i d).serve.detectors l.frame →
      AreServeSums a f l.fn.from n (get_or l.fn.serves i d).sums → AreServeSums a f l.fn.from l.fn.second (get_or l.serves i d).sums;
  rest : (i : ℕ) (d : Served) → l.place ≤ i → get_or l.serves i d ≡ get_or l.fn.serves i d;
}
