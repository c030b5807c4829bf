use Rattle.std.proofs.Common.{◌≡◌, ℕ, ◌+◌, ◌<◌, ◌≤◌, get_or, length}
use Rattle.sig_types.specs.declared.aspect.Aspect.{Aspect}
use Rattle.log_sums.specs.declared.group.GroupSums.{GroupSums}
use Rattle.log_sums.specs.Groups.{AreGroupSums}
use Rattle.log_sums.proofs.restart.restart_groups.Given as goal

abbrev pub invariant-loop-place : goal.invariant-loop-place
invariant-loop-place l = record {
  size : length l.groups ≡ 64;
  shown : (a : ℕ → Aspect) (from n g : ℕ) (d : GroupSums) → g < l.place → AreGroupSums a from n (get_or l.fn.groups g d) →
      AreGroupSums a (n + 1) n (get_or l.groups g d);
  rest : (g : ℕ) (d : GroupSums) → l.place ≤ g → get_or l.groups g d ≡ get_or l.fn.groups g d;
}
