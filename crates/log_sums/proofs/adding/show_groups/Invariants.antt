use Rattle.std.proofs.Common.{◌≡◌, ℕ, ◌+◌, ◌<◌, ◌≤◌, get_or, length}
use Rattle.sig_types.specs.declared.aspect.Aspect.{Aspect}
use Rattle.sig_types.specs.declared.aspect.Aspect.TheVariants.{Red}
use Rattle.log_sums.specs.declared.group.GroupSums.{GroupSums}
use Rattle.log_sums.specs.Groups.{AreGroupSums}
use Rattle.log_sums.proofs.adding.show_groups.Given as goal

abbrev pub invariant-loop-place : goal.invariant-loop-place
invariant-loop-place l = record {
  size : length l.groups ≡ 64;
  shown : (a : ℕ → Aspect) (n g : ℕ) (d : GroupSums) → l.fn.second ≡ n + 1 → l.fn.second < 2147483648 → g < l.place →
      a l.fn.second ≡ get_or l.picture g Red → AreGroupSums a l.fn.from n (get_or l.fn.groups g d) → AreGroupSums a l.fn.from l.fn.second (get_or l.groups g d);
  rest : (g : ℕ) (d : GroupSums) → l.place ≤ g → get_or l.groups g d ≡ get_or l.fn.groups g d;
}
