use Rattle.std.proofs.Common.{◌≡◌, ◌≤◌, ◌<◌, ℕ, length, get_or}
use Rattle.std.specs.List.{All}
use Rattle.vap_vm.proofs.arrays.Arrays.copy_from.Given as goal

abbrev pub invariant-loop-a : goal.invariant-loop-a
invariant-loop-a l = record {
  long : length l.self-inside.rows.items ≡ length l.other-inside.rows.items;
  wide : length l.self-inside.rows.items ≡ length l.initial.self-inside.rows.items;
  done_so_far : (k : ℕ) (d : _) → k < l.a → (get_or l.self-inside.rows.items k d).items ≡ (get_or l.other-inside.rows.items k d).items;
  left : (k : ℕ) (d e : _) → k < length l.self-inside.rows.items →
      length (get_or l.self-inside.rows.items k d).items ≡ length (get_or l.other-inside.rows.items k e).items;
  short : All (λ r. length r.items ≤ 1024) l.self-inside.rows.items;
}
