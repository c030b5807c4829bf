use Rattle.std.proofs.Common.{◌≡◌, ◌<◌, ◌≤◌, ℕ, length, get_or}
use Rattle.sig_types.specs.LogForm.{letter}
use Rattle.sig_types.specs.declared.aspect.Aspect.TheVariants.{Red}
use Rattle.junction_calls.proofs.told.letters_of.Given as goal

abbrev pub invariant-loop-place : goal.invariant-loop-place
invariant-loop-place l = record {
  size : length l.letters ≡ 64;
  letters : (g : ℕ) → g < l.place → get_or l.letters g 0 ≡ letter (get_or l.picture g Red);
  rest : (p : ℕ) → l.place ≤ p → get_or l.letters p 0 ≡ 0;
}
