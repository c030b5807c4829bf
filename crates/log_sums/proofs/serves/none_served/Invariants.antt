use Rattle.std.proofs.Common.{◌≡◌, ℕ, take}
use Rattle.std.specs.Prelude.{All}
use Rattle.sig_types.specs.declared.aspect.Aspect.{Aspect}
use Rattle.log_sums.specs.ServeSums.{AreServeSums}
use Rattle.log_sums.specs.declared.serves.Served.{Served}
use Rattle.log_sums.specs.Serves.{serves_of}
use Rattle.log_sums.proofs.serves.none_served.Given as goal

abbrev pub invariant-loop-serve : goal.invariant-loop-serve
invariant-loop-serve l = record {
  serves : serves_of l.served.items ≡ take l.serve-index l.serves;
  sums : All (λ (x : Served). (a : ℕ → Aspect) (f : ℕ → ℕ) (from : ℕ) → AreServeSums a f from 0 x.sums) l.served.items;
}
