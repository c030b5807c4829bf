-- Laws of verdicts, over the definitions alone.
use Rattle.std.specs.Prelude.{◌≡◌, ℕ, ◌+◌, Bool, List, length}
use Rattle.sig_types.specs.Turns.{History}
use Rattle.sig_types.specs.Rules.{Rules, IsTwoWay}
use Rattle.sig_guard.specs.Safety.{IsHistory, Safe}
use Rattle.sig_audit.specs.declared.verdict.Verdict.{Verdict}
use Rattle.sig_audit.specs.declared.verdict.Verdict.TheVariants as verdict
use Rattle.sig_audit.specs.Trial.{made}
use Rattle.sig_audit.specs.Verdict.{IsVerdict}

-- each history from the all-red second 0 on has a verdict
abbrev pub EachHasVerdict : Type 0
EachHasVerdict = (r : Rules) (h : History) → IsHistory r.count h → (v : Verdict) × IsVerdict r h v

-- of a history there is one verdict
abbrev pub OneVerdict : Type 0
OneVerdict = (r : Rules) (h : History) (v w : Verdict) → IsVerdict r h v → IsVerdict r h w → v ≡ w

-- a safe history is judged safe, with the number of its seconds after second 0
abbrev pub SafeIsJudgedSafe : Type 0
SafeIsJudgedSafe = (r : Rules) (h : History) (n : ℕ) → IsHistory r.count h → Safe r h → length h ≡ n + 1 → IsVerdict r h (verdict.Safe n)

-- whatever is wished from second 0 on, the history that the guard makes is judged safe
abbrev pub GuardedIsJudgedSafe : Type 0
GuardedIsJudgedSafe = (r : Rules) (wishes : ℕ → List Bool) (n : ℕ) → IsTwoWay r → IsVerdict r (made r wishes n) (verdict.Safe n)
