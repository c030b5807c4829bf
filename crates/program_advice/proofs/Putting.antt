-- What is put after what was put before.
use Rattle.std.proofs.Common.{◌≡◌, ℕ, List, ◌++◌, Result, ap, ◌∙◌, append_assoc}
use Rattle.std.specs.Result.{OnOk}
use Rattle.std.proofs.lemmas.Result.{on_ok_weaker}

-- bytes put after others
pub both : (old mid new a b : List ℕ) → mid ≡ old ++ a → new ≡ mid ++ b → new ≡ old ++ (a ++ b)
both old mid new a b e f = f ∙ (ap (λ t. t ++ b) e ∙ append_assoc old a b)

-- the same where the last call's result is given
pub both_ok : {T E : Type 0} (r : Result T E) (old mid new a b : List ℕ) →
    mid ≡ old ++ a → OnOk r (new ≡ mid ++ b) → OnOk r (new ≡ old ++ (a ++ b))
both_ok r old mid new a b e h =
    let after : new ≡ mid ++ b → new ≡ old ++ (a ++ b) = λ f. both old mid new a b e f in on_ok_weaker r after h
