-- The breaches of a whole log, found one picture after another.
use Rattle.std.proofs.Common.{◌≡◌, ◌∙◌, ◌-◌, ◌≤◌, refl, arith, sym, ap, length, List, [], ◌∷◌, ◌++◌}
use Rattle.sig_types.specs.Rules.{Rules}
use Rattle.sig_types.specs.Turns.{Picture, History}
use Rattle.log_judge.specs.declared.breach.Breach.{Breach}
use Rattle.log_judge.specs.declared.find.Terms.{Terms}
use Rattle.log_judge.specs.Breaches.{breaches, breaches_within, breaches_after, last_breaches}
use Rattle.log_judge.proofs.SafeNone.{none_of_nothing}
use Rattle.log_judge.proofs.Tests.{none_has}
use Rattle.log_judge.proofs.Within.{within_more, within_one}

pub none_within : (r : Rules) (k : Terms) → breaches_within r k [] ≡ []
unfolding breaches_within
none_within r k = refl

pub next_within : (r : Rules) (k : Terms) (h : History) (p : Picture) (xs ys : List Breach) → xs ≡ breaches_within r k h →
    (length h ≡ 0 → ys ≡ xs) → (1 ≤ length h → ys ≡ xs ++ breaches_after r k (h ++ p ∷ []) (length h - 1)) → ys ≡ breaches_within r k (h ++ p ∷ [])
next_within r k [] p xs ys before first later = first refl ∙ before ∙ none_within r k ∙ sym (within_one r k p)
next_within r k (q ∷ qs) p xs ys before first later =
    later (omega arith)
    ∙ ap (λ (zs : List Breach). zs ++ breaches_after r k ((q ∷ qs) ++ p ∷ []) (length (q ∷ qs) - 1)) before
    ∙ sym (within_more r k (q ∷ qs) p (omega arith))

pub all_of : (r : Rules) (k : Terms) (h : History) (xs ys : List Breach) → xs ≡ breaches_within r k h → ys ≡ xs ++ last_breaches r k h (length h - 1) →
    ys ≡ breaches r k h
unfolding breaches
all_of r k h xs ys before last = last ∙ ap (λ (zs : List Breach). zs ++ last_breaches r k h (length h - 1)) before

-- a log of no second has none
pub none_of_none : (r : Rules) (k : Terms) → breaches r k [] ≡ []
none_of_none r k = none_has r k [] (record { after = λ m lt. absurd (omega (arith, lt)); last = none_of_nothing r k })
