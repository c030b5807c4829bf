-- The breaches of a history that goes on by one second.
use Rattle.std.proofs.Common.{◌≡◌, ℕ, suc, ◌-◌, ◌≤◌, not, ◌&&◌, refl, arith, sym, ap, ◌∙◌, List, [], ◌∷◌, ◌++◌, length}
use Rattle.std.proofs.Math.ListN.{length-append}
use Rattle.sig_types.specs.declared.aspect.Aspect.{Aspect}
use Rattle.sig_types.specs.Rules.{Rules}
use Rattle.sig_types.specs.Turns.{Picture, History, trace, is_on}
use Rattle.sig_guard.proofs.Agree.{AgreeBelow}
use Rattle.sig_guard.proofs.Pictures.{trace-append_old}
use Rattle.log_judge.specs.declared.breach.Breach.{Breach}
use Rattle.log_judge.specs.declared.find.Terms.{Terms}
use Rattle.log_judge.specs.declared.past.GroupPast.{GroupPast}
use Rattle.log_judge.specs.Past.{since}
use Rattle.log_judge.specs.Breaches.{gather, listed, are_both_on, sequence_breaches, green_breach, red_breach, conflict_breach, intergreen_breach, breaches_after, breaches_within}
use Rattle.log_judge.specs.Found.{sequence_found, green_found, red_found}
use Rattle.log_judge.specs.Stands.{past_of}
use Rattle.log_judge.proofs.Lists.{gather_same}
use Rattle.log_judge.proofs.Keeping.{past_of-agree, five, three, gathered, pairs_same, conflict_same, intergreen_same}

-- two histories that agree up to the second after m
record Alike (k : Terms) (h h' : History) (m g : ℕ) : Type 0 where
  was : trace h g m ≡ trace h' g m
  is : trace h g (suc m) ≡ trace h' g (suc m)
  past : past_of k (trace h g) m ≡ past_of k (trace h' g) m

alike : (k : Terms) (h h' : History) (m g : ℕ) → AgreeBelow (suc (suc m)) (trace h g) (trace h' g) → Alike k h h' m g
alike k h h' m g agree = record {
  was = agree.at m (omega arith);
  is = agree.at (suc m) (omega arith);
  past = past_of-agree k (trace h g) (trace h' g) m (record { at = λ t lt. agree.at t (omega arith) });
}

after-agree : (r : Rules) (k : Terms) (h h' : History) (m : ℕ) → ((g : ℕ) → AgreeBelow (suc (suc m)) (trace h g) (trace h' g)) →
    breaches_after r k h m ≡ breaches_after r k h' m
unfolding breaches_after
after-agree r k h h' m agree =
    five _ _ _ _ _ _ _ _ _ _
    (gathered (λ g. sequence_breaches r k (trace h g) g m) (λ g. sequence_breaches r k (trace h' g) g m) r.count r.count refl (λ g lt. (let s = here g in
    three (λ x y u. sequence_found (record { min = r.minimum_green g; red_amber = r.red_amber g; amber = r.amber g; min_red = r.minimum_red g }) k (suc m) g x y u)
    (trace h g m) (trace h' g m) (trace h g (suc m)) (trace h' g (suc m))
    (since (trace h g) m) (since (trace h' g) m) s.was s.is (ap (λ (q : GroupPast). q.since) s.past))))
    (gathered (λ g. listed (green_breach r k (trace h g) g m)) (λ g. listed (green_breach r k (trace h' g) g m)) r.count r.count refl (λ g lt. (let s = here g in
    three (λ x y u. listed (green_found (record { min = r.minimum_green g; red_amber = r.red_amber g; amber = r.amber g; min_red = r.minimum_red g }) k (suc m) g x y u))
    (trace h g m) (trace h' g m) (trace h g (suc m)) (trace h' g (suc m))
    (since (trace h g) m) (since (trace h' g) m) s.was s.is (ap (λ (q : GroupPast). q.since) s.past))))
    (gathered (λ g. listed (red_breach r k (trace h g) g m)) (λ g. listed (red_breach r k (trace h' g) g m)) r.count r.count refl (λ g lt. (let s = here g in
    three (λ x y u. listed (red_found (record { min = r.minimum_green g; red_amber = r.red_amber g; amber = r.amber g; min_red = r.minimum_red g }) k (suc m) g x y u))
    (trace h g m) (trace h' g m) (trace h g (suc m)) (trace h' g (suc m))
    (since (trace h g) m) (since (trace h' g) m) s.was s.is (ap (λ (q : GroupPast). q.since) s.past))))
    (pairs_same (λ g i. conflict_breach r (not (are_both_on (trace h g) (trace h i) (suc m))) (trace h g) (trace h i) g i m)
    (λ g i. conflict_breach r (not (are_both_on (trace h' g) (trace h' i) (suc m))) (trace h' g) (trace h' i) g i m) r.count r.count refl
    (λ g i lt lt'. conflict_same r g i m _ _ _ _ _ _ _ _ _ _
    (ap (λ (x : Aspect). not (is_on x && is_on (trace h i (suc m)))) (here g).is ∙ ap (λ (x : Aspect). not (is_on (trace h' g (suc m)) && is_on x)) (here i).is)
    (here g).was (here i).was (ap (λ (q : GroupPast). q.on_since) (here g).past) (ap (λ (q : GroupPast). q.on_since) (here i).past)))
    (pairs_same (λ g i. intergreen_breach r k (trace h g) (trace h i) g i m)
    (λ g i. intergreen_breach r k (trace h' g) (trace h' i) g i m) r.count r.count refl
    (λ g i lt lt'. intergreen_same r g i (suc m) _ _ _ _ _ _ _ _ _ _ (here g).was (here g).is (here i).was (here i).is
    (ap (λ (q : GroupPast). q.last_end) (here i).past)))
  where
    here : (g : ℕ) → Alike k h h' m g
    here g = alike k h h' m g (agree g)

-- one picture more adds what is complete with it
pub within_more : (r : Rules) (k : Terms) (h : History) (p : Picture) → 1 ≤ length h →
    breaches_within r k (h ++ p ∷ []) ≡ breaches_within r k h ++ breaches_after r k (h ++ p ∷ []) (length h - 1)
unfolding breaches_within
within_more r k h p some =
    let m = length h - 1 in
    let long : length h ≡ suc m = omega (arith, some) in
    let more : length (h ++ p ∷ []) - 1 ≡ suc m = omega (arith, length-append h (p ∷ []), some) in
    ap (λ (n : ℕ). gather (breaches_after r k (h ++ p ∷ [])) n) more
    ∙ ap (λ (xs : List Breach). xs ++ breaches_after r k (h ++ p ∷ []) m) (gather_same (breaches_after r k (h ++ p ∷ [])) (breaches_after r k h) m (λ j lt.
    sym (after-agree r k h (h ++ p ∷ []) j (λ g. (let agree = trace-append_old h p g (suc m) long in record { at = λ t lt'. agree.at t (omega (arith, lt, lt')) })))))

pub within_one : (r : Rules) (k : Terms) (p : Picture) → breaches_within r k (p ∷ []) ≡ []
unfolding breaches_within
within_one r k p = refl
