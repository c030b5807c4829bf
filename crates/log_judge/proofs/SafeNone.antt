-- No part of a safe history has a breach.
use Rattle.std.proofs.Common.{◌≡◌, ℕ, suc, ◌+◌, ◌-◌, ◌<◌, Bool, true, false, not, ◌&&◌, Option, Some, None, refl, arith, sym, ap, ◌∙◌, [], ◌∷◌, length, if◌then◌else◌}
use Rattle.sig_types.specs.declared.aspect.Aspect.TheVariants.{Red, Green}
use Rattle.sig_types.specs.Rules.{Rules}
use Rattle.sig_types.specs.Turns.{History, trace, is_green}
use Rattle.sig_guard.specs.Safety.{MayFollow, IsHistory, Safe}
use Rattle.log_judge.specs.declared.find.Terms.{Terms}
use Rattle.log_judge.specs.Past.{since, last_end}
use Rattle.log_judge.specs.Opening.{hidden_breach, too_soon_after}
use Rattle.sig_types.specs.FirstRefused.{first_reason}
use Rattle.log_judge.specs.Breaches.{are_both_on, opening_of, latest_green, is_red_amber, too_soon, breaches}
use Rattle.log_judge.proofs.Tests.{NoneAfter, NoneLast, none_has, none_conflict, none_too_soon}
use Rattle.log_judge.proofs.Parts.{IsPart, moved, follows, no_time_red_amber, no_time_amber, none_red_amber, none_amber, none_green, none_red, none_running, none_if, red_amber_full, amber_full, red_amber_within, amber_within, green_full, red_full, no_conflict, waits, will_wait}
use Rattle.log_judge.proofs.HiddenNone.{hidden_none}

-- nothing is broken after second m of the part, and nothing is left at its end
none_after_in : (r : Rules) (k : Terms) (part h : History) (o m : ℕ) → IsHistory r.count h → Safe r h → IsPart k part h o → suc m < length part →
    NoneAfter r k part m
none_after_in r k part h o m history safe is in_time = record {
  step = λ g lt. rw (is.shows g m (omega (arith, in_time)), is.shows g (suc m) in_time, next) (follows (r.red_amber g) (r.amber g) (trace h g (o + m)) (trace h g (suc (o + m))) (step g lt));
  red_amber = λ g lt. none_red_amber k g (r.red_amber g) (since (trace part g) m) (suc m) (trace part g m) (trace part g (suc m))
      (λ shows over. (
        λ known. (let full = red_amber_full r k part h o g m history safe is lt in_time shows over known in omega (arith, full)),
        (let most = red_amber_within r k part h o g m safe is lt (omega (arith, in_time)) shows in omega (arith, most)),
      ))
      (λ was now. (let here : MayFollow (r.red_amber g) (r.amber g) Red Green =
      rw (moved k part h o g m is (omega (arith, in_time)) Red was, ap (trace h g) (sym next) ∙ moved k part h o g (suc m) is in_time Green now) at (step g lt) in no_time_red_amber (r.red_amber g) (r.amber g) here));
  amber = λ g lt. none_amber k g (r.amber g) (since (trace part g) m) (suc m) (trace part g m) (trace part g (suc m))
      (λ shows over. (
        λ known. (let full = amber_full r k part h o g m history safe is lt in_time shows over known in omega (arith, full)),
        (let most = amber_within r k part h o g m safe is lt (omega (arith, in_time)) shows in omega (arith, most)),
      ))
      (λ was now. (let here : MayFollow (r.red_amber g) (r.amber g) Green Red =
      rw (moved k part h o g m is (omega (arith, in_time)) Green was, ap (trace h g) (sym next) ∙ moved k part h o g (suc m) is in_time Red now) at (step g lt) in no_time_amber (r.red_amber g) (r.amber g) here));
  green = λ g lt. none_green k g (r.minimum_green g) (since (trace part g) m) (suc m) (trace part g m) (trace part g (suc m))
      (λ shows over known. green_full r k part h o g m history safe is lt in_time shows over known);
  red = λ g lt. none_red k g (r.minimum_red g) (since (trace part g) m) (suc m) (trace part g m) (trace part g (suc m))
      (λ shows on known. red_full r k part h o g m safe is lt in_time shows on known);
  conflict = λ g i lt lt'. none_conflict r (not (are_both_on (trace part g) (trace part i) (suc m))) (trace part g) (trace part i) g i m
      (no_conflict r k part h o g i m safe is lt lt' (omega (arith, in_time)));
  intergreen = λ g i lt lt'. none_if (not (is_green (trace part g m)) && is_green (trace part g (suc m)))
      (too_soon g i (suc m) (r.between i g) (last_end k.rested (trace part i) (suc m)))
      (λ turn. none_too_soon g i (suc m) (r.between i g) (last_end k.rested (trace part i) (suc m))
      (λ z e between last. waits r k part h o g i z e m safe is lt lt' in_time turn between last));
}
  where
    next : o + suc m ≡ suc (o + m)
    next = omega arith

    step : (g : ℕ) → g < r.count → MayFollow (r.red_amber g) (r.amber g) (trace h g (o + m)) (trace h g (suc (o + m)))
    step g lt = (safe.sequence g lt).follow (o + m) (omega (arith, in_time, is.fits))

none_last_in : (r : Rules) (k : Terms) (part h : History) (o m : ℕ) → Safe r h → IsPart k part h o → m < length part → NoneLast r k part m
none_last_in r k part h o m safe is in_time = record {
  running = λ g lt. none_running r k (trace part g) g m (trace part g m)
      (λ shows. red_amber_within r k part h o g m safe is lt in_time shows) (λ shows. amber_within r k part h o g m safe is lt in_time shows);
  conflict = λ g i lt lt'. none_conflict r true (trace part g) (trace part i) g i m (no_conflict r k part h o g i m safe is lt lt' in_time);
  pending = λ g i lt lt'. none_if (is_red_amber (trace part g m))
      (too_soon g i (latest_green r k (trace part g) g m) (r.between i g) (last_end k.rested (trace part i) m))
      (λ amber. none_too_soon g i (latest_green r k (trace part g) g m) (r.between i g) (last_end k.rested (trace part i) m)
      (λ z e between last. will_wait r k part h o g i z e m safe is lt lt' in_time amber between last));
  hidden = λ g i lt lt'. hidden_none r k part h o g i m safe is lt lt' in_time;
}

nothing_hidden : (r : Rules) (k : Terms) (g i : ℕ) →
    hidden_breach r k g i 1 (opening_of r k (trace [] g) g 0) (opening_of r k (trace [] i) i 0) ≡ None
nothing_hidden r k g i = go k.rested (r.between i g)
  where
    go : (rested : Bool) (o : Option ℕ) →
        (if rested then None else first_reason (too_soon_after r k g i 1 None (opening_of r k (trace [] i) i 0) o
        ∷ too_soon_after r k g i 1 None (opening_of r k (trace [] i) i 0) o ∷ [])) ≡ None
    go true o = refl
    go false None = refl
    go false (Some z) = refl

-- a part of no second has nothing to break
pub none_of_nothing : (r : Rules) (k : Terms) → NoneLast r k [] 0
none_of_nothing r k = record {
  running = λ g lt. refl;
  conflict = λ g i lt lt'. none_conflict r true (trace [] g) (trace [] i) g i 0 (λ pair both. (let bad : false ≡ true = both in cc));
  pending = λ g i lt lt'. refl;
  hidden = λ g i lt lt'. nothing_hidden r k g i;
}

pub part_has_none : (r : Rules) (k : Terms) (part h : History) (o : ℕ) → IsHistory r.count h → Safe r h → IsPart k part h o → breaches r k part ≡ []
part_has_none r k [] h o history safe is = none_has r k [] (record {
  after = λ m lt. absurd (omega (arith, lt));
  last = none_of_nothing r k;
})
part_has_none r k (p ∷ ps) h o history safe is = none_has r k (p ∷ ps) (record {
  after = λ m lt. none_after_in r k (p ∷ ps) h o m history safe is (omega (arith, lt));
  last = none_last_in r k (p ∷ ps) h o (length (p ∷ ps) - 1) safe is (omega arith);
})
