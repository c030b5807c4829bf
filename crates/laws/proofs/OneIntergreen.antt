-- One intergreen by itself: the site in which each other one is 0.
use Rattle.std.proofs.Common.{◌≡◌, ℕ, suc, ◌-◌, ◌<◌, ◌≤◌, ◌==◌, Bool, true, false, not, ◌&&◌, ◌||◌, Option, Some, None, is_some, refl, arith, sym, inl, inr, ap, subst, ◌∙◌, length, nat_lt, if◌then◌else◌}
use Rattle.std.proofs.lemmas.Bool.{and_parts, or_cases, eqb-true, eq-eqb}
use Rattle.sig_types.specs.declared.aspect.Rule.TheVariants as rule
use Rattle.sig_types.specs.Rules.{Rules, IsTwoWay}
use Rattle.sig_types.specs.Turns.{History, trace, is_green, is_on}
use Rattle.sig_guard.specs.Safety.{IntergreenPasses, IsHistory, Safe}
use Rattle.sig_audit.proofs.NewRules.{KeepsRule}
use Rattle.log_judge.specs.Past.{last_end}
use Rattle.log_judge.specs.Breaches.{is_pair, are_both_on, too_soon, is_red_amber, latest_green, intergreen_breach, pending_breach}
use Rattle.log_judge.proofs.Runs.{last_end_is}
use Rattle.log_judge.proofs.Tests.{HasNone, has_none, none_has, none_conflict, none_too_soon}
use Rattle.log_judge.proofs.NoneSafe.{none_safe}
use Rattle.laws.specs.BreachesAndVerdicts.{audited}
use Rattle.laws.proofs.HistoryFronts.{none_of_safe}
use Rattle.laws.proofs.OneGroup.{NoneAlone, KeptAlone, kept_none}

-- listed as before, with no second
abbrev pub without : Option ℕ → Option ℕ
without None = None
without (Some z) = Some 0

-- the site with the intergreen from i to g alone
abbrev pub waiting : Rules → ℕ → ℕ → Rules
waiting r i g = record r {
  between = λ c e. if c == i && e == g then r.between c e else without (r.between c e);
}

-- what holds of an intergreen, and of one with no second
between_is : (P : Option ℕ → Type 0) (r : Rules) (i g c e : ℕ) → (c ≡ i → e ≡ g → P (r.between c e)) → P (without (r.between c e)) →
    P ((waiting r i g).between c e)
between_is P r i g c e here there = go (c == i && e == g) refl
  where
    go : (b : Bool) → (c == i && e == g) ≡ b → P (if b then r.between c e else without (r.between c e))
    go true is = (let parts = and_parts (c == i) (e == g) is in here (eqb-true c i parts.0) (eqb-true e g parts.1))
    go false is = there

waiting_here : (r : Rules) (i g : ℕ) → (waiting r i g).between i g ≡ r.between i g
waiting_here r i g = rw (eq-eqb i i refl, eq-eqb g g refl) refl

same_listed : (o : Option ℕ) → is_some (without o) ≡ is_some o
same_listed None = refl
same_listed (Some z) = refl

waiting_listed : (r : Rules) (i g c e : ℕ) → is_some ((waiting r i g).between c e) ≡ is_some (r.between c e)
waiting_listed r i g c e = between_is (λ (o : Option ℕ). is_some o ≡ is_some (r.between c e)) r i g c e (λ ci eg. refl) (same_listed (r.between c e))

pub some_is : (o : Option ℕ) → is_some o ≡ true → (z : ℕ) × (o ≡ Some z)
some_is None h = absurd (cc)
some_is (Some z) h = (z, refl)

no_some : (o : Option ℕ) → is_some o ≡ false → o ≡ None
no_some None h = refl
no_some (Some z) h = absurd (cc)

no_second : (o : Option ℕ) (z : ℕ) → without o ≡ Some z → z ≡ 0
no_second None z h = absurd (cc)
no_second (Some y) z h = (let same : 0 ≡ z = cc in sym same)

-- the two are listed in the site itself
listed_is : (r : Rules) (i g c e z : ℕ) → (waiting r i g).between c e ≡ Some z → (y : ℕ) × (r.between c e ≡ Some y)
listed_is r i g c e z listed = some_is (r.between c e) (sym (waiting_listed r i g c e) ∙ ap is_some listed)

waiting_two_way : (r : Rules) (i g : ℕ) → IsTwoWay r → IsTwoWay (waiting r i g)
waiting_two_way r i g two_way = record {
  both = λ c e z lt lt' listed. (let own = listed_is r i g c e z listed in waiting_listed r i g e c ∙ two_way.both c e own.0 lt lt' own.1);
  other = λ c lt. no_some ((waiting r i g).between c c) (waiting_listed r i g c c ∙ ap is_some (two_way.other c lt));
}

-- each group keeps the four rules that are named before Intergreen
pub record KeepsFour (r : Rules) (h : History) : Type 0 where
  pub alone : (g : ℕ) → g < r.count → KeptAlone r g (r.minimum_green g) (r.minimum_red g) (trace h g) (length h)
  pub apart : (g : ℕ) → g < r.count → KeepsRule r h g rule.Conflict

-- where they keep them, and this intergreen, nothing is broken of the site with this one alone
waiting_safe : (r : Rules) (h : History) (i g : ℕ) → KeepsFour r h →
    ((z : ℕ) → r.between i g ≡ Some z → IntergreenPasses z (r.red_amber g) (trace h i) (trace h g) (length h)) → Safe (waiting r i g) h
waiting_safe r h i g four passes = record {
  sequence = λ j lt. (four.alone j lt).sequence;
  min_green = λ j lt. (four.alone j lt).min_green;
  min_red = λ j lt. (four.alone j lt).min_red;
  conflict = λ c e z pair. (let own = listed_is r i g c e z pair.listed in
      four.apart e pair.entering_of_site c own.0 (record { clearing_of_site = pair.clearing_of_site; entering_of_site = pair.entering_of_site; listed = own.1 }));
  intergreen = λ c e z pair. between_is
      (λ (o : Option ℕ). o ≡ Some z → IntergreenPasses z (r.red_amber e) (trace h c) (trace h e) (length h)) r i g c e
      (λ ci eg. subst (λ (k : ℕ). r.between k e ≡ Some z → IntergreenPasses z (r.red_amber e) (trace h k) (trace h e) (length h)) (sym ci)
      (subst (λ (k : ℕ). r.between i k ≡ Some z → IntergreenPasses z (r.red_amber k) (trace h i) (trace h k) (length h)) (sym eg) (passes z)))
      (λ listed end start ends starts le in_time. (let none = no_second (r.between c e) z listed in omega (arith, none, le)))
      pair.listed;
}

-- so the intergreen has no breach
pub record NoneWaits (r : Rules) (h : History) (i g : ℕ) : Type 0 where
  pub came : (m : ℕ) → m < length h - 1 → intergreen_breach r audited (trace h g) (trace h i) g i m ≡ None
  pub pending : pending_breach r audited (trace h g) (trace h i) g i (length h - 1) ≡ None

pub passes_none : (r : Rules) (h : History) (i g : ℕ) → IsHistory r.count h → i < r.count → g < r.count → KeepsFour r h →
    ((z : ℕ) → r.between i g ≡ Some z → IntergreenPasses z (r.red_amber g) (trace h i) (trace h g) (length h)) → NoneWaits r h i g
passes_none r h i g is lt lt' four passes = record {
  came = λ m below. came m (waiting_here r i g) ((none.after m below).intergreen g i lt' lt);
  pending = pending (waiting_here r i g) (none.last.pending g i lt' lt);
}
  where
    none : HasNone (waiting r i g) audited h
    none = has_none (waiting r i g) audited h (none_of_safe (waiting r i g) h is (waiting_safe r h i g four passes))

    came : (m : ℕ) → (waiting r i g).between i g ≡ r.between i g →
        intergreen_breach (waiting r i g) audited (trace h g) (trace h i) g i m ≡ None → intergreen_breach r audited (trace h g) (trace h i) g i m ≡ None
    came m same none = subst (λ (o : Option ℕ).
        (if not (is_green (trace h g m)) && is_green (trace h g (suc m)) then too_soon g i (suc m) o (last_end true (trace h i) (suc m)) else None) ≡ None) same none

    pending : (waiting r i g).between i g ≡ r.between i g →
        pending_breach (waiting r i g) audited (trace h g) (trace h i) g i (length h - 1) ≡ None →
        pending_breach r audited (trace h g) (trace h i) g i (length h - 1) ≡ None
    pending same none = subst (λ (o : Option ℕ).
        (if is_red_amber (trace h g (length h - 1))
        then too_soon g i (latest_green r audited (trace h g) g (length h - 1)) o (last_end true (trace h i) (length h - 1)) else None) ≡ None) same none

-- with no second no green comes too soon after an end that is not after it
soon_enough : (b : Bool) (g i t : ℕ) (o ended : Option ℕ) → ((e : ℕ) → ended ≡ Some e → e ≤ t) →
    (if b then too_soon g i t (without o) ended else None) ≡ None
soon_enough true g i t o ended before = none_too_soon g i t (without o) ended (λ z e listed last.
    (let none = no_second o z listed in let le = before e last in omega (arith, none, le)))
soon_enough false g i t o ended before = refl

-- and an intergreen that has no breach is kept
pub none_passes : (r : Rules) (h : History) (i g : ℕ) → IsTwoWay r → IsHistory r.count h → i < r.count → g < r.count → KeepsFour r h →
    NoneWaits r h i g → (z : ℕ) → r.between i g ≡ Some z → IntergreenPasses z (r.red_amber g) (trace h i) (trace h g) (length h)
none_passes r h i g two_way is lt lt' four none z listed =
    safe.intergreen i g z (record { clearing_of_site = lt; entering_of_site = lt'; listed = waiting_here r i g ∙ listed })
  where
    alone : (j : ℕ) → j < r.count → NoneAlone r j (r.minimum_green j) (r.minimum_red j) (trace h j) (length h)
    alone j below = kept_none r h j (r.minimum_green j) (r.minimum_red j) is below (four.alone j below)

    apart : (j k m : ℕ) → j < r.count → k < r.count → m < length h → is_pair (waiting r i g) j k ≡ true → are_both_on (trace h j) (trace h k) m ≡ true → ⊥
    apart j k m below below' in_time pair both =
        let on = and_parts (is_on (trace h j m)) (is_on (trace h k m)) both in
        elim (or_cases (is_some ((waiting r i g).between j k)) (is_some ((waiting r i g).between k j))
        (and_parts (nat_lt j k) (is_some ((waiting r i g).between j k) || is_some ((waiting r i g).between k j)) pair).1) [
          | inl one ↦ (let own = some_is (r.between j k) (sym (waiting_listed r i g j k) ∙ one) in
              four.apart k below' j own.0 (record { clearing_of_site = below; entering_of_site = below'; listed = own.1 }) m in_time on.0 on.1)
          | inr other ↦ (let own = some_is (r.between k j) (sym (waiting_listed r i g k j) ∙ other) in
              four.apart j below k own.0 (record { clearing_of_site = below'; entering_of_site = below; listed = own.1 }) m in_time on.1 on.0)
        ]

    came : (j k m : ℕ) → m < length h - 1 → intergreen_breach (waiting r i g) audited (trace h j) (trace h k) j k m ≡ None
    came j k m below = between_is (λ (o : Option ℕ).
        (if not (is_green (trace h j m)) && is_green (trace h j (suc m)) then too_soon j k (suc m) o (last_end true (trace h k) (suc m)) else None) ≡ None)
        r i g k j
        (λ ki jg. subst (λ (x : ℕ). intergreen_breach r audited (trace h j) (trace h x) j x m ≡ None) (sym ki)
        (subst (λ (x : ℕ). intergreen_breach r audited (trace h x) (trace h i) x i m ≡ None) (sym jg) (none.came m below)))
        (soon_enough (not (is_green (trace h j m)) && is_green (trace h j (suc m))) j k (suc m) (r.between k j) (last_end true (trace h k) (suc m))
        (λ e last. (last_end_is true (trace h k) (suc m) e last).0))

    pending : (j k : ℕ) → pending_breach (waiting r i g) audited (trace h j) (trace h k) j k (length h - 1) ≡ None
    pending j k = between_is (λ (o : Option ℕ).
        (if is_red_amber (trace h j (length h - 1))
        then too_soon j k (latest_green r audited (trace h j) j (length h - 1)) o (last_end true (trace h k) (length h - 1)) else None) ≡ None)
        r i g k j
        (λ ki jg. subst (λ (x : ℕ). pending_breach r audited (trace h j) (trace h x) j x (length h - 1) ≡ None) (sym ki)
        (subst (λ (x : ℕ). pending_breach r audited (trace h x) (trace h i) x i (length h - 1) ≡ None) (sym jg) none.pending))
        (soon_enough (is_red_amber (trace h j (length h - 1))) j k (latest_green r audited (trace h j) j (length h - 1)) (r.between k j)
        (last_end true (trace h k) (length h - 1))
        (λ e last. (let le = (last_end_is true (trace h k) (length h - 1) e last).0 in omega (arith, le))))

    has : HasNone (waiting r i g) audited h
    has = record {
      after = λ m below. record {
        step = λ j lt. (alone j lt).step m below;
        red_amber = λ j lt. (alone j lt).red_amber m below;
        amber = λ j lt. (alone j lt).amber m below;
        green = λ j lt. (alone j lt).green m below;
        red = λ j lt. (alone j lt).red m below;
        conflict = λ j k lt lt'. none_conflict (waiting r i g) (not (are_both_on (trace h j) (trace h k) (suc m))) (trace h j) (trace h k) j k m
            (apart j k m lt lt' (omega (arith, below)));
        intergreen = λ j k lt lt'. came j k m below;
      };
      last = record {
        running = λ j lt. (alone j lt).running;
        conflict = λ j k lt lt'. none_conflict (waiting r i g) true (trace h j) (trace h k) j k (length h - 1)
            (apart j k (length h - 1) lt lt' (omega (arith, is.begun)));
        pending = λ j k lt lt'. pending j k;
        hidden = λ j k lt lt'. refl;
      };
    }

    safe : Safe (waiting r i g) h
    safe = none_safe (waiting r i g) h (waiting_two_way r i g two_way) is (none_has (waiting r i g) audited h has)
