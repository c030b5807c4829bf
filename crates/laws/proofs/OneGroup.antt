-- One group by itself: its own rules and its own breaches, in a history that shows no other.
use Rattle.std.proofs.Common.{◌≡◌, ℕ, zero, suc, ◌-◌, ◌<◌, Bool, true, false, not, ◌&&◌, ◌||◌, Option, Some, None, refl, arith, sym, ap, subst, ◌∙◌, [], ◌∷◌, length, get_or, nat_lt, if◌then◌else◌}
use Rattle.sig_types.specs.declared.aspect.Aspect.{Aspect}
use Rattle.sig_types.specs.declared.aspect.Aspect.TheVariants.{Red, RedAmber, Green, Amber}
use Rattle.sig_types.specs.Rules.{Rules, IsTwoWay}
use Rattle.sig_types.specs.Turns.{Trace, History, trace, shown, is_green}
use Rattle.sig_guard.specs.Safety.{Sequence, GreenLastsAtLeast, RedLastsAtLeast, IsHistory, Safe}
use Rattle.log_judge.specs.Past.{since, last_end}
use Rattle.log_judge.specs.Breaches.{can_follow, red_amber_from, amber_from, green_from, red_from, short, long, other_time, are_both_on, too_soon, is_red_amber, red_amber_breach, amber_breach, green_breach, red_breach, running_breach, latest_green}
use Rattle.log_judge.proofs.Tests.{HasNone, has_none, none_has, short_none, none_short, long_none, none_long, other_time_none, none_other_time, none_conflict}
use Rattle.log_judge.proofs.NoneSafe.{none_safe}
use Rattle.laws.specs.BreachesAndVerdicts.{audited}
use Rattle.laws.proofs.HistoryFronts.{none_of_safe}

-- the site of one group, with these least times
abbrev pub alone : Rules → ℕ → ℕ → ℕ → Rules
alone r g green red = record {
  count = 1;
  red_amber = λ j. r.red_amber g;
  amber = λ j. r.amber g;
  minimum_green = λ j. green;
  minimum_red = λ j. red;
  between = λ i j. None;
}

-- the history of one group
abbrev one_group : ℕ → History → History
one_group g [] = []
one_group g (p ∷ h) = (shown p g ∷ []) ∷ one_group g h

one_length : (g : ℕ) (h : History) → length (one_group g h) ≡ length h
one_length g [] = refl
one_length g (p ∷ h) = ap suc (one_length g h)

one_trace : (g : ℕ) (h : History) (t : ℕ) → trace (one_group g h) 0 t ≡ trace h g t
one_trace g [] t = refl
one_trace g (p ∷ h) zero = refl
one_trace g (p ∷ h) (suc t) = one_trace g h t

one_size : (g : ℕ) (h : History) (t : ℕ) → t < length h → length (get_or (one_group g h) t []) ≡ 1
one_size g [] t lt = absurd (omega (arith, lt))
one_size g (p ∷ h) zero lt = refl
one_size g (p ∷ h) (suc t) lt = one_size g h t (omega (arith, lt))

-- what holds of the group in the one history holds of it in the other
same_trace : (g : ℕ) (h : History) → trace (one_group g h) 0 ≡ trace h g
same_trace g h = λ i t. one_trace g h t i

to_one : (g : ℕ) (h : History) (P : Trace → ℕ → Type 0) → P (trace h g) (length h) → P (trace (one_group g h) 0) (length (one_group g h))
to_one g h P x = subst (λ (a : Trace). P a (length (one_group g h))) (sym (same_trace g h)) (subst (P (trace h g)) (sym (one_length g h)) x)

from_one : (g : ℕ) (h : History) (P : Trace → ℕ → Type 0) → P (trace (one_group g h) 0) (length (one_group g h)) → P (trace h g) (length h)
from_one g h P x = subst (λ (a : Trace). P a (length h)) (same_trace g h) (subst (P (trace (one_group g h) 0)) (one_length g h) x)

-- what holds of group 0 holds of each group below 1
only : (P : ℕ → Type 0) → P 0 → (j : ℕ) → j < 1 → P j
only P x zero lt = x
only P x (suc j) lt = absurd (omega (arith, lt))

first : 0 < 1
first = omega arith

one_history : (r : Rules) (g : ℕ) (h : History) → IsHistory r.count h → g < r.count → IsHistory 1 (one_group g h)
one_history r g h is lt = record {
  begun = omega (arith, one_length g h, is.begun);
  sizes = λ t below. one_size g h t (omega (arith, below, one_length g h));
  all_red = only (λ (j : ℕ). trace (one_group g h) j 0 ≡ Red) (one_trace g h 0 ∙ is.all_red g lt);
}

-- the group keeps its own rules, with these least times
pub record KeptAlone (r : Rules) (g green red : ℕ) (a : Trace) (n : ℕ) : Type 0 where
  pub sequence : Sequence (r.red_amber g) (r.amber g) a n
  pub min_green : GreenLastsAtLeast green a n
  pub min_red : RedLastsAtLeast red a n

-- it has no breach of them
pub record NoneAlone (r : Rules) (g for_green for_red : ℕ) (a : Trace) (n : ℕ) : Type 0 where
  pub step : (m : ℕ) → m < n - 1 → can_follow (a m) (a (suc m)) ≡ true
  pub red_amber : (m : ℕ) → m < n - 1 → red_amber_breach r audited a g m ≡ None
  pub amber : (m : ℕ) → m < n - 1 → amber_breach r audited a g m ≡ None
  pub green : (m : ℕ) → m < n - 1 → short audited g Green (suc m) for_green (green_from (a m) (a (suc m)) (since a m)) ≡ None
  pub red : (m : ℕ) → m < n - 1 → short audited g Red (suc m) for_red (red_from (a m) (a (suc m)) (since a m)) ≡ None
  pub running : running_breach r audited a g (n - 1) (a (n - 1)) ≡ None

-- least times of 0 are kept
pub no_green : (a : Trace) (n : ℕ) → GreenLastsAtLeast 0 a n
no_green a n begin end turns ends before in_time stays = omega (arith, before)

pub no_red : (a : Trace) (n : ℕ) → RedLastsAtLeast 0 a n
no_red a n begin start turns starts before in_time stays = omega (arith, before)

-- a test finds none whatever the group's number
short_any : (g j t least : ℕ) (x : Aspect) (o : Option ℕ) → short audited g x t least o ≡ None → short audited j x t least o ≡ None
short_any g j t least x None none = refl
short_any g j t least x (Some s) none = none_short audited j t least s x (short_none audited g t least s x none)

other_time_any : (g j t time : ℕ) (x : Aspect) (o : Option ℕ) → other_time audited g x t time o ≡ None → other_time audited j x t time o ≡ None
other_time_any g j t time x None none = refl
other_time_any g j t time x (Some s) none =
    let both = other_time_none audited g t time s x none in
    none_other_time audited j t time s x both.0 both.1

long_any : (g j t most s : ℕ) (x : Aspect) → long audited g x t most (Some s) ≡ None → long audited j x t most (Some s) ≡ None
long_any g j t most s x none = none_long audited j t most s x (long_none audited g t most s x none)

-- no pair of a site of one group
no_pair : (b : Bool) → (b && (false || false)) ≡ true → ⊥
no_pair true h = cc
no_pair false h = cc

no_wait : (b : Bool) (g i t : ℕ) (ended : Option ℕ) → (if b then too_soon g i t None ended else None) ≡ None
no_wait true g i t ended = refl
no_wait false g i t ended = refl

two_way_alone : (r : Rules) (g green red : ℕ) → IsTwoWay (alone r g green red)
two_way_alone r g green red = record {
  both = λ i j z lt lt' listed. absurd (let bad : None ≡ Some z = listed in cc);
  other = λ j lt. refl;
}

-- a group that keeps its rules has no breach of them, where it is the only one
one_none : (r : Rules) (one : History) (g green red : ℕ) → IsHistory 1 one → KeptAlone r g green red (trace one 0) (length one) →
    NoneAlone r g green red (trace one 0) (length one)
one_none r one g green red is kept =
    record {
      step = λ m below. (none.after m below).step 0 first;
      red_amber = λ m below. other_time_any 0 g (suc m) (r.red_amber g) RedAmber
          (red_amber_from (trace one 0 m) (trace one 0 (suc m)) (since (trace one 0) m) (suc m)) ((none.after m below).red_amber 0 first);
      amber = λ m below. other_time_any 0 g (suc m) (r.amber g) Amber
          (amber_from (trace one 0 m) (trace one 0 (suc m)) (since (trace one 0) m) (suc m)) ((none.after m below).amber 0 first);
      green = λ m below. short_any 0 g (suc m) green Green (green_from (trace one 0 m) (trace one 0 (suc m)) (since (trace one 0) m)) ((none.after m below).green 0 first);
      red = λ m below. short_any 0 g (suc m) red Red (red_from (trace one 0 m) (trace one 0 (suc m)) (since (trace one 0) m)) ((none.after m below).red 0 first);
      running = run (trace one 0 (length one - 1)) (none.last.running 0 first);
    }
  where
    safe : Safe (alone r g green red) one
    safe = record {
      sequence = only (λ (j : ℕ). Sequence (r.red_amber g) (r.amber g) (trace one j) (length one)) kept.sequence;
      min_green = only (λ (j : ℕ). GreenLastsAtLeast green (trace one j) (length one)) kept.min_green;
      min_red = only (λ (j : ℕ). RedLastsAtLeast red (trace one j) (length one)) kept.min_red;
      conflict = λ c e z pair. absurd (let bad : None ≡ Some z = pair.listed in cc);
      intergreen = λ c e z pair. absurd (let bad : None ≡ Some z = pair.listed in cc);
    }

    none : HasNone (alone r g green red) audited one
    none = has_none (alone r g green red) audited one (none_of_safe (alone r g green red) one is safe)

    run : (x : Aspect) → running_breach (alone r g green red) audited (trace one 0) 0 (length one - 1) x ≡ None → running_breach r audited (trace one 0) g (length one - 1) x ≡ None
    run Red h = refl
    run RedAmber h = long_any 0 g (suc (length one - 1)) (r.red_amber g) (since (trace one 0) (length one - 1)) RedAmber h
    run Green h = refl
    run Amber h = long_any 0 g (suc (length one - 1)) (r.amber g) (since (trace one 0) (length one - 1)) Amber h

-- and one that has none keeps them
one_kept : (r : Rules) (one : History) (g green red : ℕ) → IsHistory 1 one → NoneAlone r g green red (trace one 0) (length one) →
    KeptAlone r g green red (trace one 0) (length one)
one_kept r one g green red is none =
    record {
      sequence = safe.sequence 0 first;
      min_green = safe.min_green 0 first;
      min_red = safe.min_red 0 first;
    }
  where
    run : (x : Aspect) → running_breach r audited (trace one 0) g (length one - 1) x ≡ None → running_breach (alone r g green red) audited (trace one 0) 0 (length one - 1) x ≡ None
    run Red h = refl
    run RedAmber h = long_any g 0 (suc (length one - 1)) (r.red_amber g) (since (trace one 0) (length one - 1)) RedAmber h
    run Green h = refl
    run Amber h = long_any g 0 (suc (length one - 1)) (r.amber g) (since (trace one 0) (length one - 1)) Amber h

    has : HasNone (alone r g green red) audited one
    has = record {
      after = λ m below. record {
        step = only (λ (j : ℕ). can_follow (trace one j m) (trace one j (suc m)) ≡ true) (none.step m below);
        red_amber = only (λ (j : ℕ). red_amber_breach (alone r g green red) audited (trace one j) j m ≡ None)
            (other_time_any g 0 (suc m) (r.red_amber g) RedAmber (red_amber_from (trace one 0 m) (trace one 0 (suc m)) (since (trace one 0) m) (suc m)) (none.red_amber m below));
        amber = only (λ (j : ℕ). amber_breach (alone r g green red) audited (trace one j) j m ≡ None)
            (other_time_any g 0 (suc m) (r.amber g) Amber (amber_from (trace one 0 m) (trace one 0 (suc m)) (since (trace one 0) m) (suc m)) (none.amber m below));
        green = only (λ (j : ℕ). green_breach (alone r g green red) audited (trace one j) j m ≡ None)
            (short_any g 0 (suc m) green Green (green_from (trace one 0 m) (trace one 0 (suc m)) (since (trace one 0) m)) (none.green m below));
        red = only (λ (j : ℕ). red_breach (alone r g green red) audited (trace one j) j m ≡ None)
            (short_any g 0 (suc m) red Red (red_from (trace one 0 m) (trace one 0 (suc m)) (since (trace one 0) m)) (none.red m below));
        conflict = λ j i lt lt'. none_conflict (alone r g green red) (not (are_both_on (trace one j) (trace one i) (suc m))) (trace one j) (trace one i) j i m
            (λ pair both. no_pair (nat_lt j i) pair);
        intergreen = λ j i lt lt'. no_wait (not (is_green (trace one j m)) && is_green (trace one j (suc m))) j i (suc m) (last_end true (trace one i) (suc m));
      };
      last = record {
        running = only (λ (j : ℕ). running_breach (alone r g green red) audited (trace one j) j (length one - 1) (trace one j (length one - 1)) ≡ None)
            (run (trace one 0 (length one - 1)) none.running);
        conflict = λ j i lt lt'. none_conflict (alone r g green red) true (trace one j) (trace one i) j i (length one - 1)
            (λ pair both. no_pair (nat_lt j i) pair);
        pending = λ j i lt lt'. no_wait (is_red_amber (trace one j (length one - 1))) j i
            (latest_green (alone r g green red) audited (trace one j) j (length one - 1)) (last_end true (trace one i) (length one - 1));
        hidden = λ j i lt lt'. refl;
      };
    }

    safe : Safe (alone r g green red) one
    safe = none_safe (alone r g green red) one (two_way_alone r g green red) is (none_has (alone r g green red) audited one has)

-- and so of each group of a history
pub kept_none : (r : Rules) (h : History) (g green red : ℕ) → IsHistory r.count h → g < r.count → KeptAlone r g green red (trace h g) (length h) →
    NoneAlone r g green red (trace h g) (length h)
kept_none r h g green red is lt kept =
    from_one g h (NoneAlone r g green red)
    (one_none r (one_group g h) g green red (one_history r g h is lt) (to_one g h (KeptAlone r g green red) kept))

pub none_kept : (r : Rules) (h : History) (g green red : ℕ) → IsHistory r.count h → g < r.count → NoneAlone r g green red (trace h g) (length h) →
    KeptAlone r g green red (trace h g) (length h)
none_kept r h g green red is lt none =
    from_one g h (KeptAlone r g green red)
    (one_kept r (one_group g h) g green red (one_history r g h is lt) (to_one g h (NoneAlone r g green red) none))
