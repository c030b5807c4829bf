-- In a second in which each group rests nothing is broken.
use Rattle.std.proofs.Common.{◌≡◌, ℕ, suc, ◌-◌, ◌<◌, Bool, true, false, not, ◌&&◌, Option, Some, None, is_some, refl, arith, sym, ap, subst, ◌∙◌, length, [], ◌∷◌, ◌++◌}
use Rattle.sig_types.specs.declared.aspect.Aspect.{Aspect}
use Rattle.sig_types.specs.declared.aspect.Aspect.TheVariants.{Red, RedAmber, Green, Amber}
use Rattle.sig_types.specs.declared.aspect.Rule.{Rule}
use Rattle.sig_types.specs.declared.aspect.Rule.TheVariants as rule
use Rattle.sig_types.specs.Rules.{Rules}
use Rattle.sig_types.specs.Turns.{Picture, History, shown, trace, is_red, is_green, is_on}
use Rattle.sig_types.proofs.LastBelow.{least_below-never}
use Rattle.sig_guard.specs.declared.present.Present.{Present}
use Rattle.sig_guard.specs.Present.{IsPresent}
use Rattle.sig_guard.specs.Safety.{Safe}
use Rattle.sig_guard.specs.Step.{natural_after, is_in_conflict}
use Rattle.sig_guard.proofs.MachineLemmas.{natural_red, natural_green}
use Rattle.sig_guard.proofs.PresentIs.{shows}
use Rattle.sig_audit.specs.NewSecond.{leaves_sequence, breaks_sequence, breaks_min_green, breaks_min_red, lowest_on, breaks_conflict, breaks_intergreen, breaks_now, broken_verdict, broken_now}
use Rattle.sig_audit.specs.Resting.{rests}
use Rattle.sig_audit.proofs.NextJudged.{none_broken}

-- what a group that rests shows, it showed
same : (a x : Aspect) → rests a x ≡ true → x ≡ a
same Red Red h = refl
same Red RedAmber h = absurd (cc)
same Red Green h = absurd (cc)
same Red Amber h = absurd (cc)
same RedAmber x h = absurd (cc)
same Green Red h = absurd (cc)
same Green RedAmber h = absurd (cc)
same Green Green h = refl
same Green Amber h = absurd (cc)
same Amber x h = absurd (cc)

-- it keeps its sequence
keeps_sequence : (ra am : ℕ) (a : ℕ → Aspect) (m : ℕ) (was x : Aspect) → a m ≡ was → rests was x ≡ true →
    leaves_sequence ra am was (natural_after ra am a m) x ≡ false
keeps_sequence ra am a m Red Red is h = rw (← natural_red ra am a m is) refl
keeps_sequence ra am a m Red RedAmber is h = absurd (cc)
keeps_sequence ra am a m Red Green is h = absurd (cc)
keeps_sequence ra am a m Red Amber is h = absurd (cc)
keeps_sequence ra am a m RedAmber x is h = absurd (cc)
keeps_sequence ra am a m Green Red is h = absurd (cc)
keeps_sequence ra am a m Green RedAmber is h = absurd (cc)
keeps_sequence ra am a m Green Green is h = rw (← natural_green ra am a m is) refl
keeps_sequence ra am a m Green Amber is h = absurd (cc)
keeps_sequence ra am a m Amber x is h = absurd (cc)

-- it neither ends nor starts
no_end : (was x : Aspect) (c : Bool) → rests was x ≡ true → ((is_green was && not (is_green x)) && c) ≡ false
no_end Red x c h = refl
no_end RedAmber x c h = refl
no_end Green Red c h = absurd (cc)
no_end Green RedAmber c h = absurd (cc)
no_end Green Green c h = refl
no_end Green Amber c h = absurd (cc)
no_end Amber x c h = refl

no_start : (was x : Aspect) (c : Bool) → rests was x ≡ true → ((is_red was && is_on x) && c) ≡ false
no_start Red Red c h = refl
no_start Red RedAmber c h = absurd (cc)
no_start Red Green c h = absurd (cc)
no_start Red Amber c h = absurd (cc)
no_start RedAmber x c h = refl
no_start Green x c h = refl
no_start Amber x c h = refl

-- a pair that conflicts
apart_pair : (o : Option ℕ) (on : Bool) → ((z : ℕ) → o ≡ Some z → on ≡ true → ⊥) → (is_some o && on) ≡ false
apart_pair None on never = refl
apart_pair (Some z) true never = absurd (never z refl refl)
apart_pair (Some z) false never = refl

off_or : (on : Bool) (o : Option ℕ) → (on ≡ true → o ≡ None) → (on && is_some o) ≡ false
off_or true o none = ap is_some (none refl)
off_or false o none = refl

module _ (r : Rules) (h : History) (p : Picture) (len : length h ≡ suc (length h - 1)) (safe : Safe r h)
    (rest : (g : ℕ) → g < r.count → rests (trace h g (length h - 1)) (shown p g) ≡ true) where
  still : (g : ℕ) → g < r.count → shown p g ≡ trace h g (length h - 1)
  still g lt = same (trace h g (length h - 1)) (shown p g) (rest g lt)

  none_broken_by : (asked : Rule) → ((g : ℕ) → g < r.count → breaks_now r h p asked g ≡ false) → broken_now r h p asked ≡ None
  unfolding broken_now
  none_broken_by asked none = ap (broken_verdict r h p asked) (least_below-never (λ g. breaks_now r h p asked g) r.count none)

  sequence : (g : ℕ) → g < r.count → breaks_sequence r h p g ≡ false
  unfolding breaks_sequence
  sequence g lt = keeps_sequence (r.red_amber g) (r.amber g) (trace h g) (length h - 1) (trace h g (length h - 1)) (shown p g) refl (rest g lt)

  min_green : (g : ℕ) → g < r.count → breaks_min_green r h p g ≡ false
  unfolding breaks_min_green
  min_green g lt = no_end (trace h g (length h - 1)) (shown p g) _ (rest g lt)

  min_red : (g : ℕ) → g < r.count → breaks_min_red r h p g ≡ false
  unfolding breaks_min_red
  min_red g lt = no_start (trace h g (length h - 1)) (shown p g) _ (rest g lt)

  alone : (g : ℕ) → g < r.count → is_on (shown p g) ≡ true → lowest_on r p g ≡ None
  unfolding lowest_on
  alone g lt on = least_below-never (λ i. is_in_conflict r p g i) r.count (λ i below.
      apart_pair (r.between i g) (is_on (shown p i)) (λ z pair other.
      safe.conflict i g z (record { clearing_of_site = below; entering_of_site = lt; listed = pair }) (length h - 1) (omega (arith, len))
      (ap is_on (sym (still i below)) ∙ other) (ap is_on (sym (still g lt)) ∙ on)))

  conflict : (g : ℕ) → g < r.count → breaks_conflict r p g ≡ false
  unfolding breaks_conflict
  conflict g lt = off_or (is_on (shown p g)) (lowest_on r p g) (alone g lt)

  intergreen : (g : ℕ) → g < r.count → breaks_intergreen r h p g ≡ false
  unfolding breaks_intergreen
  intergreen g lt = no_start (trace h g (length h - 1)) (shown p g) _ (rest g lt)

  -- the history with the picture is safe
  pub safe_at_rest : Safe r (h ++ p ∷ [])
  safe_at_rest = none_broken r h p len safe (none_broken_by rule.Sequence sequence) (none_broken_by rule.MinGreen min_green)
      (none_broken_by rule.MinRed min_red) (none_broken_by rule.Conflict conflict) (none_broken_by rule.Intergreen intergreen)

-- what is asked of the kept picture is said of the history
pub at_rest : (present : Present) (h : History) (p last : Picture) (g : ℕ) → IsPresent present h → last ≡ present.picture →
    rests (shown last g) (shown p g) ≡ true → rests (trace h g (length h - 1)) (shown p g) ≡ true
at_rest present h p last g s is rest =
    subst (λ (a : Aspect). rests a (shown p g) ≡ true) (ap (λ (q : Picture). shown q g) is ∙ shows present h g s) rest
