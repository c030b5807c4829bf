-- Each turn that the guard refuses breaks a rule of turns, with another group exactly where the rule speaks of two.
use Rattle.std.proofs.Common.{◌≡◌, ℕ, Bool, true, false, not, List, Option, Some, None, IfSome, All, refl}
use Rattle.std.specs.Option.{option_or}
use Rattle.sig_types.specs.declared.aspect.Rule.TheVariants.{Sequence, MinGreen, MinRed, Conflict, Intergreen}
use Rattle.sig_types.specs.declared.refused.TurnRefusal.{TurnRefusal}
use Rattle.sig_types.specs.FirstRefused.{when}
use Rattle.sig_types.specs.Rules.{Rules}
use Rattle.sig_types.specs.Turns.{History, Picture, is_green, is_red, trace}
use Rattle.sig_types.specs.Words.{least_below}
use Rattle.sig_guard.specs.Step.{last, alone, end_breach, guard_refused, is_green_short, is_in_conflict, is_red_short, is_uncleared, refusal, start_breach, starts_below, with_group}
use Rattle.sig_guard.proofs.EachRefusal.{each_refused}
use Rattle.report_seen.specs.WrittenLogs.{IsOfTurns}

-- a refused turn with a rule of turns
abbrev Ruled : TurnRefusal → Type 0
Ruled turn = IsOfTurns turn.rule turn.other

first_or : {B : Type 0} (P : B → Type 0) (a b : Option B) → IfSome a P → IfSome b P → IfSome (option_or a b) P
first_or P None b here later = later
first_or P (Some x) b here later = here

where_so : {B : Type 0} (P : B → Type 0) (b : Bool) (x : B) → P x → IfSome (when b x) P
where_so P true x is = is
where_so P false x is = tt

known : {B : Type 0} (P : B → Type 0) (o : Option B) (x : B) → IfSome o P → o ≡ Some x → P x
known P None x is e = cc
known P (Some b) x is e = let same : b ≡ x = cc in rw (← same) is

with_conflict : (g : ℕ) (o : Option ℕ) → IfSome (with_group o Conflict) (λ b. Ruled (refusal g b))
with_conflict g None = tt
with_conflict g (Some i) = (record { 0 = i }, refl)

with_intergreen : (g : ℕ) (o : Option ℕ) → IfSome (with_group o Intergreen) (λ b. Ruled (refusal g b))
with_intergreen g None = tt
with_intergreen g (Some i) = (record { 0 = i }, refl)

module _ (r : Rules) (h : History) (g : ℕ) where
  end_ruled : IfSome (end_breach r h g) (λ b. Ruled (refusal g b))
  unfolding end_breach
  end_ruled =
      let green = when (is_green_short r h g) (alone MinGreen) in
      first_or (λ b. Ruled (refusal g b)) (when (not (is_green (trace h g (last h)))) (alone Sequence)) (option_or green None)
      (where_so (λ b. Ruled (refusal g b)) (not (is_green (trace h g (last h)))) (alone Sequence) refl)
      (first_or (λ b. Ruled (refusal g b)) green None (where_so (λ b. Ruled (refusal g b)) (is_green_short r h g) (alone MinGreen) refl) tt)

  start_ruled : (p : Picture) → IfSome (start_breach r h p g) (λ b. Ruled (refusal g b))
  unfolding start_breach
  start_ruled p =
      let red = when (is_red_short r h g) (alone MinRed) in
      let apart : ℕ → Bool = is_in_conflict r p g in
      let early : ℕ → Bool = is_uncleared r h p g in
      let conflict = with_group (least_below apart r.count) Conflict in
      let intergreen = with_group (least_below early r.count) Intergreen in
      first_or (λ b. Ruled (refusal g b)) (when (not (is_red (trace h g (last h)))) (alone Sequence)) (option_or red (option_or conflict (option_or intergreen None)))
      (where_so (λ b. Ruled (refusal g b)) (not (is_red (trace h g (last h)))) (alone Sequence) refl)
      (first_or (λ b. Ruled (refusal g b)) red (option_or conflict (option_or intergreen None))
      (where_so (λ b. Ruled (refusal g b)) (is_red_short r h g) (alone MinRed) refl)
      (first_or (λ b. Ruled (refusal g b)) conflict (option_or intergreen None) (with_conflict g (least_below apart r.count))
      (first_or (λ b. Ruled (refusal g b)) intergreen None (with_intergreen g (least_below early r.count)) tt)))

pub turns_have_rules : (r : Rules) (h : History) (wishes : List Bool) → All Ruled (guard_refused r h wishes)
turns_have_rules r h wishes = each_refused Ruled r h wishes
    (λ g breach lt wished is. known (λ b. Ruled (refusal g b)) (end_breach r h g) breach (end_ruled r h g) is)
    (λ g breach lt wished is. known (λ b. Ruled (refusal g b)) (start_breach r h (starts_below r h wishes g).picture g) breach
    (start_ruled r h g (starts_below r h wishes g).picture) is)
