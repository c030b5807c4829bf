-- What the words on a beginning say of a trace.
use Rattle.std.proofs.Common.{◌≡◌, ℕ, zero, suc, ◌+◌, ◌-◌, ◌<◌, ◌≤◌, Bool, true, false, not, ◌&&◌, Option, Some, None, refl, arith, sym, inl, inr, ap, ◌∙◌, subst, nat_le, if◌then◌else◌}
use Rattle.std.proofs.lemmas.Bool.{cases_eq, leb-true}
use Rattle.sig_types.specs.declared.aspect.Aspect.{Aspect}
use Rattle.sig_types.specs.declared.aspect.Aspect.TheVariants.{Red, RedAmber, Green, Amber}
use Rattle.sig_types.specs.Turns.{same_aspect, is_green, turns_green_at}
use Rattle.sig_types.specs.Words.{or_here}
use Rattle.sig_guard.proofs.Aged.{same_is}
use Rattle.log_judge.specs.Past.{first_over, first_green}
use Rattle.log_judge.specs.Opening.{is_amber, left_of, shown_first}
use Rattle.log_judge.proofs.Runs.{clash, same_true}

-- in second `over` the trace first shows something else than in second 0
pub record IsOver (a : ℕ → Aspect) (t over : ℕ) : Type 0 where
  pub at_most : over ≤ t
  pub later : 1 ≤ over
  pub stays : (u : ℕ) → u < over → a u ≡ a 0
  pub other : a over ≡ a 0 → ⊥

pub not_over : (a : ℕ → Aspect) (t u : ℕ) → first_over a t ≡ None → u ≤ t → a u ≡ a 0
not_over a zero u none le = (let z : u ≡ 0 = omega (arith, le) in ap a z)
not_over a (suc t) u none le = go (λ (v : ℕ) (h : first_over a t ≡ None) (lt : v ≤ t). not_over a t v h lt) (first_over a t) refl (same_aspect (a t) (a (suc t))) refl none
  where
    go : ((v : ℕ) → first_over a t ≡ None → v ≤ t → a v ≡ a 0) → (o : Option ℕ) → first_over a t ≡ o → (b : Bool) → same_aspect (a t) (a (suc t)) ≡ b →
        or_here o (not b) (suc t) ≡ None → a u ≡ a 0
    go rest (Some x) e b same h = absurd (cc)
    go rest None e false same h = absurd (cc)
    go rest None e true same h = elim (cases_eq u (suc t)) [
      | inl now ↦ ap a now ∙ sym (same_is _ _ same) ∙ rest t e (omega arith)
      | inr ne ↦ rest u e (omega (arith, le, ne))
    ]

pub is_over : (a : ℕ → Aspect) (t over : ℕ) → first_over a t ≡ Some over → IsOver a t over
is_over a zero over e = absurd (cc)
is_over a (suc t) over e = go (λ (h : first_over a t ≡ Some over). is_over a t over h) (first_over a t) refl (same_aspect (a t) (a (suc t))) refl e
  where
    go : (first_over a t ≡ Some over → IsOver a t over) → (o : Option ℕ) → first_over a t ≡ o → (b : Bool) → same_aspect (a t) (a (suc t)) ≡ b →
        or_here o (not b) (suc t) ≡ Some over → IsOver a (suc t) over
    go rest (Some x) is b same h =
        let old = rest (is ∙ h) in
        record { at_most = omega (arith, old.at_most); later = old.later; stays = old.stays; other = old.other }
    go rest None is true same h = absurd (cc)
    go rest None is false same h =
        let now : suc t ≡ over = cc in
        record {
          at_most = omega (arith, now);
          later = omega (arith, now);
          stays = λ u lt. not_over a t u is (omega (arith, lt, now));
          other = λ at. clash _ (same_true (a t) (a (suc t)) (not_over a t t is (omega arith) ∙ sym (ap a now ∙ at))) same;
        }

-- the first turn to green is one
pub first_turn : (a : ℕ → Aspect) (t x : ℕ) → first_green a t ≡ Some x → (x ≤ t) × (turns_green_at a x ≡ true)
first_turn a zero x e = absurd (cc)
first_turn a (suc t) x e = go (λ (h : first_green a t ≡ Some x). first_turn a t x h) (first_green a t) refl (not (is_green (a t)) && is_green (a (suc t))) refl e
  where
    go : (first_green a t ≡ Some x → (x ≤ t) × (turns_green_at a x ≡ true)) → (o : Option ℕ) → first_green a t ≡ o → (b : Bool) →
        (not (is_green (a t)) && is_green (a (suc t))) ≡ b → or_here o b (suc t) ≡ Some x → (x ≤ suc t) × (turns_green_at a x ≡ true)
    go rest (Some y) is b turn h = (let old = rest (is ∙ h) in (omega (arith, old.0), old.1))
    go rest None is true turn h = (let now : suc t ≡ x = cc in (omega (arith, now), subst (λ (u : ℕ). turns_green_at a u ≡ true) now turn))
    go rest None is false turn h = absurd (cc)

-- so many seconds from the first one on show what it shows
pub record FirstRun (a : ℕ → Aspect) (m n : ℕ) : Type 0 where
  pub some : 1 ≤ n
  pub at_most : n ≤ suc m
  pub stays : (u : ℕ) → u < n → a u ≡ a 0

pub first_run : (a : ℕ → Aspect) (m : ℕ) → FirstRun a m (shown_first (first_over a m) (suc m))
first_run a m = go (first_over a m) refl
  where
    go : (o : Option ℕ) → first_over a m ≡ o → FirstRun a m (shown_first o (suc m))
    go None e = record { some = omega arith; at_most = omega arith; stays = λ u lt. not_over a m u e (omega (arith, lt)) }
    go (Some over) e =
        let is = is_over a m over e in
        record { some = is.later; at_most = omega (arith, is.at_most); stays = is.stays }

pub left_is : (most n e : ℕ) → left_of most n ≡ Some e → n + e ≡ most
left_is most n e some = go (nat_le n most) refl some
  where
    go : (b : Bool) → nat_le n most ≡ b → (if b then Some (most - n) else None) ≡ Some e → n + e ≡ most
    go true le h = (let at : most - n ≡ e = cc in let most_le = leb-true n most le in omega (arith, at, most_le))
    go false gt h = absurd (cc)

pub amber_is : (x : Aspect) → is_amber x ≡ true → x ≡ Amber
amber_is Red h = absurd (cc)
amber_is RedAmber h = absurd (cc)
amber_is Green h = absurd (cc)
amber_is Amber h = refl
