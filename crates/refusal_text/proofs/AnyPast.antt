-- What is said of a refused turn is so whatever was before the log.
use Rattle.std.proofs.Common.{◌≡◌, ◌∙◌, ℕ, ◌-◌, ◌≤◌, ◌==◌, Bool, true, false, length, arith, ap, refl, sym, subst, inl, inr, ◌++◌}
use Rattle.std.specs.Prelude.{if◌then◌else◌}
use Rattle.std.proofs.lemmas.Bool.{cases_eq, ne_eqb}
use Rattle.sig_types.specs.Turns.{trace}
use Rattle.sig_guard.specs.Step.{last_picture}
use Rattle.log_judge.specs.declared.find.Terms.{Terms}
use Rattle.log_judge.specs.declared.why.Finding.{Finding}
use Rattle.log_judge.specs.declared.why.Finding.TheVariants.{Borne, Unknown, Contradicted}
use Rattle.log_judge.specs.declared.why.Reason.{Reason}
use Rattle.log_judge.specs.Explained.{finding_now, reason_now}
use Rattle.log_judge.specs.Refused.{IsBorneOut}
use Rattle.log_judge.specs.Stands.{past_of}
use Rattle.log_judge.proofs.Explaining as explaining
use Rattle.refusal_text.specs.Laws.{IsSo, AnyPastSaysTheSame}
use Rattle.refusal_text.specs.Refusals.{begins_at_rest, pasts_of, said_after, said_by, said_of, terms_from}
use Rattle.refusal_text.proofs.Same.{tab_at}

so_of : (n : ℕ) (f : Finding) (why : Reason) (P : Type 0) → (1 ≤ n → f ≡ Borne → P) → (1 ≤ n → f ≡ Contradicted → P → ⊥) → IsSo (said_after n f why) P
so_of n f why P is_yes is_no = elim (cases_eq n 0) [
  | inl zero_second ↦ subst (λ (b : Bool). IsSo (if b then said_after 0 f why else said_by f why) P) (sym (ap (λ (k : ℕ). k == 0) zero_second)) tt
  | inr some ↦ subst (λ (b : Bool). IsSo (if b then said_after 0 f why else said_by f why) P) (sym (ne_eqb n 0 some)) (go f (λ e. is_yes (omega (arith, some)) e) (λ e. is_no (omega (arith, some)) e))
]
  where
    go : (f : Finding) → (f ≡ Borne → P) → (f ≡ Contradicted → P → ⊥) → IsSo (said_by f why) P
    go Borne is_yes is_no = is_yes refl
    go Unknown is_yes is_no = tt
    go Contradicted is_yes is_no = is_no refl

abbrev terms_with : Bool → Terms
terms_with b = record { rested = b; tolerance = 0 }

pub any_past_says_the_same : AnyPastSaysTheSame
unfolding said_of
any_past_says_the_same r first h front p turn unrested is named =
    so_of (length h) (finding_now r (terms_from first) (length h) (last_picture h) (pasts_of (terms_from first) r.count h) p turn)
    (reason_now r (length h) (last_picture h) (pasts_of (terms_from first) r.count h) p turn) (IsBorneOut r (front ++ h) p turn)
    (λ some e. (said some).0 (here ∙ e)) (λ some e. (said some).1 (here ∙ e))
  where
    k : Terms
    k = record { rested = false; tolerance = 0 }

    same : terms_from first ≡ k
    same = ap terms_with unrested

    here : finding_now r k (length h) (last_picture h) (pasts_of k r.count h) p turn
        ≡ finding_now r (terms_from first) (length h) (last_picture h) (pasts_of (terms_from first) r.count h) p turn
    here = ap (λ (t : Terms). finding_now r t (length h) (last_picture h) (pasts_of t r.count h) p turn) (sym same)

    said : 1 ≤ length h →
        (finding_now r k (length h) (last_picture h) (pasts_of k r.count h) p turn ≡ Borne → IsBorneOut r (front ++ h) p turn)
        × (finding_now r k (length h) (last_picture h) (pasts_of k r.count h) p turn ≡ Contradicted → IsBorneOut r (front ++ h) p turn → ⊥)
    said some = explaining.any_past_says_the_same r h front p turn (pasts_of k r.count h) 0 is some
        (λ g lt. tab_at (λ i. past_of k (trace h i) (length h - 1)) r.count g _ lt) named
