-- What is left of findings where some warnings are allowed.
use Rattle.std.proofs.Common.{◌≡◌, Bool, true, false, cond, ◌||◌, List, [], ◌∷◌, ℕ, ap, refl, ◌∙◌, sym}
use Rattle.std.specs.Prelude.{filter, not, if◌then◌else◌, Result, Ok, Err}
use Rattle.std.specs.List.{list_any}
use Rattle.site_findings.specs.declared.finding.Examined.{Examined}
use Rattle.site_findings.specs.declared.finding.Finding.{Finding}
use Rattle.site_findings.specs.Allowed.{IsKept, is_allowed_told, kept}
use Rattle.site_check.specs.declared.status.CheckStatus.{CheckStatus}
use Rattle.site_check.specs.declared.status.CheckStatus.TheVariants as status
use Rattle.site_check.specs.declared.status.Stop.{Stop}
use Rattle.site_check.specs.Call.{any_status, has_refused_finding, status_of}
use Rattle.site_check.specs.Examined.{has_unread_finding, is_unread_told}

or_more : (a b c : Bool) → (b ≡ true → c ≡ true) → (a || b) ≡ true → (a || c) ≡ true
or_more true b c more h = refl
or_more false b c more h = more h

or_right : (a c : Bool) → c ≡ true → (a || c) ≡ true
or_right true c h = refl
or_right false c h = h

any_step : {X : Type 0} (p : X → Bool) (t : Bool) (x : X) (ys xs : List X) → (list_any p ys ≡ true → list_any p xs ≡ true) →
    list_any p (cond t (x ∷ ys) ys) ≡ true → list_any p (x ∷ xs) ≡ true
any_step p true x ys xs more h = or_more (p x) (list_any p ys) (list_any p xs) more h
any_step p false x ys xs more h = or_right (p x) (list_any p xs) (more h)

any-filter : {X : Type 0} (p q : X → Bool) (xs : List X) → list_any p (filter q xs) ≡ true → list_any p xs ≡ true
any-filter p q [] h = h
any-filter p q (x ∷ xs) h = any_step p (q x) x (filter q xs) xs (any-filter p q xs) h

-- a file that could not be read is told before too
pub unread_before : (allowed : List (List ℕ)) (old new : Examined) → IsKept allowed old new →
    has_unread_finding new.findings.items ≡ true → has_unread_finding old.findings.items ≡ true
unread_before allowed old new is h =
    any-filter (λ f. is_unread_told f.told) (λ f. not (is_allowed_told old.plan allowed f.told)) old.findings.items
    (sym (ap has_unread_finding is.findings) ∙ h)

abbrev is_fault : CheckStatus → Bool
is_fault status.Clean = false
is_fault status.Warned = false
is_fault status.Refused = false
is_fault status.Words = false
is_fault status.ReadFault = true
is_fault status.WriteFault = false
is_fault status.Memory = false

abbrev is_given_fault : Result CheckStatus Stop → Bool
is_given_fault (Ok ended) = is_fault ended
is_given_fault (Err stop) = false

fault_of : (unread refused : Bool) (findings : List Finding) →
    is_fault (if unread then status.ReadFault else (if refused then status.Refused else any_status findings)) ≡ true → unread ≡ true
fault_of true refused findings h = refl
fault_of false true findings h = h
fault_of false false [] h = h
fault_of false false (f ∷ fs) h = h

-- a call ends so only where it was told before what was allowed was left out
pub unread_given : (allowed : List (List ℕ)) (old new : Examined) (ended : CheckStatus) → IsKept allowed old new →
    ended ≡ status_of new.findings.items → ◌≡◌ {A = Result CheckStatus Stop} (Ok ended) (Ok status.ReadFault) → has_unread_finding old.findings.items ≡ true
unread_given allowed old new ended is end given =
    let findings = new.findings.items in
    unread_before allowed old new is (fault_of (has_unread_finding findings) (has_refused_finding findings) findings
    (sym (ap is_fault end) ∙ ap is_given_fault given))
