-- One more finding that is told or allowed.
use Rattle.std.proofs.Common.{◌≡◌, ◌<◌, arith, length, map, Bool, true, false, cond, List, [], ◌∷◌, ◌++◌, ℕ, Option, ap, refl, sym, ◌∙◌, append-nil}
use Rattle.std.specs.Prelude.{filter, not}
use Rattle.pua_model.specs.Plan.{PlanOf}
use Rattle.site_findings.specs.declared.finding.Finding.{Finding}
use Rattle.site_findings.specs.declared.finding.Examined.{Examined}
use Rattle.site_findings.specs.declared.finding.Told.{Told}
use Rattle.site_findings.specs.declared.finding.Told.TheVariants.{Refused, Unread, NotJudged, Warned}
use Rattle.site_findings.specs.Allowed.{IsKept, allowed_in, is_allowed_told, kept}

over : {X : Type 0} (t : Bool) (y : X) (a b r : List X) → a ≡ b ++ r → cond t (y ∷ a) a ≡ cond t (y ∷ b) b ++ r
over true y a b r h = ap (λ l. y ∷ l) h
over false y a b r h = h

filter-push : {X : Type 0} (p : X → Bool) (xs : List X) (x : X) → filter p (xs ++ x ∷ []) ≡ filter p xs ++ cond (p x) (x ∷ []) []
filter-push p [] x = refl
filter-push p (y ∷ ys) x = over (p y) y (filter p (ys ++ x ∷ [])) (filter p ys) (cond (p x) (x ∷ []) []) (filter-push p ys x)

pub kept_more : (plan : Option PlanOf) (allowed : List (List ℕ)) (fs : List Finding) (f : Finding) →
    false ≡ is_allowed_told plan allowed f.told → kept plan allowed (fs ++ f ∷ []) ≡ kept plan allowed fs ++ f ∷ []
kept_more plan allowed fs f h =
    filter-push (λ g. not (is_allowed_told plan allowed g.told)) fs f
    ∙ ap (λ t. kept plan allowed fs ++ cond (not t) (f ∷ []) []) (sym h)

pub kept_same : (plan : Option PlanOf) (allowed : List (List ℕ)) (fs : List Finding) (f : Finding) →
    true ≡ is_allowed_told plan allowed f.told → kept plan allowed (fs ++ f ∷ []) ≡ kept plan allowed fs
kept_same plan allowed fs f h =
    filter-push (λ g. not (is_allowed_told plan allowed g.told)) fs f
    ∙ (ap (λ t. kept plan allowed fs ++ cond (not t) (f ∷ []) []) (sym h) ∙ append-nil (kept plan allowed fs))

-- words too few for one that is allowed
pub none_allowed : {X : Type 0} (f : X → List ℕ) (words : List X) → length words < 2 → allowed_in (map f words) ≡ []
none_allowed f [] h = refl
none_allowed f (w ∷ []) h = refl
none_allowed f (w ∷ x ∷ ws) h = let no : ⊥ = omega (arith, h) in absurd no

told-all : (plan : Option PlanOf) (told : Told) → is_allowed_told plan [] told ≡ false
told-all plan (Refused refusal) = refl
told-all plan Unread = refl
told-all plan NotJudged = refl
told-all plan (Warned warning) = refl

kept-all : (plan : Option PlanOf) (fs : List Finding) → kept plan [] fs ≡ fs
kept-all plan [] = refl
kept-all plan (f ∷ fs) =
    ap (λ t. cond (not t) (f ∷ kept plan [] fs) (kept plan [] fs)) (told-all plan f.told) ∙ ap (λ gs. f ∷ gs) (kept-all plan fs)

-- where nothing is allowed, all is told
pub all_kept : (allowed : List (List ℕ)) (examined : Examined) → allowed ≡ [] → IsKept allowed examined examined
all_kept allowed examined e = record {
  findings = sym (ap (λ texts. kept examined.plan texts examined.findings.items) e ∙ kept-all examined.plan examined.findings.items);
  plan = refl;
  worst = refl;
  advice = refl;
  pua = refl;
  times = refl;
  intergreens = refl;
  program = refl;
  detectors = refl;
}
