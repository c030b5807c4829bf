-- The breaches of a part, while its pictures come.
use Rattle.std.proofs.Common.{◌≡◌, ◌∙◌, ℕ, ◌+◌, ◌-◌, ◌≤◌, List, [], ◌∷◌, ◌++◌, length, refl, sym, ap, subst, append_assoc, arith}
use Rattle.std.specs.Prelude.{replicate}
use Rattle.std.proofs.lemmas.List.{replicate_more}
use Rattle.sig_types.specs.Rules.{Rules}
use Rattle.sig_types.specs.Turns.{Picture, History}
use Rattle.log_judge.specs.declared.breach.Breach.{Breach}
use Rattle.log_judge.specs.declared.find.Terms.{Terms}
use Rattle.log_judge.specs.declared.judge.Judge.{Judge}
use Rattle.log_judge.specs.Breaches.{breaches, breaches_after, breaches_within, last_breaches}
use Rattle.log_judge.specs.Stands.{StandsFor, seconds_of, terms_of}
use Rattle.log_judge.proofs.AllFound.{none_of_none, none_within}
use Rattle.log_judge.proofs.Within.{within_more, within_one}
use Rattle.tenth_report.specs.Search.{IsJudged}

-- a judge knows how many pictures it stands for
pub stands_count : (judge : Judge) (h : History) → StandsFor judge h → length h ≡ seconds_of judge
unfolding StandsFor seconds_of
stands_count judge h stands = stands.seconds

-- one picture more, behind breaches that were there before
next_judged : (r : Rules) (k : Terms) (h : History) (p : Picture) (before xs ys : List Breach) → xs ≡ before ++ breaches_within r k h →
    (length h ≡ 0 → ys ≡ xs) → (1 ≤ length h → ys ≡ xs ++ breaches_after r k (h ++ p ∷ []) (length h - 1)) →
    ys ≡ before ++ breaches_within r k (h ++ p ∷ [])
next_judged r k [] p before xs ys was first later =
    first refl ∙ was ∙ ap (λ (zs : List Breach). before ++ zs) (none_within r k ∙ sym (within_one r k p))
next_judged r k (q ∷ qs) p before xs ys was first later =
    later (omega arith)
    ∙ ap (λ (zs : List Breach). zs ++ breaches_after r k ((q ∷ qs) ++ p ∷ []) (length (q ∷ qs) - 1)) was
    ∙ append_assoc before (breaches_within r k (q ∷ qs)) (breaches_after r k ((q ∷ qs) ++ p ∷ []) (length (q ∷ qs) - 1))
    ∙ ap (λ (zs : List Breach). before ++ zs) (sym (within_more r k (q ∷ qs) p (omega arith)))

-- a picture that was shown in n tenths is shown in one more
pub one_more : (r : Rules) (k : Terms) (before : List Breach) (h : History) (p : Picture) (n : ℕ) (old new : Judge) (xs ys : List Breach) →
    IsJudged r k before (h ++ replicate n p) old xs → terms_of old ≡ k →
    ((g : History) → StandsFor old g → StandsFor new (g ++ p ∷ [])) → (seconds_of old ≡ 0 → ys ≡ xs) →
    ((g : History) → StandsFor old g → 1 ≤ length g → ys ≡ xs ++ breaches_after r (terms_of old) (g ++ p ∷ []) (length g - 1)) →
    IsJudged r k before (h ++ replicate (n + 1) p) new ys
one_more r k before h p n old new xs ys was same shows none some =
    let g : History = h ++ replicate n p in
    let longer : g ++ p ∷ [] ≡ h ++ replicate (n + 1) p =
    append_assoc h (replicate n p) (p ∷ []) ∙ ap (λ (t : History). h ++ t) (replicate_more n p) in
    record {
      stands = subst (λ (t : History). StandsFor new t) longer (shows g was.stands);
      found_are =
          next_judged r k g p before xs ys was.found_are (λ z. none (sym (stands_count old g was.stands) ∙ z))
          (λ z. some g was.stands z ∙ ap (λ (x : Terms). xs ++ breaches_after r x (g ++ p ∷ []) (length g - 1)) same)
          ∙ ap (λ (t : History). before ++ breaches_within r k t) longer;
    }

-- the end of a part with pictures
pub with_last : (r : Rules) (k : Terms) (before : List Breach) (h : History) (xs ys : List Breach) → xs ≡ before ++ breaches_within r k h →
    ys ≡ xs ++ last_breaches r k h (length h - 1) → ys ≡ before ++ breaches r k h
unfolding breaches
with_last r k before h xs ys was last =
    last ∙ ap (λ (zs : List Breach). zs ++ last_breaches r k h (length h - 1)) was
    ∙ append_assoc before (breaches_within r k h) (last_breaches r k h (length h - 1))

-- and of one without
pub with_none : (r : Rules) (k : Terms) (before : List Breach) (h : History) (xs : List Breach) → length h ≡ 0 → xs ≡ before ++ breaches_within r k h →
    xs ≡ before ++ breaches r k h
with_none r k before [] xs none was = was ∙ ap (λ (zs : List Breach). before ++ zs) (none_within r k ∙ sym (none_of_none r k))
with_none r k before (p ∷ h) xs none was = absurd (omega (arith, none))
