-- The refused records of a table that are told, one more at the end.
use Rattle.std.proofs.Common.{◌≡◌, ◌∙◌, ◌<◌, ℕ, Bool, true, false, cond, List, [], ◌∷◌, ◌++◌, map, refl, sym, ap, append_assoc, append-nil}
use Rattle.std.specs.Prelude.{filter, nat_lt}
use Rattle.sig_tables.specs.Refusals.{Refusal}
use Rattle.site_findings.specs.declared.finding.FileKind.{FileKind}
use Rattle.site_findings.specs.declared.finding.Finding.{Finding}
use Rattle.site_check.specs.Further.{of_record}

over : {X Y : Type 0} (t : Bool) (f : X → Y) (y : X) (a b : List X) (r : List Y) → map f a ≡ map f b ++ r →
    map f (cond t (y ∷ a) a) ≡ map f (cond t (y ∷ b) b) ++ r
over true f y a b r h = ap (λ l. f y ∷ l) h
over false f y a b r h = h

pushed : {X Y : Type 0} (f : X → Y) (p : X → Bool) (xs : List X) (x : X) →
    map f (filter p (xs ++ x ∷ [])) ≡ map f (filter p xs) ++ map f (cond (p x) (x ∷ []) [])
pushed f p [] x = refl
pushed f p (y ∷ ys) x = over (p y) f y (filter p (ys ++ x ∷ [])) (filter p ys) (map f (cond (p x) (x ∷ []) [])) (pushed f p ys x)

-- a record behind this one is told
pub told_more : (file : FileKind) (behind : ℕ) (first : List Finding) (seen : List Refusal) (r : Refusal) (old new : List Finding) →
    nat_lt behind r.0 ≡ true → old ≡ first ++ map (of_record file) (filter (λ r. nat_lt behind r.0) seen) → new ≡ old ++ of_record file r ∷ [] →
    new ≡ first ++ map (of_record file) (filter (λ r. nat_lt behind r.0) (seen ++ r ∷ []))
told_more file behind first seen r old new at so put =
    put ∙ (ap (λ l. l ++ of_record file r ∷ []) so
    ∙ (append_assoc first (map (of_record file) (filter (λ r. nat_lt behind r.0) seen)) (of_record file r ∷ [])
    ∙ ap (λ l. first ++ l)
    (ap (λ b. map (of_record file) (filter (λ r. nat_lt behind r.0) seen) ++ map (of_record file) (cond b (r ∷ []) [])) (sym at)
    ∙ sym (pushed (of_record file) (λ r. nat_lt behind r.0) seen r))))

-- any other isn't
pub told_same : (file : FileKind) (behind : ℕ) (first : List Finding) (seen : List Refusal) (r : Refusal) (old : List Finding) →
    nat_lt behind r.0 ≡ false → old ≡ first ++ map (of_record file) (filter (λ r. nat_lt behind r.0) seen) →
    old ≡ first ++ map (of_record file) (filter (λ r. nat_lt behind r.0) (seen ++ r ∷ []))
told_same file behind first seen r old at so =
    so ∙ ap (λ l. first ++ l)
    (sym (pushed (of_record file) (λ r. nat_lt behind r.0) seen r
    ∙ (ap (λ b. map (of_record file) (filter (λ r. nat_lt behind r.0) seen) ++ map (of_record file) (cond b (r ∷ []) [])) at
    ∙ append-nil (map (of_record file) (filter (λ r. nat_lt behind r.0) seen)))))
