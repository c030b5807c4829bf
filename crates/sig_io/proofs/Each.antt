-- Pieces that are put one after the other.
use Rattle.std.proofs.Common.{◌≡◌, ◌∙◌, ℕ, zero, suc, ◌+◌, ◌<◌, List, [], ◌∷◌, ◌++◌, length, take, get_or, Option, refl, sym, ap, subst, arith, append_assoc}
use Rattle.std.specs.Prelude.{drop}
use Rattle.std.specs.List.{flat_map}
use Rattle.std.specs.Io.KnownBytes.{append_known}
use Rattle.sig_io.specs.Draft.{IsCut}
use Rattle.sig_io.proofs.Drafts.{cut_off, cut_more}

-- the pieces before one of them, that one, and those after it
split_at : {X : Type 0} (f : X → List ℕ) (xs : List X) (k : ℕ) (d : X) → k < length xs →
    flat_map f xs ≡ (flat_map f (take k xs) ++ f (get_or xs k d)) ++ flat_map f (drop (suc k) xs)
split_at f [] k d low = absurd (omega arith)
split_at f (x ∷ xs) zero d low = refl
split_at f (x ∷ xs) (suc k) d low =
    ap (λ l. f x ++ l) (split_at f xs k d (omega arith))
    ∙ sym (append_assoc (f x) (flat_map f (take k xs) ++ f (get_or xs k d)) (flat_map f (drop (suc k) xs)))
    ∙ ap (λ l. l ++ flat_map f (drop (suc k) xs)) (sym (append_assoc (f x) (flat_map f (take k xs)) (f (get_or xs k d))))

-- the sink had taken the pieces before the one at place k, and of that one only t bytes
pub cut_in : {X : Type 0} (f : X → List ℕ) (start now new : Option (List ℕ)) (xs : List X) (k t : ℕ) (d : X) → k < length xs →
    now ≡ append_known start (flat_map f (take k xs)) → t < length (f (get_or xs k d)) → new ≡ append_known now (take t (f (get_or xs k d))) →
    (n : ℕ) × IsCut start new n (flat_map f xs)
cut_in f start now new xs k t d low taken below step =
    let front : List ℕ = flat_map f (take k xs) in
    let piece : List ℕ = f (get_or xs k d) in
    let rest : List ℕ = flat_map f (drop (suc k) xs) in
    let cut = cut_off start now new front piece t (front ++ piece) refl taken below step in (
      length front + t,
      subst (λ text. IsCut start new (length front + t) text) (sym (split_at f xs k d low)) (cut_more start new (length front + t) (front ++ piece) rest cut),
    )
