-- What records tell, with a record more.
use Rattle.std.proofs.Common.{◌≡◌, ◌∙◌, ℕ, zero, suc, ◌+◌, ◌<◌, ◌≤◌, List, [], ◌∷◌, ◌++◌, length, get_or, map, refl, ap, arith, length-append}
use Rattle.std.proofs.lemmas.List.{length-map, map-append}
use Rattle.std.proofs.Math.Seq.{get_or-append_seam}
use Rattle.sig_types.specs.declared.record.Record.{Record}
use Rattle.log_sums.specs.Told.{AgreesTo, told}

-- a place of the first of two lists
within : (A : Type 0) (xs ys : List A) (i : ℕ) (d : A) → i < length xs → get_or (xs ++ ys) i d ≡ get_or xs i d
within A [] ys i d inside = absurd (omega (arith, inside))
within A (x ∷ xs) ys zero d inside = refl
within A (x ∷ xs) ys (suc i) d inside = within A xs ys i d (omega (arith, inside))

-- up to the seconds of some records, those tell the same with one more
still : (A : Type 0) (f : Record → A) (d : A) (records : List Record) (r : Record) (t : ℕ) → t ≤ length records →
    told f d (records ++ r ∷ []) t ≡ told f d records t
still A f d records r t most =
    let inside : t < length (d ∷ map f records) = omega (arith, most, length-map {B = A} records f) in
    ap (λ (xs : List A). get_or (d ∷ xs) t d) (map-append f records (r ∷ [])) ∙ within A (d ∷ map f records) (f r ∷ []) t d inside

pub agrees_still : (A : Type 0) (f : Record → A) (d : A) (records : List Record) (r : Record) (a : ℕ → A) →
    AgreesTo a (told f d (records ++ r ∷ [])) (length (records ++ r ∷ [])) → AgreesTo a (told f d records) (length records)
agrees_still A f d records r a agrees t most =
    agrees t (omega (arith, most, length-append records (r ∷ []))) ∙ still A f d records r t most

-- the second of the last record
pub agrees_last : (A : Type 0) (f : Record → A) (d : A) (records : List Record) (r : Record) (a : ℕ → A) (t : ℕ) → t ≡ length records + 1 →
    AgreesTo a (told f d (records ++ r ∷ [])) (length (records ++ r ∷ [])) → a t ≡ f r
agrees_last A f d records r a t last agrees =
    let size : length (d ∷ map f records) ≡ t = omega (arith, last, length-map {B = A} records f) in
    agrees t (omega (arith, last, length-append records (r ∷ [])))
    ∙ (ap (λ (xs : List A). get_or (d ∷ xs) t d) (map-append f records (r ∷ [])) ∙ at_end size)
  where
    at_end : length (d ∷ map f records) ≡ t → get_or (d ∷ (map f records ++ f r ∷ [])) t d ≡ f r
    at_end size = rw (← size) (get_or-append_seam (d ∷ map f records) (f r) [] d)
