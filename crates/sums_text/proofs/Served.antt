-- The numbers of detectors that serve a group, one after another.
use Rattle.std.proofs.Common.{◌≡◌, ◌∙◌, ℕ, suc, zero, ◌+◌, ◌<◌, Bool, List, [], ◌∷◌, ◌++◌, codes, length, get_or, take, sym, ap, arith, append_assoc}
use Rattle.std.specs.Fmt.{decimal}
use Rattle.std.specs.Prelude.{if◌then◌else◌}
use Rattle.std.proofs.lemmas.List.{append-nil}
use Rattle.sums_text.specs.Words.{detectors_of}

-- what stands for a detector
abbrev number_text : ℕ → Bool → List ℕ
number_text d b = if b then codes ":" ++ decimal d else []

next_number : (d : ℕ) (bs : List Bool) (n k : ℕ) (e : Bool) → n < length bs → k ≡ d + n →
    detectors_of d (take (suc n) bs) ≡ detectors_of d (take n bs) ++ number_text k (get_or bs n e)
unfolding detectors_of
next_number d [] n k e inside number = absurd (omega (arith, inside))
next_number d (b ∷ bs) zero k e inside number = let same : k ≡ d = omega (arith, number) in rw same (append-nil (number_text d b))
next_number d (b ∷ bs) (suc n) k e inside number =
    ap (λ l. number_text d b ++ l) (next_number (d + 1) bs n k e (omega (arith, inside)) (omega (arith, number)))
    ∙ sym (append_assoc (number_text d b) (detectors_of (d + 1) (take n bs)) (number_text k (get_or bs n e)))

-- one detector more
pub number_more : (bs : List Bool) (n : ℕ) (e : Bool) → n < length bs →
    detectors_of 1 (take n bs) ++ number_text (n + 1) (get_or bs n e) ≡ detectors_of 1 (take (n + 1) bs)
number_more bs n e inside =
    let next : suc n ≡ n + 1 = omega arith in
    sym (next_number 1 bs n (n + 1) e inside (omega arith)) ∙ ap (λ j. detectors_of 1 (take j bs)) next
