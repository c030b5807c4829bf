-- The lines of groups and detectors, one after another.
use Rattle.std.proofs.Common.{◌≡◌, ◌∙◌, ℕ, suc, zero, ◌+◌, ◌<◌, Bool, List, [], ◌∷◌, ◌++◌, length, get_or, take, sym, ap, arith, append_assoc}
use Rattle.std.proofs.lemmas.List.{append-nil}
use Rattle.log_sums.specs.declared.group.GroupSums.{GroupSums}
use Rattle.log_sums.specs.declared.detector.DetectorSums.{DetectorSums}
use Rattle.sums_text.specs.Words.{detector_text, detectors_text, group_text, groups_text, is_named}

-- one group more
group_more : (b : Bool) (s k : ℕ) (names : List (List ℕ)) (sums : List GroupSums) (n : ℕ) (d : List ℕ) (e : GroupSums) → n < length names → n < length sums →
    groups_text b s k (take (suc n) names) sums ≡ groups_text b s k (take n names) sums ++ group_text (get_or names n d) b s k (get_or sums n e)
unfolding groups_text
group_more b s k [] sums n d e inside has = absurd (omega (arith, inside))
group_more b s k (x ∷ names) [] n d e inside has = absurd (omega (arith, has))
group_more b s k (x ∷ names) (p ∷ sums) zero d e inside has = append-nil (group_text x b s k p)
group_more b s k (x ∷ names) (p ∷ sums) (suc n) d e inside has =
    ap (λ l. group_text x b s k p ++ l) (group_more b s k names sums n d e (omega (arith, inside)) (omega (arith, has)))
    ∙ sym (append_assoc (group_text x b s k p) (groups_text b s k (take n names) sums) (group_text (get_or names n d) b s k (get_or sums n e)))

pub groups_more : (b : Bool) (s k : ℕ) (names : List (List ℕ)) (sums : List GroupSums) (n : ℕ) (x : List ℕ) (p : GroupSums) → n < length names → n < length sums →
    x ≡ get_or names n x → groups_text b s k (take n names) sums ++ group_text x b s k (get_or sums n p) ≡ groups_text b s k (take (n + 1) names) sums
groups_more b s k names sums n x p inside has name =
    let next : suc n ≡ n + 1 = omega arith in
    ap (λ w. groups_text b s k (take n names) sums ++ group_text w b s k (get_or sums n p)) name
    ∙ sym (group_more b s k names sums n x p inside has)
    ∙ ap (λ j. groups_text b s k (take j names) sums) next

-- one detector more
detector_more : (d : ℕ) (named xs : List DetectorSums) (n k : ℕ) (e f : DetectorSums) → n < length named → n < length xs → k ≡ d + n →
    detectors_text d (take (suc n) named) xs ≡ detectors_text d (take n named) xs ++ detector_text k (is_named (get_or named n e)) (get_or xs n f)
unfolding detectors_text
detector_more d [] xs n k e f inside has number = absurd (omega (arith, inside))
detector_more d (y ∷ named) [] n k e f inside has number = absurd (omega (arith, has))
detector_more d (y ∷ named) (x ∷ xs) zero k e f inside has number =
    let same : k ≡ d = omega (arith, number) in rw same (append-nil (detector_text d (is_named y) x))
detector_more d (y ∷ named) (x ∷ xs) (suc n) k e f inside has number =
    ap (λ l. detector_text d (is_named y) x ++ l)
    (detector_more (d + 1) named xs n k e f (omega (arith, inside)) (omega (arith, has)) (omega (arith, number)))
    ∙ sym (append_assoc (detector_text d (is_named y) x) (detectors_text (d + 1) (take n named) xs)
    (detector_text k (is_named (get_or named n e)) (get_or xs n f)))

pub detectors_more : (named xs : List DetectorSums) (n : ℕ) (b : Bool) (e f : DetectorSums) → n < length named → n < length xs →
    b ≡ is_named (get_or named n e) →
    detectors_text 1 (take n named) xs ++ detector_text (n + 1) b (get_or xs n f) ≡ detectors_text 1 (take (n + 1) named) xs
detectors_more named xs n b e f inside has is =
    let next : suc n ≡ n + 1 = omega arith in
    ap (λ c. detectors_text 1 (take n named) xs ++ detector_text (n + 1) c (get_or xs n f)) is
    ∙ sym (detector_more 1 named xs n (n + 1) e f inside has (omega arith)) ∙ ap (λ j. detectors_text 1 (take j named) xs) next
