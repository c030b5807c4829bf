-- The rows of groups and detectors, one after another.
use Rattle.std.proofs.Common.{◌≡◌, ◌∙◌, ℕ, suc, zero, ◌+◌, ◌<◌, Bool, List, [], ◌∷◌, ◌++◌, codes, length, get_or, take, sym, ap, arith, append_assoc}
use Rattle.std.specs.Fmt.{decimal}
use Rattle.std.proofs.lemmas.List.{append-nil}
use Rattle.log_sums.specs.declared.group.GroupSums.{GroupSums}
use Rattle.log_sums.specs.declared.detector.DetectorSums.{DetectorSums}
use Rattle.sums_text.specs.Table.{detector_rows, detectors_rows, group_rows, groups_rows}
use Rattle.sums_text.specs.Words.{is_named}

-- one group more
group_more : (t : List ℕ) (b : Bool) (s k : ℕ) (names : List (List ℕ)) (sums : List GroupSums) (n : ℕ) (d : List ℕ) (e : GroupSums) → n < length names →
    n < length sums → groups_rows t b s k (take (suc n) names) sums
    ≡ groups_rows t b s k (take n names) sums ++ group_rows (t ++ (codes "GROUP," ++ get_or names n d)) b s k (get_or sums n e)
unfolding groups_rows
group_more t b s k [] sums n d e inside has = absurd (omega (arith, inside))
group_more t b s k (x ∷ names) [] n d e inside has = absurd (omega (arith, has))
group_more t b s k (x ∷ names) (p ∷ sums) zero d e inside has = append-nil (group_rows (t ++ (codes "GROUP," ++ x)) b s k p)
group_more t b s k (x ∷ names) (p ∷ sums) (suc n) d e inside has =
    ap (λ l. group_rows (t ++ (codes "GROUP," ++ x)) b s k p ++ l) (group_more t b s k names sums n d e (omega (arith, inside)) (omega (arith, has)))
    ∙ sym (append_assoc (group_rows (t ++ (codes "GROUP," ++ x)) b s k p) (groups_rows t b s k (take n names) sums)
    (group_rows (t ++ (codes "GROUP," ++ get_or names n d)) b s k (get_or sums n e)))

pub groups_more : (t : List ℕ) (b : Bool) (s k : ℕ) (names : List (List ℕ)) (sums : List GroupSums) (n : ℕ) (x lead : List ℕ) (p : GroupSums) → n < length names →
    n < length sums → x ≡ get_or names n x → lead ≡ t ++ (codes "GROUP," ++ x) →
    groups_rows t b s k (take n names) sums ++ group_rows lead b s k (get_or sums n p) ≡ groups_rows t b s k (take (n + 1) names) sums
groups_more t b s k names sums n x lead p inside has name is =
    let next : suc n ≡ n + 1 = omega arith in
    ap (λ w. groups_rows t b s k (take n names) sums ++ group_rows w b s k (get_or sums n p)) (is ∙ ap (λ w. t ++ (codes "GROUP," ++ w)) name)
    ∙ sym (group_more t b s k names sums n x p inside has)
    ∙ ap (λ j. groups_rows t b s k (take j names) sums) next

-- what stands before the keys of a detector
abbrev lead : List ℕ → ℕ → List ℕ
lead t d = t ++ (codes "DETECTOR," ++ decimal d)

-- one detector more
detector_more : (t : List ℕ) (d : ℕ) (named xs : List DetectorSums) (n k : ℕ) (e f : DetectorSums) → n < length named → n < length xs → k ≡ d + n →
    detectors_rows t d (take (suc n) named) xs
    ≡ detectors_rows t d (take n named) xs ++ detector_rows (lead t k) (is_named (get_or named n e)) (get_or xs n f)
unfolding detectors_rows
detector_more t d [] xs n k e f inside has number = absurd (omega (arith, inside))
detector_more t d (y ∷ named) [] n k e f inside has number = absurd (omega (arith, has))
detector_more t d (y ∷ named) (x ∷ xs) zero k e f inside has number =
    let same : k ≡ d = omega (arith, number) in rw same (append-nil (detector_rows (lead t d) (is_named y) x))
detector_more t d (y ∷ named) (x ∷ xs) (suc n) k e f inside has number =
    ap (λ l. detector_rows (lead t d) (is_named y) x ++ l)
    (detector_more t (d + 1) named xs n k e f (omega (arith, inside)) (omega (arith, has)) (omega (arith, number)))
    ∙ sym (append_assoc (detector_rows (lead t d) (is_named y) x) (detectors_rows t (d + 1) (take n named) xs)
    (detector_rows (lead t k) (is_named (get_or named n e)) (get_or xs n f)))

pub detectors_more : (t : List ℕ) (named xs : List DetectorSums) (n : ℕ) (w : List ℕ) (b : Bool) (e f : DetectorSums) → n < length named →
    n < length xs → w ≡ lead t (n + 1) → b ≡ is_named (get_or named n e) →
    detectors_rows t 1 (take n named) xs ++ detector_rows w b (get_or xs n f) ≡ detectors_rows t 1 (take (n + 1) named) xs
detectors_more t named xs n w b e f inside has words is =
    let next : suc n ≡ n + 1 = omega arith in
    ap (λ v. detectors_rows t 1 (take n named) xs ++ detector_rows v b (get_or xs n f)) words
    ∙ ap (λ c. detectors_rows t 1 (take n named) xs ++ detector_rows (lead t (n + 1)) c (get_or xs n f)) is
    ∙ sym (detector_more t 1 named xs n (n + 1) e f inside has (omega arith)) ∙ ap (λ j. detectors_rows t 1 (take j named) xs) next
