-- What records add up to, one record more.
use Rattle.std.proofs.Common.{◌≡◌, ◌∙◌, ℕ, zero, suc, ◌+◌, ◌<◌, ◌≤◌, Bool, true, false, cond, List, [], ◌∷◌, ◌++◌, length, replicate, get_or, refl, sym, ap, arith, length-append}
use Rattle.std.proofs.lemmas.List.{length-map, map-append}
use Rattle.std.proofs.lemmas.List.Sums.{sum_by_push, count_by-le-length}
use Rattle.std.proofs.Math.ListN.{get_or-append}
use Rattle.std.proofs.Math.Seq.{get_or-append_seam}
use Rattle.sig_types.specs.declared.aspect.Aspect.TheVariants.{Red}
use Rattle.sig_types.specs.declared.aspect.Rule.{Rule}
use Rattle.sig_types.specs.declared.kinds.FaultKind.{FaultKind}
use Rattle.sig_types.specs.declared.record.Record.{Record}
use Rattle.sig_types.specs.Turns.{History, Picture, shown, trace, turns_green_at}
use Rattle.signal_log.specs.Summary.{history_of, count_below, turned, greens_in, greens, refused_in, refusals_by, is_rule, is_fault, faulted}

at_most_one : (b : Bool) → cond b 1 0 ≤ 1
at_most_one true = omega arith
at_most_one false = omega arith

count_below-le : (is : ℕ → Bool) (n : ℕ) → count_below is n ≤ n
count_below-le is zero = omega arith
count_below-le is (suc n) = omega (arith, at_most_one (is n), count_below-le is n)

count_below-same : (is also : ℕ → Bool) (n : ℕ) → ((k : ℕ) → k < n → is k ≡ also k) → count_below is n ≡ count_below also n
count_below-same is also zero same = refl
count_below-same is also (suc n) same =
    ap (λ a. a + cond (is n) 1 0) (count_below-same is also n (λ k lt. same k (omega arith)))
    ∙ ap (λ b. count_below also n + cond b 1 0) (same n (omega arith))

-- the seconds that were stay as they were
turns_before : (h : History) (p : Picture) (g k : ℕ) → k < length h → turns_green_at (trace (h ++ p ∷ []) g) k ≡ turns_green_at (trace h g) k
turns_before h p g zero lt = refl
turns_before h p g (suc k) lt =
    let was : get_or (h ++ p ∷ []) k [] ≡ get_or h k [] = get_or-append h (p ∷ []) [] k (omega arith) in
    let now : get_or (h ++ p ∷ []) (suc k) [] ≡ get_or h (suc k) [] = get_or-append h (p ∷ []) [] (suc k) lt in
    λ j. turned (shown (was j) g) (shown (now j) g)

-- one picture more
greens_in-more : (h : History) (p : Picture) (g n : ℕ) → length h ≡ suc n →
    greens_in (h ++ p ∷ []) g ≡ greens_in h g + cond (turned (shown (get_or h n []) g) (shown p g)) 1 0
greens_in-more h p g n is =
    let longer : length (h ++ p ∷ []) ≡ suc (suc n) = omega (arith, length-append h (p ∷ []), is) in
    let was : get_or (h ++ p ∷ []) n [] ≡ get_or h n [] = get_or-append h (p ∷ []) [] n (omega (arith, is)) in
    let now : get_or (h ++ p ∷ []) (suc n) [] ≡ p = ap (λ k. get_or (h ++ p ∷ []) k []) (sym is) ∙ get_or-append_seam h p [] [] in
    let before : count_below (turns_green_at (trace (h ++ p ∷ []) g)) (suc n) ≡ greens_in h g
    = count_below-same (turns_green_at (trace (h ++ p ∷ []) g)) (turns_green_at (trace h g)) (suc n) (λ k lt. turns_before h p g k (omega (arith, is)))
    ∙ ap (count_below (turns_green_at (trace h g))) (sym is) in
    ap (count_below (turns_green_at (trace (h ++ p ∷ []) g))) longer
    ∙ (λ j. before j + cond (turned (shown (was j) g) (shown (now j) g)) 1 0)

length_of_history : (groups : ℕ) (rs : List Record) → length (history_of groups rs) ≡ suc (length rs)
length_of_history groups rs = ap suc (length-map rs (λ r. r.picture))

history_more : (groups : ℕ) (rs : List Record) (r : Record) → history_of groups (rs ++ r ∷ []) ≡ history_of groups rs ++ r.picture ∷ []
history_more groups rs r = ap (λ h. replicate groups Red ∷ h) (map-append (λ r. r.picture) rs (r ∷ []))

pub greens-more : (groups : ℕ) (rs : List Record) (r : Record) (g : ℕ) →
    greens groups (rs ++ r ∷ []) g ≡ greens groups rs g + cond (turned (shown (get_or (history_of groups rs) (length rs) []) g) (shown r.picture g)) 1 0
unfolding greens
greens-more groups rs r g =
    ap (λ h. greens_in h g) (history_more groups rs r) ∙ greens_in-more (history_of groups rs) r.picture g (length rs) (length_of_history groups rs)

pub greens-le : (groups : ℕ) (rs : List Record) (g : ℕ) → greens groups rs g ≤ length rs + 1
unfolding greens
greens-le groups rs g =
    omega (arith, count_below-le (turns_green_at (trace (history_of groups rs) g)) (length (history_of groups rs)), length_of_history groups rs)

-- the last picture
pub last-more : (groups : ℕ) (rs : List Record) (r : Record) → get_or (history_of groups (rs ++ r ∷ [])) (length (rs ++ r ∷ [])) [] ≡ r.picture
last-more groups rs r =
    let at : length (rs ++ r ∷ []) ≡ length (history_of groups rs) = omega (arith, length-append rs (r ∷ []), length_of_history groups rs) in
    (λ j. get_or (history_more groups rs r j) (at j) []) ∙ get_or-append_seam (history_of groups rs) r.picture [] []

pub refusals-more : (rule : Rule) (rs : List Record) (r : Record) → refusals_by rule (rs ++ r ∷ []) ≡ refusals_by rule rs + refused_in rule r
unfolding refusals_by
refusals-more rule rs r = sum_by_push (refused_in rule) rs r

pub refused_in-le : (rule : Rule) (r : Record) → length r.stages ≤ 10000 → length r.turns ≤ 64 → refused_in rule r ≤ 10064
refused_in-le rule r stages turns =
    omega (arith, count_by-le-length (λ s. is_rule rule s.rule) r.stages, count_by-le-length (λ t. is_rule rule t.rule) r.turns)

pub faulted-more : (kind : FaultKind) (rs : List Record) (r : Record) → faulted kind (rs ++ r ∷ []) ≡ faulted kind rs + cond (is_fault kind r.fault) 1 0
unfolding faulted
faulted-more kind rs r = sum_by_push (λ r. cond (is_fault kind r.fault) 1 0) rs r

pub faulted-le : (kind : FaultKind) (rs : List Record) → faulted kind rs ≤ length rs
unfolding faulted
faulted-le kind rs = count_by-le-length (λ r. is_fault kind r.fault) rs

-- nothing is counted yet
pub zero_at : (n k : ℕ) → ◌≡◌ {A = ℕ} (get_or (replicate n 0) k 0) 0
zero_at zero k = refl
zero_at (suc n) zero = refl
zero_at (suc n) (suc k) = zero_at n k
