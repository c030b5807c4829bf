-- A page with one picture more.
use Rattle.std.proofs.Common.{◌≡◌, ◌∙◌, ℕ, suc, ◌+◌, ◌<◌, ◌≤◌, Bool, true, false, ◌&&◌, List, [], ◌∷◌, ◌++◌, length, refl, sym, ap, arith, ne_eqb}
use Rattle.std.specs.Prelude.{if◌then◌else◌}
use Rattle.std.proofs.lemmas.List.{append-nil}
use Rattle.std.proofs.Math.ListN.{length-append}
use Rattle.sig_types.specs.declared.aspect.Aspect.{Aspect}
use Rattle.sig_types.specs.Turns.{Picture, History, Trace, shown, trace, is_green}
use Rattle.sig_guard.proofs.Agree.{AgreeBelow}
use Rattle.sig_guard.proofs.Pictures.{trace-append_old, trace-append_new}
use Rattle.log_protocol.specs.declared.together.Together.{Together}
use Rattle.log_protocol.specs.Came.{both_green, together}
use Rattle.log_protocol.specs.Steps.{with_both, with_second}
use Rattle.log_protocol.proofs.Gathered.{few_if, gather_few, gather_same}

pub same_together : (n n' f f' : ℕ) → n ≡ n' → f ≡ f' → (let x : Together = record { seconds = n; first = f } in x) ≡ record { seconds = n'; first = f' }
same_together n n' f f' h1 h2 = rw (h1, h2) refl

second_more : (seconds : List ℕ) (t : ℕ) → length seconds < 6048002 → with_second (together seconds) t ≡ together (seconds ++ t ∷ [])
second_more [] t few = same_together _ _ _ _ (omega arith) refl
second_more (s ∷ rest) t few =
    let size : length ((s ∷ rest) ++ t ∷ []) ≡ length (s ∷ rest) + 1 = omega (arith, length-append (s ∷ rest) (t ∷ [])) in
    same_together _ _ _ _ (omega (arith, size)) (rw (ne_eqb (length (s ∷ rest)) 0 (λ e. omega (arith, e))) refl)

-- a second in which both are green, or another one
both_more : (seconds : List ℕ) (one other : Aspect) (t : ℕ) → length seconds < 6048002 →
    with_both (together seconds) one other t ≡ together (seconds ++ (if is_green one && is_green other then t ∷ [] else []))
both_more seconds one other t few = go (is_green one && is_green other)
  where
    go : (b : Bool) → (if b then with_second (together seconds) t else together seconds) ≡ together (seconds ++ (if b then t ∷ [] else []))
    go true = second_more seconds t few
    go false = ap together (sym (append-nil seconds))

both_same : (a a' c c' : Trace) (n : ℕ) → AgreeBelow n a a' → AgreeBelow n c c' → both_green a c n ≡ both_green a' c' n
both_same a a' c c' n one other = gather_same _ _ n (λ t lt. rw (one.at t lt, other.at t lt) refl)

-- two groups with one picture more
pub together_more : (h : History) (p : Picture) (g i : ℕ) (old new : Together) → length h < 6048002 →
    old ≡ together (both_green (trace h g) (trace h i) (length h)) → new ≡ with_both old (shown p g) (shown p i) (length h) →
    new ≡ together (both_green (trace (h ++ p ∷ []) g) (trace (h ++ p ∷ []) i) (length (h ++ p ∷ [])))
together_more h p g i old new few was is =
    let n = length h in
    let one = trace-append_old h p g (length h) refl in
    let other = trace-append_old h p i (length h) refl in
    let size : length (h ++ p ∷ []) ≡ suc (length h) = omega (arith, length-append h (p ∷ [])) in
    let small : length (both_green (trace h g) (trace h i) (length h)) ≤ length h =
    gather_few (λ t. if is_green (trace h g t) && is_green (trace h i t) then t ∷ [] else []) (length h)
    (λ t. few_if (is_green (trace h g t) && is_green (trace h i t)) t) in
    is ∙ ap (λ (w : Together). with_both w (shown p g) (shown p i) (length h)) was
    ∙ both_more (both_green (trace h g) (trace h i) (length h)) (shown p g) (shown p i) (length h) (omega arith)
    ∙ ap (λ (w : List ℕ). together (w ++ (if is_green (shown p g) && is_green (shown p i) then length h ∷ [] else [])))
    (both_same (trace h g) (trace (h ++ p ∷ []) g) (trace h i) (trace (h ++ p ∷ []) i) (length h) one other)
    ∙ ap (λ (x : Aspect). together (both_green (trace (h ++ p ∷ []) g) (trace (h ++ p ∷ []) i) (length h)
    ++ (if is_green x && is_green (shown p i) then length h ∷ [] else []))) (sym (trace-append_new h p g (length h) refl))
    ∙ ap (λ (x : Aspect). together (both_green (trace (h ++ p ∷ []) g) (trace (h ++ p ∷ []) i) (length h)
    ++ (if is_green (trace (h ++ p ∷ []) g (length h)) && is_green x then length h ∷ [] else []))) (sym (trace-append_new h p i (length h) refl))
    ∙ ap (λ (k : ℕ). together (both_green (trace (h ++ p ∷ []) g) (trace (h ++ p ∷ []) i) k)) (sym size)
