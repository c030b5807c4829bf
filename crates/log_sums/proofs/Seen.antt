-- What came, by its code.
use Rattle.std.proofs.Common.{◌≡◌, ◌∙◌, ℕ, zero, suc, ◌≤◌, Bool, true, false, eqb, List, [], ◌∷◌, ◌++◌, refl, sym, ap, subst, arith, map, eqb-true, eq-eqb}
use Rattle.std.specs.Prelude.{fold, ◌==◌, ◌||◌, if◌then◌else◌}
use Rattle.std.specs.List.{list_any}
use Rattle.std.proofs.lemmas.List.{map-append}
use Rattle.std.proofs.lemmas.List.Elements.{All-push}
use Rattle.std.proofs.lemmas.List.Folds.{list_any-append}
use Rattle.std.proofs.lemmas.List.Sums.{fold-append}
use Rattle.log_sums.specs.declared.tally.Counts.{Counts}
use Rattle.log_sums.specs.declared.tally.Tally.{Tally}
use Rattle.log_sums.specs.Tallies.{AreCounts, AwaitItems, has_code, keys_to, times_in, times_of, with_key}

-- the keys of tallies have the codes that the tallies have
pub any_key : (K : Type 0) (code : K → ℕ) (k : ℕ) (xs : List (Tally K)) →
    has_code code (map (λ x. x.key) xs) k ≡ list_any (λ x. code x.key == k) xs
any_key K code k [] = refl
any_key K code k (x ∷ xs) = ap (λ (b : Bool). (code x.key == k) || b) (any_key K code k xs)

clash : {b : Bool} → b ≡ false → b ≡ true → ⊥
clash off on = let both : true ≡ false = sym on ∙ off in cc

neither : (a b : Bool) → (a || b) ≡ false → (a ≡ false) × (b ≡ false)
neither true b e = absurd (clash e refl)
neither false b e = (refl, e)

either_false : (b : Bool) → (b || false) ≡ false → b ≡ false
either_false true e = e
either_false false e = refl

-- a code that isn't among these and one more is neither among these nor that one's
one_not : (K : Type 0) (code : K → ℕ) (k : ℕ) (keys : List K) (x : K) (has : Bool) → has_code code keys (code x) ≡ has →
    has_code code (if has then keys else keys ++ x ∷ []) k ≡ false → (has_code code keys k ≡ false) × ((code x == k) ≡ false)
one_not K code k keys x true is none = (none, other (code x == k) refl)
  where
    other : (b : Bool) → (code x == k) ≡ b → (code x == k) ≡ false
    other false e = e
    other true e = absurd (same_not (eqb-true (code x) k e))
      where
        same_not : code x ≡ k → ⊥
        same_not same = clash none (sym (ap (λ (j : ℕ). has_code code keys j) same) ∙ is)
one_not K code k keys x false is none =
    let both = neither (has_code code keys k) ((code x == k) || false) (sym (list_any-append (λ (y : K). code y == k) keys (x ∷ [])) ∙ none) in
    (both.0, either_false (code x == k) both.1)

-- a code that isn't among what there was and what came, is neither's
pub not_seen : (K : Type 0) (code : K → ℕ) (k : ℕ) (keys items : List K) → has_code code (fold (with_key code) keys items) k ≡ false →
    (has_code code keys k ≡ false) × (times_in code k items ≡ 0)
not_seen K code k keys [] none = (none, refl)
not_seen K code k keys (x ∷ items) none =
    let rest = not_seen K code k (with_key code keys x) items none in
    let one = one_not K code k keys x (has_code code keys (code x)) refl rest.0 in
    let not_it : (code x == k) ≡ false = one.1 in
    (one.0, rw not_it rest.1)

-- a code that came neither before a second nor in it
here_or_before : (K : Type 0) (code : K → ℕ) (k : ℕ) (items : ℕ → List K) (n t : ℕ) (last : Bool) → eqb t (suc n) ≡ last → t ≤ suc n →
    times_in code k (items (suc n)) ≡ 0 → (t ≤ n → times_of code items k t ≡ 0) → times_of code items k t ≡ 0
here_or_before K code k items n t true e most none before = subst (λ s. times_of code items k s ≡ 0) (sym (eqb-true t (suc n) e)) none
here_or_before K code k items n t false e most none before =
    let not_last : t ≡ suc n → ⊥ = λ same. clash e (eq-eqb t (suc n) same) in
    before (omega (arith, not_last, most))

-- a code that isn't among what came in the seconds 1 to n never came
pub never_came : (K : Type 0) (code : K → ℕ) (k : ℕ) (items : ℕ → List K) (n : ℕ) → has_code code (keys_to code items n) k ≡ false →
    (t : ℕ) → 1 ≤ t → t ≤ n → times_of code items k t ≡ 0
never_came K code k items zero none t some most = absurd (omega (arith, some, most))
never_came K code k items (suc n) none t some most =
    let both = not_seen K code k (keys_to code items n) (items (suc n)) none in
    here_or_before K code k items n t (eqb t (suc n)) refl most both.1 (λ less. never_came K code k items n both.0 t some less)

with_known : (K : Type 0) (code : K → ℕ) (keys : List K) (x : K) → has_code code keys (code x) ≡ true → with_key code keys x ≡ keys
with_known K code keys x has = rw has refl

with_new : (K : Type 0) (code : K → ℕ) (keys : List K) (x : K) → has_code code keys (code x) ≡ false → with_key code keys x ≡ keys ++ x ∷ []
with_new K code keys x has = rw has refl

-- whether these tallies have the code of x
has_is : (K : Type 0) (code : K → ℕ) (xs : List (Tally K)) (x : K) (k : ℕ) (has : Bool) → k ≡ code x → list_any (λ t. code t.key == k) xs ≡ has →
    has_code code (map (λ t. t.key) xs) (code x) ≡ has
has_is K code xs x k has same is = any_key K code (code x) xs ∙ subst (λ (j : ℕ). list_any (λ t. code t.key == j) xs ≡ has) same is

-- one more that has a tally
pub await_known : (K : Type 0) (code : K → ℕ) (a : ℕ → List K) (from n : ℕ) (seen : List K) (xs : List (Tally K)) (x : K) (k : ℕ) → k ≡ code x →
    list_any (λ t. code t.key == k) xs ≡ true → AwaitItems code a from n seen xs → AwaitItems code a from n (seen ++ x ∷ []) xs
await_known K code a from n seen xs x k same has is =
    let known = rw is.keys_are at (has_is K code xs x k true same has) in
    record {
      keys_are = is.keys_are ∙ sym (fold-append (with_key code) (keys_to code a n) seen (x ∷ []) ∙ with_known K code (fold (with_key code) (keys_to code a n) seen) x known);
      each = is.each;
    }

-- one more that has none yet
pub await_new : (K : Type 0) (code : K → ℕ) (a : ℕ → List K) (from n : ℕ) (seen : List K) (xs : List (Tally K)) (x : K) (counts : Counts) (k : ℕ) → k ≡ code x →
    list_any (λ t. code t.key == k) xs ≡ false →
    ((c : ℕ → ℕ) (from n : ℕ) → ((t : ℕ) → 1 ≤ t → t ≤ n → c t ≡ 0) → AreCounts c from n counts) → AwaitItems code a from n seen xs →
    AwaitItems code a from n (seen ++ x ∷ []) (xs ++ record { key = x; counts = counts } ∷ [])
await_new K code a from n seen xs x counts k same has none is =
    let t : Tally K = record { key = x; counts = counts } in
    let keys = fold (with_key code) (keys_to code a n) seen in
    let new = rw is.keys_are at (has_is K code xs x k false same has) in
    let before : has_code code (keys_to code a n) (code x) ≡ false = (not_seen K code (code x) (keys_to code a n) seen new).0 in
    record {
      keys_are = map-append (λ (y : Tally K). y.key) xs (t ∷ []) ∙ (ap (λ (ks : List K). ks ++ x ∷ []) is.keys_are
          ∙ sym (fold-append (with_key code) (keys_to code a n) seen (x ∷ []) ∙ with_new K code keys x new));
      each = All-push (λ y. AreCounts (times_of code a (code y.key)) from n y.counts) xs t is.each
          (none (times_of code a (code x)) from n (never_came K code (code x) a n before));
    }
