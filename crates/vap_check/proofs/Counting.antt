-- Names that are numbered up to a limit are all names, where there are not more.
use Rattle.std.proofs.Common.{◌≡◌, ℕ, ◌≤◌, ◌+◌, Bool, true, false, List, [], ◌∷◌, ◌++◌, length, refl, sym, ap, ◌∙◌, subst, true≢false, if◌then◌else◌, arith}
use Rattle.std.specs.Prelude.{nat_lt, nat_le}
use Rattle.std.proofs.lemmas.Bool.Decides.{nat_tests}
use Rattle.std.proofs.lemmas.List.{length_push}
use Rattle.vap_check.specs.declared.numbered.Numbered.{Numbered}
use Rattle.vap_check.specs.Names.{among, with_names, distinct}
use Rattle.vap_check.specs.UpTo.{UpTo, up_to, with_names_up_to}

-- names don't become fewer
grows : (xs ks : List (List ℕ)) → length ks ≤ length (with_names ks xs)
grows [] ks = omega arith
grows (x ∷ xs) ks = elim (among ks x) as (λ b. length ks ≤ length (with_names (if b then ks else ks ++ x ∷ []) xs)) [
  | true ↦ grows xs ks
  | false ↦ let more = grows xs (ks ++ x ∷ []) in omega (arith, more, length_push ks x)
]

-- past the limit nothing is kept
stays : (xs ks : List (List ℕ)) (most : ℕ) →
    with_names_up_to (record { keys = ks; most = most; is_over = true }) xs ≡ record { keys = ks; most = most; is_over = true }
stays [] ks most = refl
stays (x ∷ xs) ks most = stays xs ks most

-- what is kept is all names, or it is known that there are more
abbrev pub Counts : ℕ → UpTo → List (List ℕ) → Type 0
Counts most u names = (u.is_over ≡ nat_lt most (length names)) × (u.is_over ≡ false → u.keys ≡ names)

in_reach : (n most : ℕ) → n ≤ most → false ≡ nat_lt most n
in_reach n most le = grind (arith, nat_tests)

past : (n m most : ℕ) → nat_le most n ≡ true → n + 1 ≤ m → true ≡ nat_lt most m
past n m most e le = grind (arith, nat_tests)

room : (n most : ℕ) → nat_le most n ≡ false → n + 1 ≤ most
room n most e = grind (arith, nat_tests)

module _ (most : ℕ) where
  -- a new name, where what comes after it is counted
  counts_new : (xs ks : List (List ℕ)) (x : List ℕ)
      → (length (ks ++ x ∷ []) ≤ most → Counts most (with_names_up_to (record { keys = ks ++ x ∷ []; most = most; is_over = false }) xs)
      (with_names (ks ++ x ∷ []) xs))
      → (b : Bool) → nat_le most (length ks) ≡ b
      → Counts most (with_names_up_to (if b then record { keys = ks; most = most; is_over = true } else record
      { keys = ks ++ x ∷ []; most = most; is_over = false }) xs) (with_names (ks ++ x ∷ []) xs)
  counts_new xs ks x later true e =
      let long = grows xs (ks ++ x ∷ []) in
      let over = ap (λ u. u.is_over) (stays xs ks most) in
      (over ∙ past (length ks) (length (with_names (ks ++ x ∷ []) xs)) most e (omega (arith, long, length_push ks x)), λ f. absurd (true≢false (sym over ∙ f)))
  counts_new xs ks x later false e =
      let le = room (length ks) most e in
      later (omega (arith, le, length_push ks x))

  pub counts : (xs ks : List (List ℕ)) → length ks ≤ most →
      Counts most (with_names_up_to (record { keys = ks; most = most; is_over = false }) xs) (with_names ks xs)
  counts [] ks le = (in_reach (length ks) most le, λ e. refl)
  counts (x ∷ xs) ks le =
      elim (among ks x) as (λ b. Counts most (with_names_up_to (if b then record { keys = ks; most = most; is_over = false }
      else if nat_le most (length ks) then record { keys = ks; most = most; is_over = true } else record
      { keys = ks ++ x ∷ []; most = most; is_over = false }) xs)
      (with_names (if b then ks else ks ++ x ∷ []) xs)) [
        | true ↦ counts xs ks le
        | false ↦ counts_new xs ks x (λ fits. counts xs (ks ++ x ∷ []) fits) (nat_le most (length ks)) refl
      ]

-- names that were numbered up to a limit from the first on, where each once they are these
pub used : (most : ℕ) (n : Numbered) (xs names : List (List ℕ)) → up_to n ≡ with_names_up_to (record { keys = []; most = most; is_over = false }) xs → distinct xs ≡ names → Counts most (up_to n) names
used most n xs names e d =
    subst (λ u. Counts most u names) (sym e)
    (subst (Counts most (with_names_up_to (record { keys = []; most = most; is_over = false }) xs)) d (counts most xs [] (omega arith)))

-- all of them where there are as many as there may be
pub all_used : (most : ℕ) (n : Numbered) (names : List (List ℕ)) → Counts most (up_to n) names → length names ≤ most → n.names.keys ≡ names
all_used most n names h le = h.1 (h.0 ∙ sym (in_reach (length names) most le))
