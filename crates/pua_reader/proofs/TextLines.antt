-- The lines of a text, one after another.
use Rattle.std.proofs.Common.{◌≡◌, ℕ, ◌<◌, ◌==◌, Bool, true, false, List, [], ◌∷◌, ◌++◌, length, refl, ap, ◌∙◌, arith, length-append, Option, Some, None, if◌then◌else◌, nat_eq}
use Rattle.std.specs.List.{AllByRecursion}
use Rattle.std.specs.Option.{option_map}
use Rattle.std.specs.Str.Lines.{lines, strip_carriage_return}
use Rattle.std.proofs.lemmas.List.Elements.{All-from_recursion}
use Rattle.std.proofs.lemmas.Bool.{eqb-true}
use Rattle.sig_types.specs.Text.{cut_at}
use Rattle.sig_types.proofs.Lines.{lines_next, lines_last}

-- what stands before a cut, and what it cuts
record IsCut (bs a b : List ℕ) : Type 0 where
  pub whole : bs ≡ a ++ 10 ∷ b
  pub free : AllByRecursion (λ x. (x == 10) ≡ false) a

abbrev pair_or : List ℕ × List ℕ → Option (List ℕ × List ℕ) → List ℕ × List ℕ
pair_or d None = d
pair_or d (Some p) = p

cut_now : (x : ℕ) (xs a b : List ℕ) → nat_eq x 10 ≡ true → ◌≡◌ {A = Option (List ℕ × List ℕ)} (Some ([], xs)) (Some (a, b)) → IsCut (x ∷ xs) a b
cut_now x xs a b here e =
    let d : List ℕ × List ℕ = ([], []) in
    let front : [] ≡ a = ap (λ (o : Option (List ℕ × List ℕ)). (pair_or d o).0) e in
    let back : xs ≡ b = ap (λ (o : Option (List ℕ × List ℕ)). (pair_or d o).1) e in
    let ten : x ≡ 10 = eqb-true x 10 here in
    record {
      whole = rw (← front) (ap (λ (n : ℕ). n ∷ xs) ten ∙ ap (λ (l : List ℕ). 10 ∷ l) back);
      free = rw (← front) tt;
    }

cut_later : (x : ℕ) (xs a b : List ℕ) (o : Option (List ℕ × List ℕ)) → nat_eq x 10 ≡ false → ((a' b' : List ℕ) → o ≡ Some (a', b') → IsCut xs a' b') →
    option_map {T = List ℕ × List ℕ} {U = List ℕ × List ℕ} (λ p. (x ∷ p.0, p.1)) o ≡ Some (a, b) → IsCut (x ∷ xs) a b
cut_later x xs a b None other more e = cc
cut_later x xs a b (Some p) other more e =
    let d : List ℕ × List ℕ = ([], []) in
    let front : x ∷ p.0 ≡ a = ap (λ (o : Option (List ℕ × List ℕ)). (pair_or d o).0) e in
    let back : p.1 ≡ b = ap (λ (o : Option (List ℕ × List ℕ)). (pair_or d o).1) e in
    let cut = more p.0 p.1 refl in
    record {
      whole = rw (← front, ← back) (ap (λ (l : List ℕ). x ∷ l) cut.whole);
      free = rw (← front) (other, cut.free);
    }

cut_cases : (b : Bool) (x : ℕ) (xs a r : List ℕ) → nat_eq x 10 ≡ b → ((a' b' : List ℕ) → cut_at 10 xs ≡ Some (a', b') → IsCut xs a' b') →
    (if◌then◌else◌ {A = Option (List ℕ × List ℕ)} b (Some ([], xs))
    (option_map {T = List ℕ × List ℕ} {U = List ℕ × List ℕ} (λ p. (x ∷ p.0, p.1)) (cut_at 10 xs))) ≡ Some (a, r) → IsCut (x ∷ xs) a r
cut_cases true x xs a r same more e = cut_now x xs a r same e
cut_cases false x xs a r same more e = cut_later x xs a r (cut_at 10 xs) same more e

cut_whole : (bs a b : List ℕ) → cut_at 10 bs ≡ Some (a, b) → IsCut bs a b
cut_whole [] a b is = cc
cut_whole (x ∷ xs) a b is = cut_cases (nat_eq x 10) x xs a b refl (λ a' b' e. cut_whole xs a' b' e) is

free_later : (x : ℕ) (o : Option (List ℕ × List ℕ)) → option_map {T = List ℕ × List ℕ} {U = List ℕ × List ℕ} (λ p. (x ∷ p.0, p.1)) o ≡ None → o ≡ None
free_later x None e = refl
free_later x (Some p) e = cc

free_cases : (b : Bool) (x : ℕ) (xs : List ℕ) → nat_eq x 10 ≡ b → (cut_at 10 xs ≡ None → AllByRecursion (λ x. (x == 10) ≡ false) xs) →
    (if◌then◌else◌ {A = Option (List ℕ × List ℕ)} b (Some ([], xs))
    (option_map {T = List ℕ × List ℕ} {U = List ℕ × List ℕ} (λ p. (x ∷ p.0, p.1)) (cut_at 10 xs))) ≡ None → AllByRecursion (λ x. (x == 10) ≡ false) (x ∷ xs)
free_cases true x xs same more e = cc
free_cases false x xs same more e = (same, more (free_later x (cut_at 10 xs) e))

cut_free : (bs : List ℕ) → cut_at 10 bs ≡ None → AllByRecursion (λ x. (x == 10) ≡ false) bs
cut_free [] is = tt
cut_free (x ∷ xs) is = free_cases (nat_eq x 10) x xs refl (λ e. cut_free xs e) is

-- a line that a line feed ends, and a last line without one
pub next_line : (bs a b : List ℕ) → cut_at 10 bs ≡ Some (a, b) → (lines bs ≡ strip_carriage_return a ∷ lines b) × (length b < length bs)
next_line bs a b is =
    let cut = cut_whole bs a b is in
    (rw cut.whole (lines_next a b (All-from_recursion (λ x. (x == 10) ≡ false) a cut.free)), omega (arith, ap length cut.whole, length-append a (10 ∷ b)))

pub last_line : (bs : List ℕ) → cut_at 10 bs ≡ None → 0 < length bs → lines bs ≡ bs ∷ []
last_line bs is lt = lines_last bs (All-from_recursion (λ x. (x == 10) ≡ false) bs (cut_free bs is)) lt
