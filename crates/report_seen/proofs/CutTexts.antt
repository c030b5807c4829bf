-- Texts of several parts, cut where they were joined.
use Rattle.std.proofs.Common.{◌≡◌, ◌∙◌, ℕ, true, false, List, [], ◌∷◌, ◌++◌, codes, Some, refl, ap, arith, append_assoc, nat_eq}
use Rattle.std.specs.Prelude.{◌==◌}
use Rattle.std.specs.List.{All, flat_map}
use Rattle.std.specs.Str.{bytes_eq}
use Rattle.std.proofs.lemmas.Bool.{and_right, ne_eqb}
use Rattle.std.proofs.lemmas.List.{append-nil}
use Rattle.std.proofs.lemmas.List.Elements.{All-cons, All-nil}
use Rattle.std.proofs.lemmas.List.Splits.{slice_split_at, slice_split_none}
use Rattle.sig_types.specs.LogForm.{spaced}
use Rattle.sig_types.specs.Text.{cut_at}
use Rattle.signal_log.specs.Log.{or_dash, spaced_items}
use Rattle.signal_log.proofs.Without.{NoDigit, Without}
use Rattle.log_read.specs.Fields.{parted}
use Rattle.log_read.proofs.RecordForms.{cut_again as cut_at_stop}

lacks : (b : ℕ) (xs : List ℕ) → Without b xs → All (λ c. (c == b) ≡ false) xs
lacks b [] w = All-nil (λ (c : ℕ). (c == b) ≡ false)
lacks b (x ∷ xs) w = All-cons (λ (c : ℕ). (c == b) ≡ false) x xs (ne_eqb x b w.0) (lacks b xs w.1)

-- a text is cut at its first stop
pub cut_again : (stop : ℕ) (front rest : List ℕ) → Without stop front → cut_at stop (front ++ stop ∷ rest) ≡ Some (front, rest)
cut_again stop front rest none = cut_at_stop stop front rest (lacks stop front none)

-- no item has this byte
abbrev pub AllWithout : ℕ → List (List ℕ) → Type 0
AllWithout b [] = Unit {0}
AllWithout b (x ∷ xs) = Without b x × AllWithout b xs

-- items that are joined by spaces are parted again
pub parted_again : (x : List ℕ) (xs : List (List ℕ)) → Without 32 x → AllWithout 32 xs → parted (x ++ flat_map spaced xs) ≡ x ∷ xs
parted_again x [] here rest = ap parted (append-nil x) ∙ slice_split_none (λ b. b == 32) x (lacks 32 x here)
parted_again x (y ∷ ys) here rest =
    slice_split_at (λ b. b == 32) x 32 (y ++ flat_map spaced ys) (lacks 32 x here) refl
    ∙ ap (λ l. x ∷ l) (parted_again y ys rest.0 rest.1)

items_spaced : (xs : List (List ℕ)) → spaced_items true xs ≡ flat_map spaced xs
items_spaced [] = refl
items_spaced (x ∷ xs) = ap (λ l. 32 ∷ (x ++ l)) (items_spaced xs)

-- a text with a colon isn't a dash
no_dash : (front rest : List ℕ) → bytes_eq (front ++ 58 ∷ rest) (codes "-") ≡ false
no_dash [] rest = refl
no_dash (x ∷ []) rest = and_right (nat_eq x 45) false refl
no_dash (x ∷ y ∷ ys) rest = and_right (nat_eq x 45) false refl

-- an item: it has a colon, and no space
pub record IsItem (x : List ℕ) : Type 0 where
  pub front : List ℕ
  pub rest : List ℕ
  pub whole : x ≡ front ++ 58 ∷ rest
  pub no_space : Without 32 x

abbrev pub AreItems : List (List ℕ) → Type 0
AreItems [] = Unit {0}
AreItems (x ∷ xs) = IsItem x × AreItems xs

pub are_items-append : (xs ys : List (List ℕ)) → AreItems xs → AreItems ys → AreItems (xs ++ ys)
are_items-append [] ys p q = q
are_items-append (x ∷ xs) ys p q = (p.0, are_items-append xs ys p.1 q)

no_spaces : (xs : List (List ℕ)) → AreItems xs → AllWithout 32 xs
no_spaces [] are = tt
no_spaces (x ∷ xs) are = (are.0.no_space, no_spaces xs are.1)

-- a field of items isn't a dash, and is parted into these items
pub record IsParted (field : List ℕ) (items : List (List ℕ)) : Type 0 where
  pub other : bytes_eq field (codes "-") ≡ false
  pub parts : parted field ≡ items

pub parted_items : (x : List ℕ) (xs : List (List ℕ)) → AreItems (x ∷ xs) → IsParted (or_dash (x ∷ xs)) (x ∷ xs)
parted_items x xs are =
    let more : List ℕ = flat_map spaced xs in
    let spread : or_dash (x ∷ xs) ≡ x ++ more = ap (λ l. x ++ l) (items_spaced xs) in
    let colon : x ++ more ≡ are.0.front ++ 58 ∷ (are.0.rest ++ more) = ap (λ l. l ++ more) are.0.whole
    ∙ append_assoc are.0.front (58 ∷ are.0.rest) more in
    record {
      other = ap (λ l. bytes_eq l (codes "-")) (spread ∙ colon) ∙ no_dash are.0.front (are.0.rest ++ more);
      parts = ap parted spread ∙ parted_again x xs are.0.no_space (no_spaces xs are.1);
    }

-- some bytes that no digit is
pub dash_no_digit : NoDigit 45
dash_no_digit d lt e = absurd (omega arith)

pub colon_no_digit : NoDigit 58
colon_no_digit d lt e = absurd (omega arith)

pub plus_no_digit : NoDigit 43
plus_no_digit d lt e = absurd (omega arith)

pub space_no_digit : NoDigit 32
space_no_digit d lt e = absurd (omega arith)
