-- A header whose names are read is the header of these names.
use Rattle.std.proofs.Common.{◌≡◌, ◌∙◌, ℕ, ◌==◌, ◌&&◌, Bool, true, false, not, List, [], ◌∷◌, ◌++◌, ◌<◌, length, Option, None, Some, refl, sym, ap, arith, codes, nat_eq, nat_lt, eq-eqb, append-nil, append_assoc}
use Rattle.std.specs.Prelude.{if◌then◌else◌}
use Rattle.std.specs.List.{flat_map, fold, join_with_byte, slice_split}
use Rattle.std.specs.Str.{bytes_eq}
use Rattle.std.proofs.lemmas.List.Splits.{join_with_byte-slice_split, length-slice_split}
use Rattle.sig_types.specs.LogForm.{header_line, spaced}
use Rattle.sig_types.specs.Text.{is_name, strip}
use Rattle.sig_types.proofs.Fronts.{strip_found}
use Rattle.log_read.specs.Form.{is_header}
use Rattle.log_read.specs.Fields.{listed_names, names_in, stands_in, with_name}
use Rattle.log_read.proofs.Cuts.{and_then_is, some_is}

same_bytes : (xs : List ℕ) → bytes_eq xs xs ≡ true
same_bytes [] = refl
same_bytes (x ∷ xs) = let here : nat_eq x x ≡ true = eq-eqb x x refl in rw here (same_bytes xs)

-- ---- names that are read one after the other

no_names : (words : List (List ℕ)) → fold with_name None words ≡ None
no_names [] = refl
no_names (w ∷ ws) = no_names ws

-- the names so far with one more, or none
abbrev more_if : Bool → List (List ℕ) → List ℕ → Option (List (List ℕ))
more_if takes names word = if takes then Some (names ++ word ∷ []) else None

named_step : (takes : Bool) (names : List (List ℕ)) (w : List ℕ) (ws found : List (List ℕ)) →
    ((some : List (List ℕ)) → fold with_name (Some some) ws ≡ Some found → some ++ ws ≡ found) →
    fold with_name (more_if takes names w) ws ≡ Some found → names ++ w ∷ ws ≡ found
named_step true names w ws found rest e = sym (append_assoc names (w ∷ []) ws) ∙ rest (names ++ w ∷ []) e
named_step false names w ws found rest e = let none = no_names ws in absurd cc

named_are : (names words found : List (List ℕ)) → fold with_name (Some names) words ≡ Some found → names ++ words ≡ found
named_are names [] found e = append-nil names ∙ some_is names found e
named_are names (w ∷ ws) found e =
    named_step (is_name w && nat_lt (length names) 64 && not (stands_in w names)) names w ws found (λ some more. named_are some ws found more) e

-- ---- names that are written one after the other

joined : (p : List ℕ) (ps : List (List ℕ)) → flat_map spaced (p ∷ ps) ≡ 32 ∷ join_with_byte 32 (p ∷ ps)
joined p [] = ap (λ x. 32 ∷ x) (append-nil p)
joined p (q ∷ ps) = ap (λ x. 32 ∷ (p ++ x)) (joined q ps)

spaced_by : (parts : List (List ℕ)) (list : List ℕ) → 0 < length parts → join_with_byte 32 parts ≡ list → flat_map spaced parts ≡ 32 ∷ list
spaced_by [] list some e = absurd (omega (arith, some))
spaced_by (p ∷ ps) list some e = joined p ps ∙ ap (λ x. 32 ∷ x) e

some_part : (list : List ℕ) → 0 < length (slice_split (λ b. b == 32) list)
some_part list = let many = length-slice_split (λ b. b == 32) list in omega (arith, many)

-- ---- the header

header_is : (names : List (List ℕ)) (line : List ℕ) → names_in line ≡ Some names → line ≡ header_line names
unfolding names_in header_line
header_is names line e =
    let a = and_then_is listed_names (strip (codes "VAPLOG 1 ") line) names e in
    let parts = named_are [] (slice_split (λ b. b == 32) a.0) names a.2 in
    strip_found (codes "VAPLOG 1 ") line a.0 a.1
    ∙ ap (λ x. codes "VAPLOG 1" ++ x)
    (sym (spaced_by (slice_split (λ b. b == 32) a.0) a.0 (some_part a.0) (join_with_byte-slice_split 32 a.0)))
    ∙ ap (λ ns. codes "VAPLOG 1" ++ flat_map spaced ns) parts

-- a line whose names are read is the header of a log of these groups
pub header_same : (names : List (List ℕ)) (line : List ℕ) → names_in line ≡ Some names → is_header names line ≡ true
header_same names line e =
    let is = header_is names line e in
    ap (λ (x : List ℕ). bytes_eq x (header_line names)) is ∙ same_bytes (header_line names)
