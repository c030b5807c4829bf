-- The numbers of an array: read as they are written.
use Rattle.std.proofs.Common.{◌≡◌, ◌∙◌, ℕ, ◌<◌, ◌≤◌, Bool, true, false, List, [], ◌∷◌, ◌++◌, length, Option, Some, None, Ok, Err, refl, sym, ap, subst, arith, nat_eq, map}
use Rattle.std.specs.Prelude.{if◌then◌else◌, ◌&&◌, nat_le, not, ℤ}
use Rattle.std.specs.List.{list_all, AllByRecursion}
use Rattle.std.specs.Fmt.{signed_decimal}
use Rattle.std.proofs.lemmas.Bool.{eqb-true, and_parts, not-true, leb-true, le-leb}
use Rattle.std.proofs.lemmas.List.{length-map}
use Rattle.sig_types.specs.Number.{fits}
use Rattle.sig_types.specs.Limits.{most_array_cells}
use Rattle.code_file.specs.declared.refusal.CodeWhy.{CodeWhy}
use Rattle.code_file.specs.Text.{joined, values_text, ArrayFits}
use Rattle.code_file.specs.Reading.{with_head, pieces, both, all_signed, as_array, array_in, signed_of}
use Rattle.code_file.proofs.Cuts.{lacks, lacks-append}
use Rattle.code_file.proofs.Numerals.{lacks_signed, signed_found, signed_again}
use Rattle.code_file.proofs.Steps.{some_is, ok_is}

-- ---- pieces

with_head_some : (b : ℕ) (ps : List (List ℕ)) → 0 < length (with_head b ps)
with_head_some b [] = omega arith
with_head_some b (p ∷ ps) = omega arith

pieces_case : (b : ℕ) (t : Bool) (ps : List (List ℕ)) → 0 < length (if t then [] ∷ ps else with_head b ps)
pieces_case b true ps = omega arith
pieces_case b false ps = with_head_some b ps

pieces_some : (bs : List ℕ) → 0 < length (pieces bs)
pieces_some [] = omega arith
pieces_some (b ∷ bs) = pieces_case b (nat_eq b 32) (pieces bs)

joined_case : (b : ℕ) (bs : List ℕ) (t : Bool) (ps : List (List ℕ)) → (t ≡ true → b ≡ 32) → 0 < length ps → joined ps ≡ bs →
    joined (if t then [] ∷ ps else with_head b ps) ≡ b ∷ bs
joined_case b bs t [] is some e = absurd (omega (arith, some))
joined_case b bs true (p ∷ ps) is some e = let same : b ≡ 32 = is refl in rw same (ap (λ (xs : List ℕ). 32 ∷ xs) e)
joined_case b bs false (p ∷ []) is some e = ap (λ (xs : List ℕ). b ∷ xs) e
joined_case b bs false (p ∷ q ∷ ps) is some e = ap (λ (xs : List ℕ). b ∷ xs) e

-- the pieces of a line make it up
pub joined_pieces : (bs : List ℕ) → joined (pieces bs) ≡ bs
joined_pieces [] = refl
joined_pieces (b ∷ bs) = joined_case b bs (nat_eq b 32) (pieces bs) (eqb-true b 32) (pieces_some bs) (joined_pieces bs)

pieces_clean : (p : List ℕ) → lacks 32 p ≡ true → pieces p ≡ p ∷ []
pieces_clean [] e = refl
pieces_clean (x ∷ p) e =
    let h = and_parts (not (nat_eq x 32)) (lacks 32 p) e in
    let here : nat_eq x 32 ≡ false = not-true (nat_eq x 32) h.0 in
    rw (here, pieces_clean p h.1) refl

pieces_append : (p rest : List ℕ) → lacks 32 p ≡ true → pieces (p ++ 32 ∷ rest) ≡ p ∷ pieces rest
pieces_append [] rest e = refl
pieces_append (x ∷ p) rest e =
    let h = and_parts (not (nat_eq x 32)) (lacks 32 p) e in
    let here : nat_eq x 32 ≡ false = not-true (nat_eq x 32) h.0 in
    rw (here, pieces_append p rest h.1) refl

abbrev Clean : List ℕ → Type 0
Clean p = lacks 32 p ≡ true

pieces_joined : (p : List ℕ) (ps : List (List ℕ)) → Clean p → AllByRecursion Clean ps → pieces (joined (p ∷ ps)) ≡ p ∷ ps
pieces_joined p [] here rest = pieces_clean p here
pieces_joined p (q ∷ ps) here rest = pieces_append p (joined (q ∷ ps)) here ∙ ap (λ (xs : List (List ℕ)). p ∷ xs) (pieces_joined q ps rest.0 rest.1)

-- ---- numbers

both_case : (p : List ℕ) (ps : List (List ℕ)) (o : Option ℤ) (os : Option (List ℤ)) (vs : List ℤ) → signed_of p ≡ o → both o os ≡ Some vs →
    list_all fits vs ≡ true →
    ((ws : List ℤ) → os ≡ Some ws → list_all fits ws ≡ true → ps ≡ map signed_decimal ws) → p ∷ ps ≡ map signed_decimal vs
both_case p ps None os vs first e all before = absurd cc
both_case p ps (Some v) None vs first e all before = absurd cc
both_case p ps (Some v) (Some ws) vs first e all before =
    let is : v ∷ ws ≡ vs = some_is _ _ e in
    let fit : list_all fits (v ∷ ws) ≡ true = ap (λ (xs : List ℤ). list_all fits xs) is ∙ all in
    let h = and_parts (fits v) (list_all fits ws) fit in
    let here : p ≡ signed_decimal v = signed_found p v first h.0 in
    let rest : ps ≡ map signed_decimal ws = before ws refl h.1 in
    rw (here, rest) (ap (λ (xs : List ℤ). map signed_decimal xs) is)

signed_pieces : (ps : List (List ℕ)) (vs : List ℤ) → all_signed ps ≡ Some vs → list_all fits vs ≡ true → ps ≡ map signed_decimal vs
signed_pieces [] vs e all = ap (λ (xs : List ℤ). map signed_decimal xs) (some_is [] vs e)
signed_pieces (p ∷ ps) vs e all = both_case p ps (signed_of p) (all_signed ps) vs refl e all (λ ws is fit. signed_pieces ps ws is fit)

all_signed_again : (vs : List ℤ) → list_all fits vs ≡ true → all_signed (map signed_decimal vs) ≡ Some vs
all_signed_again [] all = refl
all_signed_again (v ∷ vs) all =
    let h = and_parts (fits v) (list_all fits vs) all in
    rw (signed_again v h.0, all_signed_again vs h.1) refl

-- ---- arrays

array_tests : (room : ℕ) (ws vs : List ℤ) (a b c : Bool) → nat_le (length ws) most_array_cells ≡ a → nat_le (length ws) room ≡ b →
    list_all fits ws ≡ c → (e : CodeWhy) (d : CodeWhy) →
    (if (a && b) then (if c then Ok ws else Err e) else Err d) ≡ Ok vs → (ws ≡ vs) × (length ws ≤ most_array_cells) × (length ws ≤ room)
    × (list_all fits ws ≡ true)
array_tests room ws vs false b c few within all e d is = absurd cc
array_tests room ws vs true false c few within all e d is = absurd cc
array_tests room ws vs true true false few within all e d is = absurd cc
array_tests room ws vs true true true few within all e d is = (ok_is ws vs is, leb-true _ _ few, leb-true _ _ within, all)

array_case : (room : ℕ) (line : List ℕ) (o : Option (List ℤ)) (vs : List ℤ) → all_signed (pieces line) ≡ o → as_array room o ≡ Ok vs →
    (line ≡ values_text vs) × ArrayFits room vs
array_case room line None vs is e = absurd cc
array_case room line (Some ws) vs is e =
    let t = array_tests room ws vs (nat_le (length ws) most_array_cells) (nat_le (length ws) room) (list_all fits ws) refl refl refl _ _ e in
    let made : pieces line ≡ map signed_decimal ws = signed_pieces (pieces line) ws is t.3 in
    let text : line ≡ values_text ws = sym (joined_pieces line) ∙ ap joined made in
    let count : length (pieces line) ≡ length ws = ap length made ∙ length-map ws signed_decimal in
    let some : 0 < length (pieces line) = pieces_some line in
    subst (λ (xs : List ℤ). (line ≡ values_text xs) × ArrayFits room xs) t.0
    (text, record { not_empty = omega (arith, count, some); at_most = t.1; within = t.2; values = t.3 })

-- a line that is read as an array is its text
pub array_found : (room : ℕ) (line : List ℕ) (vs : List ℤ) → array_in room line ≡ Ok vs → (line ≡ values_text vs) × ArrayFits room vs
unfolding array_in
array_found room line vs e = array_case room line (all_signed (pieces line)) vs refl e

clean_values : (vs : List ℤ) → list_all fits vs ≡ true → AllByRecursion Clean (map signed_decimal vs)
clean_values [] all = tt
clean_values (v ∷ vs) all =
    let h = and_parts (fits v) (list_all fits vs) all in
    (lacks_signed 32 v (omega arith) h.0, clean_values vs h.1)

pieces_of_values : (vs : List ℤ) → 1 ≤ length vs → list_all fits vs ≡ true → pieces (values_text vs) ≡ map signed_decimal vs
pieces_of_values [] some all = absurd (omega (arith, some))
pieces_of_values (v ∷ vs) some all =
    let h = clean_values (v ∷ vs) all in
    pieces_joined (signed_decimal v) (map signed_decimal vs) h.0 h.1

-- the text of an array is read as this array
pub array_again : (room : ℕ) (vs : List ℤ) → ArrayFits room vs → array_in room (values_text vs) ≡ Ok vs
unfolding array_in
array_again room vs h =
    let few : nat_le (length vs) most_array_cells ≡ true = le-leb _ _ h.at_most in
    let within : nat_le (length vs) room ≡ true = le-leb _ _ h.within in
    let all : list_all fits vs ≡ true = h.values in
    let read : all_signed (pieces (values_text vs)) ≡ Some vs = ap all_signed (pieces_of_values vs h.not_empty h.values) ∙ all_signed_again vs h.values in
    ap (λ o. as_array room o) read ∙ rw (few, within, all) refl

joined_clean : (ps : List (List ℕ)) → AllByRecursion (λ p. lacks 10 p ≡ true) ps → lacks 10 (joined ps) ≡ true
joined_clean [] h = refl
joined_clean (p ∷ []) h = h.0
joined_clean (p ∷ q ∷ ps) h = lacks-append 10 p (32 ∷ joined (q ∷ ps)) h.0 (joined_clean (q ∷ ps) h.1)

clean_lines : (vs : List ℤ) → list_all fits vs ≡ true → AllByRecursion (λ p. lacks 10 p ≡ true) (map signed_decimal vs)
clean_lines [] all = tt
clean_lines (v ∷ vs) all =
    let h = and_parts (fits v) (list_all fits vs) all in
    (lacks_signed 10 v (omega arith) h.0, clean_lines vs h.1)

-- the text of an array has no line feed
pub array_clean : (room : ℕ) (vs : List ℤ) → ArrayFits room vs → lacks 10 (values_text vs) ≡ true
array_clean room vs h = joined_clean (map signed_decimal vs) (clean_lines vs h.values)
