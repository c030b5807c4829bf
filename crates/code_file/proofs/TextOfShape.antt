-- A code with Shape has a text.
use Rattle.std.proofs.Common.{◌≡◌, ℕ, suc, ◌+◌, ◌-◌, ◌<◌, ◌≤◌, Bool, true, List, [], ◌∷◌, length, Some, None, arith, map, sum}
use Rattle.std.specs.Prelude.{IsTrue, nat_lt, nat_le, leb, ℤ}
use Rattle.std.specs.List.{AllByRecursion, list_all}
use Rattle.std.proofs.lemmas.Bool.{and_parts, and_from, le-leb, leb-true, eq-eqb}
use Rattle.std.proofs.lemmas.List.Elements.{recursion_from_All}
use Rattle.std.proofs.lemmas.List.Sums.{sum_by-cons}
use Rattle.sig_types.specs.Number.{fits}
use Rattle.sig_types.specs.Pass.{at}
use Rattle.sig_types.specs.Limits.{most_instrs, most_array_cells, most_cells, last_line}
use Rattle.vap_code.specs.declared.Instr.{Instr}
use Rattle.vap_code.specs.declared.Instr.TheVariants.{Ret}
use Rattle.vap_code.specs.declared.operands.Operand.{Operand}
use Rattle.vap_code.specs.declared.operands.Operand.TheVariants as operand
use Rattle.vap_code.specs.Operands.{operand_of}
use Rattle.vap_code.specs.Machine.{last_start}
use Rattle.vap_code.specs.Valid.{HasShape, rise, operand_line_fits, instr_at}
use Rattle.code_file.specs.Text.{AllFit, InRange, InstrFits, InstrStands, nothing_after, ArrayFits, room_after, StartFits, last_after}
use Rattle.vap_code.specs.Codes.{CodeOf}
use Rattle.code_file.specs.Text.{HasText}
use Rattle.code_file.specs.Shape.{OperandTyped, HasRanges}

line_and_type : (o : Operand) → operand_line_fits o ≡ true → OperandTyped o → InRange o
line_and_type (operand.Line n) fit typed = let h = and_parts (leb 1 n) (leb n last_line) fit in (leb-true 1 n h.0, leb-true n last_line h.1)
line_and_type operand.Nothing fit typed = tt
line_and_type (operand.Value v) fit typed = typed
line_and_type (operand.Variable n) fit typed = typed
line_and_type (operand.Array n) fit typed = typed
line_and_type (operand.Timer n) fit typed = typed
line_and_type (operand.Place n) fit typed = typed
line_and_type (operand.Routine n) fit typed = typed
line_and_type (operand.Reading kind) fit typed = tt
line_and_type (operand.Command kind) fit typed = tt

instrs_stand : (is : List Instr) → ((p : ℕ) → p < length is → InstrFits (at is p Ret)) → AllFit InstrStands nothing_after tt is
instrs_stand [] each = tt
instrs_stand (i ∷ is) each = (each 0 (omega arith), instrs_stand is (λ p lt. each (suc p) (omega arith)))

-- ---- starts

follow : (last : ℕ) (ns : List ℕ) (all : ℕ) → all ≤ most_instrs → rise (last ∷ ns) ≡ true → ((k : ℕ) → k < length ns → at ns k 0 < all) →
    AllFit StartFits last_after (Some last) ns
follow last [] all few rising inside = tt
follow last (n ∷ ns) all few rising inside =
    let h = and_parts (nat_lt last n) (rise (n ∷ ns)) rising in
    let below : n < all = inside 0 (omega arith) in
    let small : nat_le n 65535 ≡ true = le-leb n 65535 (omega arith) in
    (and_from (nat_lt last n) (nat_le n 65535) h.0 small, follow n ns all few h.1 (λ k lt. inside (suc k) (omega arith)))

last_inside : (n : ℕ) (ns : List ℕ) (all : ℕ) → ((k : ℕ) → k < length (n ∷ ns) → at (n ∷ ns) k 0 < all) → last_start (n ∷ ns) < all
last_inside n [] all inside = inside 0 (omega arith)
last_inside n (m ∷ ns) all inside = last_inside m ns all (λ k lt. inside (suc k) (omega arith))

record StartsStand (ns : List ℕ) (all : ℕ) : Type 0 where
  not_empty : 1 ≤ length ns
  fit : AllFit StartFits last_after None ns
  inside : last_start ns < all

starts_stand : (ns : List ℕ) (all : ℕ) → at ns 0 1 ≡ 0 → rise ns ≡ true → ((k : ℕ) → k < length ns → at ns k 0 < all) → all ≤ most_instrs → StartsStand ns all
starts_stand [] all first rising inside few = absurd (omega (arith, first))
starts_stand (n ∷ ns) all first rising inside few =
    let zero_first : Rattle.std.specs.Prelude.nat_eq n 0 ≡ true = eq-eqb n 0 first in
    record {
      not_empty = omega arith;
      fit = (zero_first, follow n ns all few rising (λ k lt. inside (suc k) (omega arith)));
      inside = last_inside n ns all inside;
    }

-- ---- arrays

arrays_stand : (items : List (List ℤ)) (room : ℕ) → AllByRecursion (λ a. (1 ≤ length a) × (length a ≤ most_array_cells)) items →
    sum (map length items) ≤ room → AllByRecursion (λ a. list_all fits a ≡ true) items → AllFit ArrayFits room_after room items
arrays_stand [] room each all values = tt
arrays_stand (a ∷ items) room each all values =
    let sums : sum (map length (a ∷ items)) ≡ length a + sum (map length items) = sum_by-cons (λ n. n) (length a) (map length items) in (
      record { not_empty = each.0.0; at_most = each.0.1; within = omega (arith, sums, all); values = values.0 },
      arrays_stand items (room - length a) each.1 (omega (arith, sums, all)) values.1,
    )

is_true : (b : Bool) → IsTrue b → b ≡ true
is_true b h = h

pub shape_has_text : (code : CodeOf) → HasShape code → HasRanges code → HasText code
shape_has_text code h ranges =
    let starts = starts_stand code.starts (length code.instrs) h.first (is_true _ h.rising) h.inside h.instrs in
    let some : 1 ≤ length code.instrs = omega (arith, starts.inside) in
    record {
      vars = h.variables;
      timers = h.timers;
      arrays_at_most = h.arrays;
      arrays = arrays_stand code.arrays most_cells (recursion_from_All _ code.arrays h.cells) h.all_cells (recursion_from_All _ code.arrays ranges.values);
      has_routine = starts.not_empty;
      routines = h.routines;
      starts = starts.fit;
      not_empty = some;
      at_most = h.instrs;
      inside = starts.inside;
      instrs = instrs_stand code.instrs (λ p lt. line_and_type (operand_of (instr_at code.instrs p)) (is_true _ (h.lines p lt)) (ranges.instrs p lt));
    }
