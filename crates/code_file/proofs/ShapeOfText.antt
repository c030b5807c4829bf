-- A code that has a text has Shape.
use Rattle.std.proofs.Common.{◌≡◌, ℕ, zero, suc, ◌+◌, ◌-◌, ◌<◌, ◌≤◌, true, List, [], ◌∷◌, length, arith, map, sum, refl, Some, None}
use Rattle.std.specs.Prelude.{nat_lt, nat_le, leb, ℤ}
use Rattle.std.specs.List.{AllByRecursion}
use Rattle.std.proofs.lemmas.Bool.{and_parts, and_from, le-leb, eqb-true, ltb-true}
use Rattle.std.proofs.lemmas.List.Elements.{All-from_recursion}
use Rattle.std.proofs.lemmas.List.Sums.{sum_by-cons}
use Rattle.sig_types.specs.Pass.{at}
use Rattle.sig_types.specs.Limits.{most_array_cells, most_cells, last_line}
use Rattle.vap_code.specs.declared.Instr.{Instr}
use Rattle.vap_code.specs.declared.Instr.TheVariants.{Ret}
use Rattle.vap_code.specs.declared.operands.Operand.{Operand}
use Rattle.vap_code.specs.declared.operands.Operand.TheVariants as operand
use Rattle.vap_code.specs.Operands.{operand_of}
use Rattle.vap_code.specs.Machine.{last_start}
use Rattle.vap_code.specs.Valid.{HasShape, rise, operand_line_fits, instr_at}
use Rattle.code_file.specs.Text.{AllFit, InRange, InstrFits, InstrStands, nothing_after, ArrayFits, room_after, StartFits, last_after}
use Rattle.std.specs.List.{list_all}
use Rattle.sig_types.specs.Number.{fits}
use Rattle.vap_code.specs.Codes.{CodeOf}
use Rattle.code_file.specs.Text.{HasText}
use Rattle.code_file.specs.Shape.{OperandTyped, HasRanges}

line_of_type : (o : Operand) → InRange o → operand_line_fits o ≡ true
line_of_type (operand.Line n) fit = and_from (leb 1 n) (leb n last_line) (le-leb 1 n fit.0) (le-leb n last_line fit.1)
line_of_type operand.Nothing fit = refl
line_of_type (operand.Value v) fit = refl
line_of_type (operand.Variable n) fit = refl
line_of_type (operand.Array n) fit = refl
line_of_type (operand.Timer n) fit = refl
line_of_type (operand.Place n) fit = refl
line_of_type (operand.Routine n) fit = refl
line_of_type (operand.Reading kind) fit = refl
line_of_type (operand.Command kind) fit = refl

instr_stands : (is : List Instr) → AllFit InstrStands nothing_after tt is → (p : ℕ) → p < length is → InstrFits (at is p Ret)
instr_stands [] each p lt = absurd (omega (arith, lt))
instr_stands (i ∷ is) each zero lt = each.0
instr_stands (i ∷ is) each (suc p) lt = instr_stands is each.1 p (omega (arith, lt))

-- ---- starts

rises : (last : ℕ) (ns : List ℕ) → AllFit StartFits last_after (Some last) ns → rise (last ∷ ns) ≡ true
rises last [] fit = refl
rises last (n ∷ ns) fit = and_from (nat_lt last n) (rise (n ∷ ns)) (and_parts (nat_lt last n) (nat_le n 65535) fit.0).0 (rises n ns fit.1)

below_last : (last : ℕ) (ns : List ℕ) → rise (last ∷ ns) ≡ true → (k : ℕ) → k < length (last ∷ ns) → at (last ∷ ns) k 0 ≤ last_start (last ∷ ns)
below_last last [] rising zero lt = omega arith
below_last last [] rising (suc k) lt = absurd (omega (arith, lt))
below_last last (n ∷ ns) rising zero lt =
    let h = and_parts (nat_lt last n) (rise (n ∷ ns)) rising in
    omega (arith, ltb-true last n h.0, below_last n ns h.1 0 (omega arith))
below_last last (n ∷ ns) rising (suc k) lt = below_last n ns (and_parts (nat_lt last n) (rise (n ∷ ns)) rising).1 k (omega (arith, lt))

record StartsRise (ns : List ℕ) : Type 0 where
  first : at ns 0 1 ≡ 0
  rising : rise ns ≡ true
  inside : (k : ℕ) → k < length ns → at ns k 0 ≤ last_start ns

starts_rise : (ns : List ℕ) → 1 ≤ length ns → AllFit StartFits last_after None ns → StartsRise ns
starts_rise [] some fit = absurd (omega (arith, some))
starts_rise (n ∷ ns) some fit =
    let rising = rises n ns fit.1 in
    record { first = eqb-true n 0 fit.0; rising = rising; inside = below_last n ns rising }

-- ---- arrays

cells_fit : (items : List (List ℤ)) (room : ℕ) → AllFit ArrayFits room_after room items →
    AllByRecursion (λ a. (1 ≤ length a) × (length a ≤ most_array_cells)) items × AllByRecursion (λ a. list_all fits a ≡ true) items
    × (sum (map length items) ≤ room)
cells_fit [] room fit = (tt, tt, omega arith)
cells_fit (a ∷ items) room fit =
    let sums : sum (map length (a ∷ items)) ≡ length a + sum (map length items) = sum_by-cons (λ n. n) (length a) (map length items) in
    let later = cells_fit items (room - length a) fit.1 in
    (((fit.0.not_empty, fit.0.at_most), later.0), (fit.0.values, later.1), omega (arith, sums, fit.0.within, later.2))

pub text_has_shape : (code : CodeOf) → HasText code → HasShape code
text_has_shape code h =
    let starts = starts_rise code.starts h.has_routine h.starts in
    let cells = cells_fit code.arrays most_cells h.arrays in
    record {
      instrs = h.at_most;
      routines = h.routines;
      variables = h.vars;
      timers = h.timers;
      arrays = h.arrays_at_most;
      cells = All-from_recursion _ code.arrays cells.0;
      all_cells = cells.2;
      first = starts.first;
      rising = starts.rising;
      inside = λ k lt. omega (arith, starts.inside k lt, h.inside);
      lines = λ p lt. line_of_type (operand_of (instr_at code.instrs p)) (instr_stands code.instrs h.instrs p lt);
    }

typed_of : (o : Operand) → InRange o → OperandTyped o
typed_of (operand.Line n) fit = tt
typed_of operand.Nothing fit = tt
typed_of (operand.Value v) fit = fit
typed_of (operand.Variable n) fit = fit
typed_of (operand.Array n) fit = fit
typed_of (operand.Timer n) fit = fit
typed_of (operand.Place n) fit = fit
typed_of (operand.Routine n) fit = fit
typed_of (operand.Reading kind) fit = tt
typed_of (operand.Command kind) fit = tt

pub text_has_ranges : (code : CodeOf) → HasText code → HasRanges code
text_has_ranges code h = record {
  instrs = λ p lt. typed_of (operand_of (instr_at code.instrs p)) (instr_stands code.instrs h.instrs p lt);
  values = All-from_recursion _ code.arrays (cells_fit code.arrays most_cells h.arrays).1;
}
