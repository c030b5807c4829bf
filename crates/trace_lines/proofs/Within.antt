-- The places of rows.
use Rattle.std.proofs.Common.{◌≡◌, ℕ, ◌<◌, List, subst}
use Rattle.std.specs.Prelude.{All, IfOk, Result, Ok, Err}
use Rattle.std.proofs.lemmas.List.Elements.{All-filter, All-map}
use Rattle.vap_code.specs.declared.Instr.{Instr}
use Rattle.trace_watch.specs.declared.places.Mark.{Mark}
use Rattle.trace_watch.specs.Places.{IsWithin, statements_in, tests_in}
use Rattle.trace_lines.specs.Rows.{IsRowWithin, is_in, lines_of, place_of, places_in, row_of, rows_of}

places_within : (places line : ℕ) (marks : List Mark) → All (IsWithin places) marks → All (λ p. p < places) (places_in line marks)
places_within places line marks all = All-map (λ p. p < places) place_of _ (All-filter (is_in line) (IsWithin places) marks all)

-- the rows of marks that are within a code
pub rows_within : (places : ℕ) (instrs : List Instr) (statements tests : List Mark) → statements ≡ statements_in instrs → tests ≡ tests_in instrs →
    All (IsWithin places) statements → All (IsWithin places) tests → All (IsRowWithin places) (rows_of instrs)
unfolding rows_of
rows_within places instrs statements tests first second some others =
    let ss = subst (λ ms. All (IsWithin places) ms) first some in
    let ts = subst (λ ms. All (IsWithin places) ms) second others in
    All-map (IsRowWithin places) (row_of (statements_in instrs) (tests_in instrs)) (lines_of (statements_in instrs)) (λ k d below. record {
      statements = places_within places _ (statements_in instrs) ss;
      tests = places_within places _ (tests_in instrs) ts;
    })

-- what holds however a call ends
pub always_ok : {A E : Type 0} {P : Type 0} (r : Result A E) → P → IfOk r (λ x. P)
always_ok (Ok x) p = p
always_ok (Err e) p = tt
