use Rattle.std.proofs.Common.{◌≡◌, ◌≤◌, ◌∙◌, length, sym, true, arith}
use Rattle.std.specs.Prelude.{IsTrue}
use Rattle.sig_types.specs.Limits.{most_arrays}
use Rattle.code_verify.proofs.ShapeFacts.{fit_arrays, fit_count, fit_rows, fit_sum}
use Rattle.code_verify.proofs.shape.arrays_fit.Goals as goal
use Rattle.code_verify.proofs.shape.arrays_fit.Goals.{then-arrays-from, else-arrays-from}

pub returns-then-cells_fit : goal.returns-then-cells_fit
returns-then-cells_fit c =
    elim c.if-arrays-from.branch [
      | then-arrays-from w ↦
          let each : IsTrue w.cells_fit.result = cc in (
            (λ yes. fit_arrays (λ a. a.items) c.args.arrays.now (omega (arith, w.if-arrays-from.true)) (w.cells_fit.ensures.0 each)
                (c.all_cells_fit.ensures.0 yes)),
            (λ fit. c.all_cells_fit.ensures.1 (fit_sum (λ a. a.items) c.args.arrays.now fit)),
          )
      | else-arrays-from w ↦
          let test = sym w.value-is ∙ c.if-cells_fit.true in
          let fits : length c.args.arrays.now ≤ most_arrays = grind (arith, test) in
          absurd (omega (arith, w.if-arrays-from.false))
    ]

pub returns-else-cells_fit : goal.returns-else-cells_fit
returns-else-cells_fit c =
    elim c.if-arrays-from.branch [
      | then-arrays-from w ↦ (
        (λ yes. cc),
        (λ fit. let each : w.cells_fit.result ≡ true = w.cells_fit.ensures.1 (fit_rows (λ a. a.items) c.args.arrays.now fit) in cc),
      )
      | else-arrays-from w ↦ (
        (λ yes. cc),
        (λ fit. absurd (omega (arith, w.if-arrays-from.false, fit_count (λ a. a.items) c.args.arrays.now fit))),
      )
    ]
