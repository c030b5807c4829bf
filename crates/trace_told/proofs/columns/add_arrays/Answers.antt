use Rattle.std.proofs.Common.{◌≡◌, ◌∙◌, ap, sym, arith, vec_len}
use Rattle.trace_told.proofs.Filled.{array_sized}
use Rattle.trace_told.proofs.columns.add_arrays.Goals as goal

pub overflow_cast-cells : goal.overflow_cast-cells
overflow_cast-cells c =
    let few = array_sized c.args.arrays.now c.loop-a.a c.index-arrays-a.result c.requires.sized c.loop-a-test.true c.index-arrays-a.is in
    let here : c.len-cells.result ≡ vec_len c.index-arrays-a.result.values =
    c.len-cells.ensures ∙ ap (λ d. vec_len d.values) (sym c.index-arrays-a.is) in
    omega (arith, few, here, c.index-arrays-a.result.values.ok.0)

pub add_cells-requires : goal.add_cells-requires
add_cells-requires c =
    let few = array_sized c.args.arrays.now c.loop-a.a c.index-arrays-a.result c.requires.sized c.loop-a-test.true c.index-arrays-a.is in
    let here : c.len-cells.result ≡ vec_len c.index-arrays-a.result.values =
    c.len-cells.ensures ∙ ap (λ d. vec_len d.values) (sym c.index-arrays-a.is) in
    omega (arith, few, here, c.index-arrays-a.result.values.ok.0)
