use Rattle.std.proofs.Common.{◌≡◌, ◌<◌, [], length, map, get_or, set, sym, ap, ◌∙◌, arith, rules}
use Rattle.std.proofs.Math.ListN.{length-map}
use Rattle.std.proofs.lemmas.Grind.{common_steps}
use Rattle.std.proofs.lemmas.List.{get_or-map, map-set}
use Rattle.vap_vm.proofs.arrays.Arrays.write.Goals as goal

pub returns : goal.returns
returns c =
    let rows = c.self.inside.rows.items in
    let row = c.index_mut.result.now in
    let within : c.args.a < length rows = omega (arith, c.requires.a, ap length c.self.view_is, length-map rows (λ r. r.items)) in
    let cells = ap (λ r. r.items) c.index_mut.ensures.value ∙ sym (get_or-map (λ r. r.items) rows c.args.a row [] within) ∙
    ap (λ xs. get_or xs c.args.a []) c.self.view_is in
    let written : c.write_cell.new.cells.items ≡ set row.items c.args.k c.args.value = search (rules, common_steps) in
    map-set (λ r. r.items) rows c.args.a c.write_cell.new.cells
    ∙ ap (λ xs. set (map (λ r. r.items) rows) c.args.a xs) (written ∙ ap (λ xs. set xs c.args.k c.args.value) cells)
    ∙ ap (λ xs. set xs c.args.a (set (get_or c.args.self.now c.args.a []) c.args.k c.args.value)) c.self.view_is
