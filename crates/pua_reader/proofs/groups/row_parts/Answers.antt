use Rattle.std.proofs.Common.{◌≡◌, ◌<◌, ◌≤◌, true, ℕ, List, [], ◌∷◌, length, map, slice_index_or, Some, Bor, refl, sym, ◌∙◌, arith}
use Rattle.sig_types.specs.Text.{is_name}
use Rattle.pua_reader.specs.Groups.{group_row}
use Rattle.pua_reader.proofs.Puts.{in_range}
use Rattle.pua_reader.proofs.groups.row_parts.Goals as goal

name_alone : (ws : List (Bor (List ℕ))) (place : ℕ) (d : Bor (List ℕ)) → 1 ≤ length ws → length ws < 2 → is_name (slice_index_or ws 0 d).now ≡ true →
    group_row place (map (λ w. w.now) ws) ≡ Some (record { name = (slice_index_or ws 0 d).now; number = place })
name_alone [] place d more less named = absurd (omega arith)
name_alone (w ∷ []) place d more less named = rw named refl
name_alone (w ∷ v ∷ ws) place d more less named = absurd (omega arith)

pub returns-in-len1 : goal.returns-in-len1
returns-in-len1 c =
    let named = sym c.is_name.ensures.name ∙ c.if-is_name.true in
    let row = name_alone c.args.words.now c.args.place (record { ref_ptr = (0, 0); now = [] }) c.in-len1.len_at_least c.in-len1.len_below named in
    (c.args.place, row, in_range c.args.place c.requires.at_least (omega (arith, c.ranges.place)), named)
