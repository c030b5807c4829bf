use Rattle.std.proofs.Common.{◌≡◌, length, map, refl, sym, ap, ◌∙◌, arith}
use Rattle.std.proofs.Math.ListN.{length-map}
use Rattle.vap_vm.proofs.Sizes.{same_rows, length_at}
use Rattle.vap_vm.proofs.arrays.Arrays.copy_from.Goals as goal

pub loop-a-init : goal.loop-a-init
loop-a-init c =
    let same : map length (map (λ r. r.items) c.self.inside.rows.items) ≡ map length (map (λ r. r.items) c.other.inside.rows.items) =
    ap (map length) c.self.view_is ∙ c.requires ∙ ap (map length) (sym c.other.view_is) in
    record {
      long = sym (length-map c.self.inside.rows.items (λ r. r.items)) ∙ sym (length-map (map (λ r. r.items) c.self.inside.rows.items) length) ∙
          ap length same ∙ length-map (map (λ r. r.items) c.other.inside.rows.items) length ∙ length-map c.other.inside.rows.items (λ r. r.items);
      wide = refl;
      done_so_far = λ k d lt. absurd (omega arith);
      left = λ k d e lt. length_at (λ r. r.items) c.self.inside.rows.items c.other.inside.rows.items k d e same lt;
      short = c.self.invariant;
    }

pub returns : goal.returns
returns c =
    same_rows (λ r. r.items) c.loop-a.self-inside.rows.items c.other.inside.rows.items c.loop-a.invariant.long
    (λ k d lt. c.loop-a.invariant.done_so_far k d (omega (arith, lt, c.loop-a-test.false, c.len-a-end.ensures, c.loop-a.invariant.wide)))
    ∙ c.other.view_is
