use Rattle.std.proofs.Common.{◌≡◌, ◌∙◌, ◌<◌, length, sym, ap, arith, ℕ, pos, false, None, slice_index_or, Option, ℤ, Bool, List}
use Rattle.pua_model.specs.Plan.{InterstageOf}
use Rattle.pua_model.specs.Wish.{wished_by}
use Rattle.pua_model.proofs.Lists.{wished_more, wished_left}
use Rattle.pua_model.proofs.parts.Interstage.wish_rows.Goals.{in-Some, in_default}
use Rattle.pua_model.proofs.parts.Interstage.wish_rows.Goals as goal

pub loop-g-preserved : goal.loop-g-preserved
loop-g-preserved c =
    let rows : List (Option (ℤ × ℤ)) = c.args.self.now.rows in
    let before : ℕ → Bool = λ g. slice_index_or c.args.out.now g false in
    let wished : ℕ → Bool = λ g. wished_by (slice_index_or rows g None) (pos c.args.t) (before g) in
    let k = c.loop-g.g in
    let lt : k < length c.args.out.now = omega (arith, c.loop-g-test.true, c.len-g-end.ensures.len) in
    let same : rows ≡ c.deref-rows.result.now = sym (ap (λ (v : InterstageOf). v.rows) c.self.view_is) ∙ sym c.deref-rows.ensures.value in
    elim c.match-rows-g.branch [
      | in-Some w ↦
          let here : w.is_green_in.result ≡ wished k = w.is_green_in.ensures ∙ sym (ap (λ (r : Option (ℤ × ℤ)). wished_by r (pos c.args.t) (before k)) (ap (λ l. slice_index_or l k None) same ∙ w.in-Some.is)) in
          rw (w.out-is, w.set.ensures) (wished_more c.loop-g.out wished before (length c.args.out.now) k w.is_green_in.result c.loop-g.invariant lt here)
      | in_default w ↦
          let here : before k ≡ wished k = sym (ap (λ (r : Option (ℤ × ℤ)). wished_by r (pos c.args.t) (before k)) (ap (λ l. slice_index_or l k None) same ∙ w.in_default.is)) in
          rw w.out-is (wished_left c.loop-g.out wished before (length c.args.out.now) k c.loop-g.invariant lt here)
    ]
