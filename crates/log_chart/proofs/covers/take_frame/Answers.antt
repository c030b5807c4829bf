use Rattle.std.proofs.Common.{◌∙◌, ◌<◌, ℕ, ap, arith, length, sym}
use Rattle.std.proofs.lemmas.List.{length-set}
use Rattle.sig_types.specs.Counts.{fronts, rears}
use Rattle.log_chart.specs.declared.cover.Cover.{Cover}
use Rattle.log_chart.specs.Covers.{IsCover}
use Rattle.log_sums.proofs.Added.{count_at, read_at, set_rest, set_shown}
use Rattle.log_chart.proofs.covers.take_frame.Goals as goal

pub loop-place-preserved : goal.loop-place-preserved
loop-place-preserved c =
    let before = c.loop-place.invariant in
    let xs = c.loop-place.covers.items in
    let i = c.from.result in
    let at = c.from.ensures in
    let new = c.take_counts.new.cover in
    let inside : i < length xs = omega (arith, at, before.size, c.loop-place-test.true) in
    let item = c.get-fronts.ensures.item in
    record {
      size = length-set xs i new ∙ before.size;
      covers = λ f r n p d next small less here there is.
          set_shown Cover xs i p new d (λ x. IsCover f r c.args.from c.args.second x) inside
          (λ same. c.in_ok-take_counts.ensures f r n next small
          (here ∙ (count_at fronts p c.loop-place.place c.args.frame.now (same ∙ at) ∙ sym (ap (λ (x : ℕ × ℕ). x.0) item)))
          (there ∙ (count_at rears p c.loop-place.place c.args.frame.now (same ∙ at) ∙ sym (ap (λ (x : ℕ × ℕ). x.1) item)))
          (rw c.index_mut-cover.ensures.value (read_at Cover (λ x. IsCover f r c.args.from n x) xs c.args.covers.now.items i p d c.index_mut-cover.result.now inside same (before.rest i d (omega (arith, at))) is)))
          (λ under. before.covers f r n p d next small (omega (arith, at, under)) here there is) (omega (arith, at, less));
      rest = λ p d behind. set_rest Cover xs i p new d (omega (arith, at, behind)) ∙ before.rest p d (omega (arith, behind));
    }

pub returns-clause-covers : goal.returns-clause-covers
returns-clause-covers c = λ f r n p d next small lt here there is.
    c.loop-place.invariant.covers f r n p d next small (omega (arith, lt, c.loop-place-test.false)) here there is
