use Rattle.std.proofs.Common.{◌∙◌, ◌<◌, ℕ, ap, arith, get_or, length, sym}
use Rattle.std.proofs.lemmas.List.{length-set}
use Rattle.sig_types.specs.declared.aspect.Aspect.TheVariants.{Red}
use Rattle.log_sums.specs.declared.group.GroupSums.{GroupSums}
use Rattle.log_sums.specs.Groups.{AreGroupSums}
use Rattle.log_sums.proofs.Added.{read_at, set_rest, set_shown}
use Rattle.log_sums.proofs.adding.show_groups.Goals as goal

pub loop-place-preserved : goal.loop-place-preserved
loop-place-preserved c =
    let before = c.loop-place.invariant in
    let xs = c.loop-place.groups in
    let i = c.from-at.result in
    let at = c.from-at.ensures in
    let old = c.args.groups.now in
    let inside : i < length xs = omega (arith, at, before.size, c.loop-place-test.true, c.len-place-end.ensures.at_most, c.len-place-end.ensures.len) in
    record {
      size = length-set xs i c.show.result ∙ before.size;
      shown = λ a n g d next small less here is.
          set_shown GroupSums xs i g c.show.result d (λ x. AreGroupSums a c.args.from c.args.second x) inside
          (λ same. c.show.ensures a n next small (here ∙ (ap (λ (k : ℕ). get_or c.args.picture.now k Red) (same ∙ at) ∙ sym c.get.ensures))
          (read_at GroupSums (λ x. AreGroupSums a c.args.from n x) xs old i g d _ inside same (before.rest i d (omega (arith, at))) is))
          (λ under. before.shown a n g d next small (omega (arith, at, under)) here is) (omega (arith, at, less));
      rest = λ g d behind. set_rest GroupSums xs i g c.show.result d (omega (arith, at, behind)) ∙ before.rest g d (omega (arith, behind));
    }

pub returns : goal.returns
returns c = λ a n g d next small inside here is.
    c.loop-place.invariant.shown a n g d next small (omega (arith, inside, c.loop-place-test.false, c.len-place-end.ensures.len)) here is
