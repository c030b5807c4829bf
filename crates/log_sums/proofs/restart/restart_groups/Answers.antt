use Rattle.std.proofs.Common.{◌∙◌, ◌<◌, ◌+◌, arith, length}
use Rattle.std.proofs.lemmas.List.{length-set}
use Rattle.log_sums.specs.declared.group.GroupSums.{GroupSums}
use Rattle.log_sums.specs.Groups.{AreGroupSums}
use Rattle.log_sums.proofs.Added.{read_at, set_rest, set_shown}
use Rattle.log_sums.proofs.restart.restart_groups.Goals as goal

pub loop-place-preserved : goal.loop-place-preserved
loop-place-preserved c =
    let before = c.loop-place.invariant in
    let xs = c.loop-place.groups in
    let i = c.loop-place.place in
    let old = c.args.groups.now in
    let y = c.restart_group.result in
    let inside : i < length xs = omega (arith, before.size, c.loop-place-test.true) in
    record {
      size = length-set xs i y ∙ before.size;
      shown = λ a from n g d less is.
          set_shown GroupSums xs i g y d (λ x. AreGroupSums a (n + 1) n x) inside
          (λ same. c.restart_group.ensures a from n
          (read_at GroupSums (λ x. AreGroupSums a from n x) xs old i g d _ inside same (before.rest i d (omega arith)) is))
          (λ under. before.shown a from n g d (omega (arith, under)) is) (omega (arith, less));
      rest = λ g d behind. set_rest GroupSums xs i g y d (omega (arith, behind)) ∙ before.rest g d (omega (arith, behind));
    }

pub returns : goal.returns
returns c = λ a from n g d inside is.
    c.loop-place.invariant.shown a from n g d (omega (arith, inside, c.loop-place-test.false)) is
