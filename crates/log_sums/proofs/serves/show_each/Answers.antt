use Rattle.std.proofs.Common.{◌∙◌, ◌<◌, ◌≡◌, arith, get_or, length}
use Rattle.std.proofs.Math.Seq.{map-set_same}
use Rattle.sig_types.specs.declared.aspect.Aspect.TheVariants.{Red}
use Rattle.log_sums.specs.ServeSums.{AreServeSums}
use Rattle.log_sums.specs.declared.serves.Served.{Served}
use Rattle.log_sums.specs.Serves.{fronts_at}
use Rattle.log_sums.proofs.Added.{read_at, set_rest, set_shown}
use Rattle.log_sums.proofs.serves.show_each.Goals as goal

pub loop-place-preserved : goal.loop-place-preserved
loop-place-preserved c =
    let before = c.loop-place.invariant in
    let xs = c.loop-place.serves in
    let p = c.loop-place.place in
    let y = c.show_served.result in
    let old = c.args.serves.now in
    let second = c.args.second in
    let from = c.args.from in
    let inside : p < length xs = omega (arith, c.loop-place-test.true, c.loop-place.auto.serves) in
    record {
      serves = map-set_same (λ (x : Served). x.serve) xs p y _ c.show_served.ensures.serve ∙ before.serves;
      shown = λ a f n i d less next small here there is.
          set_shown Served xs p i y d (λ x. AreServeSums a f from second x.sums) inside
          (λ same.
          let all = read_at Served (λ x. (a second ≡ get_or c.args.picture.now x.serve.group.0 Red)
          × ((f second ≡ fronts_at x.serve.detectors c.args.frame.now) × AreServeSums a f from n x.sums)) xs old p i d _ inside same
          (before.rest p d (omega arith)) (here, (there, is)) in
          c.show_served.ensures.sums a f n next small all.0 all.1.0 all.1.1)
          (λ under. before.shown a f n i d under next small here there is) less;
      rest = λ i d behind. set_rest Served xs p i y d (omega (arith, behind)) ∙ before.rest i d (omega (arith, behind));
    }

pub returns-clause-sums : goal.returns-clause-sums
returns-clause-sums c = λ a f n i d inside next small here there is.
    c.loop-place.invariant.shown a f n i d (omega (arith, inside, c.loop-place-test.false)) next small here there is
