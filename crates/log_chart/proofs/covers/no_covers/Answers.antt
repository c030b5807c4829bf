use Rattle.std.proofs.Common.{◌≡◌, ◌∙◌, ◌<◌, refl, arith, length, length-append}
use Rattle.log_chart.specs.declared.cover.Cover.{Cover}
use Rattle.log_chart.proofs.CoverSteps.{covers_more, cover_none}
use Rattle.log_chart.specs.Covers.{IsCover}
use Rattle.log_chart.proofs.covers.no_covers.Goals as goal

pub loop-place-preserved : goal.loop-place-preserved
loop-place-preserved c =
    let i = c.loop-place.invariant in
    record {
      size = omega (arith, c.in-Ok.ensures.len, i.size, c.loop-place.covers.ok);
      covers = λ f r from p d least lt. rw c.in-Ok.ensures.items (covers_more (λ x. IsCover f r from 0 x) c.loop-place.covers.items _ c.loop-place._place p d i.size
          (λ q e less. i.covers f r from q e least less) (cover_none f r from _ least refl refl c.new.ensures.items) lt);
    }

pub returns-clause-covers : goal.returns-clause-covers
returns-clause-covers c = λ f r from p d least lt. c.loop-place.invariant.covers f r from p d least (omega (arith, lt, c.loop-place-test.false))
