use Rattle.std.proofs.Common.{◌≡◌, ◌+◌, ◌∙◌, arith, sym, ap}
use Rattle.std.specs.Prelude.{max}
use Rattle.log_chart.specs.Spans.{AreSpans}
use Rattle.log_sums.specs.Detectors.{occupied}
use Rattle.log_chart.proofs.CoverSteps.{occupied_next}
use Rattle.log_chart.proofs.covers.take_counts.Goals as goal

pub returns-then-second-from : goal.returns-then-second-from
returns-then-second-from c = λ f r n next small here there is.
    let same : max c.args.from (c.args.second + 1) ≡ max c.args.from (n + 1) = omega (arith, next, c.if-second-from.true) in
    record {
      counts_are = c.add_counts.ensures.counts f r n next small here there is.counts_are;
      spans_are = rw (same, c.add_counts.ensures.spans) is.spans_are;
    }

pub returns : goal.returns
returns c = λ f r n next small here there is.
    let counts = c.add_counts.ensures.counts f r n next small here there is.counts_are in
    let old : max c.args.from (n + 1) ≡ c.args.second = omega (arith, next, c.if-second-from.false) in
    let new : max c.args.from (c.args.second + 1) ≡ c.args.second + 1 = omega (arith, c.if-second-from.false) in
    record {
      counts_are = record {
        fronts_are = counts.fronts_are;
        rears_are = counts.rears_are;
        fronts_fit = counts.fronts_fit;
        rears_fit = counts.rears_fit;
      };
      spans_are = rw new (c.in_ok-show.ensures.shown (occupied f r) c.args.from (omega (arith, c.if-second-from.false))
          (occupied_next f r c.args.second _ counts ∙ sym c.is_covered-covered.ensures) (rw c.add_counts.ensures.spans (rw old at is.spans_are)));
    }
