use Rattle.std.proofs.Common.{◌∙◌, ◌+◌, ◌<◌, arith, get_or, length}
use Rattle.log_sums.specs.Tallies.{AreCounts, times_of}
use Rattle.log_sums.proofs.Shown.{rest_more, same_keys, shown_more}
use Rattle.log_sums.proofs.restart_tallies.restart_each.Goals as goal

pub loop-tally-preserved : goal.loop-tally-preserved
loop-tally-preserved g c =
    let before = c.loop-tally.invariant in
    let i = c.loop-tally.tally-index in
    let xs = c.loop-tally.tallies in
    let y = c.restart_tally.result in
    let t = c.tally-item.result in
    let size = c.loop-tally.auto.tallies in
    let inside : i < length xs = omega (arith, size, c.loop-tally-test.true) in
    record {
      keys = same_keys g.row.K.Denot xs i y t c.restart_tally.ensures.key ∙ before.keys;
      shown = λ a from n are.
          let code = g.K.Key.code in
          let was : AreCounts (times_of code a (code (get_or xs i t).key)) from n (get_or xs i t).counts
          = rw (before.rest i t (omega arith)) (are.each i t c.loop-tally-test.true) in
          let now : AreCounts (times_of code a (code y.key)) (n + 1) n y.counts
          = rw c.restart_tally.ensures.key (c.restart_tally.ensures.counts (times_of code a (code (get_or xs i t).key)) from n was) in
          shown_more g.row.K.Denot (λ x. AreCounts (times_of code a (code x.key)) (n + 1) n x.counts) xs i y inside now
          (before.shown a from n are);
      rest = λ j d behind. rest_more g.row.K.Denot xs i j y d behind ∙ before.rest j d (omega (arith, behind));
    }

pub returns : goal.returns
returns g c = λ a from n are.
    let before = c.loop-tally.invariant in
    record {
      keys_are = before.keys ∙ are.keys_are;
      each = λ i d inside. before.shown a from n are i d (omega (arith, inside, c.loop-tally.auto.tallies, c.loop-tally-test.false));
    }
