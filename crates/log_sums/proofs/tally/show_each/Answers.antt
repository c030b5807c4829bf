use Rattle.std.proofs.Common.{◌∙◌, ◌<◌, arith, refl, get_or, length}
use Rattle.log_sums.specs.Tallies.{AreCounts, times_of}
use Rattle.log_sums.proofs.Shown.{keys_next, rest_more, same_keys, shown_more}
use Rattle.log_sums.proofs.Steps.{after}
use Rattle.log_sums.proofs.tally.show_each.Goals as goal

pub loop-tally-preserved : goal.loop-tally-preserved
loop-tally-preserved g c =
    let before = c.loop-tally.invariant in
    let i = c.loop-tally.tally-index in
    let xs = c.loop-tally.tallies in
    let y = c.show_tally.result in
    let t = c.tally-item.result in
    let size = c.loop-tally.auto.tallies in
    let inside : i < length xs = omega (arith, size, c.loop-tally-test.true) in
    record {
      keys = same_keys g.row.K.Denot xs i y t c.show_tally.ensures.key ∙ before.keys;
      shown = λ a n next small here await.
          let code = g.K.Key.code in
          let was : AreCounts (times_of code a (code (get_or xs i t).key)) c.args.from n (get_or xs i t).counts
          = rw (before.rest i t (omega arith)) (await.each i t c.loop-tally-test.true) in
          let now : AreCounts (times_of code a (code y.key)) c.args.from c.args.second y.counts
          = rw c.show_tally.ensures.key (c.show_tally.ensures.counts a n next small here was) in
          shown_more g.row.K.Denot (λ x. AreCounts (times_of code a (code x.key)) c.args.from c.args.second x.counts) xs i y inside now
          (before.shown a n next small here await);
      rest = λ j d behind. rest_more g.row.K.Denot xs i j y d behind ∙ before.rest j d (omega (arith, behind));
    }

pub returns : goal.returns
returns g c = λ a n next small here await.
    let before = c.loop-tally.invariant in
    record {
      keys_are = before.keys ∙ (await.keys_are ∙ rw (keys_next g.row.K.Denot g.K.Key.code a n c.args.second (after n c.args.second next), here) refl);
      each = λ i d inside. before.shown a n next small here await i d (omega (arith, inside, c.loop-tally.auto.tallies, c.loop-tally-test.false));
    }
