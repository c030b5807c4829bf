use Rattle.std.proofs.Common.{◌≡◌, ◌∙◌, ◌+◌, ◌≤◌, length, arith}
use Rattle.std.proofs.lemmas.Grind.{common_steps}
use Rattle.sig_io.proofs.Reading.{keeps_front, reads_whole, front_length}
use Rattle.sig_io.proofs.whole.read_whole.Goals as goal

pub returns-then-n-eq0-clause-bytes : goal.returns-then-n-eq0-clause-bytes
returns-then-n-eq0-clause-bytes g c = λ file e.
    reads_whole _ _ _ _ c.if-n-eq0.true (c.loop-bytes.invariant.3 file e)
    (c.in_ok-n.ensures.bytes file (c.loop-bytes.invariant.1 ∙ e))

pub loop-bytes-preserved : goal.loop-bytes-preserved
loop-bytes-preserved g c = (
  omega (arith, c.in_ok-n.ensures.len, c.in_ok-n.ensures.count),
  c.in_ok-n.ensures.contents_stay ∙ c.loop-bytes.invariant.1,
  omega (arith, c.in_ok-n.ensures.later),
  λ file e.
      let len : length c.read_more.new.bytes.items ≡ length c.loop-bytes.bytes.items + c.in_ok-n.n = grind (arith, common_steps) in
      keeps_front _ _ _ _ len (c.loop-bytes.invariant.3 file e) (c.in_ok-n.ensures.bytes file (c.loop-bytes.invariant.1 ∙ e)),
)

pub returns-clause-too_long : goal.returns-clause-too_long
returns-clause-too_long g c = λ file e n r.
    let front : length c.loop-bytes.bytes.items ≤ length (file c.args.name.now) = front_length _ _ (c.loop-bytes.invariant.3 file e) in
    grind (arith, common_steps)
