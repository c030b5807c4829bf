use Rattle.std.proofs.Common.{arith}
use Rattle.std.proofs.lemmas.List.{take_all}
use Rattle.log_svg.specs.Marks.{marks_text}
use Rattle.sig_io.proofs.Drafts.{then}
use Rattle.log_svg.proofs.marks.put_marks.Goals as goal

pub returns : goal.returns
unfolding marks_text
returns g c =
    let i = c.loop-mark.invariant in
    rw (take_all c.loop-mark.mark-index c.args.marks.now (omega (arith, c.loop-mark-test.false))) at
    (then i.puts (rw i.last at c.close_mark.ensures))
