use Rattle.std.proofs.Common.{◌≡◌, ◌==◌, false, ne_eqb}
use Rattle.sig_io.proofs.Drafts.{then}
use Rattle.judge_text.specs.Sums.{sum_text}
use Rattle.judge_text.proofs.sums.put_sum.Goals as goal

pub returns : goal.returns
unfolding sum_text
returns g c =
    let some : (c.times-times.result == 0) ≡ false = ne_eqb c.times-times.result 0 c.if-times-eq0.false in
    rw (← c.times-times.ensures, some)
    (then (then (then (then (then (then (then c.put.ensures (rw c.rule_name.ensures.text at c.put-2.ensures)) c.put-3.ensures) c.put_name.ensures)
    c.put_other.ensures) c.put-4.ensures) c.put_long_number.ensures) c.put-5.ensures)
