use Rattle.std.proofs.Common.{◌≡◌, ◌==◌, false, ne_eqb}
use Rattle.sig_io.proofs.Drafts.{then}
use Rattle.refusal_text.specs.Sums.{sum_text}
use Rattle.refusal_text.proofs.sums.put_sum.Goals as goal

pub returns : goal.returns
unfolding sum_text
returns g c =
    let some : (c.times-times.result == 0) ≡ false = ne_eqb c.times-times.result 0 c.if-times-eq0.false in
    let front = then (then (then (then (then (then c.put.ensures c.put_owner.ensures) (rw c.rule_name.ensures.text at c.put-2.ensures)) c.put-3.ensures)
    c.put_long_number.ensures) c.put-4.ensures) (rw c.waits-runs.ensures.runs at c.put_long_number-2.ensures) in
    rw (← c.times-times.ensures, some)
    (then (then (then front c.put-5.ensures) (rw c.waits-runs.ensures.longest at c.put_long_number-3.ensures)) c.put-6.ensures)
