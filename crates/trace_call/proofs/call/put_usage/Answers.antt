use Rattle.sig_io.proofs.Drafts.{then}
use Rattle.trace_call.specs.Call.{usage_text}
use Rattle.trace_call.proofs.call.put_usage.Goals as goal

pub returns : goal.returns
unfolding usage_text
returns g c =
    then (then (then (then (then (then (then (then (then (then c.put.ensures c.put-2.ensures) c.put-3.ensures) c.put-4.ensures) c.put-5.ensures)
    c.put-6.ensures) c.put-7.ensures) c.put-8.ensures) c.put-9.ensures) c.put-10.ensures) c.put-11.ensures
