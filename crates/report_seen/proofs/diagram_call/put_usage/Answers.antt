use Rattle.sig_io.proofs.Drafts.{then}
use Rattle.report_seen.specs.DiagramCall.{usage_text}
use Rattle.report_seen.proofs.diagram_call.put_usage.Goals as goal

pub returns : goal.returns
unfolding usage_text
returns g c =
    let diagram = rw c.form_words.ensures at c.put.ensures in
    let text = rw c.form_words-2.ensures at c.put-3.ensures in
    let sums = rw c.form_words-3.ensures at c.put-5.ensures in
    then (then (then (then (then (then (then (then (then (then diagram c.put-2.ensures) text) c.put-4.ensures) sums) c.put-6.ensures) c.put-7.ensures) c.put-8.ensures) c.put-9.ensures) c.put-10.ensures) c.put-11.ensures
