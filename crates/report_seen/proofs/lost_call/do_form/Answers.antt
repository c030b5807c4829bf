use Rattle.std.proofs.Common.{◌≡◌, ◌∙◌, [], ℕ, List, refl, ap}
use Rattle.log_read.specs.RecordAnswers.{Reads, name_of, names_of}
use Rattle.report_seen.specs.LostCall.{AreLostIn, IsLostText}
use Rattle.report_seen.specs.LostForm.{asked_in}
use Rattle.report_seen.specs.LostText.{lost_text}
use Rattle.report_seen.proofs.LostCalls.{lost_answered, lost_stopped}
use Rattle.report_seen.proofs.LostReading.{untold}
use Rattle.report_seen.proofs.lost_call.do_form.Goals as goal

pub returns-in-Err-clause-answered : goal.returns-in-Err-clause-answered
returns-in-Err-clause-answered g c file told =
    rw c.stop_of.ensures
    (lost_stopped (asked_in c.args.form.now) (file c.args.form.now.log.now) _ _ _ (untold [] (file c.args.form.now.log.now) [] c.in-Err.stop (c.in-Err.ensures.opened file told [])) refl)

pub returns-in-Ok-find_lost-clause-answered : goal.returns-in-Ok-find_lost-clause-answered
returns-in-Ok-find_lost-clause-answered g c file told =
    let form = c.args.form.now in
    let first = c.in-Ok.records in
    let starts = c.in-Ok-find_lost.starts.items in
    let named : name_of first ≡ form.log.now = c.in-Ok.ensures.name in
    let begun : Reads first (file form.log.now) [] = c.in-Ok.ensures.opened file told in
    let is : AreLostIn (names_of first) (file form.log.now) form.from form.to starts =
    rw named at (c.in-Ok-find_lost.ensures.losing file (c.in-Ok.ensures.contents_stay ∙ told) (rw (← named) at begun)) in
    let text : List ℕ = lost_text form.csv c.names.result.now starts in
    let whole : IsLostText (asked_in form) (file form.log.now) text = record {
      names = names_of first;
      starts = starts;
      lost = is;
      text_is = ap (λ names. lost_text form.csv names starts) (c.names.ensures.names ∙ c.in-Ok-find_lost.ensures.names);
    } in
    lost_answered (asked_in form) (file form.log.now) text c.write_lost.result _ _ whole (rw c.deref.ensures.value at c.write_lost.ensures.written)
