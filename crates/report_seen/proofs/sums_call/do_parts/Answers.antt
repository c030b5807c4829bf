use Rattle.std.proofs.Common.{◌≡◌, ◌∙◌, [], ℕ, List, Option, Err, refl, ap, sym, subst}
use Rattle.std.specs.Prelude.{MatchOption}
use Rattle.log_read.specs.RecordAnswers.{Reads, name_of, names_of}
use Rattle.report_seen.specs.SumsCall.{IsTextOf, IsOfParts, IsWhole, written_parts}
use Rattle.report_seen.specs.SumsForm.{asked_in}
use Rattle.report_seen.specs.Summed.{ArePartsIn}
use Rattle.report_seen.proofs.SumsCalls.{answered, unserved, unsummed}
use Rattle.report_seen.proofs.SumsReading.{head_read, not_lacking, not_opened, unread}
use Rattle.report_seen.proofs.sums_call.do_parts.Goals as goal

pub returns-in-Err-clause-answered : goal.returns-in-Err-clause-answered
returns-in-Err-clause-answered g c file told =
    rw c.stop_of.ensures
    (unsummed (asked_in c.args.form.now) file _ _ _ (unread [] (file c.args.form.now.log.now) [] c.in-Err.stop (c.in-Err.ensures.opened file told []))
    (not_opened (file c.args.form.now.log.now) (asked_in c.args.form.now).serves c.in-Err.stop (c.in-Err.ensures.opened file told)) refl)

pub returns-in-Err-serves_for-clause-answered : goal.returns-in-Err-serves_for-clause-answered
returns-in-Err-serves_for-clause-answered g c file told =
    let form = c.args.form.now in
    let first = c.in-Ok.records in
    unserved (asked_in form) file (names_of first) c.in-Err-serves_for.stop _ _ (head_read first (file form.log.now) c.in-Ok.ensures.found c.in-Ok.ensures.begin
    (c.in-Ok.ensures.opened file told))
    c.in-Err-serves_for.ensures.stop (λ words. rw c.names.ensures.names at (c.in-Err-serves_for.ensures.lacking (ap Err words))) refl

pub returns-clause-answered : goal.returns-clause-answered
returns-clause-answered g c file told =
    let form = c.args.form.now in
    let first = c.in-Ok.records in
    let bytes = file form.log.now in
    let named : name_of first ≡ form.log.now = c.in-Ok.ensures.name in
    let begun : Reads first bytes [] = c.in-Ok.ensures.opened file told in
    unsummed (asked_in form) file c.in-Err-add_up_parts.stop _ _
    (rw named at (c.in-Err-add_up_parts.ensures.parting file (c.in-Ok.ensures.contents_stay ∙ told) (rw (← named) at begun)))
    (λ line why is. not_lacking first bytes (asked_in form).serves c.in-Ok-serves_for.serves.items c.in-Ok.ensures.found begun
    (rw c.names.ensures.names at c.in-Ok-serves_for.ensures.found)) refl

pub returns-in-Ok-add_up_parts-clause-answered : goal.returns-in-Ok-add_up_parts-clause-answered
returns-in-Ok-add_up_parts-clause-answered g c file told =
    let form = c.args.form.now in
    let first = c.in-Ok.records in
    let parts = c.in-Ok-add_up_parts.parts.items in
    let named : name_of first ≡ form.log.now = c.in-Ok.ensures.name in
    let begun : Reads first (file form.log.now) [] = c.in-Ok.ensures.opened file told in
    let is : ArePartsIn (names_of first) (file form.log.now) form.from c.args.each form.to c.in-Ok-serves_for.serves.items parts =
    rw (named, c.deref.ensures.value) at (c.in-Ok-add_up_parts.ensures.parting file (c.in-Ok.ensures.contents_stay ∙ told) (rw (← named) at begun)) in
    let text : List ℕ = written_parts form.csv c.names-in-Ok-add_up_parts.result.now parts in
    let of_parts : IsOfParts (asked_in form) c.args.each file text = record {
      names = names_of first;
      parts = parts;
      serves = c.in-Ok-serves_for.serves.items;
      named = rw c.names.ensures.names at c.in-Ok-serves_for.ensures.found;
      parts_are = is;
      text_is = ap (λ names. written_parts form.csv names parts) (c.names-in-Ok-add_up_parts.ensures.names ∙ c.in-Ok-add_up_parts.ensures.names);
    } in
    let text_of : IsTextOf (asked_in form) file text =
    subst (λ (each : Option ℕ). MatchOption each (IsWhole (asked_in form) file text) (λ n. IsOfParts (asked_in form) n file text)) (sym c.requires.each) of_parts in
    answered (asked_in form) file text c.write_parts.result _ _ text_of (rw c.deref-in-Ok-add_up_parts.ensures.value at c.write_parts.ensures.written)
