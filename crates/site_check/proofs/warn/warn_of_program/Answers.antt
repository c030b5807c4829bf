use Rattle.std.proofs.Common.{◌≡◌, ◌∙◌, ◌++◌, ap, map, subst, sym}
use Rattle.std.specs.Prelude.{OnOk}
use Rattle.pua_lines.specs.StageWords.{stage_words}
use Rattle.site_check.specs.Readings.{bytes_in}
use Rattle.site_check.specs.Warned.{program_part}
use Rattle.site_check.proofs.Told.{part_of_program}
use Rattle.site_check.proofs.warn.warn_of_program.Goals as goal

pub returns : goal.returns
returns c =
    let items = c.tell_of_program.new.findings.items in
    let before = c.args.findings.now.items in
    let text = bytes_in c.args.text.now in
    let pua = bytes_in c.args.pua.now in
    subst (λ p. OnOk c.tell_of_program.result (items ≡ before ++ program_part text pua p c.args.plan.now c.args.frames.now))
    (sym c.in-Some.is)
    (part_of_program c.tell_of_program.result text pua c.shown-bytes.result.now c.in-Some.program c.args.plan.now c.args.frames.now
    (map (λ v. v.items) c.deref.result.now) c.in_ok-warnings.warnings.items before items c.shown-bytes.ensures
    (ap (λ vs. map (λ v. v.items) vs) c.deref.ensures.value ∙ c.in_ok-stages.ensures ∙ ap (λ t. stage_words t) c.shown.ensures)
    c.in_ok-warnings.ensures c.tell_of_program.ensures)
