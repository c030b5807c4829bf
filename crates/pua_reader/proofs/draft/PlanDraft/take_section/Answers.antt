use Rattle.pua_reader.specs.Views.{draft_value}
use Rattle.pua_reader.proofs.Sections.{section_refused}
use Rattle.pua_reader.proofs.draft.PlanDraft.take_section.Goals as goal

pub returns-in-Some : goal.returns-in-Some
returns-in-Some c =
    section_refused (draft_value c.args.self.now) (draft_value c.end_interstage.new.self) c.args.section c.args.line.now c.in-Some.why
    c.in_ok-end_interstage.ensures.0 c.in_ok-end_interstage.ensures.1 c.in-Some.ensures
