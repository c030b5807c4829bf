use Rattle.std.proofs.Common.{sym, ap, ◌∙◌}
use Rattle.pua_reader.specs.Views.{draft_value}
use Rattle.pua_reader.specs.Accepted.{plan_in}
use Rattle.pua_reader.proofs.Sections.{end_refused, end_accepted}
use Rattle.pua_reader.proofs.Keeps.{ended_plan}
use Rattle.pua_reader.proofs.draft.PlanDraft.finish.Goals as goal

pub returns-in-Some : goal.returns-in-Some
returns-in-Some c =
    end_refused (draft_value c.args.self) (draft_value c.end_interstage.new.self) c.in-Some.why c.in_ok-end_interstage.ensures.0
    c.in_ok-end_interstage.ensures.1 c.in-Some.ensures

pub into_plan-requires-clause-start : goal.into_plan-requires-clause-start
into_plan-requires-clause-start c =
    (ended_plan (draft_value c.args.self) (draft_value c.end_interstage.new.self) c.requires c.in_ok-end_interstage.ensures.0
    c.in_ok-end_interstage.ensures.1 (sym c.in_default.is ∙ c.missing_part.ensures)).1

pub into_plan-requires-clause-plan : goal.into_plan-requires-clause-plan
into_plan-requires-clause-plan c =
    (ended_plan (draft_value c.args.self) (draft_value c.end_interstage.new.self) c.requires c.in_ok-end_interstage.ensures.0
    c.in_ok-end_interstage.ensures.1 (sym c.in_default.is ∙ c.missing_part.ensures)).0

pub returns : goal.returns
returns c = (
  end_accepted (draft_value c.args.self) (draft_value c.end_interstage.new.self) c.in_ok-end_interstage.ensures.0 c.in_ok-end_interstage.ensures.1
      (sym c.in_default.is ∙ c.missing_part.ensures),
  c.into_plan.ensures ∙ ap plan_in c.in_ok-end_interstage.ensures.1,
)
