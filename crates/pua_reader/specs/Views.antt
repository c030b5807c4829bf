-- The values for which a draft and an interstage under way stand.
use Rattle.pua_reader.specs.declared.interstages.OpenInterstage.{OpenInterstage}
use Rattle.pua_reader.specs.declared.draft.PlanDraft.{PlanDraft}
use Rattle.pua_reader.specs.Interstages.{OpenInterstageOf}
use Rattle.pua_reader.specs.PlanDraft.{PlanDraftOf}

-- the value of an interstage under way
abbrev pub open_value : OpenInterstage → OpenInterstageOf
open_value o = record { line = o.line; length = o.length; from = o.from; to = o.to; rows = o.rows.items }

-- the value of a draft
abbrev pub draft_value : PlanDraft → PlanDraftOf
draft_value d = record {
  section = d.section;
  lines = d.lines;
  groups = d.groups.items;
  stages = d.stages.items;
  after_stage = d.after_stage;
  start = d.start;
  interstages = d.interstages.items;
  current = open_value d.current;
}
