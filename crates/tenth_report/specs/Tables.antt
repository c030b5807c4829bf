-- The tables by which a record is judged.
use Rattle.std.specs.Prelude.{◌≡◌, ℕ, List, Option, Result, Ok}
use Rattle.sig_io.specs.Outside.{Contents}
use Rattle.sig_types.specs.Rules.{Rules}
use Rattle.pua_model.specs.Plan.{PlanOf}
use Rattle.sig_tables.specs.declared.times.TimesRow.{TimesRow}
use Rattle.sig_tables.specs.SiteRules.{rules_by, rules_of}
use Rattle.site_load.specs.Loading.{Unloaded, judged, table_refusal, ◌>>=◌}
use Rattle.tenth_report.specs.declared.tables.RecordTables.{RecordTables}
use Rattle.tenth_tables.specs.Times.{times_refusal, times_of}
use Rattle.tenth_tables.specs.Intergreens.{intergreens_refusal, intergreen_of}

-- the times of the table in tenths, read against the plan
abbrev pub times_at : Contents → List ℕ → PlanOf → Result (List TimesRow) Unloaded
times_at file word plan = judged word (file word) (table_refusal plan (times_refusal plan (file word))) (times_of plan (file word))

-- the tenths between two groups that conflict
abbrev pub intergreens_at : Contents → List ℕ → PlanOf → Result (ℕ → ℕ → Option ℕ) Unloaded
intergreens_at file word plan =
    judged word (file word) (table_refusal plan (intergreens_refusal plan (file word))) (intergreen_of plan (file word))

-- the rules of both tables, in tenths: first the times are read, then the intergreens
abbrev pub rules_at : Contents → (times intergreens : List ℕ) → PlanOf → Result Rules Unloaded
rules_at file times intergreens plan = do
  rows ← times_at file times plan
  between ← intergreens_at file intergreens plan
  Ok (rules_by rows between)

-- the rules by both tables, as the program holds them
abbrev pub rules_by_tables : RecordTables → Rules
rules_by_tables tables = rules_of tables.times tables.intergreens

-- the times are read first, and the intergreens once they are accepted
pub data ReachedInTables (file : Contents) (times intergreens : List ℕ) (plan : PlanOf) : List ℕ → Type 0 where
  at_times : ReachedInTables file times intergreens plan times
  at_intergreens : (rows : List TimesRow) → times_at file times plan ≡ Ok rows → ReachedInTables file times intergreens plan intergreens
