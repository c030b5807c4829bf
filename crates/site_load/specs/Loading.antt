-- What the files of a site give.
use Rattle.std.specs.Prelude.{◌≡◌, ℕ, nat_lt, List, [], ◌∷◌, length, Option, None, Some, Result, Ok, Err, if◌then◌else◌}
use Rattle.sig_io.specs.Outside.{Contents}
use Rattle.sig_types.specs.Rules.{Rules}
use Rattle.pua_model.specs.Plan.{PlanOf}
use Rattle.pua_reader.specs.declared.refusal.PuaWhy.{PuaWhy}
use Rattle.pua_reader.specs.Accepted.{refusal_of, plan_of_text}
use Rattle.sig_tables.specs.declared.refusal.TableWhy.{TableWhy}
use Rattle.sig_tables.specs.declared.times.TimesRow.{TimesRow}
use Rattle.sig_tables.specs.SiteRules.{rules_by}
use Rattle.sig_tables.specs.TimesTable.{times_refusal, times_of}
use Rattle.sig_tables.specs.IntergreenTable.{intergreens_refusal, intergreen_of}
use Rattle.site_load.specs.Reasons.{plan_reason, table_reason}

-- the names of the files of a site
pub record SiteFiles : Type 0 where
  pub plan : List ℕ
  pub times : List ℕ
  pub intergreens : List ℕ

-- those names, in the order in which the files are read
abbrev pub files_in : SiteFiles → List (List ℕ)
files_in words = words.plan ∷ words.times ∷ words.intergreens ∷ []

-- a site: its plan, and the rules of its tables
pub record Site : Type 0 where
  pub plan : PlanOf
  pub rules : Rules

-- the first file that is not as it must be, by its word: too long, or refused at a line for a reason
pub data Unloaded : Type 0 where
  TooLong : (word : List ℕ) → Unloaded
  Refused : (word : List ℕ) (line : ℕ) (reason : List ℕ) → Unloaded

-- why a text is refused: the line, and the reason as a note tells it
abbrev pub Refusal : Type 0
Refusal = ℕ × List ℕ

-- the bytes that a text may have
abbrev pub text_limit : ℕ
text_limit = 1048576

-- the line at which a PUA file is refused, with the reason as a note tells it
abbrev pub plan_refusal : Option (ℕ × PuaWhy) → Option Refusal
plan_refusal None = None
plan_refusal (Some at) = Some (at.0, plan_reason at.1)

-- the same of a table, whose reasons may name groups of the plan
abbrev pub table_refusal : PlanOf → Option (ℕ × TableWhy) → Option Refusal
table_refusal plan None = None
table_refusal plan (Some at) = Some (at.0, table_reason plan.names at.1)

-- the value of a text that is not refused
abbrev pub unless_refused : {A : Type 0} → List ℕ → Option Refusal → A → Result A Unloaded
unless_refused word None value = Ok value
unless_refused word (Some at) value = Err (Refused word at.0 at.1)

-- a text is measured, then judged, and then gives its value
abbrev pub judged : {A : Type 0} → List ℕ → List ℕ → Option Refusal → A → Result A Unloaded
judged word bytes refusal value =
    if nat_lt text_limit (length bytes) then Err (TooLong word) else unless_refused word refusal value

-- the plan of the PUA file, or why there is none
abbrev pub plan_at : Contents → List ℕ → Result PlanOf Unloaded
plan_at file word = judged word (file word) (plan_refusal (refusal_of (file word))) (plan_of_text (file word))

-- the times of the table, read against the plan
abbrev pub times_at : Contents → List ℕ → PlanOf → Result (List TimesRow) Unloaded
times_at file word plan =
    judged word (file word) (table_refusal plan (times_refusal plan (file word))) (times_of plan (file word))

-- the seconds between two groups that conflict
abbrev pub intergreens_at : Contents → List ℕ → PlanOf → Result (ℕ → ℕ → Option ℕ) Unloaded
intergreens_at file word plan =
    judged word (file word) (table_refusal plan (intergreens_refusal plan (file word))) (intergreen_of plan (file word))

infixl 10 ◌>>=◌
-- the next step on what the one before gave; the first file that is not as it must be ends them all
abbrev pub ◌>>=◌ : {A B : Type 0} → Result A Unloaded → (A → Result B Unloaded) → Result B Unloaded
(Ok x) >>= f = f x
(Err e) >>= f = Err e

-- the plan, then the times, then the intergreens
abbrev pub site_of : SiteFiles → Contents → Result Site Unloaded
site_of words file = do
  plan ← plan_at file words.plan
  times ← times_at file words.times plan
  between ← intergreens_at file words.intergreens plan
  Ok (record { plan = plan; rules = rules_by times between })

-- a file of a site is read once those before it are accepted
pub data ReachedInSite (words : SiteFiles) (file : Contents) : List ℕ → Type 0 where
  at_plan : ReachedInSite words file words.plan
  at_times : (plan : PlanOf) → plan_at file words.plan ≡ Ok plan → ReachedInSite words file words.times
  at_intergreens : (plan : PlanOf) (times : List TimesRow) → plan_at file words.plan ≡ Ok plan →
      times_at file words.times plan ≡ Ok times → ReachedInSite words file words.intergreens
