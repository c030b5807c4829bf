-- Programs that steer: for each stage on the way a line `IF STAGE_ACTIVE(from) THEN INTERSTAGE(from, to) END`.
use Rattle.std.specs.Prelude.{◌≡◌, ℕ, ◌+◌, ◌*◌, ◌<◌, ◌≤◌, ◌==◌, Bool, true, List, [], ◌∷◌, length, Option, Some, None, if◌then◌else◌, pos}
use Rattle.sig_types.specs.declared.kinds.CommandKind.TheVariants as command
use Rattle.sig_types.specs.declared.kinds.ReadingKind.TheVariants as reading
use Rattle.sig_types.specs.declared.record.Record.{Record}
use Rattle.sig_types.specs.Counts.{Counts}
use Rattle.sig_types.specs.Pass.{Store, unit_limit}
use Rattle.sig_types.specs.Turns.{shown}
use Rattle.pua_model.specs.Plan.{PlanOf, HasStage, groups_in, in_stage}
use Rattle.sig_guard.specs.Steady.{shows_wish}
use Rattle.sig_response.specs.Bounds.{shown_within}
use Rattle.sig_response.specs.Laws.{IsSite}
use Rattle.vap_ast.specs.Names.{Source}
use Rattle.vap_ast.specs.Passes.{program_logic}
use Rattle.vap_ast.specs.Syntax.{Expr, Exprs, Item, Items, Stmt}
use Rattle.controller.specs.Past.{Site}
use Rattle.laws.specs.StagesShown.{IsSteered, IsStageApart, record_at}
use Rattle.laws.specs.Ways.{IsWay}

-- one line of such a program: the lines of its IF and of its command, and the stages
pub record Leg : Type 0 where
  pub line : ℕ
  pub inner : ℕ
  pub from : ℕ
  pub to : ℕ

-- a number as an argument
abbrev pub number : ℕ → Expr
number value = Expr.Literal (pos value)

-- IF STAGE_ACTIVE(from) THEN INTERSTAGE(from, to) END
abbrev pub leg_item : Leg → Item
leg_item leg =
    Item.Step leg.line (Stmt.If (Expr.Read reading.StageActive (Exprs.next (number leg.from) Exprs.none))
    (Items.next (Item.Step leg.inner (Stmt.Do command.Interstage (Exprs.next (number leg.from) (Exprs.next (number leg.to) Exprs.none))))
    Items.none)
    Items.none)

-- one such line after another
abbrev pub leg_items : List Leg → Items
leg_items [] = Items.none
leg_items (leg ∷ legs) = Items.next (leg_item leg) (leg_items legs)

-- the stage to which the first line for this stage leads
abbrev pub first_leg : (stage : ℕ) → List Leg → Option ℕ
first_leg stage [] = None
first_leg stage (leg ∷ legs) = if stage == leg.from then Some leg.to else first_leg stage legs

-- the lines name stages of the plan
abbrev pub AreLegs : PlanOf → List Leg → Type 0
AreLegs plan [] = Unit {0}
AreLegs plan (leg ∷ legs) = HasStage plan leg.from × HasStage plan leg.to × AreLegs plan legs

-- A program of such lines, at most 5,000 of them, whose first line for each stage on the way leads to the next one, and that has none
-- for the goal.
pub record IsSteering (plan : PlanOf) (source : Source) (goal : ℕ) (on : ℕ → Bool) (next : ℕ → ℕ) (legs : List Leg) : Type 0 where
  pub main : source.main ≡ leg_items legs
  pub few : 2 * length legs ≤ unit_limit
  pub named : AreLegs plan legs
  pub leads : (stage : ℕ) → on stage ≡ true → (stage ≡ goal → ⊥) → first_leg stage legs ≡ Some (next stage)
  pub ends : first_leg goal legs ≡ None

-- Each run of such a program steers from its first second on.
abbrev pub ProgramsSteer : Type 0
ProgramsSteer =
    (source : Source) (site : Site) (store : Store) (frames : List Counts) (goal : ℕ) (on : ℕ → Bool) (next seconds : ℕ → ℕ)
    (legs : List Leg) → IsWay site.plan goal on next seconds → on site.plan.start ≡ true →
    IsSteering site.plan source goal on next legs →
    IsSteered (program_logic source) site store frames goal on next seconds 0

-- So its picture shows the goal within the seconds of the way from the starting stage and those of the site, and goes on so.
abbrev pub ProgramsShowTheirStage : Type 0
ProgramsShowTheirStage =
    (source : Source) (site : Site) (store : Store) (frames : List Counts) (goal : ℕ) (on : ℕ → Bool) (next seconds : ℕ → ℕ)
    (legs : List Leg) (second : ℕ) (missing : Record) → IsWay site.plan goal on next seconds → on site.plan.start ≡ true →
    IsSteering site.plan source goal on next legs → IsSite site.rules → site.rules.count ≡ groups_in site.plan →
    IsStageApart site goal → seconds site.plan.start + shown_within site.rules ≤ second + 1 → second < length frames →
    (group : ℕ) → group < groups_in site.plan →
    shows_wish (shown (record_at (program_logic source) site store frames second missing).picture group) (in_stage site.plan goal group)
    ≡ true
