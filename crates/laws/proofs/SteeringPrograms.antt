-- Programs that steer.
use Rattle.std.proofs.Common.{◌≡◌, ◌∙◌, ℕ, zero, suc, ◌*◌, ◌≤◌, ◌==◌, Bool, true, false, Option, Some, None, List, [], ◌∷◌, ◌++◌, length, get_or, refl, sym, ap, arith, if◌then◌else◌, nat_le, ℤ, pos, append_assoc, append-nil, le-leb}
use Rattle.std.proofs.lemmas.Bool.{and_from}
use Rattle.std.specs.Option.{option_or}
use Rattle.sig_types.specs.Number.{truth, holds}
use Rattle.sig_types.specs.declared.kinds.CommandKind.TheVariants as command_kind
use Rattle.sig_types.specs.declared.kinds.ReadingKind.TheVariants as reading_kind
use Rattle.sig_types.specs.declared.numbers.Command.{Command}
use Rattle.sig_types.specs.declared.numbers.Command.TheVariants.{Interstage}
use Rattle.sig_types.specs.declared.numbers.StagePlace.{StagePlace}
use Rattle.sig_types.specs.declared.numbers.StagePlace.TheVariants.{NoPlan, Stage, Inter}
use Rattle.sig_types.specs.declared.numbers.StageNo.{StageNo}
use Rattle.sig_types.specs.Counts.{Counts}
use Rattle.sig_types.specs.Pass.{Store, World, answer_of, given, give, begun, commands_after, unit_limit}
use Rattle.pua_model.specs.Plan.{PlanOf, HasStage, stage_of}
use Rattle.stage_machine.specs.Orders.{stage, place_at, is_stage}
use Rattle.vap_ast.specs.Mean.{Outcome, Done, or_fault, mean_within}
use Rattle.vap_ast.specs.Names.{Source}
use Rattle.vap_ast.specs.Passes.{program_logic, ending}
use Rattle.vap_ast.specs.Syntax.{Expr, Exprs, Item, Items, Stmt, ◌before◌}
use Rattle.controller.specs.Cycles.{later}
use Rattle.controller.specs.Past.{Site, Past, next_second}
use Rattle.controller.specs.World.{world_in, of_named, by_stages, place_before, reading_in, command_in}
use Rattle.controller.specs.Second.{pass_of, last_direct}
use Rattle.controller.specs.Guarded.{past_at}
use Rattle.laws.specs.SteeringPrograms.{Leg, leg_items, first_leg, AreLegs, IsSteering, ProgramsSteer, ProgramsShowTheirStage}
use Rattle.laws.proofs.StagesShown.{stage_is_shown}
use Rattle.laws.specs.Ways.{first_from, Steers}

-- the command of a line
abbrev leg_command : Leg → Command
leg_command l = Interstage (stage l.from) (stage l.to)

-- the store after lines of which those from the active stage give their commands
abbrev after_legs : ℕ → List Leg → Store → Store
after_legs active [] s = s
after_legs active (l ∷ ls) s = after_legs active ls (if active == l.from then give s (leg_command l) else s)

-- a world in which this stage alone is active
record IsActive (plan : PlanOf) (world : World) (active : ℕ) : Type 0 where
  pub reads : (a : ℕ) → HasStage plan a → world.reading reading_kind.StageActive (pos a) (pos 0) ≡ Some (truth (active == a))
  pub commands : (a b : ℕ) → HasStage plan a → HasStage plan b → world.command command_kind.Interstage (pos a) (pos b) ≡ Some (Interstage (stage a) (stage b))

-- what is done by the answer to the test of a line, and by its command
abbrev leg_branch : Leg → Items
leg_branch l =
    Items.next (Item.Step l.inner (Stmt.Do command_kind.Interstage (Exprs.next (Expr.Literal (pos l.from)) (Exprs.next (Expr.Literal (pos l.to)) Exprs.none)))) Items.none

abbrev tested : Source → World → Items → Leg → List Leg → Store → ℕ → ℕ → Option ℤ → Outcome
tested source world routine l ls s units depth o =
    or_fault l.line (answer_of o) (λ v. mean_within source world (suc depth) routine ((if holds v then leg_branch l else Items.none) before leg_items ls) s (suc units))

abbrev commanded : Source → World → Items → Leg → List Leg → Store → ℕ → ℕ → Option Command → Outcome
commanded source world routine l ls s units depth o = or_fault l.inner (given o s) (λ s'. mean_within source world depth routine (leg_items ls) s' units)

-- what the lines do
runs : (plan : PlanOf) (source : Source) (world : World) (active : ℕ) (routine : Items) → IsActive plan world active → (ls : List Leg) → AreLegs plan ls →
    (s : Store) (units depth : ℕ) → 2 * length ls ≤ units → units ≤ depth →
    (left : ℕ) × (mean_within source world depth routine (leg_items ls) s units ≡ Done (after_legs active ls s) left)
runs plan source world active routine is [] named s units zero few deep = (units, refl)
runs plan source world active routine is [] named s units (suc depth) few deep = (units, refl)
runs plan source world active routine is (l ∷ ls) named s zero depth few deep = absurd (omega arith)
runs plan source world active routine is (l ∷ ls) named s (suc zero) depth few deep = absurd (omega arith)
runs plan source world active routine is (l ∷ ls) named s (suc (suc units)) zero few deep = absurd (omega arith)
runs plan source world active routine is (l ∷ ls) named s (suc (suc units)) (suc zero) few deep = absurd (omega arith)
runs plan source world active routine is (l ∷ ls) named s (suc (suc units)) (suc (suc depth)) few deep =
    go (active == l.from) refl (λ s' u d lo hi. runs plan source world active routine is ls named.2 s' u d lo hi)
  where
    go : (b : Bool) → (active == l.from) ≡ b →
        ((s' : Store) (u d : ℕ) → 2 * length ls ≤ u → u ≤ d → (left : ℕ) × (mean_within source world d routine (leg_items ls) s' u ≡ Done (after_legs active ls s') left)) →
        (left : ℕ) × (mean_within source world (suc (suc depth)) routine (leg_items (l ∷ ls)) s (suc (suc units)) ≡ Done (after_legs active (l ∷ ls) s) left)
    go true same rest =
        let r = rest (give s (leg_command l)) units depth (omega arith) (omega arith) in (
          r.0,
          ap (tested source world routine l ls s units depth) (is.reads l.from named.0 ∙ ap (λ (c : Bool). Some (truth c)) same)
              ∙ ap (commanded source world routine l ls s units depth) (is.commands l.from l.to named.0 named.1)
              ∙ r.1
              ∙ ap (λ (c : Bool). Done (after_legs active ls (if c then give s (leg_command l) else s)) r.0) (sym same),
        )
    go false same rest =
        let r = rest s (suc units) (suc depth) (omega arith) (omega arith) in (
          r.0,
          ap (tested source world routine l ls s units depth) (is.reads l.from named.0 ∙ ap (λ (c : Bool). Some (truth c)) same)
              ∙ r.1
              ∙ ap (λ (c : Bool). Done (after_legs active ls (if c then give s (leg_command l) else s)) r.0) (sym same),
        )

-- the commands that they give
abbrev given_legs : ℕ → List Leg → List Command
given_legs active [] = []
given_legs active (l ∷ ls) = if active == l.from then leg_command l ∷ given_legs active ls else given_legs active ls

after_commands : (active : ℕ) (ls : List Leg) (s : Store) → (after_legs active ls s).commands ≡ s.commands ++ given_legs active ls
after_commands active [] s = sym (append-nil s.commands)
after_commands active (l ∷ ls) s = go (active == l.from) (λ s'. after_commands active ls s')
  where
    go : (b : Bool) → ((s' : Store) → (after_legs active ls s').commands ≡ s'.commands ++ given_legs active ls) →
        (after_legs active ls (if b then give s (leg_command l) else s)).commands ≡ s.commands ++ (if b then leg_command l ∷ given_legs active ls else given_legs active ls)
    go true rest = rest (give s (leg_command l)) ∙ append_assoc s.commands (leg_command l ∷ []) (given_legs active ls)
    go false rest = rest s

first_given : (active : ℕ) (ls : List Leg) → first_from active (given_legs active ls) ≡ first_leg active ls
first_given active [] = refl
first_given active (l ∷ ls) = go (active == l.from) refl (first_given active ls)
  where
    go : (b : Bool) → (active == l.from) ≡ b → first_from active (given_legs active ls) ≡ first_leg active ls →
        first_from active (if b then leg_command l ∷ given_legs active ls else given_legs active ls) ≡ (if b then Some l.to else first_leg active ls)
    go true same rest = ap (λ (c : Bool). option_or (if c then Some l.to else None) (first_from active (given_legs active ls))) same
    go false same rest = rest

none_direct : (active g : ℕ) (ls : List Leg) → last_direct g (given_legs active ls) ≡ None
none_direct active g [] = refl
none_direct active g (l ∷ ls) = go (active == l.from) (none_direct active g ls)
  where
    go : (b : Bool) → last_direct g (given_legs active ls) ≡ None → last_direct g (if b then leg_command l ∷ given_legs active ls else given_legs active ls) ≡ None
    go true rest = ap (λ (o : Option Bool). later o None) rest
    go false rest = rest

-- a stage of the plan is what its number names
stage_is : (plan : PlanOf) (n : ℕ) → HasStage plan n → stage_of plan (pos n) ≡ Some n
unfolding stage_of
stage_is plan n has =
    ap (λ (b : Bool). if b then Some n else None) (and_from (nat_le 1 n) (nat_le n (length plan.stages)) (le-leb 1 n has.0) (le-leb n (length plan.stages) has.1))

-- the world of a second that begins in a stage
active_in : (plan : PlanOf) (past : Past) (frames : List Counts) (a : StageNo) → place_before plan past ≡ Stage a → IsActive plan (world_in plan past frames) a.0
unfolding reading_in command_in
active_in plan past frames a is = record {
  reads = λ n has. ap (λ (o : Option ℕ). of_named o (λ s. truth (is_stage (place_before plan past) s))) (stage_is plan n has)
      ∙ ap (λ (p : StagePlace). Some (truth (is_stage p n))) is;
  commands = λ m n has has'. (λ i. by_stages (stage_is plan m has i) (stage_is plan n has' i));
}

-- a pass of such a program in a stage
pass_in : (plan : PlanOf) (source : Source) (world : World) (active : ℕ) (legs : List Leg) (s : Store) → IsActive plan world active → source.main ≡ leg_items legs →
    AreLegs plan legs → 2 * length legs ≤ unit_limit → s.commands ≡ [] → commands_after (program_logic source world s) ≡ given_legs active legs
pass_in plan source world active legs s is main named few none =
    let r = runs plan source world active source.main is legs named s unit_limit unit_limit few (omega arith) in
    ap (λ (todo : Items). commands_after (ending (mean_within source world unit_limit source.main todo s unit_limit))) main
    ∙ ap (λ (o : Outcome). commands_after (ending o)) r.1
    ∙ after_commands active legs s
    ∙ ap (λ (cs : List Command). cs ++ given_legs active legs) none

at_place : (on : ℕ → Bool) (goal : ℕ) (next : ℕ → ℕ) (cs : List Command) (p : StagePlace) → ((a : StageNo) → p ≡ Stage a → Steers on goal next (Stage a) cs) → Steers on goal next p cs
at_place on goal next cs NoPlan stage_case = tt
at_place on goal next cs (Stage a) stage_case = stage_case a refl
at_place on goal next cs (Inter from to t) stage_case = tt

pass_steers : (source : Source) (site : Site) (past : Past) (frame : Counts) (goal : ℕ) (on : ℕ → Bool) (next : ℕ → ℕ) (legs : List Leg) →
    IsSteering site.plan source goal on next legs →
    Steers on goal next (place_at site.plan past.orders (next_second past)) (commands_after (pass_of (program_logic source) site past frame))
pass_steers source site past frame goal on next legs steering =
    at_place on goal next (commands_after (pass_of (program_logic source) site past frame)) (place_at site.plan past.orders (next_second past)) in_stage
  where
    in_stage : (a : StageNo) → place_at site.plan past.orders (next_second past) ≡ Stage a → Steers on goal next (Stage a) (commands_after (pass_of (program_logic source) site past frame))
    in_stage a is =
        let gives = pass_in site.plan source (world_in site.plan past (past.frames ++ frame ∷ [])) a.0 legs (begun past.store)
        (active_in site.plan past (past.frames ++ frame ∷ []) a is) steering.main steering.named steering.few refl in (
          λ on_way away. ap (first_from a.0) gives ∙ first_given a.0 legs ∙ steering.leads a.0 on_way away,
          λ there. (
              let same = ap (first_from a.0) gives ∙ first_given a.0 legs in (
                (rw there at same) ∙ steering.ends,
                λ g. ap (last_direct g) gives ∙ none_direct a.0 g legs,
              )),
        )

pub programs_steer : ProgramsSteer
programs_steer source site store frames goal on next seconds legs way starts steering = record {
  way = way;
  begun = omega arith;
  heads = starts;
  steers = λ n lo hi. pass_steers source site (past_at (program_logic source) site store frames n) (get_or frames n []) goal on next legs steering;
}

pub programs_show : ProgramsShowTheirStage
programs_show source site store frames goal on next seconds legs n r way starts steering tables count apart le lt g lt' =
    stage_is_shown (program_logic source) site store frames goal on next seconds 0 n r
    (programs_steer source site store frames goal on next seconds legs way starts steering) tables count apart (omega (arith, le)) lt g lt'
