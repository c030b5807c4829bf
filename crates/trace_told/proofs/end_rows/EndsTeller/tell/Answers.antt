use Rattle.std.proofs.Common.{◌≡◌, ◌∙◌, ◌+◌, [], sym, subst, arith, length}
use Rattle.sig_io.proofs.Drafts.{nothing, same_put}
use Rattle.pua_model.specs.Plan.{PlanOf, HasStage}
use Rattle.stage_machine.specs.Orders.{since_at}
use Rattle.stage_machine.specs.Stands.{StandsFor as StagesStand}
use Rattle.controller.specs.Controls.{code_of, logic_of, site_of}
use Rattle.controller.specs.Past.{Past, next_second}
use Rattle.controller.specs.Second.{past_of}
use Rattle.trace_told.proofs.EndSeconds.{Answered, begins, ended, known_after, none_told, not_ended, row_told, same_plan, same_seconds, second_is, stand_ended, stand_on}
use Rattle.trace_told.proofs.EndsTold.{number_is}
use Rattle.trace_told.proofs.end_rows.EndsTeller.tell.Goals as goal

pub step-requires : goal.step-requires
step-requires g c =
    let k = c.requires.known in
    let past : Past = past_of (logic_of c.args.controller.now) (site_of c.args.controller.now) k.0 k.1 in
    let b = begins c.args.controller.now c.args.self.now k.0 k.1 k.2 k.3 in
    let same : length past.frames ≡ length c.requires.takes.0.frames = same_seconds c.args.controller.now past c.requires.takes.0 k.2 c.requires.takes.1 in (
      past.orders,
      length past.frames,
      subst (λ (p : PlanOf). StagesStand c.args.self.now.stages p past.orders (length past.frames)) (sym (c.plan.ensures ∙ same_plan c.args.controller.now)) b.stand,
      omega (arith, same, c.requires.takes.2.few),
    )

pub overflow_sub-second : goal.overflow_sub-second
overflow_sub-second g c =
    let k = c.requires.known in
    let past : Past = past_of (logic_of c.args.controller.now) (site_of c.args.controller.now) k.0 k.1 in
    let b = begins c.args.controller.now c.args.self.now k.0 k.1 k.2 k.3 in
    let stand = subst (λ (p : PlanOf). StagesStand c.args.self.now.stages p past.orders (length past.frames)) (sym (c.plan.ensures ∙ same_plan c.args.controller.now)) b.stand in
    let since = c.since-since.ensures c.plan.result.now past.orders (length past.frames + 1) (c.step.ensures past.orders (length past.frames) stand) in
    let second = second_is c.args.controller.now c.args.self.now past c.args.frame.now c.last-record.result.now b (c.last-record.ensures ∙ c.second_seen.ensures.record past k.2) in
    omega (arith, since.1, second, b.number)

pub line-requires-clause-from : goal.line-requires-clause-from
line-requires-clause-from g c =
    let k = c.requires.known in
    let past : Past = past_of (logic_of c.args.controller.now) (site_of c.args.controller.now) k.0 k.1 in
    let b = begins c.args.controller.now c.args.self.now k.0 k.1 k.2 k.3 in
    let e = ended c.args.controller.now c.args.self.now past c.args.frame.now c.last-record.result.now b (c.last-record.ensures ∙ c.second_seen.ensures.record past k.2)
    c.in-Some.stages.0 c.in-Some.stages.1 (sym c.begun.ensures ∙ c.in-Some.is) in
    number_is (site_of c.args.controller.now).plan c.in-Some.stages.0.0 b.plan_is e.from_stage

pub line-requires-clause-to : goal.line-requires-clause-to
line-requires-clause-to g c =
    let k = c.requires.known in
    let past : Past = past_of (logic_of c.args.controller.now) (site_of c.args.controller.now) k.0 k.1 in
    let b = begins c.args.controller.now c.args.self.now k.0 k.1 k.2 k.3 in
    let e = ended c.args.controller.now c.args.self.now past c.args.frame.now c.last-record.result.now b (c.last-record.ensures ∙ c.second_seen.ensures.record past k.2)
    c.in-Some.stages.0 c.in-Some.stages.1 (sym c.begun.ensures ∙ c.in-Some.is) in
    number_is (site_of c.args.controller.now).plan c.in-Some.stages.1.0 b.plan_is e.to_stage

pub order-obeyed-requires-clause-from : goal.order-obeyed-requires-clause-from
order-obeyed-requires-clause-from g c =
    let k = c.requires.known in
    let past : Past = past_of (logic_of c.args.controller.now) (site_of c.args.controller.now) k.0 k.1 in
    let b = begins c.args.controller.now c.args.self.now k.0 k.1 k.2 k.3 in
    let e = ended c.args.controller.now c.args.self.now past c.args.frame.now c.last-record.result.now b (c.last-record.ensures ∙ c.second_seen.ensures.record past k.2)
    c.in-Some.stages.0 c.in-Some.stages.1 (sym c.begun.ensures ∙ c.in-Some.is) in
    subst (λ (p : PlanOf). HasStage p c.in-Some.stages.0.0) (sym (c.plan-in-Some.ensures ∙ c.second_seen.ensures.plan ∙ same_plan c.args.controller.now)) e.from_stage

pub order-obeyed-requires-clause-to : goal.order-obeyed-requires-clause-to
order-obeyed-requires-clause-to g c =
    let k = c.requires.known in
    let past : Past = past_of (logic_of c.args.controller.now) (site_of c.args.controller.now) k.0 k.1 in
    let b = begins c.args.controller.now c.args.self.now k.0 k.1 k.2 k.3 in
    let e = ended c.args.controller.now c.args.self.now past c.args.frame.now c.last-record.result.now b (c.last-record.ensures ∙ c.second_seen.ensures.record past k.2)
    c.in-Some.stages.0 c.in-Some.stages.1 (sym c.begun.ensures ∙ c.in-Some.is) in
    subst (λ (p : PlanOf). HasStage p c.in-Some.stages.1.0) (sym (c.plan-in-Some.ensures ∙ c.second_seen.ensures.plan ∙ same_plan c.args.controller.now)) e.to_stage

pub returns-in-Some-clause-puts : goal.returns-in-Some-clause-puts
returns-in-Some-clause-puts g c = λ first frames stands knows.
    let ctl = c.args.controller.now in
    let past : Past = past_of (logic_of ctl) (site_of ctl) first frames in
    let b = begins ctl c.args.self.now first frames stands knows in
    let is = c.last-record.ensures ∙ c.second_seen.ensures.record past stands in
    let e = ended ctl c.args.self.now past c.args.frame.now c.last-record.result.now b is c.in-Some.stages.0 c.in-Some.stages.1 (sym c.begun.ensures ∙ c.in-Some.is) in
    let second = second_is ctl c.args.self.now past c.args.frame.now c.last-record.result.now b is in
    let here = c.plan.ensures ∙ same_plan ctl in
    let stand = subst (λ (p : PlanOf). StagesStand c.args.self.now.stages p past.orders (length past.frames)) (sym here) b.stand in
    let since : c.since-since.result.0 ≡ since_at (site_of ctl).plan past.orders (next_second past) =
    (c.since-since.ensures c.plan.result.now past.orders (length past.frames + 1) (c.step.ensures past.orders (length past.frames) stand)).0
    ∙ (λ j. since_at (here j) past.orders (sym b.number j)) in
    let seen = c.second_seen.ensures.seen past stands c.new-lines.result [] c.new-lines.ensures in
    let line : c.line.result ≡ e.given.line = c.line.ensures e.given.line
    (seen c.in-Some.stages.0.0 c.in-Some.stages.1.0 (number_is (site_of ctl).plan c.in-Some.stages.0.0 b.plan_is e.from_stage)
    (number_is (site_of ctl).plan c.in-Some.stages.1.0 b.plan_is e.to_stage) ∙ e.line) in
    same_put
    (row_told c.args.self.now.csv (code_of ctl) (site_of ctl) past c.args.frame.now c.in-Some.stages.0 c.in-Some.stages.1 c.last-record.result.now.second.0 c.since-since.result.0
    c.line.result e second since line)
    c.put_row.ensures

pub returns-in-Some-clause-knows : goal.returns-in-Some-clause-knows
returns-in-Some-clause-knows g c = λ first frames stands knows.
    let ctl = c.args.controller.now in
    let past : Past = past_of (logic_of ctl) (site_of ctl) first frames in
    let b = begins ctl c.args.self.now first frames stands knows in
    let is = c.last-record.ensures ∙ c.second_seen.ensures.record past stands in
    let e = ended ctl c.args.self.now past c.args.frame.now c.last-record.result.now b is c.in-Some.stages.0 c.in-Some.stages.1 (sym c.begun.ensures ∙ c.in-Some.is) in
    let here = c.plan.ensures ∙ same_plan ctl in
    let now = c.plan-in-Some.ensures ∙ c.second_seen.ensures.plan ∙ same_plan ctl in
    let stand = subst (λ (p : PlanOf). StagesStand c.args.self.now.stages p past.orders (length past.frames)) (sym here) b.stand in
    let stepped = subst (λ (p : PlanOf). StagesStand c.step.new.self p past.orders (length past.frames + 1)) (here ∙ sym now)
    (c.step.ensures past.orders (length past.frames) stand) in
    known_after ctl c.args.self.now _ first frames c.args.frame.now knows
    (stand_ended ctl c.args.self.now past c.args.frame.now b c.in-Some.stages.0 c.in-Some.stages.1 c.order-obeyed.new.self c.order-obeyed.result e
    (subst (λ (p : PlanOf). Answered p past.orders (length past.frames + 1) c.in-Some.stages.0.0 c.in-Some.stages.1.0 c.order-obeyed.new.self c.order-obeyed.result) now
    (c.order-obeyed.ensures past.orders (length past.frames + 1) stepped)))

pub returns-in-None-clause-puts : goal.returns-in-None-clause-puts
returns-in-None-clause-puts g c = λ first frames stands knows.
    let ctl = c.args.controller.now in
    let past : Past = past_of (logic_of ctl) (site_of ctl) first frames in
    let b = begins ctl c.args.self.now first frames stands knows in
    let is = c.last-record.ensures ∙ c.second_seen.ensures.record past stands in
    let none = not_ended ctl c.args.self.now past c.args.frame.now c.last-record.result.now b is (sym c.begun.ensures ∙ c.in-None.is) in
    same_put (none_told c.args.self.now.csv (next_second past) (since_at (site_of ctl).plan past.orders (next_second past)) _ none) nothing

pub returns-in-None-clause-knows : goal.returns-in-None-clause-knows
returns-in-None-clause-knows g c = λ first frames stands knows.
    let ctl = c.args.controller.now in
    let past : Past = past_of (logic_of ctl) (site_of ctl) first frames in
    let b = begins ctl c.args.self.now first frames stands knows in
    let is = c.last-record.ensures ∙ c.second_seen.ensures.record past stands in
    let none = not_ended ctl c.args.self.now past c.args.frame.now c.last-record.result.now b is (sym c.begun.ensures ∙ c.in-None.is) in
    let here = c.plan.ensures ∙ same_plan ctl in
    let stand = subst (λ (p : PlanOf). StagesStand c.args.self.now.stages p past.orders (length past.frames)) (sym here) b.stand in
    let stepped = subst (λ (p : PlanOf). StagesStand c.step.new.self p past.orders (length past.frames + 1)) here
    (c.step.ensures past.orders (length past.frames) stand) in
    known_after ctl c.args.self.now _ first frames c.args.frame.now knows
    (stand_on ctl c.args.self.now past c.args.frame.now b c.step.new.self none stepped)
