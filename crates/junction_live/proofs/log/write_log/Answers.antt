use Rattle.std.proofs.Common.{◌≡◌, ◌∙◌, true, ap, subst, refl}
use Rattle.sig_io.specs.Draft.{IsCut}
use Rattle.pua_model.specs.Plan.{are_names}
use Rattle.std.specs.Io.KnownBytes.{append_known}
use Rattle.signal_log.specs.Log.{header_text}
use Rattle.controller.specs.Controls.{site_of}
use Rattle.controller.specs.Past.{opening}
use Rattle.junction_live.proofs.ClosingSecond.{opening_all}
use Rattle.junction_live.proofs.Ended.{cause_later}
use Rattle.junction_live.proofs.LiveLogs.{wrote, header_cut}
use Rattle.junction_live.proofs.Audiences.{given_pictures}
use Rattle.junction_run.proofs.Logs.{plan_is}
use Rattle.junction_live.proofs.log.write_log.Goals as goal

pub play_and_close-requires-clause-none_made : goal.play_and_close-requires-clause-none_made
play_and_close-requires-clause-none_made g c κs within = (opening (site_of c.args.start.controller) c.requires.begun.0, c.requires.begun.1, refl)

pub returns-in-Ok-clause-log : goal.returns-in-Ok-clause-log
returns-in-Ok-clause-log g c = λ store s two count.
    let names : c.plan-plan.result.now.names ≡ (site_of c.args.start.controller).plan.names = ap (λ q. q.names) (c.plan-plan.ensures ∙ plan_is c.args.start.controller) in
    let named : are_names (site_of c.args.start.controller).plan.names ≡ true = subst (λ n. are_names n ≡ true) names c.groups.ensures.plan.names in
    let headed = c.in-Ok.ensures.ok ∙ ap (λ n. append_known (g.O.Sink.taken c.args.out.now) (header_text n)) names in
    wrote (g.A.Audience.given c.args.audience) c.play_and_close.result c.args.frames.now c.args.start.controller store (g.O.Sink.taken c.args.out.now) (g.O.Sink.taken c.write_header.new.sink)
    (g.O.Sink.taken c.play_and_close.new.out)
    named two count headed (c.play_and_close.ensures.live (opening (site_of c.args.start.controller) store) s refl)

pub returns-in-Ok-clause-given : goal.returns-in-Ok-clause-given
returns-in-Ok-clause-given g c =
    let st = c.requires.begun in
    given_pictures (g.A.Audience.given c.args.audience) c.play_and_close.result c.args.frames.now _ _ _ _ _
    (c.play_and_close.ensures.live (opening (site_of c.args.start.controller) st.0) st.1 refl)

pub returns-in-Ok-clause-cause : goal.returns-in-Ok-clause-cause
returns-in-Ok-clause-cause g c =
    cause_later c.play_and_close.result (g.O.Sink.faults c.args.out.now) (g.O.Sink.faults c.write_header.new.sink)
    (g.O.Sink.faults c.play_and_close.new.out) c.in-Ok.ensures.cause.later c.play_and_close.ensures.cause

pub end_board-requires : goal.end_board-requires
end_board-requires g c = opening_all c.args.start.board c.args.start.feeders.items c.args.start.tick c.requires.opening

pub returns-in-Err-clause-log : goal.returns-in-Err-clause-log
returns-in-Err-clause-log g c = λ store s two count.
    let names : c.plan-plan.result.now.names ≡ (site_of c.args.start.controller).plan.names = ap (λ q. q.names) (c.plan-plan.ensures ∙ plan_is c.args.start.controller) in
    header_cut c.args.frames.now c.args.start.controller store (g.O.Sink.taken c.args.out.now) (g.O.Sink.taken c.write_header.new.sink) _ two count
    (subst (λ n. IsCut (g.O.Sink.taken c.args.out.now) (g.O.Sink.taken c.write_header.new.sink) c.in-Err._fault.taken (header_text n)) names
    c.in-Err.ensures.fault)
