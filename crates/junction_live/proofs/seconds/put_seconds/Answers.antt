use Rattle.std.proofs.Common.{◌≡◌, ◌∙◌, length, true, false, refl, sym, ap, subst, arith, inl}
use Rattle.pua_model.specs.Plan.{groups_in}
use Rattle.controller.specs.Controls.{site_of, logic_of, plan_of}
use Rattle.controller.specs.Second.{past_of}
use Rattle.det_board.specs.Passes.{Takes as TickTakes}
use Rattle.junction_run.proofs.Ends.{fails_on}
use Rattle.junction_live.specs.Outcome.{pictures_of}
use Rattle.junction_live.proofs.Running.{Made, running_none, running_takes, running_more}
use Rattle.junction_live.proofs.Showing.{groups_stay, pictures_count}
use Rattle.junction_live.proofs.seconds.put_seconds.Goals as goal

pub loop-k-init : goal.loop-k-init
loop-k-init g c =
    let audience = c.args.audience.now in (
      refl,
      running_none (g.A.Audience.given audience audience) c.args.tick.now c.args.controller.now (g.O.Sink.taken c.args.out.now) c.args.draft.now
          c.requires.unread (g.met.A.Audience.begins audience),
      record { later = omega arith; failed = λ t. inl t },
    )

pub second-requires : goal.second-requires
second-requires g c =
    let r = c.loop-k.invariant.1 in
    let st = c.requires.none_made in
    let start = c.args.controller.now in
    let t = subst (λ n. TickTakes n c.loop-k.tick c.take.new.self c.take.new.frame) c.requires.board.1 c.take.ensures in (
      past_of (logic_of start) (site_of start) st.0 r.made,
      r.stands st.0 st.1 st.2,
      running_takes (g.A.Audience.given c.args.audience.now c.loop-k.audience) c.loop-k.k c.loop-k.tick c.take.new.self start
          c.loop-k.controller _ _ _ _ c.take.new.frame r t
          (let a = c.loop-k-test.true in let b = c.requires.at_most in omega arith) st.0 st.2,
    )

pub show-requires : goal.show-requires
show-requires g c =
    let r = c.loop-k.invariant.1 in
    let st = c.requires.none_made in
    let start = c.args.controller.now in
    let cell = c.args.cell.now in
    let e = c.second.ensures in
    let pictures = pictures_of (logic_of start) (site_of start) st.0 r.made in
    let count : length pictures ≡ length r.made = pictures_count (logic_of start) (site_of start) st.0 r.made in
    let room = g.met.A.Audience.stays cell c.args.audience.now c.loop-k.audience (groups_in (plan_of start)) c.args.seconds 1 pictures
    c.requires.takes (r.shown st.0 st.1 st.2) (omega (arith, count, r.count, c.loop-k-test.true)) in
    let groups : length c.last-record.result.now.picture ≡ groups_in (plan_of start) = ap (λ r. length r.picture) c.last-record.ensures ∙ e.fits.picture ∙
    groups_stay start c.loop-k.controller c.second.new.self r.site e.plan in
    subst (λ n. g.A.Audience.takes cell c.loop-k.audience n 1) (sym groups) room

pub returns-then-failed-clause-put : goal.returns-then-failed-clause-put
returns-then-failed-clause-put g c =
    let r = c.loop-k.invariant.1 in
    let before = c.args.audience.now in
    let t = subst (λ n. TickTakes n c.loop-k.tick c.take.new.self c.take.new.frame) c.requires.board.1 c.take.ensures in
    let start = c.args.controller.now in
    let e = c.second.ensures in
    let m : Made c.loop-k.controller c.second.new.self c.take.new.frame =
    record { stands = e.stands; record_is = e.record; site = e.site; logic_is = e.logic } in
    let more = running_more (g.A.Audience.given before c.loop-k.audience) (g.A.Audience.given before c.show.new.self) c.loop-k.k c.loop-k.tick
    c.take.new.self start c.loop-k.controller c.second.new.self _ _ _ _ _ c.put_second.new.draft c.take.new.frame c.last-record.result.now
    c.plan.result.now.names r t m c.last-record.ensures (ap (λ p. p.names) c.plan.ensures) c.put_second.ensures.text (c.show.ensures before) in
    let failed : c.put_second.new.draft.failed ≡ true = sym c.failed.ensures ∙ c.if-failed.true in (
      more.made,
      more.loaded,
      omega (arith, more.count, c.loop-k-test.true),
      λ whole. absurd (let no : true ≡ false = sym failed ∙ whole in cc),
      λ past s none. (more.stands past s none, (λ begin d. more.put past begin s none d), more.shown past s none),
    )

pub loop-k-preserved : goal.loop-k-preserved
loop-k-preserved g c =
    let r = c.loop-k.invariant.1 in
    let before = c.args.audience.now in
    let t = subst (λ n. TickTakes n c.loop-k.tick c.take.new.self c.take.new.frame) c.requires.board.1 c.take.ensures in
    let start = c.args.controller.now in
    let e = c.second.ensures in
    let m : Made c.loop-k.controller c.second.new.self c.take.new.frame =
    record { stands = e.stands; record_is = e.record; site = e.site; logic_is = e.logic } in
    let more = running_more (g.A.Audience.given before c.loop-k.audience) (g.A.Audience.given before c.show.new.self) c.loop-k.k c.loop-k.tick
    c.take.new.self start c.loop-k.controller c.second.new.self _ _ _ _ _ c.put_second.new.draft c.take.new.frame c.last-record.result.now
    c.plan.result.now.names r t m c.last-record.ensures (ap (λ p. p.names) c.plan.ensures) c.put_second.ensures.text (c.show.ensures before) in
    (c.take.ensures.table ∙ c.loop-k.invariant.0, more, fails_on _ _ _ _ _ _ c.loop-k.invariant.2 c.put_second.ensures.cause)

pub returns-clause-put : goal.returns-clause-put
returns-clause-put g c =
    let r = c.loop-k.invariant.1 in
    let n : length r.made ≡ c.args.seconds = r.count ∙ (let a = c.loop-k-test.false in let b = c.loop-k.auto in omega arith) in (
      r.made,
      r.loaded,
      omega (arith, n),
      λ whole. n,
      λ past s none. (r.stands past s none, (λ begin d. r.put past begin s none d), r.shown past s none),
    )
