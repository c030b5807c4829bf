use Rattle.std.proofs.Common.{◌≡◌, ◌∙◌, ◌+◌, ◌∷◌, [], ◌++◌, length, sym, ap, subst, arith, length-append}
use Rattle.sig_types.specs.Counts.{Takes}
use Rattle.pua_model.specs.Plan.{groups_in}
use Rattle.controller.specs.Controls.{site_of, logic_of, plan_of}
use Rattle.controller.specs.Second.{past_of}
use Rattle.junction_live.specs.Outcome.{pictures_of}
use Rattle.junction_live.proofs.Ended.{all_of, cut_is, cut_live}
use Rattle.junction_live.proofs.ClosingSecond.{Ready, takes_close, same_sums, no_more, ahead_closed, closed_printable, all_passes}
use Rattle.junction_live.proofs.Loads.{never_ahead}
use Rattle.junction_live.proofs.Running.{Made, frames_are, given_more, written_more, cut_more}
use Rattle.junction_live.proofs.Showing.{groups_stay, pictures_count}
use Rattle.junction_live.proofs.whole_run.play_and_close.Goals as goal

pub play_padded-status-requires-clause-takes : goal.play_padded-status-requires-clause-takes
play_padded-status-requires-clause-takes g c κs within =
    g.met.A.Audience.stays c.args.cell.now c.args.audience c.args.audience (groups_in (plan_of c.args.start.controller)) (length c.args.frames.now + 1)
    (length c.args.frames.now) [] c.requires.takes (g.met.A.Audience.begins c.args.audience) (omega arith)

pub end_board-closing-requires : goal.end_board-closing-requires
end_board-closing-requires g c =
    let p = c.play_padded-status in
    let start = c.args.start in
    all_passes start.board c.args.frames.now start.feeders.items p.new.feeders.items start.tick p.result.1.tick c.requires.opening p.ensures.feeders
    p.ensures.feeders_count p.ensures.tick

pub second-requires : goal.second-requires
second-requires g c =
    let p = c.play_padded-status in
    let e = p.ensures in
    let m = e.made in
    let f = c.end_board-closing.result in
    let start = c.args.start in
    let ready : Ready start.board c.args.frames.now start.feeders.items p.new.feeders.items start.tick p.result.1.tick m.0 f =
    record { opening = c.requires.opening; played = e.feeders; count = e.feeders_count; loaded = m.1; closes = c.end_board-closing.ensures } in
    let st = c.requires.none_made in
    let logic = logic_of start.controller in
    let site = site_of start.controller in (
      past_of logic site st.0 m.0,
      (m.3 st.0 st.1 st.2).0,
      subst (λ fs. Takes fs f) (sym (frames_are logic site st.0 m.0 st.2))
          (takes_close _ _ _ _ _ _ m.0 f ready (omega (arith, m.2, c.requires.frames.few))),
    )

pub show-requires : goal.show-requires
show-requires g c =
    let p = c.play_padded-status in
    let m = p.ensures.made in
    let st = c.requires.none_made in
    let start = c.args.start.controller in
    let cell = c.args.cell.now in
    let pictures = pictures_of (logic_of start) (site_of start) st.0 m.0 in
    let count : length pictures ≡ length m.0 = pictures_count (logic_of start) (site_of start) st.0 m.0 in
    let room = g.met.A.Audience.stays cell c.args.audience p.result.1.audience (groups_in (plan_of start)) (length c.args.frames.now + 1) 1 pictures
    c.requires.takes (m.3 st.0 st.1 st.2).2 (omega (arith, count, m.2)) in
    let groups : length c.last-record.result.now.picture ≡ groups_in (plan_of start) = ap (λ r. length r.picture) c.last-record.ensures
    ∙ c.second.ensures.fits.picture ∙ groups_stay start p.result.1.controller c.second.new.self p.ensures.site c.second.ensures.plan in
    subst (λ n. g.A.Audience.takes cell p.result.1.audience n 1) (sym groups) room

pub returns-then-not-is_done-clause-live : goal.returns-then-not-is_done-clause-live
returns-then-not-is_done-clause-live g c = λ past s none.
    let p = c.play_padded-status in
    let e = p.ensures in
    let m = e.made in
    let f = c.end_board-closing.result in
    let start = c.args.start in
    let ready : Ready start.board c.args.frames.now start.feeders.items p.new.feeders.items start.tick p.result.1.tick m.0 f =
    record { opening = c.requires.opening; played = e.feeders; count = e.feeders_count; loaded = m.1; closes = c.end_board-closing.ensures } in
    cut_live {E = Unit {0}} (g.A.Audience.given c.args.audience) p.result.0 (tt {0}) c.args.frames.now m.0 _ _ past _ _
    (sym c.is_done.ensures ∙ c.if-not-is_done.true) (m.3 past s none).1 (never_ahead p.result.1.tick m.0 m.1) (no_more _ _ _ _ _ _ m.0 f ready)

pub returns-then-not-is_done-clause-cause : goal.returns-then-not-is_done-clause-cause
returns-then-not-is_done-clause-cause g c =
    let p = c.play_padded-status in
    let st = c.requires.none_made in
    let m = p.ensures.made in
    record {
      later = p.ensures.later;
      failed = p.ensures.cause (cut_is p.result.0 _ m.0 _ _ st.0 _ _ (sym c.is_done.ensures ∙ c.if-not-is_done.true) (m.3 st.0 st.1 st.2).1);
    }

pub returns-in-Ok-clause-live : goal.returns-in-Ok-clause-live
returns-in-Ok-clause-live g c = λ past s none.
    let p = c.play_padded-status in
    let e = p.ensures in
    let m = e.made in
    let f = c.end_board-closing.result in
    let start = c.args.start in
    let ready : Ready start.board c.args.frames.now start.feeders.items p.new.feeders.items start.tick p.result.1.tick m.0 f =
    record { opening = c.requires.opening; played = e.feeders; count = e.feeders_count; loaded = m.1; closes = c.end_board-closing.ensures } in
    let made' : Made p.result.1.controller c.second.new.self f =
    record { stands = c.second.ensures.stands; record_is = c.second.ensures.record; site = c.second.ensures.site; logic_is = c.second.ensures.logic } in
    let so = m.3 past s none in
    let w = all_of p.result.0 (length c.args.frames.now) m.0 _ _ past _ _ (sym c.is_done.ensures ∙ c.if-not-is_done.false) so.1 in
    let given = g.A.Audience.given c.args.audience in (
      m.0 ++ f ∷ [],
      omega (arith, length-append m.0 (f ∷ []), w.0),
      closed_printable _ _ _ _ _ _ m.0 f ready,
      written_more start.controller p.result.1.controller c.second.new.self past m.0 f c.last-record.result.now c.plan.result.now.names _ _ _ made'
          e.site e.logic so.0 c.last-record.ensures (ap (λ q. q.names) c.plan.ensures) w.1 c.in-Ok.ensures.ok,
      ahead_closed _ _ _ _ _ _ m.0 f ready,
      same_sums _ _ _ _ _ _ m.0 f ready,
      given_more (given p.result.1.audience) (given c.show.new.self) start.controller p.result.1.controller c.second.new.self past m.0 f
          c.last-record.result.now made' e.site e.logic so.0 c.last-record.ensures (c.show.ensures c.args.audience) so.2,
    )

pub returns-clause-live : goal.returns-clause-live
returns-clause-live g c = λ past s none.
    let p = c.play_padded-status in
    let e = p.ensures in
    let m = e.made in
    let f = c.end_board-closing.result in
    let start = c.args.start in
    let ready : Ready start.board c.args.frames.now start.feeders.items p.new.feeders.items start.tick p.result.1.tick m.0 f =
    record { opening = c.requires.opening; played = e.feeders; count = e.feeders_count; loaded = m.1; closes = c.end_board-closing.ensures } in
    let made' : Made p.result.1.controller c.second.new.self f =
    record { stands = c.second.ensures.stands; record_is = c.second.ensures.record; site = c.second.ensures.site; logic_is = c.second.ensures.logic } in
    let so = m.3 past s none in
    let w = all_of p.result.0 (length c.args.frames.now) m.0 _ _ past _ _ (sym c.is_done.ensures ∙ c.if-not-is_done.false) so.1 in
    let same = same_sums _ _ _ _ _ _ m.0 f ready in (
      m.0 ++ f ∷ [],
      omega (arith, length-append m.0 (f ∷ []), w.0),
      cut_more start.controller p.result.1.controller c.second.new.self past m.0 f c.last-record.result.now c.plan.result.now.names _ _ _ _ made'
          e.site e.logic so.0 c.last-record.ensures (ap (λ q. q.names) c.plan.ensures) w.1 c.in-Err.ensures.fault,
      ahead_closed _ _ _ _ _ _ m.0 f ready,
      λ d low. let q = same d low in (omega (arith, q.0), omega (arith, q.1)),
    )
