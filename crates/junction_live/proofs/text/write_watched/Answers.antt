use Rattle.std.proofs.Common.{◌≡◌, ◌∙◌, ◌∷◌, [], ap, length, replicate, subst, sym}
use Rattle.sig_types.specs.declared.aspect.Aspect.TheVariants.{Red}
use Rattle.pua_model.specs.Plan.{groups_in}
use Rattle.controller.specs.Controls.{site_of}
use Rattle.picture_cell.specs.Sides.{Publishing}
use Rattle.junction_run.specs.Played.{playing_of}
use Rattle.junction_run.proofs.Logs.{plan_is}
use Rattle.junction_live.specs.Sights.{AreSights}
use Rattle.junction_live.specs.Watch.{AreFewWatchersOf, AreWatchersOf}
use Rattle.junction_live.proofs.Ended.{cause_later}
use Rattle.junction_live.proofs.Audiences.{still_publisher, written_back}
use Rattle.junction_live.proofs.Showing.{fresh_of, still_of}
use Rattle.junction_live.proofs.Texts.{begun_text, wrote_lines}
use Rattle.junction_live.proofs.text.write_watched.Goals as goal

pub write_log-requires-clause-watchers : goal.write_log-requires-clause-watchers
write_log-requires-clause-watchers g c κs within =
    let w = c.args.watched in
    subst (λ l. AreFewWatchersOf w.cell l) (sym c.as_mut_slice.ensures.value)
    (c.requires.cell.few, fresh_of w.cell w.watchers.items c.requires.cell.opening.fresh)

pub write_watches-requires-clause-publisher : goal.write_watches-requires-clause-publisher
write_watches-requires-clause-publisher g c =
    let w = c.args.watched in
    let o = c.requires.cell.opening in
    let given = c.in-Ok.ensures.given in
    still_publisher w.cell w.publisher c.in-Ok.publisher given.0
    (ap (λ (p : Publishing). p.table) o.publisher_is, ap (λ (p : Publishing). p.groups) o.publisher_is ∙ sym o.groups_are) given.1

pub write_watches-requires-clause-watchers : goal.write_watches-requires-clause-watchers
write_watches-requires-clause-watchers g c =
    let w = c.args.watched in
    let value = c.as_mut_slice.ensures.value in
    let same : length c.write_log.new.watchers ≡ length w.watchers.items = c.write_log.auto.watchers ∙ ap length value in
    let back = written_back c.write_log.new.watchers w.watchers.items w.watchers.len w.watchers.ok.0 same in
    subst (λ l. AreWatchersOf w.cell l) (sym back)
    (still_of w.cell 16 c.as_mut_slice.result.now c.write_log.new.watchers
    (subst (λ l. AreWatchersOf w.cell l) (sym value) (fresh_of w.cell w.watchers.items c.requires.cell.opening.fresh)) c.in-Ok.ensures.looked
    c.write_log.auto.watchers)

pub returns-in-Ok-clause-text : goal.returns-in-Ok-clause-text
returns-in-Ok-clause-text g c = λ store s two count.
    let w = c.args.watched in
    let start = c.args.start.controller in
    let first : w.publisher.entries ≡ replicate (groups_in (site_of start).plan) Red ∷ [] =
    ap (λ (p : Publishing). p.entries) c.requires.cell.opening.publisher_is ∙ ap (λ q. replicate (groups_in q) Red ∷ []) (plan_is start) in
    let lines = c.write_watches.ensures.lines in
    let same : length c.write_log.new.watchers ≡ length w.watchers.items = c.write_log.auto.watchers ∙ ap length c.as_mut_slice.ensures.value in
    let back = written_back c.write_log.new.watchers w.watchers.items w.watchers.len w.watchers.ok.0 same in
    wrote_lines c.write_watches.result (length w.watchers.items) c.args.frames.now (playing_of start store) w.publisher c.in-Ok.publisher lines.0
    (g.O.Sink.taken c.args.out.now) (g.O.Sink.taken c.write_log.new.out) (g.O.Sink.taken c.write_watches.new.sink) first
    (c.in-Ok.ensures.log store s two count)
    (subst (λ n. AreSights n c.in-Ok.publisher.entries lines.0) (ap length back ∙ same) lines.1) lines.2

pub returns-in-Ok-clause-cause : goal.returns-in-Ok-clause-cause
returns-in-Ok-clause-cause g c =
    cause_later c.write_watches.result (g.O.Sink.faults c.args.out.now) (g.O.Sink.faults c.write_log.new.out) (g.O.Sink.faults c.write_watches.new.sink)
    c.in-Ok.ensures.cause.later c.write_watches.ensures.cause

pub returns-clause-text : goal.returns-clause-text
returns-clause-text g c = λ store s two count.
    begun_text _ (playing_of c.args.start.controller store) c.args.frames.now _ _ (c.in-Err.ensures.log store s two count)
