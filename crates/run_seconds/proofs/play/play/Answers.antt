use Rattle.std.proofs.Common.{◌∙◌, ◌++◌, ◌∷◌, [], Ok, Err, ap, sym, subst, refl, arith}
use Rattle.std.proofs.lemmas.List.{append-nil}
use Rattle.sig_io.proofs.Drafts.{nothing, same_put, then}
use Rattle.sig_types.specs.Counts.{Takes}
use Rattle.controller.specs.Controls.{logic_of, site_of}
use Rattle.controller.specs.Second.{past_of}
use Rattle.det_stream.specs.Answers.{Gave, Reads, IsNext, name_of}
use Rattle.det_stream.proofs.Steps.{reads_front}
use Rattle.run_seconds.proofs.Ends.{none_failed, failed_on}
use Rattle.run_seconds.proofs.Underway.{here, none_yet, now_known, one_more, takes_next}
use Rattle.run_seconds.proofs.play.play.Goals as goal

pub loop-lines-init : goal.loop-lines-init
loop-lines-init g c = (
  none_yet _ _ _ _ _ _ _ c.requires.gave c.requires.unread nothing,
  refl,
  refl,
  c.requires.live,
  omega (arith, c.requires.none_given),
  omega arith,
  none_failed _ _,
)

pub returns-in-Ok-false-clause-played : goal.returns-in-Ok-false-clause-played
returns-in-Ok-false-clause-played g c = λ first s none knew.
    let i = c.loop-lines.invariant in
    let u = i.0 in (
      u.frames,
      same_put (append-nil _) (then (u.put first s knew) c.send_before_wait.ensures.puts),
      u.known first s knew,
      λ file e.
          let next = subst (λ n. Reads c.loop-lines.lines (file n) u.frames → IsNext (file n) u.frames c.next_frame.new.lines (Ok c.in-Ok-false.field-0)) i.2
          (c.in-Ok-false.ensures.next file (i.1 ∙ e) u.frames) (u.reads file e) in
          let last = subst (λ b. IsNext (file (name_of c.args.lines.now)) u.frames c.next_frame.new.lines (Ok b)) c.in-Ok-false.field-0-test next in
          (last.0.frames_are, last.0.refusal_is),
    )

pub returns-in-Err-Fault-clause-played : goal.returns-in-Err-Fault-clause-played
returns-in-Err-Fault-clause-played g c = λ first s none knew.
    let i = c.loop-lines.invariant in
    let u = i.0 in (
      u.frames,
      same_put (append-nil _) (then (u.put first s knew) c.send_before_wait.ensures.puts),
      u.known first s knew,
      λ file e. reads_front c.loop-lines.lines (file (name_of c.args.lines.now)) u.frames (u.reads file e),
    )

pub returns-in-Err-At-clause-played : goal.returns-in-Err-At-clause-played
returns-in-Err-At-clause-played g c = λ first s none knew.
    let i = c.loop-lines.invariant in
    let u = i.0 in (
      u.frames,
      same_put (append-nil _) (then (u.put first s knew) c.send_before_wait.ensures.puts),
      u.known first s knew,
      λ file e.
          let next = subst (λ n. Reads c.loop-lines.lines (file n) u.frames → IsNext (file n) u.frames c.next_frame.new.lines (Err c.in-Err-At.field-0)) i.2
          (c.in-Err-At.ensures.next file (i.1 ∙ e) u.frames) (u.reads file e) in
          let last = subst (λ r. IsNext (file (name_of c.args.lines.now)) u.frames c.next_frame.new.lines (Err r)) c.in-Err-At.field-0-is next in
          (last.frames_are, last.refusal_is),
    )

pub tell-requires-clause-takes : goal.tell-requires-clause-takes
tell-requires-clause-takes g c =
    let u = c.loop-lines.invariant.0 in
    let first = c.requires.begun.0 in
    let s = c.requires.begun.1 in
    let takes = (c.in-Ok-true.ensures.gave (ap Ok c.in-Ok-true.field-0-test) u.frames u.gave).1 in (
      past_of (logic_of c.args.controller.now) (site_of c.args.controller.now) first u.frames,
      u.stands first s,
      takes_next (logic_of c.args.controller.now) (site_of c.args.controller.now) first u.frames c.frame.result.now c.requires.begun.2
          (subst (λ f. Takes u.frames f) (sym c.frame.ensures) takes),
    )

pub tell-requires-clause-known : goal.tell-requires-clause-known
tell-requires-clause-known g c =
    let u = c.loop-lines.invariant.0 in
    let first = c.requires.begun.0 in
    let s = c.requires.begun.1 in (
      first,
      u.frames,
      here u first s,
      now_known u first s c.requires.begun.3,
    )

pub returns-then-failed-clause-played : goal.returns-then-failed-clause-played
returns-then-failed-clause-played g c = λ first s none knew.
    let i = c.loop-lines.invariant in
    let u = i.0 in (
      u.frames,
      same_put (append-nil _) (then (u.put first s knew) c.send_before_wait.ensures.puts),
      u.known first s knew,
      λ file e. reads_front c.loop-lines.lines (file (name_of c.args.lines.now)) u.frames (u.reads file e),
    )

pub loop-lines-preserved : goal.loop-lines-preserved
loop-lines-preserved g c =
    let i = c.loop-lines.invariant in
    let u = i.0 in
    let gave = (c.in-Ok-true.ensures.gave (ap Ok c.in-Ok-true.field-0-test) u.frames u.gave).0 in
    let second = c.in-Ok-true.ensures.second (ap Ok c.in-Ok-true.field-0-test) in
    let first = c.requires.begun.0 in
    let s = c.requires.begun.1 in
    let told = c.tell.ensures.puts first u.frames (here u first s) (now_known u first s c.requires.begun.3) in (
      one_more _ _ _ _ _ _ _ _ _ _ _ _ _ _ _ c.frame.result.now u
          (subst (λ f. Gave c.next_frame.new.lines (u.frames ++ f ∷ [])) (sym c.frame.ensures) gave)
          (λ file e.
          let next = subst (λ n. Reads c.loop-lines.lines (file n) u.frames → IsNext (file n) u.frames c.next_frame.new.lines (Ok c.in-Ok-true.field-0)) i.2
          (c.in-Ok-true.ensures.next file (i.1 ∙ e) u.frames) (u.reads file e) in
          let read = subst (λ b. IsNext (file (name_of c.args.lines.now)) u.frames c.next_frame.new.lines (Ok b)) c.in-Ok-true.field-0-test next in
          subst (λ f. Reads c.next_frame.new.lines (file (name_of c.args.lines.now)) (u.frames ++ f ∷ [])) (sym c.frame.ensures) read)
          c.tell.ensures.stands
          (λ first frames h knows text puts. then (same_put (append-nil _) (then puts c.send_before_wait.ensures.puts)) (c.tell.ensures.puts first frames h knows))
          c.tell.ensures.knows c.tell.ensures.steady c.tell.ensures.code c.tell.ensures.site,
      c.next_frame.ensures.contents_stay ∙ i.1,
      c.next_frame.ensures.name ∙ i.2,
      c.in-Ok-true.ensures.live,
      c.in-Ok-true.ensures.at_most (ap Ok c.in-Ok-true.field-0-test),
      omega (arith, i.5, c.next_frame.ensures.later),
      failed_on (failed_on i.6 c.send_before_wait.ensures.puts.cause) told.cause,
    )
