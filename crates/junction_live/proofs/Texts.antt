-- The text of a live run: its log, and the lines of its watchers.
use Rattle.std.proofs.Common.{◌≡◌, ◌∙◌, ◌+◌, ℕ, true, List, [], ◌∷◌, ◌++◌, length, replicate, take, Option, Result, Ok, Err, refl, sym, ap, subst, arith, append-nil}
use Rattle.std.proofs.lemmas.List.{take_all}
use Rattle.std.specs.Io.KnownBytes.{append_known}
use Rattle.sig_io.specs.Draft.{IsCut}
use Rattle.sig_io.proofs.Reading.{append_known-twice}
use Rattle.sig_types.specs.Counts.{Counts}
use Rattle.sig_types.specs.Pass.{Store}
use Rattle.sig_types.specs.Turns.{History}
use Rattle.sig_types.specs.declared.aspect.Aspect.TheVariants.{Red}
use Rattle.pua_model.specs.Plan.{groups_in}
use Rattle.signal_log.specs.Log.{log_text}
use Rattle.vap_ast.specs.Syntax.{Program}
use Rattle.vap_code.specs.Codes.{CodeOf}
use Rattle.vap_code.specs.Machine.{machine}
use Rattle.vap_code.specs.Valid.{Valid}
use Rattle.vap_code.specs.Stores.{first_store}
use Rattle.controller.specs.declared.controller.Controller.{Controller}
use Rattle.controller.specs.Controls.{site_of, logic_of}
use Rattle.controller.specs.Past.{Site, opening}
use Rattle.controller.specs.Guarded.{IsGuardedRun}
use Rattle.controller.specs.Guarded.{pictures_of as pictures_in}
use Rattle.junction_run.specs.Guarded.{IsGuardedLog, written}
use Rattle.junction_run.specs.Loading.{Playing, program_at}
use Rattle.junction_run.specs.Played.{playing_of}
use Rattle.junction_run.specs.Programs.{Runs}
use Rattle.junction_run.specs.Records.{records_of, log_of}
use Rattle.junction_run.proofs.Agree.{records_are, same_records}
use Rattle.picture_cell.specs.Sides.{Publishing}
use Rattle.junction_live.specs.Answer.{TellsFrames, IsWholeLog, IsBegunLog, IsWholeText, IsBegunText, seconds_begun, lines_begun}
use Rattle.junction_live.specs.Ended.{GainedLog, GainedFront, GainedText, GainedBegun, Wrote}
use Rattle.junction_live.specs.Guarded.{IsGuardedText, log_guarded, lines_guarded}
use Rattle.junction_live.specs.Laws.{TextIsLog}
use Rattle.junction_live.specs.Outcome.{pictures_of}
use Rattle.junction_live.specs.Sights.{Sight, AreSights, watches_from}
use Rattle.junction_live.specs.Watch.{WroteLines, with_pictures}
use Rattle.junction_live.proofs.Running.{cut_later}

-- ---- without watchers

none_of : {A : Type 0} (xs : List A) → length xs ≡ 0 → xs ≡ []
none_of [] e = refl
none_of (x ∷ xs) e = absurd (omega (arith, e))

whole_alone : (playing : Playing) (frames : List Counts) (text : List ℕ) → IsWholeText 0 playing frames text → IsWholeLog playing frames text
whole_alone playing frames text is =
    let none : is.sights ≡ [] = none_of is.sights is.seen.count in
    let same : text ≡ is.log = is.text_is ∙ ap (λ s. is.log ++ watches_from 1 s) none ∙ append-nil is.log in
    subst (λ t. IsWholeLog playing frames t) (sym same) is.whole

pub text_alone : (playing : Playing) (frames : List Counts) (text : List ℕ) → IsWholeLog playing frames text → IsWholeText 0 playing frames text
text_alone playing frames text is = record
    { log = text; whole = is; sights = []; seen = record { count = refl; each = λ k d lt. absurd (omega (arith, lt)) }; text_is = sym (append-nil text) }

begun_whole : (playing : Playing) (frames : List Counts) (text : List ℕ) → IsWholeLog playing frames text → IsBegunLog playing frames text
begun_whole playing frames text is = record {
  made = is.made;
  count = omega (arith, is.count);
  ahead = is.ahead;
  sums = λ d low. (let s = is.sums d low in (omega (arith, s.0), omega (arith, s.1)));
  guarded = is.guarded;
  text_is = is.text_is;
}

begun_alone : (playing : Playing) (frames : List Counts) (text : List ℕ) → IsBegunText 0 playing frames text → IsBegunLog playing frames text
begun_alone playing frames text (seconds_begun is) = is
begun_alone playing frames text (lines_begun is) = begun_whole playing frames text (whole_alone playing frames text is)

guarded_alone : (old new : Option (List ℕ)) → IsGuardedText 0 old new → IsGuardedLog old new
guarded_alone old new (log_guarded is) = is
guarded_alone old new (lines_guarded p frames sights n guarded seen is) =
    written p frames n guarded (is ∙ ap (λ s. append_known old (take n (log_of p frames ++ watches_from 1 s))) (none_of sights seen.count)
    ∙ ap (λ t. append_known old (take n t)) (append-nil (log_of p frames)))

pub text_is_log : TextIsLog
text_is_log = record { whole = whole_alone; log = text_alone; begun = begun_alone; guarded = guarded_alone }

-- a front of a log that was begun
pub begun_text : (n : ℕ) (playing : Playing) (frames : List Counts) (old new : Option (List ℕ)) → GainedFront playing frames old new →
    GainedBegun n playing frames old new
begun_text n playing frames old new is = (is.0, seconds_begun is.1, is.2, is.3)

-- ---- with watchers

-- the publisher's list is the history of the run
entries_are : (playing : Playing) (made : List Counts) (before after : Publishing) →
    before.entries ≡ replicate (groups_in playing.site.plan) Red ∷ [] →
    after ≡ with_pictures before (pictures_of playing.logic playing.site (opening playing.site playing.store) made) →
    after.entries ≡ pictures_in playing.site (records_of playing made)
unfolding records_of
entries_are playing made before after first is =
    ap (λ (p : Publishing). p.entries) is
    ∙ ap (λ (h : History). h ++ pictures_of playing.logic playing.site (opening playing.site playing.store) made) first

-- the log of a controller beside a publisher, and then the lines of its watchers
pub wrote_lines : {A E : Type 0} (r : Result A E) (n : ℕ) (frames : List Counts) (playing : Playing) (before after : Publishing) (sights : List Sight)
    (old last new : Option (List ℕ)) → before.entries ≡ replicate (groups_in playing.site.plan) Red ∷ [] →
    GainedLog (λ pictures. after ≡ with_pictures before pictures) playing frames old last →
    AreSights n after.entries sights → WroteLines r sights last new → Wrote n r frames playing old new
wrote_lines {A} {E} r n frames playing before after sights old last new first log seen lines = so r lines
  where
    whole : IsWholeText n playing frames (log.0 ++ watches_from 1 sights)
    whole = record {
      log = log.0;
      whole = log.1;
      sights = sights;
      seen = subst (λ h. AreSights n h sights) (entries_are playing log.1.made before after first log.3) seen;
      text_is = refl;
    }

    so : (r : Result A E) → WroteLines r sights last new → Wrote n r frames playing old new
    so (Ok x) lines = (
      log.0 ++ watches_from 1 sights,
      whole,
      lines ∙ ap (λ o. append_known o (watches_from 1 sights)) log.2 ∙ append_known-twice old log.0 (watches_from 1 sights),
    )
    so (Err fault) lines = (
      log.0 ++ watches_from 1 sights,
      lines_begun whole,
      length log.0 + lines.0,
      cut_later old last new lines.0 log.0 (watches_from 1 sights) (log.0 ++ watches_from 1 sights) log.2 refl lines.1,
    )

-- ---- of another playing

-- the records of a controller with this code are the program's
pub records_same : (code : CodeOf) (program : Program) → Runs code program → Valid code → (controller : Controller) (site : Site) (made : List Counts) →
    logic_of controller ≡ machine code → site_of controller ≡ site →
    records_of (playing_of controller (first_store code)) made ≡ records_of (program_at site program) made
records_same code program runs valid controller site made logic is = records_are code controller site made logic is ∙
    same_records code program runs valid site made

module _ (p q : Playing) (same : (made : List Counts) → records_of p made ≡ records_of q made) (site : p.site ≡ q.site)
    (guarded : (made : List Counts) → IsGuardedRun q.logic q.site q.store made) where
  log_along : (made : List Counts) → log_of p made ≡ log_of q made
  unfolding log_of
  log_along made = λ i. log_text (site i).plan.names (same made i)

  whole_along : (n : ℕ) (frames : List Counts) (text : List ℕ) → IsWholeText n p frames text → IsWholeText n q frames text
  whole_along n frames text is = record {
    log = is.log;
    whole = record {
      made = is.whole.made;
      count = is.whole.count;
      printable = is.whole.printable;
      ahead = is.whole.ahead;
      sums = is.whole.sums;
      guarded = guarded is.whole.made;
      text_is = is.whole.text_is ∙ log_along is.whole.made;
      tells = subst (λ (s : Site). TellsFrames s.plan.names is.log is.whole.made) site is.whole.tells;
    };
    sights = is.sights;
    seen = subst (λ h. AreSights n h is.sights) (λ i. pictures_in (site i) (same is.whole.made i)) is.seen;
    text_is = is.text_is;
  }

  begun_along : (n : ℕ) (frames : List Counts) (text : List ℕ) → IsBegunText n p frames text → IsBegunText n q frames text
  begun_along n frames text (seconds_begun is) = seconds_begun (record {
    made = is.made;
    count = is.count;
    ahead = is.ahead;
    sums = is.sums;
    guarded = guarded is.made;
    text_is = is.text_is ∙ log_along is.made;
  })
  begun_along n frames text (lines_begun is) = lines_begun (whole_along n frames text is)

  pub gained_along : (n : ℕ) (frames : List Counts) (old new : Option (List ℕ)) → GainedText n p frames old new → GainedText n q frames old new
  gained_along n frames old new is = (is.0, whole_along n frames is.0 is.1, is.2)

  pub front_along : (n : ℕ) (frames : List Counts) (old new : Option (List ℕ)) → GainedBegun n p frames old new → GainedBegun n q frames old new
  front_along n frames old new is = (is.0, begun_along n frames is.0 is.1, is.2, is.3)

-- ---- what was written is guarded

pub whole_guarded : (n : ℕ) (p : Playing) (frames : List Counts) (old new : Option (List ℕ)) → GainedText n p frames old new → IsGuardedText n old new
whole_guarded n p frames old new is =
    let w = is.1 in
    lines_guarded p w.whole.made w.sights (length is.0) w.whole.guarded w.seen
    (is.2 ∙ ap (append_known old) (sym (take_all (length is.0) is.0 (omega arith))
    ∙ ap (take (length is.0)) (w.text_is ∙ ap (λ l. l ++ watches_from 1 w.sights) w.whole.text_is)))

begun_guarded : (n : ℕ) (p : Playing) (frames : List Counts) (old new : Option (List ℕ)) (text : List ℕ) (k : ℕ) → IsBegunText n p frames text →
    IsCut old new k text → IsGuardedText n old new
begun_guarded n p frames old new text k (seconds_begun is) cut =
    log_guarded (written p is.made k is.guarded (cut.taken ∙ ap (λ t. append_known old (take k t)) is.text_is))
begun_guarded n p frames old new text k (lines_begun is) cut = lines_guarded p is.whole.made is.sights k is.whole.guarded is.seen
    (cut.taken ∙ ap (λ t. append_known old (take k t)) (is.text_is ∙ ap (λ l. l ++ watches_from 1 is.sights) is.whole.text_is))

pub front_guarded : (n : ℕ) (p : Playing) (frames : List Counts) (old new : Option (List ℕ)) → GainedBegun n p frames old new → IsGuardedText n old new
front_guarded n p frames old new is = begun_guarded n p frames old new is.0 is.2 is.1 is.3
