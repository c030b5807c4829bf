-- The log of a live run.
use Rattle.std.proofs.Common.{◌≡◌, ◌∙◌, ◌+◌, ℕ, zero, suc, true, List, [], ◌∷◌, ◌++◌, length, map, Option, Result, Ok, Err, refl, sym, ap, subst, arith}
use Rattle.std.specs.Io.KnownBytes.{append_known}
use Rattle.sig_io.specs.Draft.{IsCut}
use Rattle.sig_types.specs.Counts.{Counts}
use Rattle.sig_types.specs.Pass.{Logic, Store}
use Rattle.sig_types.specs.Rules.{IsTwoWay}
use Rattle.sig_types.specs.Turns.{History}
use Rattle.pua_model.specs.Plan.{are_names, groups_in}
use Rattle.signal_log.specs.Laws.{ArePrintable, Spells}
use Rattle.signal_log.specs.Log.{header_text, log_text}
use Rattle.signal_log.proofs.LogLaws.{log_spells}
use Rattle.controller.specs.declared.controller.Controller.{Controller}
use Rattle.controller.specs.Controls.{site_of, logic_of}
use Rattle.controller.specs.Past.{Site, Past, opening}
use Rattle.controller.specs.Second.{run_from, record_after, past_after_second}
use Rattle.controller.proofs.Guarded.{runs_are_guarded}
use Rattle.junction_run.specs.Loading.{Playing}
use Rattle.junction_run.specs.Played.{playing_of}
use Rattle.junction_run.specs.Records.{records_of, log_of}
use Rattle.junction_run.proofs.Logs.{log_of-none}
use Rattle.junction_live.specs.Answer.{TellsFrames, IsWholeLog, IsBegunLog}
use Rattle.junction_live.specs.Ended.{GainedFront, WroteLog}
use Rattle.junction_live.specs.Outcome.{Live}
use Rattle.junction_live.specs.Outcome.{log_of as records_in}
use Rattle.junction_live.specs.Play.{NeverAhead, SameSums}
use Rattle.sig_io.proofs.Reading.{append_known-twice}
use Rattle.junction_live.proofs.Running.{cut_later}

-- the frames of the records of a run are those that it was made of
pub frames_recorded : (logic : Logic) (site : Site) (past : Past) (fs : List Counts) → map (λ r. r.frame) (run_from logic site past fs) ≡ fs
unfolding record_after
frames_recorded logic site past [] = refl
frames_recorded logic site past (f ∷ fs) = ap (λ l. f ∷ l) (frames_recorded logic site (past_after_second logic site past f) fs)

-- the text of a log tells its frames
pub tells_frames : (p : Playing) (made : List Counts) → are_names p.site.plan.names ≡ true → ArePrintable made →
    TellsFrames p.site.plan.names (log_of p made) made
unfolding log_of records_of
tells_frames p made named printable =
    let spelled : Spells p.site.plan.names (log_of p made) made = (records_of p made, refl, frames_recorded p.logic p.site (opening p.site p.store) made) in
    record { spells = spelled; only = λ others are so. log_spells p.site.plan.names (log_of p made) others made named are printable so spelled }

-- a log is its header and its records
pub log_parts : (c : Controller) (store : Store) (made : List Counts) →
    log_of (playing_of c store) made ≡ header_text (site_of c).plan.names ++ records_in (logic_of c) (site_of c) (opening (site_of c) store) made
unfolding log_of records_of log_text
log_parts c store made = refl

-- the log of seconds in which each of the frames' events stands, and none ahead of its time
unfoldable pub whole_log : (frames : List Counts) (c : Controller) (store : Store) (made : List Counts) → are_names (site_of c).plan.names ≡ true →
    IsTwoWay (site_of c).rules → (site_of c).rules.count ≡ groups_in (site_of c).plan → length made ≡ length frames + 1 → ArePrintable made →
    NeverAhead made → SameSums frames made → IsWholeLog (playing_of c store) frames (log_of (playing_of c store) made)
whole_log frames c store made named two count all printable ahead sums = record {
  made = made;
  count = all;
  printable = printable;
  ahead = ahead;
  sums = sums;
  guarded = runs_are_guarded (logic_of c) (site_of c) store made two count;
  text_is = refl;
  tells = tells_frames (playing_of c store) made named printable;
}

-- the header and the records are the log
pub log_gained : (c : Controller) (store : Store) (made : List Counts) (old mid new : Option (List ℕ)) →
    mid ≡ append_known old (header_text (site_of c).plan.names) →
    new ≡ append_known mid (records_in (logic_of c) (site_of c) (opening (site_of c) store) made) → new ≡ append_known old (log_of (playing_of c store) made)
log_gained c store made old mid new headed is =
    is ∙ ap (λ o. append_known o (records_in (logic_of c) (site_of c) (opening (site_of c) store) made)) headed
    ∙ append_known-twice old (header_text (site_of c).plan.names) (records_in (logic_of c) (site_of c) (opening (site_of c) store) made)
    ∙ ap (append_known old) (sym (log_parts c store made))

-- the header and then a live run of a controller
pub wrote : {A E : Type 0} (Given : A → History → Type 0) (r : Result A E) (frames : List Counts) (c : Controller) (store : Store) (old mid new : Option (List ℕ)) →
    are_names (site_of c).plan.names ≡ true →
    IsTwoWay (site_of c).rules → (site_of c).rules.count ≡ groups_in (site_of c).plan →
    mid ≡ append_known old (header_text (site_of c).plan.names) → Live Given r frames (logic_of c) (site_of c) (opening (site_of c) store) mid new →
    WroteLog Given r frames (playing_of c store) old new
unfolding whole_log
wrote Given (Ok x) frames c store old mid new named two count headed is = (
  log_of (playing_of c store) is.0,
  whole_log frames c store is.0 named two count is.1 is.2 is.4 is.5,
  log_gained c store is.0 old mid new headed is.3,
  is.6,
)
wrote Given (Err fault) frames c store old mid new named two count headed is = (
  log_of (playing_of c store) is.0,
  begun,
  length (header_text (site_of c).plan.names) + is.2.0,
  cut_later old mid new is.2.0 (header_text (site_of c).plan.names) _ _ headed (log_parts c store is.0) is.2.1,
)
  where
    begun : IsBegunLog (playing_of c store) frames (log_of (playing_of c store) is.0)
    begun = record {
      made = is.0;
      count = is.1;
      ahead = is.3;
      sums = is.4;
      guarded = runs_are_guarded (logic_of c) (site_of c) store is.0 two count;
      text_is = refl;
    }

none_ahead : NeverAhead []
none_ahead zero d le low = omega arith
none_ahead (suc n) d le low = absurd (omega (arith, le))

-- a header that was cut
pub header_cut : (frames : List Counts) (c : Controller) (store : Store) (old new : Option (List ℕ)) (n : ℕ) → IsTwoWay (site_of c).rules →
    (site_of c).rules.count ≡ groups_in (site_of c).plan → IsCut old new n (header_text (site_of c).plan.names) →
    GainedFront (playing_of c store) frames old new
header_cut frames c store old new n two count cut = (
  log_of (playing_of c store) [],
  record {
    made = [];
    count = omega arith;
    ahead = none_ahead;
    sums = λ d low. (omega arith, omega arith);
    guarded = runs_are_guarded (logic_of c) (site_of c) store [] two count;
    text_is = refl;
  },
  n,
  subst (λ t. IsCut old new n t) (sym (log_of-none (playing_of c store))) cut,
)
