-- The log of a run, as its seconds tell it.
use Rattle.std.proofs.Common.{◌≡◌, ◌∙◌, ℕ, List, [], ◌∷◌, ◌++◌, Option, Result, Ok, Err, refl, sym, ap, subst}
use Rattle.sig_types.specs.Counts.{Counts}
use Rattle.sig_types.specs.Pass.{Logic}
use Rattle.controller.specs.Past.{Site, Past, opening}
use Rattle.controller.specs.Second.{past_after_second, run_from}
use Rattle.det_stream.specs.Stream.{Stream}
use Rattle.signal_log.specs.Log.{header_text, log_text, records_text}
use Rattle.run_seconds.specs.declared.play.Stop.{Stop as Seconds}
use Rattle.run_seconds.specs.declared.play.Stop.TheVariants as seconds
use Rattle.run_seconds.specs.Told as told
use Rattle.junction_run.specs.declared.stop.LineReason.TheVariants.{Frame, Record}
use Rattle.junction_run.specs.declared.stop.PlayStop.{PlayStop}
use Rattle.junction_run.specs.declared.stop.PlayStop.TheVariants.{ReadFault, WriteFault, RefusedLine}
use Rattle.junction_run.specs.declared.status.Status.TheVariants as status
use Rattle.junction_run.specs.Loading.{Playing}
use Rattle.junction_run.specs.Played.{IsPlayed, IsStopAt, IsWritten}
use Rattle.junction_run.specs.Records.{log_of, record_told, records_of}
use Rattle.junction_run.specs.Stop.{PlaysAt, play_status}

-- the records of some seconds
told_records : (logic : Logic) (site : Site) (past : Past) (fs : List Counts) →
    told.told_from (record_told logic site) logic site past fs ≡ records_text site.plan.names (run_from logic site past fs)
unfolding records_text
told_records logic site past [] = refl
told_records logic site past (f ∷ fs) =
    ap (λ text. record_told logic site past f ++ text) (told_records logic site (past_after_second logic site past f) fs)

-- the header and the records are the log
pub told_log : (p : Playing) (fs : List Counts) →
    header_text p.site.plan.names ++ told.told_from (record_told p.logic p.site) p.logic p.site (opening p.site p.store) fs ≡ log_of p fs
unfolding log_of records_of log_text
told_log p fs = ap (λ text. header_text p.site.plan.names ++ text) (told_records p.logic p.site (opening p.site p.store) fs)

module _ (name : List ℕ) (first : Seconds) where
  -- what was written
  pub written_at : (stop : PlayStop) (text : List ℕ) (old new : Option (List ℕ)) → IsStopAt name first stop →
      told.IsWritten {A = Unit {0}} (Err first) text old new → IsWritten {A = Unit {0}} (Err stop) text old new
  written_at (ReadFault word) text old new at is = subst (λ s. told.IsWritten {A = Unit {0}} (Err s) text old new) at.1 is
  written_at WriteFault text old new at is = subst (λ s. told.IsWritten {A = Unit {0}} (Err s) text old new) at is
  written_at (RefusedLine word line (Frame why)) text old new at is = subst (λ s. told.IsWritten {A = Unit {0}} (Err s) text old new) at.1 is
  written_at (RefusedLine word line (Record why)) text old new at is = absurd at.1

  -- what was played
  pub played_at : (stop : PlayStop) (stream : Stream) (frames : List Counts) → IsStopAt name first stop →
      told.IsPlayed {A = Unit {0}} (Err first) stream frames → IsPlayed {A = Unit {0}} name (Err stop) stream frames
  played_at (ReadFault word) stream frames at is = (at.0, subst (λ s. told.IsPlayed {A = Unit {0}} (Err s) stream frames) at.1 is)
  played_at WriteFault stream frames at is = subst (λ s. told.IsPlayed {A = Unit {0}} (Err s) stream frames) at is
  played_at (RefusedLine word line (Frame why)) stream frames at is =
      let was = subst (λ s. told.IsPlayed {A = Unit {0}} (Err s) stream frames) at.1 is in (at.0, was.0, was.1)
  played_at (RefusedLine word line (Record why)) stream frames at is = absurd at.1

  -- the file that the stop names
  pub names_file : (stop : PlayStop) → IsStopAt name first stop → PlaysAt name stop
  names_file (ReadFault word) at = at.0
  names_file WriteFault at = tt
  names_file (RefusedLine word line reason) at = at.0

  -- a stop for the file is one of the seconds for it
  pub read_failed : (stop : PlayStop) → IsStopAt name first stop → play_status stop ≡ status.ReadFault → first ≡ seconds.ReadFault
  read_failed (ReadFault word) at is = at.1
  read_failed WriteFault at is = cc
  read_failed (RefusedLine word line reason) at is = cc

  -- and one for the sink
  pub write_failed : (stop : PlayStop) → IsStopAt name first stop → play_status stop ≡ status.WriteFault → first ≡ seconds.WriteFault
  write_failed (ReadFault word) at is = cc
  write_failed WriteFault at is = at
  write_failed (RefusedLine word line reason) at is = cc
