-- What `audit` and the form `breaches` say of one log.
use Rattle.std.specs.Prelude.{◌≡◌, ℕ, List, [], ◌∷◌, replicate, Option, None, Ok}
use Rattle.std.specs.Io.KnownBytes.{append_known}
use Rattle.sig_io.specs.Outside.{Contents}
use Rattle.sig_types.specs.declared.aspect.Aspect.TheVariants.{Red}
use Rattle.sig_types.specs.Turns.{Picture}
use Rattle.pua_model.specs.Plan.{groups_in}
use Rattle.controller.specs.Past.{Site}
use Rattle.log_read.specs.declared.begin.Begin.TheVariants.{Anywhere, AtOne}
use Rattle.log_read.specs.Readings.{IsPictures}
use Rattle.log_judge.specs.Breaches.{breaches}
use Rattle.log_protocol.specs.Came.{unknown_past}
use Rattle.sig_audit.specs.declared.verdict.Verdict.TheVariants.{Safe}
use Rattle.sig_audit.specs.Verdict.{IsVerdict}
use Rattle.junction_run.specs.declared.status.Status.{Status}
use Rattle.junction_run.specs.Answer.{Meets}
use Rattle.junction_run.specs.Form.{Play, SiteWords, Source}
use Rattle.junction_run.specs.Loading.{LoadsSource, Playing, site_of}
use Rattle.junction_run.specs.SafeLogs.{CameToAnEnd}

-- a log that `audit` reads to its end the form reads to its end, as the same pictures: wherever logs may begin, it begins with
-- second 1
abbrev pub BothReadTheSame : Type 0
BothReadTheSame =
    (names : List (List ℕ)) (bytes : List ℕ) (pictures : List Picture) → IsPictures AtOne names bytes pictures None →
    IsPictures Anywhere names bytes pictures None

-- of a log whose pictures `audit` calls safe, at the site of the files, the form finds no breach, whatever the tolerance
abbrev pub SafeLogsHaveNoBreach : Type 0
SafeLogsHaveNoBreach =
    (words : SiteWords) (file : Contents) (site : Site) (bytes : List ℕ) (pictures : List Picture) (seconds tolerance : ℕ) →
    site_of words file ≡ Ok site → IsPictures AtOne site.plan.names bytes pictures None →
    IsVerdict site.rules (replicate (groups_in site.plan) Red ∷ pictures) (Safe seconds) →
    breaches site.rules (unknown_past tolerance) pictures ≡ []

-- so it finds none in what `run` and `exec` write up to the end of the detector file or its first refused line: it reads it to its
-- end, and the pictures that it reads have no breach
abbrev pub RunsHaveNoBreach : Type 0
RunsHaveNoBreach =
    (source : Source) (words : SiteWords) (detectors : List ℕ) (file : Contents) (end : Status) (old new : Option (List ℕ)) (tolerance : ℕ) →
    CameToAnEnd end → Meets (Play source words detectors) file end old new →
    (playing : Playing) × LoadsSource source words file (Ok playing)
    × ((text : List ℕ) × (new ≡ append_known old text)
    × ((pictures : List Picture) × IsPictures Anywhere playing.site.plan.names text pictures None
    × (breaches playing.site.rules (unknown_past tolerance) pictures ≡ [])))
