-- The breaches of a log that is read at a site.
use Rattle.std.specs.Prelude.{◌≡◌, ℕ, List, length, Some, None, Result, Ok, Err}
use Rattle.sig_types.specs.Rules.{Rules}
use Rattle.sig_types.specs.Turns.{Picture}
use Rattle.log_judge.specs.declared.breach.Breach.{Breach}
use Rattle.log_judge.specs.declared.find.Terms.{Terms}
use Rattle.log_judge.specs.declared.judge.Judge.{Judge}
use Rattle.log_judge.specs.Breaches.{breaches, breaches_within}
use Rattle.log_judge.specs.Stands.{StandsFor}
use Rattle.log_read.specs.declared.pictures.LogPictures.{LogPictures}
use Rattle.log_read.specs.Answers.{IsFirst, first_given}
use Rattle.log_read.specs.Readings.{IsPictures}
use Rattle.log_read.specs.declared.begin.Begin.TheVariants.{Anywhere}
use Rattle.site_load.specs.Loading.{Site}
use Rattle.site_load.specs.declared.stop.SiteStop.TheVariants as site
use Rattle.report_words.specs.declared.stop.JudgeStop.{JudgeStop}
use Rattle.report_words.specs.declared.stop.JudgeStop.TheVariants.{Words, Memory, Site as Unsited, ReadFault, RefusedLine, WriteFault}
use Rattle.log_protocol.specs.Came.{unknown_past}
use Rattle.report_judged.specs.declared.breach_finding.Found.{Found}

-- a log with these bytes, of groups with these names, is read no further for this
abbrev pub IsLogStop : List (List ℕ) → (word bytes : List ℕ) → JudgeStop → Type 0
IsLogStop names word bytes Words = ⊥
IsLogStop names word bytes Memory = Unit {0}
IsLogStop names word bytes (Unsited stop) = ⊥
IsLogStop names word bytes (ReadFault w) = w.now ≡ word
IsLogStop names word bytes (RefusedLine w line why) =
    (w.now ≡ word) × ((pictures : List Picture) × IsPictures Anywhere names bytes pictures (Some (line, why)))
IsLogStop names word bytes WriteFault = ⊥

-- a log with these bytes was read to its end, and these are the breaches that are complete within it
pub record IsReadWhole (names : List (List ℕ)) (bytes : List ℕ) (r : Rules) (k : Terms) (judge : Judge) (part : LogPictures) (found : List Breach) :
    Type 0 where
  pub pictures : List Picture
  pub log : IsPictures Anywhere names bytes pictures None
  pub stands : StandsFor judge pictures
  pub found_are : found ≡ breaches_within r k pictures
  pub first : IsFirst Anywhere bytes pictures (first_given part)

-- a log with these bytes was read to its end, or no further for a stop
abbrev pub IsReading : List (List ℕ) → (word bytes : List ℕ) → Rules → Terms → Judge → LogPictures → List Breach → Result (Unit {0}) JudgeStop → Type 0
IsReading names word bytes r k judge part found (Ok x) = IsReadWhole names bytes r k judge part found
IsReading names word bytes r k judge part found (Err stop) = IsLogStop names word bytes stop

-- all breaches of a log with these bytes at a site: those of its pictures, by the rules of the site
pub record AreFound (at : Site) (bytes : List ℕ) (tolerance : ℕ) (found : Found) : Type 0 where
  pub pictures : List Picture
  pub log : IsPictures Anywhere at.plan.names bytes pictures None
  pub breaches_are : found.breaches.items ≡ breaches at.rules (unknown_past tolerance) pictures
  pub first : IsFirst Anywhere bytes pictures found.first
  pub count : found.pictures ≡ length pictures

-- what is answered of a log with these bytes at a site
abbrev pub IsFinding : Site → (word bytes : List ℕ) → ℕ → Result Found JudgeStop → Type 0
IsFinding at word bytes tolerance (Ok found) = AreFound at bytes tolerance found
IsFinding at word bytes tolerance (Err stop) = IsLogStop at.plan.names word bytes stop

-- it was stopped by a read that failed
abbrev pub IsReadFault : {A : Type 0} → Result A JudgeStop → Type 0
IsReadFault (Ok x) = ⊥
IsReadFault (Err Words) = ⊥
IsReadFault (Err Memory) = ⊥
IsReadFault (Err (Unsited site.Memory)) = ⊥
IsReadFault (Err (Unsited (site.ReadFault word))) = Unit {0}
IsReadFault (Err (Unsited (site.Refused word line reason))) = ⊥
IsReadFault (Err (Unsited (site.TooLong word))) = ⊥
IsReadFault (Err (ReadFault word)) = Unit {0}
IsReadFault (Err (RefusedLine word line why)) = ⊥
IsReadFault (Err WriteFault) = ⊥

-- it was stopped by a write that failed
abbrev pub IsWriteFault : {A : Type 0} → Result A JudgeStop → Type 0
IsWriteFault (Ok x) = ⊥
IsWriteFault (Err Words) = ⊥
IsWriteFault (Err Memory) = ⊥
IsWriteFault (Err (Unsited stop)) = ⊥
IsWriteFault (Err (ReadFault word)) = ⊥
IsWriteFault (Err (RefusedLine word line why)) = ⊥
IsWriteFault (Err WriteFault) = Unit {0}
