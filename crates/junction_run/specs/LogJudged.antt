-- How a log was judged.
use Rattle.std.specs.Prelude.{◌≡◌, ℕ, List, ◌∷◌, replicate, Option, None, Some, Result, Ok, Err}
use Rattle.std.specs.Io.KnownBytes.{append_known}
use Rattle.sig_io.specs.Draft.{IsCut}
use Rattle.sig_types.specs.declared.aspect.Aspect.TheVariants.{Red}
use Rattle.sig_types.specs.Turns.{Picture}
use Rattle.pua_model.specs.Plan.{groups_in}
use Rattle.controller.specs.Past.{Site}
use Rattle.log_read.specs.Readings.{IsPictures}
use Rattle.log_read.specs.declared.begin.Begin.TheVariants.{AtOne}
use Rattle.sig_audit.specs.declared.verdict.Verdict.{Verdict}
use Rattle.sig_audit.specs.Verdict.{IsVerdict}
use Rattle.junction_run.specs.declared.stop.LineReason.TheVariants.{Frame, Record}
use Rattle.junction_run.specs.declared.stop.LoadStop.TheVariants as load
use Rattle.junction_run.specs.declared.stop.PlayStop.{PlayStop}
use Rattle.junction_run.specs.declared.stop.PlayStop.TheVariants.{ReadFault, WriteFault, RefusedLine}
use Rattle.junction_run.specs.declared.stop.Stop.{Stop}
use Rattle.junction_run.specs.declared.stop.Stop.TheVariants.{Load, Play}
use Rattle.junction_run.specs.Audited.{IsAudit}

-- a log with these bytes was read to its end and judged so at a site, or read up to a fault or to its first refused line
abbrev pub IsJudgedLog : Site → (name bytes : List ℕ) → Result Verdict PlayStop → Type 0
IsJudgedLog site name bytes (Ok verdict) =
    (pictures : List Picture) × IsPictures AtOne site.plan.names bytes pictures None
    × IsVerdict site.rules (replicate (groups_in site.plan) Red ∷ pictures) verdict
IsJudgedLog site name bytes (Err (ReadFault word)) = word.now ≡ name
IsJudgedLog site name bytes (Err WriteFault) = ⊥
IsJudgedLog site name bytes (Err (RefusedLine word line (Frame why))) = ⊥
IsJudgedLog site name bytes (Err (RefusedLine word line (Record why))) =
    (word.now ≡ name) × (pictures : List Picture) × IsPictures AtOne site.plan.names bytes pictures (Some (line, why))

-- a log was judged so, and what is judged of it was written, or only a front of it
abbrev pub IsAudited : {A : Type 0} → Site → (name bytes : List ℕ) → Result A Stop → Option (List ℕ) → Option (List ℕ) → Type 0
IsAudited site name bytes (Ok x) old new =
    (pictures : List Picture) × IsPictures AtOne site.plan.names bytes pictures None
    × (text : List ℕ) × IsAudit site pictures text × (new ≡ append_known old text)
IsAudited site name bytes (Err (Load stop)) old new = (stop ≡ load.Memory) × (new ≡ old)
IsAudited site name bytes (Err (Play (ReadFault word))) old new = (word.now ≡ name) × (new ≡ old)
IsAudited site name bytes (Err (Play WriteFault)) old new =
    (pictures : List Picture) × IsPictures AtOne site.plan.names bytes pictures None
    × (text : List ℕ) × IsAudit site pictures text × (n : ℕ) × IsCut old new n text
IsAudited site name bytes (Err (Play (RefusedLine word line (Frame why)))) old new = ⊥
IsAudited site name bytes (Err (Play (RefusedLine word line (Record why)))) old new =
    (word.now ≡ name) × (new ≡ old)
    × (pictures : List Picture) × IsPictures AtOne site.plan.names bytes pictures (Some (line, why))
