-- Laws over the definitions alone.
use Rattle.std.specs.Prelude.{◌≡◌, List, ℕ, Option, Some, IfSome, Result, Ok, ◌⊎◌}
use Rattle.sig_io.specs.Outside.{Contents, Rose}
use Rattle.sig_io.specs.Seen.{Seen}
use Rattle.sig_types.specs.Counts.{Counts}
use Rattle.controller.specs.Guarded.{IsGuardedRun}
use Rattle.controller.specs.Past.{Site}
use Rattle.junction_run.specs.declared.status.Status.{Status}
use Rattle.junction_run.specs.declared.status.Status.TheVariants.{Memory, ReadFault, WriteFault}
use Rattle.junction_run.specs.Audited.{IsAudit}
use Rattle.junction_run.specs.Form.{Form, SiteWords, Audit}
use Rattle.junction_run.specs.Guarded.{IsSafeOf}
use Rattle.junction_run.specs.Loading.{Unloaded, Refusal, Loaded, Loads, Logged, IsLogged, plays}
use Rattle.junction_run.specs.Programs.{ProgramIs}
use Rattle.vap_ast.specs.Syntax.{Program}
use Rattle.junction_run.specs.Answer.{answer_to, Meets}
use Rattle.junction_run.specs.Answers.{FormAnswer}

-- files give one thing
abbrev pub LoadsOnce : Type 0
LoadsOnce = (form : Form) (file : Contents) (r s : Result (Loaded form) Unloaded) → Loads form file r → Loads form file s → r ≡ s

-- each text is that of one program, or is refused at one line for one reason
abbrev pub ProgramsHaveOneAnswer : Type 0
ProgramsHaveOneAnswer =
    (bytes : List ℕ) → (r : Result Program Refusal) × ProgramIs bytes r
    × ((s : Result Program Refusal) → ProgramIs bytes s → s ≡ r)

-- at a site each log has one answer: the pictures of its records, and its end or its first refused line
abbrev pub LogsHaveOneAnswer : Type 0
LogsHaveOneAnswer =
    (site : Site) (bytes : List ℕ) → (logged : Logged) × IsLogged site bytes logged
    × ((other : Logged) → IsLogged site bytes other → other ≡ logged)

-- at the site that the files give, what is judged of the pictures of a log has one text
abbrev pub LogsHaveOneAudit : Type 0
LogsHaveOneAudit =
    (log : List ℕ) (words : SiteWords) (file : Contents) (logged : Logged) → Loads (Audit log words) file (Ok logged) →
    (text : List ℕ) × IsAudit logged.site logged.pictures text
    × ((other : List ℕ) → IsAudit logged.site logged.pictures other → other ≡ text)

-- where the files give this, the status is its answer's, but for want of memory and faults
abbrev pub EndsAsGiven : Type 0
EndsAsGiven =
    (form : Form) (file : Contents) (r : Result (Loaded form) Unloaded) (status : Status) (old new : Option (List ℕ)) →
    Loads form file r → Meets form file status old new →
    (status ≡ (answer_to form file r).status) ⊎ ((status ≡ Memory) ⊎ ((status ≡ ReadFault) ⊎ (status ≡ WriteFault)))

-- where the files give this, and no count of faults rose, the status is its answer's, or memory was wanted
abbrev pub IsComplete : Type 0
IsComplete =
    (form : Form) (file : Contents) (r : Result (Loaded form) Unloaded) →
    (files : Seen Contents) (out notes : Seen (List ℕ)) (status : Status) →
    files.old ≡ Some file → Loads form file r →
    (Rose files.before files.after → ⊥) → (Rose out.before out.after → ⊥) → FormAnswer form files out notes status →
    (status ≡ (answer_to form file r).status) ⊎ (status ≡ Memory)

-- over files that tell, what a form writes of a log is a front of the log of a guarded run of what they give
abbrev pub WritesOfTheFilesAreGuarded : Type 0
WritesOfTheFilesAreGuarded =
    (form : Form) (file : Contents) (status : Status) (old new : Option (List ℕ)) → Meets form file status old new →
    IsSafeOf form file old new

-- whatever a form plays of what its files give, every run of it is guarded, for all frames
abbrev pub LoadedRunsAreGuarded : Type 0
LoadedRunsAreGuarded =
    (form : Form) (file : Contents) (loaded : Loaded form) (frames : List Counts) → Loads form file (Ok loaded) →
    IfSome (plays form loaded) (λ playing. IsGuardedRun playing.logic playing.site playing.store frames)
