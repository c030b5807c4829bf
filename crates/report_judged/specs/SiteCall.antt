-- What a call answers.
use Rattle.std.specs.Prelude.{◌≡◌, ℕ, List, Option, Result, Ok, Err}
use Rattle.std.specs.Option.{ForSome}
use Rattle.std.specs.Io.KnownBytes.{append_known}
use Rattle.sig_io.specs.Draft.{IsCut}
use Rattle.sig_io.specs.Outside.{Contents, Rose}
use Rattle.sig_io.specs.Seen.{Seen}
use Rattle.log_read.specs.declared.refusal.LogWhy.TheVariants.{Header}
use Rattle.site_load.specs.Loading.{Site, ReachedInSite, site_of}
use Rattle.site_load.specs.Stop.{IsLoadStop}
use Rattle.site_load.specs.Stop as loading
use Rattle.report_words.specs.declared.status.Status.{Status}
use Rattle.report_words.specs.declared.status.Status.TheVariants.{Done}
use Rattle.report_words.specs.declared.stop.JudgeStop.{JudgeStop}
use Rattle.report_words.specs.declared.stop.JudgeStop.TheVariants as judge
use Rattle.log_svg.specs.declared.diagram.Diagram.{Diagram}
use Rattle.log_svg.specs.Diagram.{diagram_text}
use Rattle.log_svg.specs.ShownIn.{shown_in}
use Rattle.report_seen.specs.declared.stop.Stop.{Stop}
use Rattle.report_seen.specs.declared.stop.Stop.TheVariants as view
use Rattle.report_seen.specs.Answers.{IsDiagramOf, IsUndrawn}
use Rattle.report_judged.specs.declared.site_stop.DiagramStop.{DiagramStop}
use Rattle.report_judged.specs.declared.site_stop.DiagramStop.TheVariants.{Log, Judged}
use Rattle.report_judged.specs.SiteForm.{Asked, form_of}
use Rattle.report_judged.specs.SiteParts.{look_at}
use Rattle.report_judged.specs.SiteStop.{status_of, stop_note}

-- The text that is asked for, of files with these contents: the diagram of the seconds of the log, whose groups are those of the
-- plan, with the minimum greens of the table and the names of the plan's stages.
pub record IsTextOf (asked : Asked) (file : Contents) (text : List ℕ) : Type 0 where
  pub site : Site
  pub loaded : site_of asked.site file ≡ Ok site
  pub diagram : Diagram
  pub drawn : IsDiagramOf (file asked.log) asked.window diagram
  pub groups : diagram.names.items ≡ site.plan.names
  pub text_is : text ≡ diagram_text (shown_in diagram) (look_at site asked.look)

-- the log can be drawn, and its groups are not those of the plan
pub record HasOtherGroups (asked : Asked) (file : Contents) : Type 0 where
  pub site : Site
  pub loaded : site_of asked.site file ≡ Ok site
  pub diagram : Diagram
  pub drawn : IsDiagramOf (file asked.log) asked.window diagram
  pub groups : diagram.names.items ≡ site.plan.names → ⊥

-- the site is loaded, and the log is not drawn for this reason
abbrev pub IsLogStop : Asked → Contents → Stop → Type 0
IsLogStop asked file stop = (site : Site) × (site_of asked.site file ≡ Ok site) × IsUndrawn (file asked.log) asked.window.to stop

-- why a call stops that a site or its groups stop
abbrev pub IsJudged : Asked → Contents → JudgeStop → Type 0
IsJudged asked file judge.Words = ⊥
IsJudged asked file judge.Memory = ⊥
IsJudged asked file (judge.Site why) = IsLoadStop (ReachedInSite asked.site file) why (site_of asked.site file)
IsJudged asked file (judge.ReadFault word) = ⊥
IsJudged asked file (judge.RefusedLine word line why) =
    (word.now ≡ asked.log) × (line ≡ 1) × (why ≡ Header) × HasOtherGroups asked file
IsJudged asked file judge.WriteFault = ⊥

-- where a call stops: nothing is written, but where the sink fails while the text is written
abbrev pub IsStopped : Asked → Contents → DiagramStop → Option (List ℕ) → Option (List ℕ) → Type 0
IsStopped asked file (Log view.Memory) old new = new ≡ old
IsStopped asked file (Log view.Words) old new = ⊥
IsStopped asked file (Log view.TooManySeconds) old new = ⊥
IsStopped asked file (Log view.ReadFault) old new = (new ≡ old) × IsLogStop asked file view.ReadFault
IsStopped asked file (Log view.WriteFault) old new = (text : List ℕ) × IsTextOf asked file text × ((n : ℕ) × IsCut old new n text)
IsStopped asked file (Log (view.Line line why)) old new = (new ≡ old) × IsLogStop asked file (view.Line line why)
IsStopped asked file (Log (view.LogEnds last)) old new = (new ≡ old) × IsLogStop asked file (view.LogEnds last)
IsStopped asked file (Judged why) old new = (new ≡ old) × IsJudged asked file why

-- what a call gives that asks for this, of files with these contents
abbrev pub IsAnswered : Asked → Contents → Result (Unit {0}) DiagramStop → Option (List ℕ) → Option (List ℕ) → Type 0
IsAnswered asked file (Ok x) old new = (text : List ℕ) × IsTextOf asked file text × (new ≡ append_known old text)
IsAnswered asked file (Err why) old new = IsStopped asked file why old new

-- a sink has taken the text, or nothing for want of memory, or only the first bytes, and failed
abbrev pub IsPut : List ℕ → Result (Unit {0}) DiagramStop → Option (List ℕ) → Option (List ℕ) → Type 0
IsPut text (Ok x) old new = new ≡ append_known old text
IsPut text (Err (Log view.Memory)) old new = new ≡ old
IsPut text (Err (Log view.Words)) old new = ⊥
IsPut text (Err (Log view.TooManySeconds)) old new = ⊥
IsPut text (Err (Log view.ReadFault)) old new = ⊥
IsPut text (Err (Log view.WriteFault)) old new = (n : ℕ) × IsCut old new n text
IsPut text (Err (Log (view.Line line why))) old new = ⊥
IsPut text (Err (Log (view.LogEnds last))) old new = ⊥
IsPut text (Err (Judged why)) old new = ⊥

-- a site was stopped by a read that failed
abbrev pub IsSiteFault : JudgeStop → Type 0
IsSiteFault judge.Words = ⊥
IsSiteFault judge.Memory = ⊥
IsSiteFault (judge.Site why) = loading.IsReadFault {A = Unit {0}} (Err why)
IsSiteFault (judge.ReadFault word) = ⊥
IsSiteFault (judge.RefusedLine word line why) = ⊥
IsSiteFault judge.WriteFault = ⊥

-- a call was stopped by a read that failed
abbrev pub IsReadFault : Result (Unit {0}) DiagramStop → Type 0
IsReadFault (Ok x) = ⊥
IsReadFault (Err (Log stop)) = stop ≡ view.ReadFault
IsReadFault (Err (Judged why)) = IsSiteFault why

-- a call was stopped by a write that failed
abbrev pub IsWriteFault : Result (Unit {0}) DiagramStop → Type 0
IsWriteFault (Ok x) = ⊥
IsWriteFault (Err (Log stop)) = stop ≡ view.WriteFault
IsWriteFault (Err (Judged why)) = ⊥

-- how a call ends that gives this
abbrev pub status_by : Result (Unit {0}) DiagramStop → Status
status_by (Ok x) = Done
status_by (Err why) = status_of why

-- the note of a call with these words that gives this: none where all was done
abbrev pub IsNoted : List (List ℕ) → Result (Unit {0}) DiagramStop → Seen (List ℕ) → Type 0
IsNoted words (Ok x) notes = notes.new ≡ notes.old
IsNoted words (Err why) notes = (Rose notes.before notes.after → ⊥) → notes.new ≡ append_known notes.old (stop_note words why)

-- words that are no form are not answered; what a form asks for is answered where the files tell what they hold
abbrev pub IsAnswerTo : Result Asked Stop → Seen Contents → Seen (List ℕ) → Result (Unit {0}) DiagramStop → Type 0
IsAnswerTo (Err stop) files out given = (given ≡ Err (Log stop)) × (out.new ≡ out.old)
IsAnswerTo (Ok asked) files out given = ForSome files.old (λ file. IsAnswered asked file given out.old out.new)

-- what the top call answers to these words, over files, a sink for the text and one for the note
pub record IsReported (words : List (List ℕ)) (files : Seen Contents) (out notes : Seen (List ℕ)) (status : Status) : Type 0 where
  pub given : Result (Unit {0}) DiagramStop
  pub answer : IsAnswerTo (form_of words) files out given
  pub status_is : status ≡ status_by given
  pub note : IsNoted words given notes
  pub read_fault : IsReadFault given → Rose files.before files.after
  pub write_fault : IsWriteFault given → Rose out.before out.after
