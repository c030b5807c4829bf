-- What is drawn of a log at a site is one thing.
use Rattle.std.proofs.Common.{◌≡◌, ◌∙◌, ℕ, List, Option, None, Some, Result, Ok, Err, refl, sym, ap, subst}
use Rattle.std.specs.Io.KnownBytes.{append_known}
use Rattle.sig_io.specs.Outside.{Contents}
use Rattle.log_read.specs.declared.refusal.LogWhy.TheVariants.{Header}
use Rattle.log_read.specs.Laws.{OneFound, OneHeader}
use Rattle.log_read.specs.Whys.{why_name}
use Rattle.log_svg.specs.declared.diagram.Diagram.{Diagram}
use Rattle.log_svg.specs.Diagram.{diagram_text}
use Rattle.log_svg.specs.ShownIn.{shown_in}
use Rattle.site_load.specs.declared.stop.SiteStop.TheVariants as site
use Rattle.site_load.specs.Loading.{Site, Unloaded, site_of}
use Rattle.site_load.specs.Loading as loading
use Rattle.site_load.specs.Reasons.{reason_text}
use Rattle.report_words.specs.declared.status.Status.{Status}
use Rattle.report_words.specs.declared.status.Status.TheVariants as status
use Rattle.report_words.specs.declared.stop.JudgeStop.TheVariants as judge
use Rattle.report_words.specs.Notes.{line_note}
use Rattle.report_seen.specs.declared.stop.Stop.{Stop}
use Rattle.report_seen.specs.declared.stop.Stop.TheVariants as view
use Rattle.report_seen.specs.Answers.{IsDiagramOf, IsUndrawn}
use Rattle.report_judged.specs.declared.site_stop.DiagramStop.{DiagramStop}
use Rattle.report_judged.specs.declared.site_stop.DiagramStop.TheVariants.{Judged, Log}
use Rattle.report_judged.specs.SiteCall.{HasOtherGroups, IsAnswerTo, IsAnswered, IsNoted, IsReadFault, IsReported, IsWriteFault, status_by}
use Rattle.report_judged.specs.SiteForm.{Asked, form_of}
use Rattle.report_judged.specs.SiteParts.{look_at}
use Rattle.report_judged.specs.SiteStop.{status_of, stop_note}
use Rattle.laws.specs.OneAnswer.{BeginAlike, Call, WentWell}
use Rattle.laws.specs.OneSiteDiagram.{SiteDiagramsHaveOneAnswer}
use Rattle.laws.proofs.OneJudgement.{AreAlike, noted, same_site, same_unsited, sited_or_not, unsited_note, unsited_status}
use Rattle.laws.proofs.OneShown.{IsOwnEnd, drawn_once, drawn_or_not, undrawn_once}

-- how a call ends where nothing fails
data Ending (words : List (List ℕ)) (asked : Asked) (file : Contents) (end : Status) (note old new : Option (List ℕ)) : Type 0 where
  told : (at : Site) → site_of asked.site file ≡ Ok at → (d : Diagram) → IsDiagramOf (file asked.log) asked.window d → d.names.items ≡ at.plan.names →
      end ≡ status.Done → note ≡ None → new ≡ append_known old (diagram_text (shown_in d) (look_at at asked.look)) →
      Ending words asked file end note old new
  unsited : (u : Unloaded) → site_of asked.site file ≡ Err u → end ≡ unsited_status u → note ≡ Some (unsited_note u) → new ≡ old →
      Ending words asked file end note old new
  undrawn : (at : Site) → site_of asked.site file ≡ Ok at → (stop : Stop) → IsOwnEnd (Err stop) → IsUndrawn (file asked.log) asked.window.to stop →
      end ≡ status_of (Log stop) → note ≡ Some (stop_note words (Log stop)) → new ≡ old → Ending words asked file end note old new
  othered : HasOtherGroups asked file → end ≡ status.Refused → note ≡ Some (line_note asked.log 1 (why_name Header)) → new ≡ old →
      Ending words asked file end note old new

module _ (found : OneFound) (header : OneHeader) (words : List (List ℕ)) (asked : Asked) (file : Contents) where
  -- a diagram of the plan's groups, and one of others
  its_groups : (at : Site) (d : Diagram) → site_of asked.site file ≡ Ok at → IsDiagramOf (file asked.log) asked.window d → d.names.items ≡ at.plan.names →
      HasOtherGroups asked file → ⊥
  its_groups at d sited drawn groups other =
      let sites : at ≡ other.site = same_site (site_of asked.site file) at other.site sited other.loaded in
      let shown = drawn_once found header (file asked.log) asked.window other.diagram d other.drawn drawn in
      other.groups (ap (λ s. s.names) shown ∙ groups ∙ ap (λ (s : Site). s.plan.names) sites)

  module _ (end other : Status) (note other_note old other_old new other_new : Option (List ℕ)) (same : old ≡ other_old) where
    once : Ending words asked file end note old new → Ending words asked file other other_note other_old other_new →
        AreAlike end other note other_note new other_new
    once (told at sited d drawn groups e n w) (told at' sited' d' drawn' groups' f m v) =
        let sites : at ≡ at' = same_site (site_of asked.site file) at at' sited sited' in
        let shown = drawn_once found header (file asked.log) asked.window d d' drawn drawn' in
        (e ∙ sym f, n ∙ sym m, w ∙ (λ j. append_known (same j) (diagram_text (shown j) (look_at (sites j) asked.look))) ∙ sym v)
    once (told at sited d drawn groups e n w) (unsited u not f m v) = absurd (sited_or_not (site_of asked.site file) at u sited not)
    once (told at sited d drawn groups e n w) (undrawn at' sited' stop own is f m v) =
        absurd (drawn_or_not found (file asked.log) asked.window d stop own drawn is)
    once (told at sited d drawn groups e n w) (othered groups' f m v) = absurd (its_groups at d sited drawn groups groups')
    once (unsited u not e n w) (told at sited d drawn groups f m v) = absurd (sited_or_not (site_of asked.site file) at u sited not)
    once (unsited u not e n w) (unsited u' not' f m v) =
        let is : u ≡ u' = same_unsited (site_of asked.site file) u u' not not' in
        (e ∙ ap unsited_status is ∙ sym f, n ∙ ap (λ x. Some (unsited_note x)) is ∙ sym m, w ∙ same ∙ sym v)
    once (unsited u not e n w) (undrawn at sited stop own is f m v) = absurd (sited_or_not (site_of asked.site file) at u sited not)
    once (unsited u not e n w) (othered groups f m v) = absurd (sited_or_not (site_of asked.site file) groups.site u groups.loaded not)
    once (undrawn at sited stop own is e n w) (told at' sited' d drawn groups f m v) =
        absurd (drawn_or_not found (file asked.log) asked.window d stop own drawn is)
    once (undrawn at sited stop own is e n w) (unsited u not f m v) = absurd (sited_or_not (site_of asked.site file) at u sited not)
    once (undrawn at sited stop own is e n w) (undrawn at' sited' stop' own' is' f m v) =
        let one = undrawn_once found (file asked.log) asked.window.to stop stop' own own' is is' in
        (e ∙ ap (λ s. status_of (Log s)) one ∙ sym f, n ∙ ap (λ s. Some (stop_note words (Log s))) one ∙ sym m, w ∙ same ∙ sym v)
    once (undrawn at sited stop own is e n w) (othered groups f m v) =
        absurd (drawn_or_not found (file asked.log) asked.window groups.diagram stop own groups.drawn is)
    once (othered groups e n w) (told at sited d drawn groups' f m v) = absurd (its_groups at d sited drawn groups' groups)
    once (othered groups e n w) (unsited u not f m v) = absurd (sited_or_not (site_of asked.site file) groups.site u groups.loaded not)
    once (othered groups e n w) (undrawn at sited stop own is f m v) =
        absurd (drawn_or_not found (file asked.log) asked.window groups.diagram stop own groups.drawn is)
    once (othered groups e n w) (othered groups' f m v) = (e ∙ sym f, n ∙ sym m, w ∙ same ∙ sym v)

-- the note of a call with these words, where it has one
abbrev note : List (List ℕ) → Result (Unit {0}) DiagramStop → Option (List ℕ)
note words (Ok x) = None
note words (Err why) = Some (stop_note words why)

-- neither want of memory nor a fault ended it
record IsOwn (given : Result (Unit {0}) DiagramStop) : Type 0 where
  pub found : status_by given ≡ status.Memory → ⊥
  pub read : IsReadFault given → ⊥
  pub written : IsWriteFault given → ⊥

-- how a log's stop ends a call, and which it is
abbrev ending : Result (Unit {0}) Stop → Status
ending (Ok x) = status.Done
ending (Err stop) = status_of (Log stop)

abbrev stop_or : Stop → Result (Unit {0}) Stop → Stop
stop_or other (Ok x) = other
stop_or other (Err stop) = stop

own_stop : (stop : Stop) → IsOwn (Err (Log stop)) → IsOwnEnd (Err stop)
own_stop stop own = record {
  found = λ is. own.found (ap ending is);
  read = λ is. own.read (ap (stop_or stop) is);
  written = λ is. own.written (ap (stop_or stop) is);
}

ended : (words : List (List ℕ)) (asked : Asked) (file : Contents) (given : Result (Unit {0}) DiagramStop) (old new : Option (List ℕ)) → IsOwn given →
    IsAnswered asked file given old new → Ending words asked file (status_by given) (note words given) old new
ended words asked file (Ok x) old new own (text, is, w) =
    told is.site is.loaded is.diagram is.drawn is.groups refl refl (w ∙ ap (append_known old) is.text_is)
ended words asked file (Err (Log view.Memory)) old new own is = absurd (own.found refl)
ended words asked file (Err (Log view.Words)) old new own is = absurd is
ended words asked file (Err (Log view.TooManySeconds)) old new own is = absurd is
ended words asked file (Err (Log view.ReadFault)) old new own is = absurd (own.read refl)
ended words asked file (Err (Log view.WriteFault)) old new own is = absurd (own.written refl)
ended words asked file (Err (Log (view.Line line why))) old new own (w, at) =
    undrawn at.0 at.1 (view.Line line why) (own_stop (view.Line line why) own) at.2 refl refl w
ended words asked file (Err (Log (view.LogEnds last))) old new own (w, at) =
    undrawn at.0 at.1 (view.LogEnds last) (own_stop (view.LogEnds last) own) at.2 refl refl w
ended words asked file (Err (Judged judge.Words)) old new own is = absurd is.1
ended words asked file (Err (Judged judge.Memory)) old new own is = absurd is.1
ended words asked file (Err (Judged (judge.Site site.Memory))) old new own is = absurd (own.found refl)
ended words asked file (Err (Judged (judge.Site (site.ReadFault word)))) old new own is = absurd (own.read tt)
ended words asked file (Err (Judged (judge.Site (site.Refused word line reason)))) old new own is =
    unsited (loading.Refused word.now line (reason_text reason)) is.1 refl refl is.0
ended words asked file (Err (Judged (judge.Site (site.TooLong word)))) old new own is = unsited (loading.TooLong word.now) is.1 refl refl is.0
ended words asked file (Err (Judged (judge.ReadFault word))) old new own is = absurd is.1
ended words asked file (Err (Judged (judge.RefusedLine word line why))) old new own is =
    othered is.1.3 refl (λ j. Some (line_note (is.1.0 j) (is.1.1 j) (why_name (is.1.2 j)))) is.0
ended words asked file (Err (Judged judge.WriteFault)) old new own is = absurd is.1

answers : OneFound → OneHeader → (words : List (List ℕ)) (form : Result Asked Stop) (file : Contents) (call other : Call)
    (given got : Result (Unit {0}) DiagramStop) → BeginAlike file call other → IsOwn given → IsOwn got → IsAnswerTo form call.files call.out given →
    IsAnswerTo form other.files other.out got →
    AreAlike (status_by given) (status_by got) (note words given) (note words got) call.out.new other.out.new
answers found header words (Err stop) file call other given got begin own owns x y =
    let same : given ≡ got = x.0 ∙ sym y.0 in
    (ap status_by same, ap (note words) same, x.1 ∙ begin.out ∙ sym y.1)
answers found header words (Ok asked) file call other given got begin own owns x y =
    once found header words asked file (status_by given) (status_by got) (note words given) (note words got) call.out.old other.out.old
    call.out.new other.out.new begin.out (ended words asked file given call.out.old call.out.new own (x file begin.files))
    (ended words asked file got other.out.old other.out.new owns (y file begin.other_files))

note_is : (words : List (List ℕ)) (given : Result (Unit {0}) DiagramStop) (call : Call) → WentWell call → IsNoted words given call.notes →
    call.notes.new ≡ noted call.notes.old (note words given)
note_is words (Ok x) call well is = is
note_is words (Err why) call well is = is well.noted

own_end : (words : List (List ℕ)) (call : Call) (end : Status) → WentWell call → (end ≡ status.Memory → ⊥) →
    (x : IsReported words call.files call.out call.notes end) → IsOwn x.given
own_end words call end well found x = record {
  found = λ is. found (x.status_is ∙ is);
  read = λ is. well.read (x.read_fault is);
  written = λ is. well.written (x.write_fault is);
}

pub site_diagrams_once : OneFound → OneHeader → SiteDiagramsHaveOneAnswer
site_diagrams_once found header words file call other end other_end begin well goes has got x y =
    let alike = answers found header words (form_of words) file call other x.given y.given begin (own_end words call end well has x)
    (own_end words other other_end goes got y) x.answer y.answer in (
      record {
        status_is = x.status_is ∙ alike.0 ∙ sym y.status_is;
        note_is = note_is words x.given call well x.note ∙ (λ j. noted (begin.notes j) (alike.1 j)) ∙ sym (note_is words y.given other goes y.note);
      },
      alike.2,
    )
