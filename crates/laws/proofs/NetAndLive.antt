-- What is answered to a list of junctions, and what a live run leaves open.
use Rattle.std.proofs.Common.{◌≡◌, ◌∙◌, ℕ, List, codes, Option, None, Some, Result, Ok, Err, refl, sym, ap, subst}
use Rattle.std.specs.Io.KnownBytes.{append_known}
use Rattle.sig_io.specs.Outside.{Contents}
use Rattle.sig_types.specs.Counts.{Counts}
use Rattle.det_stream.specs.declared.refusal.StreamWhy.{StreamWhy}
use Rattle.det_stream.specs.Stream.{stream_of}
use Rattle.junction_run.specs.declared.status.Status.{Status}
use Rattle.junction_run.specs.declared.status.Status.TheVariants.{Done, Memory, Words, ReadFault, WriteFault, RefusedFile, RefusedLine, TooLong}
use Rattle.junction_run.specs.Answer.{Gains, answered, note_of}
use Rattle.junction_run.specs.Laws.{LoadsOnce}
use Rattle.junction_run.specs.Loading.{LoadsProgram, Playing, Unloaded}
use Rattle.junction_run.specs.Loading as loading
use Rattle.junction_run.specs.Form as run_form
use Rattle.junction_run.specs.Notes.{IsNote, NoteMeetsBy}
use Rattle.junction_live.specs.Answer.{IsWholeText, Loads, Reached, answer_to, frames_answer}
use Rattle.junction_live.specs.Answers as live
use Rattle.junction_live.specs.Answers.{LiveAnswer}
use Rattle.junction_live.specs.Form.{LiveWords, files_of, live_form}
use Rattle.junction_net.specs.Form.{net_form}
use Rattle.junction_net.specs.Laws as net
use Rattle.junction_net.specs.Net.{GivesResults, NoteMeets, net_answer}
use Rattle.junction_net.specs.NetAnswers.{AnswersTo, NetAnswer}
use Rattle.junction_net.specs.Results.{JobResult, net_notes}
use Rattle.laws.specs.NetAndLive.{LiveHasOneEnd, LiveIsOneProgram, NetHasOneAnswer}
use Rattle.laws.specs.OneAnswer.{BeginAlike, Call, EndAlike, WentWell, Wrote, WroteAlike}
use Rattle.laws.proofs.OneAnswer.{GainsOnce, IsOwn, answers_note, owned, same_note, same_status, same_text}

-- ---- `net`

-- the status is the list's own
net_owns : (word : List ℕ) (call : Call) (status : Status) → WentWell call → (status ≡ Memory → ⊥) →
    NetAnswer word call.files call.out call.notes status → IsOwn status
net_owns word call status well found x = record {
  found = found;
  words = x.not_words;
  read = λ is. well.read (x.read_fault is);
  written = λ is. well.written (x.write_fault is);
}

-- results have one text
net_gains : (word : List ℕ) (file : Contents) → GainsOnce (GivesResults word file) (answered net_answer)
net_gains word file (Ok rs) gives a b x y = x ∙ sym y
net_gains word file (Err (loading.TooLong name)) gives a b x y = x ∙ sym y
net_gains word file (Err (loading.Refused name line reason)) gives a b x y = x ∙ sym y

-- the same results
same_results : (rs ss : List JobResult) → ◌≡◌ {A = Result (List JobResult) Unloaded} (Ok rs) (Ok ss) → rs ≡ ss
same_results rs ss is = cc

net_note : net.GivesOnce → (word : List ℕ) (file : Contents) (status : Status) (a b : List ℕ) → IsOwn status →
    NoteMeets word file status a → NoteMeets word file status b → a ≡ b
net_note once word file Done a b own p q =
    p.2 ∙ ap net_notes (same_results p.0 q.0 (once word file (Ok p.0) (Ok q.0) p.1 q.1)) ∙ sym q.2
net_note once word file Memory a b own p q = absurd (own.found refl)
net_note once word file Words a b own p q = absurd (own.words refl)
net_note once word file ReadFault a b own p q = absurd (own.read refl)
net_note once word file WriteFault a b own p q = absurd (own.written refl)
net_note once word file RefusedFile a b own p q = answers_note (GivesResults word file) (answered net_answer) (once word file) RefusedFile a b p q
net_note once word file RefusedLine a b own p q = absurd p
net_note once word file TooLong a b own p q = answers_note (GivesResults word file) (answered net_answer) (once word file) TooLong a b p q

list_once : net.GivesOnce → (word : List ℕ) (file : Contents) (call other : Call) (status other_status : Status) → BeginAlike file call other →
    WentWell call → WentWell other → IsOwn status → IsOwn other_status →
    NetAnswer word call.files call.out call.notes status → NetAnswer word other.files other.out other.notes other_status →
    EndAlike call other status other_status × WroteAlike call other
list_once once word file call other status other_status begin well goes own owns x y =
    let Gives = GivesResults word file in
    let answer = answered net_answer in
    let p = owned Gives answer status call.out.old call.out.new own (x.answer file begin.files) in
    let q = owned Gives answer other_status other.out.old other.out.new owns (y.answer file begin.other_files) in
    let same : status ≡ other_status = same_status Gives answer (once word file) status other_status call.out.old call.out.new other.out.old other.out.new p q in
    let n = x.note well.noted in
    let m = y.note goes.noted in
    let text : n.0 ≡ m.0 =
    net_note once word file status n.0 m.0 own (n.3 file begin.files) (subst (λ s. NoteMeets word file s m.0) (sym same) (m.3 file begin.other_files)) in (
      record { status_is = same; note_is = n.1 ∙ (λ j. append_known (begin.notes j) (text j)) ∙ sym m.1 },
      same_text Gives answer (once word file) (net_gains word file) status other_status call.out.old call.out.new other.out.old other.out.new begin.out p q,
    )

lists_once : net.GivesOnce → (form : Option (List ℕ)) (file : Contents) (call other : Call) (status other_status : Status) → BeginAlike file call other →
    WentWell call → WentWell other → (status ≡ Memory → ⊥) → (other_status ≡ Memory → ⊥) →
    AnswersTo form call.files call.out call.notes status → AnswersTo form other.files other.out other.notes other_status →
    EndAlike call other status other_status × WroteAlike call other
lists_once once None file call other status other_status begin well goes found has x y = (
  record {
    status_is = x.is ∙ sym y.is;
    note_is = x.note well.noted ∙ ap (λ old. append_known old (note_of (codes "Words"))) begin.notes ∙ sym (y.note goes.noted);
  },
  x.unwritten ∙ begin.out ∙ sym y.unwritten,
)
lists_once once (Some word) file call other status other_status begin well goes found has x y =
    list_once once word file call other status other_status begin well goes (net_owns word call status well found x)
    (net_owns word other other_status goes has y) x y

pub net_once : net.GivesOnce → NetHasOneAnswer
net_once once words file call other status other_status begin well goes found has x y =
    lists_once once (net_form words) file call other status other_status begin well goes found has x y

-- ---- `live`

-- the status is the files' own
live_owns : (form : LiveWords) (call : Call) (status : Status) → WentWell call → (status ≡ Memory → ⊥) →
    LiveAnswer form call.files call.out call.notes status → IsOwn status
live_owns form call status well found x = record {
  found = found;
  words = x.not_words;
  read = λ is. well.read (x.read_fault is);
  written = λ is. well.written (x.write_fault is);
}

-- the files of a live run give one thing
live_gives : LoadsOnce → (form : LiveWords) (file : Contents) (r s : Result Playing Unloaded) → Loads form file r → Loads form file s → r ≡ s
live_gives once form file r s a b = once (run_form.Sample form.program form.site 0 0) file r s a b

-- nothing is written by what isn't done
unwritten_live : (form : LiveWords) (call : Call) (status : Status) → IsOwn status → (status ≡ Done → ⊥) →
    LiveAnswer form call.files call.out call.notes status → call.out.new ≡ call.out.old
unwritten_live form call Done own undone x = absurd (undone refl)
unwritten_live form call Memory own undone x = absurd (own.found refl)
unwritten_live form call Words own undone x = absurd (own.words refl)
unwritten_live form call ReadFault own undone x = absurd (own.read refl)
unwritten_live form call WriteFault own undone x = absurd (own.written refl)
unwritten_live form call RefusedFile own undone x = x.unwritten refl
unwritten_live form call RefusedLine own undone x = x.unwritten refl
unwritten_live form call TooLong own undone x = x.unwritten refl

live_form_once : LoadsOnce → (form : LiveWords) (file : Contents) (call other : Call) (status other_status : Status) → BeginAlike file call other →
    WentWell call → WentWell other → IsOwn status → IsOwn other_status →
    LiveAnswer form call.files call.out call.notes status → LiveAnswer form other.files other.out other.notes other_status →
    EndAlike call other status other_status × ((status ≡ Done → ⊥) → WroteAlike call other)
live_form_once once form file call other status other_status begin well goes own owns x y =
    let Gives = Loads form file in
    let answer = answer_to form file in
    let gives = live_gives once form file in
    let p = owned Gives answer status call.out.old call.out.new own (x.answer file begin.files) in
    let q = owned Gives answer other_status other.out.old other.out.new owns (y.answer file begin.other_files) in
    let same : status ≡ other_status = same_status Gives answer gives status other_status call.out.old call.out.new other.out.old other.out.new p q in
    let n = x.note well.noted in
    let m = y.note goes.noted in
    let text : n.0 ≡ m.0 =
    same_note Gives answer gives (Reached form file) (files_of form) status n.0 m.0 own n.2
    (subst (λ s. IsNote (files_of form) s m.0) (sym same) m.2)
    (n.3 file begin.files)
    (subst (λ s. NoteMeetsBy Gives answer (Reached form file) s m.0) (sym same) (m.3 file begin.other_files)) in (
      record { status_is = same; note_is = n.1 ∙ (λ j. append_known (begin.notes j) (text j)) ∙ sym m.1 },
      λ undone. unwritten_live form call status own undone x ∙ begin.out
          ∙ sym (unwritten_live form other other_status owns (λ is. undone (same ∙ is)) y),
    )

live_words_once : LoadsOnce → (form : Option LiveWords) (file : Contents) (call other : Call) (status other_status : Status) → BeginAlike file call other →
    WentWell call → WentWell other → (status ≡ Memory → ⊥) → (other_status ≡ Memory → ⊥) →
    live.AnswersTo form call.files call.out call.notes status → live.AnswersTo form other.files other.out other.notes other_status →
    EndAlike call other status other_status × ((status ≡ Done → ⊥) → WroteAlike call other)
live_words_once once None file call other status other_status begin well goes found has x y = (
  record {
    status_is = x.is ∙ sym y.is;
    note_is = x.note well.noted ∙ ap (λ old. append_known old (note_of (codes "Words"))) begin.notes ∙ sym (y.note goes.noted);
  },
  λ undone. x.unwritten ∙ begin.out ∙ sym y.unwritten,
)
live_words_once once (Some form) file call other status other_status begin well goes found has x y =
    live_form_once once form file call other status other_status begin well goes (live_owns form call status well found x)
    (live_owns form other other_status goes has y) x y

pub live_once : LoadsOnce → LiveHasOneEnd
live_once once words file call other status other_status begin well goes found has x y =
    live_words_once once (live_form words) file call other status other_status begin well goes found has x y

-- an answer of a done call of which no line was refused
whole_frames : (form : LiveWords) (playing : Playing) (frames : List Counts) (refusal : Option (ℕ × StreamWhy)) (old new : Option (List ℕ)) →
    (frames_answer form.watchers form.detectors playing frames refusal).status ≡ Done →
    Gains (frames_answer form.watchers form.detectors playing frames refusal) (frames_answer form.watchers form.detectors playing frames refusal).pieces old new →
    (text : List ℕ) × IsWholeText form.watchers playing frames text × (new ≡ append_known old text)
whole_frames form playing frames None old new is gains = gains
whole_frames form playing frames (Some at) old new is gains = absurd cc

-- what a live run that is done has written of what its files give
abbrev IsWholeOf : LiveWords → Contents → Playing → Option (List ℕ) → Option (List ℕ) → Type 0
IsWholeOf form file playing old new =
    (text : List ℕ) × IsWholeText form.watchers playing (stream_of (file form.detectors)).frames text × (new ≡ append_known old text)

whole_of : (form : LiveWords) (file : Contents) (r : Result Playing Unloaded) (old new : Option (List ℕ)) → Loads form file r →
    (answer_to form file r).status ≡ Done → Gains (answer_to form file r) (answer_to form file r).pieces old new →
    (playing : Playing) × Loads form file (Ok playing) × IsWholeOf form file playing old new
whole_of form file (Ok playing) old new gives is gains =
    let stream = stream_of (file form.detectors) in
    (playing, gives, whole_frames form playing stream.frames stream.refusal old new is gains)
whole_of form file (Err (loading.TooLong word)) old new gives is gains = absurd cc
whole_of form file (Err (loading.Refused word line reason)) old new gives is gains = absurd cc

same_playing : (a b : Playing) → ◌≡◌ {A = Result Playing Unloaded} (Ok a) (Ok b) → a ≡ b
same_playing a b is = cc

live_program : LoadsOnce → (form : LiveWords) (file : Contents) (call other : Call) → BeginAlike file call other →
    LiveAnswer form call.files call.out call.notes Done → LiveAnswer form other.files other.out other.notes Done →
    (playing : Playing) × LoadsProgram form.program form.site file (Ok playing)
    × (text : List ℕ) × IsWholeText form.watchers playing (stream_of (file form.detectors)).frames text × Wrote text call
    × (other_text : List ℕ) × IsWholeText form.watchers playing (stream_of (file form.detectors)).frames other_text
    × Wrote other_text other
live_program once form file call other begin x y =
    let p = x.answer file begin.files in
    let q = y.answer file begin.other_files in
    let one = whole_of form file p.0 call.out.old call.out.new p.1 p.2 p.3 in
    let two = whole_of form file q.0 other.out.old other.out.new q.1 q.2 q.3 in
    let same : two.0 ≡ one.0 = same_playing two.0 one.0 (live_gives once form file (Ok two.0) (Ok one.0) two.1 one.1) in
    let moved = subst (λ playing. IsWholeOf form file playing other.out.old other.out.new) same two.2 in
    (one.0, one.1, one.2.0, one.2.1, one.2.2, moved.0, moved.1, moved.2)

pub live_given : LoadsOnce → LiveIsOneProgram
live_given once words form file call other is begin x y =
    live_program once form file call other begin
    (subst (λ f. live.AnswersTo f call.files call.out call.notes Done) is x)
    (subst (λ f. live.AnswersTo f other.files other.out other.notes Done) is y)
