-- What `protocol` tells of a log is one thing.
use Rattle.std.proofs.Common.{◌≡◌, ◌∙◌, ℕ, Bool, true, false, not, ◌&&◌, if◌then◌else◌, nat_lt, List, [], ◌∷◌, ◌++◌, codes, length, Option, None, Some, Result, Ok, Err, refl, sym, ap, subst, arith}
use Rattle.sig_io.specs.Outside.{Contents}
use Rattle.sig_types.specs.Rules.{Rules}
use Rattle.sig_types.specs.Turns.{Picture}
use Rattle.log_judge.specs.declared.protocol.Extremes.{Extremes}
use Rattle.log_judge.specs.declared.protocol.Kind.{Kind}
use Rattle.log_judge.specs.declared.protocol.Kind.TheVariants.{Green, Red, RedAmber, Amber}
use Rattle.judge_text.specs.declared.tick.Tick.{Tick}
use Rattle.judge_text.specs.declared.tick.Tick.TheVariants.{Second}
use Rattle.judge_text.specs.Ticks.{ticks_text}
use Rattle.log_protocol.specs.Came.{came_in, gather}
use Rattle.log_protocol.specs.declared.text.Style.{Style}
use Rattle.log_protocol.specs.declared.text.Style.TheVariants.{Lines, Table}
use Rattle.log_protocol.specs.Texts.{came_text, change_label, change_text, greens_text, group_text, head_text, is_unlisted, name_at, numbers_text, page_text, rest_text, run_label, run_text, time_of}
use Rattle.log_read.specs.Answers.{IsFirst}
use Rattle.log_read.specs.declared.begin.Begin.TheVariants.{Anywhere}
use Rattle.log_read.specs.Laws.{OnePictures}
use Rattle.log_read.specs.Readings.{IsPictures}
use Rattle.log_read.specs.Whys.{why_name}
use Rattle.site_load.specs.declared.stop.SiteStop.TheVariants as site
use Rattle.site_load.specs.Loading.{Site}
use Rattle.site_load.specs.Loading as loading
use Rattle.site_load.specs.Reasons.{reason_text}
use Rattle.report_words.specs.declared.status.Status.{Status}
use Rattle.report_words.specs.declared.status.Status.TheVariants as status
use Rattle.report_words.specs.declared.stop.JudgeStop.{JudgeStop}
use Rattle.report_words.specs.declared.stop.JudgeStop.TheVariants as stop
use Rattle.report_words.specs.Notes.{line_note, stop_note}
use Rattle.report_judged.specs.ProtocolCall as protocol
use Rattle.report_judged.specs.ProtocolForm as protocol_form
use Rattle.laws.specs.OneAnswer.{BeginAlike, Call, WentWell}
use Rattle.laws.specs.OneJudgement.{ProtocolHasOneAnswer}
use Rattle.laws.proofs.OneJudgement.{AreAlike, Ending, Form, IsNoPicture, IsOwn, IsSettled, ending_once, never, noted, same_refusal, told, unread, unsited}

-- ---- a page of no second

-- numbers of what never came
no_numbers : (tick : Tick) (style : Style) (first other : ℕ) (x : Extremes) → x.count ≡ 0 → numbers_text tick style first x ≡ numbers_text tick style other x
unfolding numbers_text
no_numbers tick Table first other x none = rw none refl
no_numbers tick Lines first other x none = rw none refl

no_rest : (tick : Tick) (style : Style) (first other needed : ℕ) (x : Extremes) → x.count ≡ 0 → rest_text tick style first needed x ≡ rest_text tick style other needed x
unfolding rest_text
no_rest tick Table first other needed x none = ap (λ t. codes "," ++ ticks_text tick needed ++ codes "," ++ t ++ codes "\n") (no_numbers tick Table first other x none)
no_rest tick Lines first other needed x none = ap (λ t. codes ": " ++ t ++ codes "; " ++ ticks_text tick needed ++ codes " s in the table\n") (no_numbers tick Lines first other x none)

-- nothing came in a log of no second
no_runs : (kind : Kind) (g : ℕ) → ((came_in []).runs kind g).count ≡ 0
no_runs kind g = refl

no_changes : (to from : ℕ) → ((came_in []).changes to from).count ≡ 0
no_changes to from = refl

no_run_text : (tick : Tick) (style : Style) (first other : ℕ) (r : Rules) (name : List ℕ) (g : ℕ) (kind : Kind) →
    run_text tick style first (came_in []) r name g kind ≡ run_text tick style other (came_in []) r name g kind
unfolding run_text
no_run_text tick style first other r name g kind =
    ap (λ t. run_label style kind name ++ t) (no_rest tick style first other (time_of r kind g) ((came_in []).runs kind g) (no_runs kind g))

no_group_text : (tick : Tick) (style : Style) (first other : ℕ) (r : Rules) (name : List ℕ) (g : ℕ) →
    group_text tick style first (came_in []) r name g ≡ group_text tick style other (came_in []) r name g
unfolding group_text
no_group_text tick style first other r name g = λ j.
    no_run_text tick style first other r name g Green j ++ no_run_text tick style first other r name g Red j
    ++ no_run_text tick style first other r name g RedAmber j ++ no_run_text tick style first other r name g Amber j

no_change_text : (tick : Tick) (style : Style) (first other : ℕ) (names : List (List ℕ)) (to from : ℕ) (needed : Option ℕ) →
    change_text tick style first (came_in []) names to from needed ≡ change_text tick style other (came_in []) names to from needed
unfolding change_text
no_change_text tick style first other names to from None = refl
no_change_text tick style first other names to from (Some needed) =
    ap (λ t. change_label style (name_at names to) (name_at names from) ++ t)
    (no_rest tick style first other needed ((came_in []).changes to from) (no_changes to from))

never_all : (c d : Bool) (x y : List ℕ) → (if c && d && not true then x else []) ≡ (if c && d && not true then y else [])
never_all true true x y = refl
never_all true false x y = refl
never_all false d x y = refl

no_greens_text : (tick : Tick) (style : Style) (first other : ℕ) (names : List (List ℕ)) (r : Rules) (g i : ℕ) →
    greens_text tick style first (came_in []) names r g i ≡ greens_text tick style other (came_in []) names r g i
unfolding greens_text
no_greens_text tick style first other names r g i = never_all (nat_lt g i) (is_unlisted r g i) _ _

no_head : (tick : Tick) (style : Style) (first other : ℕ) → head_text tick style 0 first ≡ head_text tick style 0 other
unfolding head_text
no_head tick Table first other = refl
no_head tick Lines first other = refl

empty_page : (tick : Tick) (style : Style) (first other : ℕ) (names : List (List ℕ)) (r : Rules) → page_text tick style first names r [] ≡ page_text tick style other names r []
unfolding page_text came_text
empty_page tick style first other names r = λ j.
    no_head tick style first other j
    ++ (gather (λ g. no_group_text tick style first other r (name_at names g) g j) (length names)
    ++ gather (λ to. gather (λ from. no_change_text tick style first other names to from (r.between from to) j) (length names)) (length names)
    ++ gather (λ g. gather (λ i. no_greens_text tick style first other names r g i j) (length names)) (length names))

-- ---- a page

-- the page of a log at a site
record IsPage (asked : protocol_form.Asked) (file : Contents) (at : Site) (end : Status) (text : List ℕ) : Type 0 where
  pub pictures : List Picture
  pub log : IsPictures Anywhere at.plan.names (file asked.log) pictures None
  pub first : ℕ
  pub first_is : IsFirst Anywhere (file asked.log) pictures first
  pub text_is : text ≡ page_text Second asked.style first at.plan.names at.rules pictures
  pub end_is : end ≡ status.Done

abbrev protocol_by : protocol_form.Asked → Contents → Form
protocol_by asked file = record { words = asked.site; log = asked.log; IsTold = IsPage asked file; IsRefused = IsNoPicture file asked.log }

-- the number of the first second is one where there is a second, and has no part in the page where there is none
same_page : (asked : protocol_form.Asked) (file : Contents) (at : Site) (pictures : List Picture) (first other : ℕ) →
    IsFirst Anywhere (file asked.log) pictures first → IsFirst Anywhere (file asked.log) pictures other →
    page_text Second asked.style first at.plan.names at.rules pictures ≡ page_text Second asked.style other at.plan.names at.rules pictures
same_page asked file at [] first other x y = empty_page Second asked.style first other at.plan.names at.rules
same_page asked file at (p ∷ ps) first other x y =
    ap (λ n. page_text Second asked.style n at.plan.names at.rules (p ∷ ps)) (x (omega arith) ∙ sym (y (omega arith)))

protocol_settled : OnePictures → (asked : protocol_form.Asked) (file : Contents) → IsSettled (protocol_by asked file)
protocol_settled one asked file = record {
  one = λ at e f a b x y.
      (let same = one Anywhere at.plan.names (file asked.log) x.pictures y.pictures None None x.log y.log in (
        x.end_is ∙ sym y.end_is,
        x.text_is ∙ ap (page_text Second asked.style x.first at.plan.names at.rules) same.0
            ∙ same_page asked file at y.pictures x.first y.first (subst (λ ps. IsFirst Anywhere (file asked.log) ps x.first) same.0 x.first_is) y.first_is
            ∙ sym y.text_is,
      ));
  apart = λ at e a line why x refused.
      never (line, why) (one Anywhere at.plan.names (file asked.log) x.pictures refused.0 None (Some (line, why)) x.log refused.1).1;
  line = λ at k l v w x y.
      same_refusal k l v w (one Anywhere at.plan.names (file asked.log) x.0 y.0 (Some (k, v)) (Some (l, w)) x.1 y.1).1;
}

abbrev protocol_note : Result (Unit {0}) JudgeStop → Option (List ℕ)
protocol_note (Ok x) = None
protocol_note (Err why) = Some (stop_note why)

abbrev IsOwnProtocol : Result (Unit {0}) JudgeStop → Type 0
IsOwnProtocol given = IsOwn protocol.IsReadFault protocol.IsWriteFault protocol.status_by given

protocol_end : (asked : protocol_form.Asked) (file : Contents) (given : Result (Unit {0}) JudgeStop) (old new : Option (List ℕ)) → IsOwnProtocol given →
    protocol.IsAnswered asked file given old new → Ending (protocol_by asked file) file (protocol.status_by given) (protocol_note given) old new
protocol_end asked file (Ok x) old new own is =
    told is.1.site is.1.loaded is.0 (record { pictures = is.1.pictures; log = is.1.log; first = is.1.first; first_is = is.1.first_is; text_is = is.1.text_is; end_is = refl }) refl is.2
protocol_end asked file (Err stop.Words) old new own is = absurd is
protocol_end asked file (Err stop.Memory) old new own is = absurd (own.found refl)
protocol_end asked file (Err (stop.Site site.Memory)) old new own is = absurd (own.found refl)
protocol_end asked file (Err (stop.Site (site.ReadFault word))) old new own is = absurd (own.read tt)
protocol_end asked file (Err (stop.Site (site.Refused word line reason))) old new own is =
    unsited (loading.Refused word.now line (reason_text reason)) is.1 refl refl is.0
protocol_end asked file (Err (stop.Site (site.TooLong word))) old new own is = unsited (loading.TooLong word.now) is.1 refl refl is.0
protocol_end asked file (Err (stop.ReadFault word)) old new own is = absurd (own.read tt)
protocol_end asked file (Err (stop.RefusedLine word line why)) old new own is =
    unread is.1.0 is.1.1 line why is.1.2.1 refl (ap (λ w. Some (line_note w line (why_name why))) is.1.2.0) is.0
protocol_end asked file (Err stop.WriteFault) old new own is = absurd (own.written tt)

protocol_answers : OnePictures → (form : Option protocol_form.Asked) (file : Contents) (call other : Call) (given got : Result (Unit {0}) JudgeStop) →
    BeginAlike file call other → IsOwnProtocol given → IsOwnProtocol got → protocol.IsAnswerTo form call.files call.out given →
    protocol.IsAnswerTo form other.files other.out got →
    AreAlike (protocol.status_by given) (protocol.status_by got) (protocol_note given) (protocol_note got) call.out.new other.out.new
protocol_answers one None file call other given got begin own owns x y =
    let same : given ≡ got = x.0 ∙ sym y.0 in
    (ap protocol.status_by same, ap protocol_note same, x.1 ∙ begin.out ∙ sym y.1)
protocol_answers one (Some asked) file call other given got begin own owns x y =
    ending_once (protocol_by asked file) file (protocol_settled one asked file) (protocol.status_by given) (protocol.status_by got) (protocol_note given)
    (protocol_note got) call.out.old other.out.old call.out.new other.out.new begin.out
    (protocol_end asked file given call.out.old call.out.new own (x file begin.files))
    (protocol_end asked file got other.out.old other.out.new owns (y file begin.other_files))

protocol_noted : (given : Result (Unit {0}) JudgeStop) (call : Call) → WentWell call → protocol.IsNoted given call.notes →
    call.notes.new ≡ noted call.notes.old (protocol_note given)
protocol_noted (Ok x) call well is = is
protocol_noted (Err why) call well is = is well.noted

protocol_own : (words : List (List ℕ)) (call : Call) (end : Status) → WentWell call → (end ≡ status.Memory → ⊥) →
    (x : protocol.IsReported words call.files call.out call.notes end) → IsOwnProtocol x.given
protocol_own words call end well found x = record {
  found = λ is. found (x.status_is ∙ is);
  read = λ is. well.read (x.read_fault is);
  written = λ is. well.written (x.write_fault is);
}

pub protocol_once : OnePictures → ProtocolHasOneAnswer
protocol_once one words file call other end other_end begin well goes found has x y =
    let alike = protocol_answers one (protocol_form.form_of words) file call other x.given y.given begin (protocol_own words call end well found x)
    (protocol_own words other other_end goes has y) x.answer y.answer in (
      record {
        status_is = x.status_is ∙ alike.0 ∙ sym y.status_is;
        note_is = protocol_noted x.given call well x.note ∙ (λ j. noted (begin.notes j) (alike.1 j)) ∙ sym (protocol_noted y.given other goes y.note);
      },
      alike.2,
    )
