-- The logs of runs are read back, and judged safe.
use Rattle.std.proofs.Common.{◌≡◌, ◌∙◌, ℕ, suc, ◌+◌, ◌<◌, ◌≤◌, List, [], ◌∷◌, ◌++◌, codes, length, map, get_or, replicate, Option, None, Some, Result, Ok, Err, refl, sym, ap, subst, arith, append_assoc, inl, inr}
use Rattle.std.specs.Prelude.{pos}
use Rattle.std.specs.Fmt.{decimal}
use Rattle.std.specs.Io.KnownBytes.{append_known}
use Rattle.std.proofs.lemmas.List.{length-map, length-replicate, take_all}
use Rattle.sig_io.specs.Outside.{Contents}
use Rattle.sig_types.specs.declared.aspect.Aspect.TheVariants.{Red}
use Rattle.sig_types.specs.declared.record.Record.{Record}
use Rattle.sig_types.specs.Counts.{AreFrames, Counts}
use Rattle.sig_types.specs.LogForm.{header_line}
use Rattle.sig_types.specs.Pass.{End, Done, Faulted, Stuck, Unfinished, Store, counted, store_after, unit_limit, without_commands}
use Rattle.sig_types.specs.Turns.{Picture}
use Rattle.pua_model.specs.Plan.{HasStage, IsPlan, PlanOf, groups_in}
use Rattle.pua_reader.specs.declared.refusal.PuaWhy.{PuaWhy}
use Rattle.pua_reader.specs.Accepted.{plan_of_text, refusal_of}
use Rattle.pua_reader.proofs.PlansKept.{plans_are_whole}
use Rattle.det_stream.specs.Stream.{stream_of}
use Rattle.det_stream.proofs.FramesKept.{streams_are_frames}
use Rattle.vap_ast.proofs.CommandsGiven.{programs_give_few, programs_give_the_worlds}
use Rattle.vap_ast.specs.Syntax.{Program}
use Rattle.vap_ast.specs.Sound.{source_of}
use Rattle.vap_check.specs.Numbers.{names_of}
use Rattle.vap_code.specs.Codes.{CodeOf}
use Rattle.vap_code.specs.Machine.{machine}
use Rattle.vap_code.specs.Stores.{StoreFits, first_store, stopped}
use Rattle.vap_code.specs.Valid.{Valid}
use Rattle.code_verify.specs.Ends.{IfDone}
use Rattle.code_verify.proofs.Bound.{runs_well}
use Rattle.code_verify.proofs.CommandsGiven.{codes_give_the_worlds, valid_codes_give_few}
use Rattle.controller.specs.Agree.{KeepsFit}
use Rattle.controller.specs.Bounds.{AreBoundedFrom, GivesFew, IsBoundedAt}
use Rattle.controller.specs.Past.{Site}
use Rattle.controller.specs.Second.{picture_of, record_pictures}
use Rattle.controller.proofs.Bounded.{runs_are_bounded}
use Rattle.signal_log.specs.Laws.{Lacks}
use Rattle.signal_log.specs.Log.{header_text, log_text, place_text, record_line, record_text, records_text}
use Rattle.signal_log.proofs.Lengths.{header_is_short, lines_are_short}
use Rattle.signal_log.proofs.LogLines.{lines_begin, lines_have_no_feed}
use Rattle.log_read.specs.declared.refusal.LogWhy.{LogWhy}
use Rattle.log_read.specs.Laws.{AreReadable, Written, written_from, written_line}
use Rattle.log_read.specs.Readings.{IsPictures}
use Rattle.log_read.specs.declared.begin.Begin.TheVariants.{AtOne}
use Rattle.log_read.proofs.LogLaws.{one_pictures}
use Rattle.log_read.proofs.ReadBack.{reads_back}
use Rattle.sig_audit.specs.declared.verdict.Verdict.TheVariants as verdict
use Rattle.sig_audit.specs.Verdict.{IsVerdict}
use Rattle.sig_audit.proofs.VerdictLaws.{one_verdict}
use Rattle.junction_run.specs.declared.status.Status.{Status}
use Rattle.junction_run.specs.declared.status.Status.TheVariants as status
use Rattle.junction_run.specs.Answer.{Gains, IsAnswered, Meets, answer_to, audit_answer}
use Rattle.junction_run.specs.Audited.{IsAudit, inters_text, judged_text, verdict_text}
use Rattle.junction_run.specs.Codes.{CodeIs, is_code, no_code, unsound}
use Rattle.junction_run.specs.Form.{Audit, CodeFile, Compile, Form, Play, ProgramFile, Sample, SiteWords, Source, word_of}
use Rattle.junction_run.specs.Loading.{◌>>=◌, AfterSite, IsSource, Loads, LoadsSource, Logged, LogAfterSite, Playing, Refusal, Refused, SourceIs, TooLong, Unloaded, Value, accepted, intergreens_at, long, plan_at, plan_refusal, played_at, refused, site_of, times_at}
use Rattle.junction_run.specs.Programs.{logic_of, store_of}
use Rattle.junction_run.specs.Records.{log_of, records_of}
use Rattle.junction_run.specs.SafeLogs.{AuditsSaySafe, CameToAnEnd, IsJudgedSafe, IsWithinLimits, LoadedRunsAreWithinLimits, SaysSafe, WrittenLogsAreJudgedSafe}
use Rattle.sig_tables.specs.SiteRules.{rules_by}
use Rattle.junction_run.proofs.LoadedRuns.{IsSound, at_site, judged_right, site_sound, source_guarded, steps, there}

-- ---- what is loaded is within all limits

no_refusal : (o : Option (ℕ × PuaWhy)) → plan_refusal o ≡ None → o ≡ None
no_refusal None is = refl
no_refusal (Some at) is = cc

abbrev ok_of : {A : Type 0} → A → Result A Unloaded
ok_of x = Ok x

same_site : (a b : Site) → ok_of a ≡ ok_of b → a ≡ b
same_site a b is = cc

-- the plan of a site is a plan
site_plan : (words : SiteWords) (file : Contents) (site : Site) → site_of words file ≡ Ok site → IsPlan site.plan
site_plan words file site is =
    let one = steps (plan_at file words.plan)
    (λ plan. times_at file words.times plan >>= λ times. intergreens_at file words.intergreens plan >>= λ between. Ok
    (record { plan = plan; rules = rules_by times between })) site is in
    let plan : PlanOf = one.value in
    let two = steps (times_at file words.times plan)
    (λ times. intergreens_at file words.intergreens plan >>= λ between. Ok (record { plan = plan; rules = rules_by times between })) site one.rest in
    let three = steps (intergreens_at file words.intergreens plan) (λ between. Ok (record { plan = plan; rules = rules_by two.value between })) site two.rest in
    let text = judged_right words.plan (file words.plan) (plan_refusal (refusal_of (file words.plan))) (plan_of_text (file words.plan)) plan one.first in
    let whole : IsPlan plan = subst IsPlan text.1 (plans_are_whole (file words.plan) (no_refusal (refusal_of (file words.plan)) text.0)) in
    let same : record { plan = plan; rules = rules_by two.value three.value } ≡ site = same_site _ site three.rest in
    subst (λ (s : Site). IsPlan s.plan) same whole

-- a store with no command given
abbrev HasNone : Store → Type 0
HasNone s = s.commands ≡ []

none_after : (s : Store) (e : End) → HasNone s → HasNone (store_after s e)
none_after s (Done after) none = refl
none_after s (Faulted kind line) none = none
none_after s Stuck none = none
none_after s Unfinished none = none

program_keeps : (program : Program) → KeepsFit HasNone (logic_of program)
program_keeps program = record {
  begins = λ s none. refl;
  goes_on = λ w s none. none_after s (logic_of program w s) none;
}

program_few : (program : Program) → GivesFew HasNone (logic_of program)
program_few program = record {
  few = λ w s none. programs_give_few (source_of program (names_of program)) w s none;
  of_the_world = λ w s none. programs_give_the_worlds (source_of program (names_of program)) w s none;
}

code_after : (code : CodeOf) (s : Store) (e : End) → StoreFits code s → IfDone e (λ after. StoreFits code (without_commands after)) →
    StoreFits code (store_after s e)
code_after code s (Done after) fits done = done
code_after code s (Faulted kind line) fits done = fits
code_after code s Stuck fits done = fits
code_after code s Unfinished fits done = fits

code_keeps : (code : CodeOf) → Valid code → KeepsFit (StoreFits code) (machine code)
code_keeps code valid = record {
  begins = λ s fits. record { variables = fits.variables; timers = length-map s.timers counted ∙ fits.timers; arrays = fits.arrays; fresh = refl };
  goes_on = λ w s fits. code_after code s (machine code w s) fits (runs_well code w s valid fits).fits;
}

code_few : (code : CodeOf) → Valid code → GivesFew (StoreFits code) (machine code)
code_few code valid = record {
  few = λ w s fits. valid_codes_give_few code w s valid fits;
  of_the_world = λ w s fits. codes_give_the_worlds code w s fits.fresh;
}

code_begins : (code : CodeOf) → StoreFits code (first_store code)
code_begins code = record { variables = length-replicate code.vars (pos 0); timers = length-replicate code.timers stopped; arrays = refl; fresh = refl }

-- a code that is read is valid
abbrev OfValid : Result CodeOf Refusal → Type 0
OfValid (Ok code) = Valid code
OfValid (Err refusal) = Unit {0}

code_valid : (bytes : List ℕ) (r : Result CodeOf Refusal) → CodeIs bytes r → OfValid r
code_valid bytes r (no_code line why is) = tt
code_valid bytes r (unsound code why place is broken) = tt
code_valid bytes r (is_code code is valid) = valid

-- a value of a source is played within its limits
value_bounded : (source : Source) (bytes : List ℕ) (value : Value source) (site : Site) (frames : List Counts) → SourceIs source bytes (Ok value) →
    IsSound site →
    AreBoundedFrom site 1 frames (records_of (played_at source site value) frames)
unfolding records_of
value_bounded (ProgramFile word) bytes program site frames is sound =
    runs_are_bounded HasNone (logic_of program) site (store_of program) frames (program_keeps program) (program_few program) refl sound.two sound.count
value_bounded (CodeFile word) bytes code site frames is sound =
    let valid : Valid code = code_valid bytes (Ok code) is in
    runs_are_bounded (StoreFits code) (machine code) site (first_store code) frames (code_keeps code valid) (code_few code valid) (code_begins code)
    sound.two sound.count

-- a value that was judged is that of its bytes
abbrev OfBytes : (source : Source) → List ℕ → Result (Value source) Unloaded → Type 0
OfBytes source bytes (Ok value) = SourceIs source bytes (Ok value)
OfBytes source bytes (Err unloaded) = Unit {0}

source_accepted : (source : Source) (bytes : List ℕ) (r : Result (Value source) Unloaded) → IsSource source bytes r → OfBytes source bytes r
source_accepted source bytes r (long more) = tt
source_accepted source bytes r (refused line reason short is) = tt
source_accepted source bytes r (accepted value short is) = is

same_playing : (a b : Playing) → ok_of a ≡ ok_of b → a ≡ b
same_playing a b is = cc

within_by : (source : Source) (bytes : List ℕ) (playing : Playing) (frames : List Counts) (o : Result Site Unloaded) →
    ((site : Site) → o ≡ Ok site → IsSound site × IsPlan site.plan) →
    AfterSite (played_at source) o (IsSource source bytes) (Ok playing) → IsWithinLimits playing frames
within_by source bytes playing frames (Err u) sound loads = absurd (let e : Ok playing ≡ Err u = loads in cc)
within_by source bytes playing frames (Ok site) sound (Err u, is, same) = absurd (let e : Ok playing ≡ Err u = same in cc)
within_by source bytes playing frames (Ok site) sound (Ok value, is, same) =
    let here = sound site refl in
    let e : played_at source site value ≡ playing = sym (same_playing playing (played_at source site value) same) in
    let there_is : (played_at source site value).site ≡ site = there source site value in
    subst (λ (p : Playing). IsWithinLimits p frames) e record {
      plan = subst (λ (s : Site). IsPlan s.plan) (sym there_is) here.1;
      records = subst (λ (s : Site). AreBoundedFrom s 1 frames (records_of (played_at source site value) frames)) (sym there_is)
          (value_bounded source bytes value site frames (source_accepted source bytes (Ok value) is) here.0);
    }

source_within : (source : Source) (words : SiteWords) (file : Contents) (playing : Playing) (frames : List Counts) →
    LoadsSource source words file (Ok playing) → IsWithinLimits playing frames
source_within source words file playing frames loads =
    within_by source (file (word_of source)) playing frames (site_of words file)
    (λ site is. (site_sound words file site is, site_plan words file site is)) loads

pub loaded_runs_are_within_limits : LoadedRunsAreWithinLimits
loaded_runs_are_within_limits (Play source words detectors) file playing frames loads = source_within source words file playing frames loads
loaded_runs_are_within_limits (Compile program) file tree frames loads = tt
loaded_runs_are_within_limits (Sample program words seed seconds) file playing frames loads =
    source_within (ProgramFile program) words file playing frames loads
loaded_runs_are_within_limits (Audit log words) file logged frames loads = tt

-- ---- what is written is read back

-- a record as a reader finds it
abbrev written_of : List (List ℕ) → Record → Written
written_of names r = record { x = place_text r.place; picture = r.picture; rest = (lines_begin names r).rest }

line_is : (names : List (List ℕ)) (r : Record) (k : ℕ) → r.second.0 ≡ k → record_line names r ≡ written_line k (written_of names r)
line_is names r k second = (lines_begin names r).text ∙ ap (λ (n : ℕ). written_line n (written_of names r)) second

module _ (site : Site) (plan : IsPlan site.plan) where
  abbrev names : List (List ℕ)
  names = site.plan.names

  texts_are : (k : ℕ) (fs : List Counts) (rs : List Record) → AreBoundedFrom site k fs rs → records_text names rs ≡ written_from k (map (written_of names) rs)
  unfolding records_text record_text
  texts_are k [] [] are = refl
  texts_are k [] (r ∷ rs) are = absurd are
  texts_are k (f ∷ fs) [] are = absurd are
  texts_are k (f ∷ fs) (r ∷ rs) are =
      append_assoc (record_line names r) (10 ∷ []) (records_text names rs)
      ∙ ap (λ l. l ++ 10 ∷ records_text names rs) (line_is names r k are.0.second)
      ∙ ap (λ l. written_line k (written_of names r) ++ 10 ∷ l) (texts_are (k + 1) fs rs are.1)

  counts_are : (k : ℕ) (fs : List Counts) (rs : List Record) → AreBoundedFrom site k fs rs → length rs ≡ length fs
  counts_are k [] [] are = refl
  counts_are k [] (r ∷ rs) are = absurd are
  counts_are k (f ∷ fs) [] are = absurd are
  counts_are k (f ∷ fs) (r ∷ rs) are = ap suc (counts_are (k + 1) fs rs are.1)

  low_stage : (s : ℕ) → HasStage site.plan s → s < 1000
  low_stage s has = omega (arith, has.1, plan.stages_at_most)

  bounded_short : (k : ℕ) (f : Counts) (r : Record) → length f ≡ 64 → IsBoundedAt site k f r → length (record_line names r) ≤ 262144
  unfolding unit_limit
  bounded_short k f r size b =
      lines_are_short names r plan.names plan.groups_at_most
      (record { picture = b.picture; frame = ap length b.frame_is ∙ size; turns = b.named })
      (record {
        commands = omega (arith, b.commands);
        stages = λ n d lt. (let s = b.stages n d lt in (low_stage _ s.0, low_stage _ s.1));
        turns = omega (arith, b.turns, plan.groups_at_most);
      })

  readable : (k : ℕ) (fs : List Counts) (rs : List Record) → ((n : ℕ) → n < length fs → length (get_or fs n []) ≡ 64) → AreBoundedFrom site k fs rs →
      AreReadable (length names) k (map (written_of names) rs)
  readable k [] [] sizes are = tt
  readable k [] (r ∷ rs) sizes are = absurd are
  readable k (f ∷ fs) [] sizes are = absurd are
  readable k (f ∷ fs) (r ∷ rs) sizes are =
      let line = line_is names r k are.0.second in
      let feeds = lines_have_no_feed names plan.names in (
        record {
          no_bar = (lines_begin names r).no_bar;
          no_feed = subst (Lacks 10) line (feeds.1 r);
          short = subst (λ l. length l ≤ 262144) line (bounded_short k f r (sizes 0 (omega arith)) are.0);
          groups_are = are.0.picture;
        },
        readable (k + 1) fs rs (λ n lt. sizes (suc n) (omega (arith, lt))) are.1,
      )

  pictures_are : (rs : List Record) → map (λ w. w.picture) (map (written_of names) rs) ≡ record_pictures rs
  pictures_are [] = refl
  pictures_are (r ∷ rs) = ap (λ l. r.picture ∷ l) (pictures_are rs)

  read_again : (fs : List Counts) (rs : List Record) → AreFrames fs → AreBoundedFrom site 1 fs rs → IsPictures AtOne names (log_text names rs) (record_pictures rs) None
  unfolding log_text header_text
  read_again fs rs frames are =
      let feeds = lines_have_no_feed names plan.names in
      let ws : List Written = map (written_of names) rs in
      let text : log_text names rs ≡ header_line names ++ 10 ∷ written_from 1 ws =
      append_assoc (header_line names) (10 ∷ []) (records_text names rs) ∙ ap (λ l. header_line names ++ 10 ∷ l) (texts_are 1 fs rs are) in
      let count : length ws ≤ 604801 = omega (arith, length-map rs (written_of names), counts_are 1 fs rs are, frames.few) in
      let read = reads_back names ws feeds.0 (header_is_short names plan.names plan.groups_at_most) count (readable 1 fs rs frames.sizes are) in
      subst (λ l. IsPictures AtOne names l (record_pictures rs) None) (sym text)
      (subst (λ ps. IsPictures AtOne names (header_line names ++ 10 ∷ written_from 1 ws) ps None) (pictures_are rs) read)

records_count : (playing : Playing) (frames : List Counts) → IsWithinLimits playing frames → length (records_of playing frames) ≡ length frames
records_count playing frames limits = counts_are playing.site limits.plan 1 frames (records_of playing frames) limits.records

judged_safe : (source : Source) (words : SiteWords) (file : Contents) (playing : Playing) (frames : List Counts) → AreFrames frames →
    LoadsSource source words file (Ok playing) →
    IsJudgedSafe playing frames (log_of playing frames)
unfolding log_of records_of
judged_safe source words file playing frames are loads =
    let limits = source_within source words file playing frames loads in
    let guarded = source_guarded source words file playing frames loads in
    let rs : List Record = records_of playing frames in
    let size : length (record_pictures rs) ≡ length frames = length-map rs picture_of ∙ records_count playing frames limits in
    record {
      is_log = read_again playing.site limits.plan frames rs are limits.records;
      is_safe = (guarded.safe, omega (arith, size));
    }

-- ---- what out gained

-- what was written, where the answer came to an end
abbrev WritesSafely : Source → SiteWords → List ℕ → Contents → Option (List ℕ) → Option (List ℕ) → Type 0
WritesSafely source words detectors file old new =
    (playing : Playing) × LoadsSource source words file (Ok playing)
    × ((text : List ℕ) × (new ≡ append_known old text) × IsJudgedSafe playing (stream_of (file detectors)).frames text)

module _ (source : Source) (words : SiteWords) (detectors : List ℕ) (file : Contents) (old new : Option (List ℕ)) where
  abbrev form : Form
  form = Play source words detectors

  written_by : (r : Result Playing Unloaded) → LoadsSource source words file r → CameToAnEnd (answer_to form file r).status →
      Gains (answer_to form file r) (answer_to form file r).pieces old new → WritesSafely source words detectors file old new
  written_by (Ok playing) loads came gains =
      let frames : List Counts = (stream_of (file detectors)).frames in
      let whole : gains.0 ≡ log_of playing frames = gains.1 ∙ ap (log_of playing) (take_all (length frames) frames (omega arith)) in (
        playing,
        loads,
        (
          gains.0,
          gains.2,
          subst (IsJudgedSafe playing frames) (sym whole)
              (judged_safe source words file playing frames (streams_are_frames (file detectors)) loads),
        ),
      )
  written_by (Err (TooLong w)) loads (inl is) gains = cc
  written_by (Err (TooLong w)) loads (inr is) gains = cc
  written_by (Err (Refused w line reason)) loads (inl is) gains = cc
  written_by (Err (Refused w line reason)) loads (inr is) gains = cc

  answered_written : (end : Status) → CameToAnEnd end → IsAnswered (Loads form file) (answer_to form file) end old new →
      WritesSafely source words detectors file old new
  answered_written end came is = written_by is.0 is.1 (subst CameToAnEnd (sym is.2) came) is.3

pub written_logs_are_judged_safe : WrittenLogsAreJudgedSafe
written_logs_are_judged_safe source words detectors file end old new (inl is) meets =
    answered_written source words detectors file old new status.Done (inl refl) (subst (λ s. Meets (Play source words detectors) file s old new) is meets)
written_logs_are_judged_safe source words detectors file end old new (inr is) meets =
    answered_written source words detectors file old new status.RefusedLine (inr refl)
    (subst (λ s. Meets (Play source words detectors) file s old new) is meets)

-- ---- what is judged of it

site_alike : (words : SiteWords) (f g : Contents) → f words.plan ≡ g words.plan → f words.times ≡ g words.times → f words.intergreens ≡ g words.intergreens →
    site_of words f ≡ site_of words g
site_alike words f g p t i = rw (p, t, i) refl

loaded_site : (source : Source) (bytes : List ℕ) (playing : Playing) (o : Result Site Unloaded) →
    AfterSite (played_at source) o (IsSource source bytes) (Ok playing) → o ≡ Ok playing.site
loaded_site source bytes playing (Err u) loads = absurd (let e : Ok playing ≡ Err u = loads in cc)
loaded_site source bytes playing (Ok site) (v, is, same) = ap Ok (at_site (played_at source) (there source) site v playing same)

known_text : (log text : List ℕ) → Some log ≡ append_known (Some []) text → log ≡ text
known_text log text is = cc

-- the first line of what is judged of safe pictures
safe_line : (site : Site) (pictures : List Picture) (n : ℕ) → IsVerdict site.rules (replicate (groups_in site.plan) Red ∷ pictures) (verdict.Safe n)
    → (text : List ℕ) → IsAudit site pictures text →
    (rest : List ℕ) × (text ≡ codes "SAFE " ++ decimal n ++ codes "\n" ++ rest)
unfolding judged_text
safe_line site pictures n safe text is =
    let same : is.judged.verdict ≡ verdict.Safe n =
    one_verdict site.rules (replicate (groups_in site.plan) Red ∷ pictures) is.judged.verdict (verdict.Safe n) is.judged.verdict_is safe in
    let rest : List ℕ = inters_text site.plan 0 is.judged.ends in
    (rest, is.text_is ∙ ap (λ v. verdict_text site.plan.names v ++ codes "\n" ++ rest) same)

says_by : (log : List ℕ) (site s : Site) (pictures ps : List Picture) (o : Option (ℕ × LogWhy)) (n : ℕ) →
    IsVerdict site.rules (replicate (groups_in site.plan) Red ∷ pictures) (verdict.Safe n) → s ≡ site → ps ≡ pictures → o ≡ None →
    SaysSafe (audit_answer log s ps o) n
says_by log site s pictures ps None n safe here are none = record {
  done = refl;
  line = λ text is. safe_line site pictures n safe text (subst (λ x. IsAudit site x text) are (subst (λ x. IsAudit x ps text) here is));
}
says_by log site s pictures ps (Some at) n safe here are none = cc

audit_by : (log : List ℕ) (words : SiteWords) (audited : Contents) (playing : Playing) (frames : List Counts) (o : Result Site Unloaded)
    (r : Result Logged Unloaded) →
    IsJudgedSafe playing frames (audited log) → o ≡ Ok playing.site → LogAfterSite o (audited log) r →
    SaysSafe (answer_to (Audit log words) audited r) (length frames)
audit_by log words audited playing frames o r judged site is =
    let loads : LogAfterSite (Ok playing.site) (audited log) r = subst (λ x. LogAfterSite x (audited log) r) site is in
    let logged : Logged = loads.0 in
    let one = one_pictures AtOne playing.site.plan.names (audited log) logged.pictures (record_pictures (records_of playing frames)) logged.refusal None
    loads.1.1 judged.is_log in
    subst (λ x. SaysSafe (answer_to (Audit log words) audited x) (length frames)) (sym loads.2)
    (says_by log playing.site logged.site (record_pictures (records_of playing frames)) logged.pictures logged.refusal (length frames) judged.is_safe
    loads.1.0 one.0 one.1)

pub audits_say_safe : AuditsSaySafe
audits_say_safe source words detectors log file audited end came meets p t i r loads =
    let written = written_logs_are_judged_safe source words detectors file end (Some []) (Some (audited log)) came meets in
    let playing : Playing = written.0 in
    let frames : List Counts = (stream_of (file detectors)).frames in
    let judged : IsJudgedSafe playing frames (audited log) =
    subst (IsJudgedSafe playing frames) (sym (known_text (audited log) written.2.0 written.2.1)) written.2.2 in
    let site : site_of words audited ≡ Ok playing.site =
    site_alike words audited file p t i ∙ loaded_site source (file (word_of source)) playing (site_of words file) written.1 in
    audit_by log words audited playing frames (site_of words audited) r judged site loads
