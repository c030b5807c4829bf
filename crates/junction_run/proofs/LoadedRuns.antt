-- Every run of what the files give is guarded.
use Rattle.std.proofs.Common.{◌≡◌, ◌∙◌, ℕ, zero, suc, Bool, true, false, List, [], ◌∷◌, length, take, Option, None, Some, Result, Ok, Err, refl, sym, ap, subst, arith, inl, inr}
use Rattle.std.proofs.lemmas.List.{take_all}
use Rattle.std.specs.Io.KnownBytes.{append_known}
use Rattle.sig_io.specs.Draft.{IsCut}
use Rattle.det_stream.specs.Stream.{stream_of}
use Rattle.std.specs.Prelude.{if◌then◌else◌, drop}
use Rattle.sig_io.specs.Outside.{Contents}
use Rattle.sig_types.specs.Rules.{IsTwoWay}
use Rattle.pua_model.specs.Plan.{PlanOf, groups_in}
use Rattle.sig_tables.specs.declared.refusal.TableWhy.{TableWhy}
use Rattle.sig_tables.specs.declared.times.TimesRow.{TimesRow}
use Rattle.sig_tables.specs.Records.{table_rows}
use Rattle.sig_tables.specs.TimesTable.{times_of}
use Rattle.sig_tables.specs.IntergreenTable.{intergreens_refusal, intergreen_of}
use Rattle.sig_tables.specs.SiteRules.{rules_by}
use Rattle.sig_tables.proofs.TimesRead.{times_counted}
use Rattle.sig_types.specs.Counts.{Counts}
use Rattle.controller.specs.Guarded.{IsGuardedRun}
use Rattle.controller.specs.Past.{Site}
use Rattle.controller.proofs.Guarded.{runs_are_guarded}
use Rattle.junction_run.specs.Form.{SiteWords, Source, ProgramFile, CodeFile, word_of, Play, Compile, Sample, Audit}
use Rattle.junction_run.specs.declared.status.Status.{Status}
use Rattle.junction_run.specs.declared.status.Status.TheVariants as status
use Rattle.junction_run.specs.Answer.{answer_to, Gains, IsAnswered, IsBroken, Meets}
use Rattle.junction_run.specs.Guarded.{IsGuardedLogOf, unwritten_of, written_of}
use Rattle.junction_run.specs.Laws.{LoadedRunsAreGuarded, WritesOfTheFilesAreGuarded}
use Rattle.junction_run.specs.Records.{log_of}
use Rattle.junction_run.proofs.Ends.{append_known-nil}
use Rattle.junction_run.specs.Loading.{
  Unloaded,
  Refusal,
  TooLong,
  Refused,
  unless_refused,
  judged,
  table_refusal,
  plan_at,
  times_at,
  intergreens_at,
  site_of,
  ◌>>=◌,
  Playing,
  Value,
  IsSource,
  LoadsSource,
  played_at,
  map_ok,
  AfterSite,
}
use Rattle.junction_run.proofs.Tables.{accepted_lists_well}

-- a step that gives a value had one to work on
pub record Steps {A B : Type 0} (r : Result A Unloaded) (f : A → Result B Unloaded) (y : B) : Type 0 where
  pub value : A
  pub first : r ≡ Ok value
  pub rest : f value ≡ Ok y

pub steps : {A B : Type 0} (r : Result A Unloaded) (f : A → Result B Unloaded) (y : B) → (r >>= f) ≡ Ok y → Steps r f y
steps (Ok x) f y is = record { value = x; first = refl; rest = is }
steps (Err u) f y is = cc

-- a text that gives a value is not refused, and the value is its own
judged_case : {A : Type 0} (word : List ℕ) (long : Bool) (refusal : Option Refusal) (value x : A) →
    (if long then Err (TooLong word) else unless_refused word refusal value) ≡ Ok x → (refusal ≡ None) × (value ≡ x)
judged_case word true refusal value x is = cc
judged_case word false None value x is = (refl, cc)
judged_case word false (Some at) value x is = cc

pub judged_right : {A : Type 0} (word bytes : List ℕ) (refusal : Option Refusal) (value x : A) → judged word bytes refusal value ≡ Ok x →
    (refusal ≡ None) × (value ≡ x)
judged_right word bytes refusal value x is = judged_case word _ refusal value x is

not_refused : (plan : PlanOf) (o : Option (ℕ × TableWhy)) → table_refusal plan o ≡ None → o ≡ None
not_refused plan None is = refl
not_refused plan (Some at) is = cc

counted : (plan : PlanOf) (text : List ℕ) → length (times_of plan text) ≡ groups_in plan
unfolding times_of
counted plan text = times_counted plan (drop 1 (table_rows text)) (groups_in plan)

abbrev ok_site : Site → Result Site Unloaded
ok_site site = Ok site

-- what the guard asks of a site
pub record IsSound (site : Site) : Type 0 where
  pub two : IsTwoWay site.rules
  pub count : site.rules.count ≡ groups_in site.plan

-- the site of a plan and of two texts, of which the second was accepted
sound_by : (plan : PlanOf) (times intergreens : List ℕ) → intergreens_refusal plan intergreens ≡ None →
    IsSound (record { plan = plan; rules = rules_by (times_of plan times) (intergreen_of plan intergreens) })
sound_by plan times intergreens right =
    let well = accepted_lists_well plan intergreens right in
    record { two = record { both = λ i g z lt lt' is. well.both i g z is; other = λ g lt. well.other g }; count = counted plan times }

-- the site that was read from them
sound_at : (plan : PlanOf) (times intergreens : List ℕ) (rows : List TimesRow) (between : ℕ → ℕ → Option ℕ) (site : Site) →
    intergreens_refusal plan intergreens ≡ None →
    times_of plan times ≡ rows → intergreen_of plan intergreens ≡ between →
    ok_site (record { plan = plan; rules = rules_by rows between }) ≡ ok_site site → IsSound site
sound_at plan times intergreens rows between site right rows_are between_is is =
    let read : IsSound (record { plan = plan; rules = rules_by rows between }) =
    subst (λ f. IsSound (record { plan = plan; rules = rules_by rows f })) between_is
    (subst (λ l. IsSound (record { plan = plan; rules = rules_by l (intergreen_of plan intergreens) })) rows_are (sound_by plan times intergreens right)) in
    subst IsSound (ap (site_or site) is) read
  where
    site_or : Site → Result Site Unloaded → Site
    site_or a (Ok x) = x
    site_or a (Err u) = a

pub site_sound : (words : SiteWords) (file : Contents) (site : Site) → site_of words file ≡ Ok site → IsSound site
site_sound words file site is =
    let one = steps (plan_at file words.plan)
    (λ plan. times_at file words.times plan >>= λ times. intergreens_at file words.intergreens plan >>= λ between. Ok
    (record { plan = plan; rules = rules_by times between })) site is in
    let plan : PlanOf = one.value in
    let two = steps (times_at file words.times plan)
    (λ times. intergreens_at file words.intergreens plan >>= λ between. Ok (record { plan = plan; rules = rules_by times between })) site one.rest in
    let three = steps (intergreens_at file words.intergreens plan) (λ between. Ok (record { plan = plan; rules = rules_by two.value between })) site two.rest in
    let times = judged_right words.times (file words.times) _ (times_of plan (file words.times)) two.value two.first in
    let between = judged_right words.intergreens (file words.intergreens) _ (intergreen_of plan (file words.intergreens)) three.value three.first in
    sound_at plan (file words.times) (file words.intergreens) two.value three.value site
    (not_refused plan (intergreens_refusal plan (file words.intergreens)) between.0) times.1 between.1 three.rest

-- what is loaded after a site plays there
pub at_site : {V : Type 0} (at : Site → V → Playing) → ((site : Site) (v : V) → (at site v).site ≡ site) →
    (site : Site) (v : Result V Unloaded) (playing : Playing) →
    Ok playing ≡ map_ok (at site) v → site ≡ playing.site
at_site at there site (Ok v) playing is =
    let same : playing.site ≡ (at site v).site = ap site_in is in
    sym (same ∙ there site v)
  where
    site_in : Result Playing Unloaded → Site
    site_in (Ok p) = p.site
    site_in (Err u) = site
at_site at there site (Err u) playing is = cc

loaded_sound : {V : Type 0} (at : Site → V → Playing) → ((site : Site) (v : V) → (at site v).site ≡ site) →
    (r : Result Site Unloaded) (Judged : Result V Unloaded → Type 0)
    (playing : Playing) → ((site : Site) → r ≡ Ok site → IsSound site) → AfterSite at r Judged (Ok playing) → IsSound playing.site
loaded_sound at there (Err u) Judged playing sound loads = absurd (let e : Ok playing ≡ Err u = loads in cc)
loaded_sound at there (Ok site) Judged playing sound loads = subst IsSound (at_site at there site loads.0 playing loads.2) (sound site refl)

guarded : (playing : Playing) (frames : List Counts) → IsSound playing.site → IsGuardedRun playing.logic playing.site playing.store frames
guarded playing frames sound = runs_are_guarded playing.logic playing.site playing.store frames sound.two sound.count

-- it is played at the site that was loaded
pub there : (source : Source) (site : Site) (value : Value source) → (played_at source site value).site ≡ site
there (ProgramFile word) site program = refl
there (CodeFile word) site code = refl

pub source_guarded : (source : Source) (words : SiteWords) (file : Contents) (playing : Playing) (frames : List Counts) →
    LoadsSource source words file (Ok playing) →
    IsGuardedRun playing.logic playing.site playing.store frames
source_guarded source words file playing frames loads =
    guarded playing frames
    (loaded_sound (played_at source) (there source) (site_of words file) (IsSource source (file (word_of source))) playing (site_sound words file) loads)

pub loaded_runs_are_guarded : LoadedRunsAreGuarded
loaded_runs_are_guarded (Play source words detectors) file playing frames loads = source_guarded source words file playing frames loads
loaded_runs_are_guarded (Compile program) file tree frames loads = tt
loaded_runs_are_guarded (Sample program words seed seconds) file playing frames loads = source_guarded (ProgramFile program) words file playing frames loads
loaded_runs_are_guarded (Audit log words) file logged frames loads = tt

-- a front of no text is none
take_nil : (n : ℕ) (text : List ℕ) → text ≡ [] → take n text ≡ []
take_nil zero [] is = refl
take_nil (suc n) [] is = refl
take_nil n (x ∷ xs) is = cc

-- a text of the log that was written, whole or to a front
all_of : (text : List ℕ) → take (length text) text ≡ text
all_of text = take_all (length text) text (omega arith)

module _ (source : Source) (words : SiteWords) (detectors : List ℕ) (file : Contents) (old new : Option (List ℕ)) where
  abbrev Safe : Type 0
  Safe = IsGuardedLogOf (λ playing. LoadsSource source words file (Ok playing)) old new

  gained_front : (playing : Playing) (frames : List Counts) (n : ℕ) → LoadsSource source words file (Ok playing) →
      new ≡ append_known old (take n (log_of playing frames)) → Safe
  gained_front playing frames n loads gained = written_of playing frames n loads (source_guarded source words file playing frames loads) gained

  gained_all : (playing : Playing) (frames : List Counts) (text : List ℕ) → LoadsSource source words file (Ok playing) → text ≡ log_of playing frames →
      new ≡ append_known old text → Safe
  gained_all playing frames text loads is gained =
      gained_front playing frames (length (log_of playing frames)) loads (gained ∙ ap (λ t. append_known old t) (is ∙ sym (all_of (log_of playing frames))))

  gained_none : (text : List ℕ) → text ≡ [] → new ≡ append_known old text → Safe
  gained_none text is gained = unwritten_of (gained ∙ ap (λ t. append_known old t) is ∙ append_known-nil old)

  gained_by : (r : Result Playing Unloaded) (k : ℕ) → LoadsSource source words file r → Gains (answer_to (Play source words detectors) file r) k old new → Safe
  gained_by (Ok playing) zero loads gains = gained_none gains.0 gains.1 gains.2
  gained_by (Ok playing) (suc k) loads gains = gained_all playing (take k (stream_of (file detectors)).frames) gains.0 loads gains.1 gains.2
  gained_by (Err (TooLong w)) zero loads gains = gained_none gains.0 gains.1 gains.2
  gained_by (Err (TooLong w)) (suc k) loads gains = gained_none gains.0 gains.1 gains.2
  gained_by (Err (Refused w line reason)) zero loads gains = gained_none gains.0 gains.1 gains.2
  gained_by (Err (Refused w line reason)) (suc k) loads gains = gained_none gains.0 gains.1 gains.2

  answered_safe : (status : Status) → IsAnswered (λ r. LoadsSource source words file r) (answer_to (Play source words detectors) file) status old new → Safe
  answered_safe status is = gained_by is.0 (answer_to (Play source words detectors) file is.0).pieces is.1 is.3

  broken_safe : IsBroken (λ r. LoadsSource source words file r) (answer_to (Play source words detectors) file) old new → Safe
  broken_safe (inl same) = unwritten_of same
  broken_safe (inr (r, loads, k, few, gains)) = gained_by r k loads gains

  cut_by : (r : Result Playing Unloaded) (text : List ℕ) (n : ℕ) → LoadsSource source words file r → (answer_to (Play source words detectors) file r).Cut text →
      IsCut old new n text → Safe
  cut_by (Ok playing) text n loads is cut =
      gained_front playing (take (length (stream_of (file detectors)).frames) (stream_of (file detectors)).frames) n loads
      (cut.taken ∙ ap (λ t. append_known old (take n t)) is)
  cut_by (Err (TooLong w)) text n loads is cut = gained_none (take n text) (take_nil n text is) cut.taken
  cut_by (Err (Refused w line reason)) text n loads is cut = gained_none (take n text) (take_nil n text is) cut.taken

  play_safe : (status : Status) → Meets (Play source words detectors) file status old new → Safe
  play_safe status.Done is = answered_safe status.Done is
  play_safe status.Memory is = unwritten_of is
  play_safe status.Words is = absurd is
  play_safe status.ReadFault is = broken_safe is
  play_safe status.WriteFault is = cut_by is.0 is.2 is.4 is.1 is.3 is.5
  play_safe status.RefusedFile is = answered_safe status.RefusedFile is
  play_safe status.RefusedLine is = answered_safe status.RefusedLine is
  play_safe status.TooLong is = answered_safe status.TooLong is

pub writes_of_the_files_are_guarded : WritesOfTheFilesAreGuarded
writes_of_the_files_are_guarded (Play source words detectors) file status old new is = play_safe source words detectors file old new status is
writes_of_the_files_are_guarded (Compile program) file status old new is = tt
writes_of_the_files_are_guarded (Sample program words seed seconds) file status old new is = tt
writes_of_the_files_are_guarded (Audit log words) file status old new is = tt
