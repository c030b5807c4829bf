-- What follows from the definitions of an answer to several junctions.
use Rattle.std.proofs.Common.{◌≡◌, ◌∙◌, ◌≤◌, ℕ, Bool, true, false, List, [], ◌∷◌, ◌++◌, length, take, Option, None, Some, Result, Ok, Err, refl, sym, ap, subst, arith, inl, inr, nat_lt, if◌then◌else◌}
use Rattle.std.proofs.lemmas.Bool.{le-ltb, ltb-false, ltb-true}
use Rattle.std.specs.List.{AllByRecursion}
use Rattle.sig_io.specs.Outside.{Contents}
use Rattle.det_stream.specs.declared.refusal.StreamWhy.{StreamWhy}
use Rattle.det_stream.specs.Stream.{stream_of}
use Rattle.pua_reader.specs.Accepted.{refusal_of, plan_of_text}
use Rattle.sig_tables.specs.TimesTable.{times_refusal, times_of}
use Rattle.sig_tables.specs.IntergreenTable.{intergreens_refusal, intergreen_of}
use Rattle.sig_tables.specs.SiteRules.{rules_by}
use Rattle.controller.specs.Past.{Site}
use Rattle.vap_ast.specs.Syntax.{Program}
use Rattle.junction_run.specs.declared.status.Status.{Status}
use Rattle.junction_run.specs.declared.status.Status.TheVariants.{Done, Memory, Words, ReadFault, WriteFault, RefusedFile, RefusedLine}
use Rattle.junction_run.specs.declared.status.Status.TheVariants as status
use Rattle.junction_run.specs.Answer.{answered, answer_to, GainedBy, IsAnswered, stream_status, stream_note, unloaded_answer}
use Rattle.junction_run.specs.Form.{SiteWords, ProgramFile}
use Rattle.junction_run.specs.Laws.{LoadsOnce, ProgramsHaveOneAnswer}
use Rattle.junction_run.specs.Loading.{Unloaded, TooLong, Refused, Refusal, Playing, Loads, judged, unless_refused, text_limit, ◌>>=◌, site_of, plan_at, times_at, intergreens_at, plan_refusal, table_refusal, IsJudged, long, refused, accepted, SourceIs, AfterSite, played_at, IsSource, map_ok}
use Rattle.junction_run.specs.Programs.{ProgramIs}
use Rattle.junction_run.specs.Records.{log_of}
use Rattle.junction_net.specs.Jobs.{IsEnd}
use Rattle.junction_net.specs.Laws.{GivesOnce, GivesAlways, EndsAlways, IsComplete, loaded_status}
use Rattle.junction_net.specs.List.{JobWords}
use Rattle.junction_net.specs.Load.{Wanted, detectors_limit, files_of_job, files_of_jobs, first_long}
use Rattle.junction_net.specs.Net.{list_at, measured, unless_long, jobs_at, ResultsOf, GivesResults, net_answer}
use Rattle.junction_net.specs.Results.{JobResult, IsResult, AreResults, run_of, site_words}

-- ---- once

same_result : (a b : JobResult) → a.status ≡ b.status → a.log ≡ b.log → a.note ≡ b.note → a ≡ b
same_result a b p q t = λ j. record { status = p j; log = q j; note = t j }

log_once : (job : JobWords) (file : Contents) (r : Result Playing Unloaded) (a b : List ℕ) →
    GainedBy (answer_to (run_of job) file r).Gained (answer_to (run_of job) file r).pieces a →
    GainedBy (answer_to (run_of job) file r).Gained (answer_to (run_of job) file r).pieces b → a ≡ b
log_once job file (Ok playing) a b is also = is ∙ sym also
log_once job file (Err (TooLong word)) a b is also = is ∙ sym also
log_once job file (Err (Refused word line reason)) a b is also = is ∙ sym also

result_once : LoadsOnce → (job : JobWords) (file : Contents) (a b : JobResult) → IsResult (run_of job) file a → IsResult (run_of job) file b → a ≡ b
result_once once job file a b is also =
    let same : is.given ≡ also.given = once (run_of job) file is.given also.given is.gives also.gives in
    same_result a b (sym is.status ∙ ap (λ r. (answer_to (run_of job) file r).status) same ∙ also.status)
    (log_once job file also.given a.log b.log
    (subst (λ r. GainedBy (answer_to (run_of job) file r).Gained (answer_to (run_of job) file r).pieces a.log) same is.log) also.log)
    (is.note ∙ ap (λ r. (answer_to (run_of job) file r).note) same ∙ sym also.note)

cons_same : (a b : JobResult) (rs ss : List JobResult) → a ≡ b → rs ≡ ss → a ∷ rs ≡ b ∷ ss
cons_same a b rs ss p q = λ j. p j ∷ q j

results_once : LoadsOnce → (file : Contents) (jobs : List JobWords) (rs ss : List JobResult) → AreResults file jobs rs → AreResults file jobs ss → rs ≡ ss
results_once once file [] [] [] are also = refl
results_once once file [] [] (s ∷ ss) are also = absurd also
results_once once file [] (r ∷ rs) ss are also = absurd are
results_once once file (job ∷ jobs) [] ss are also = absurd are
results_once once file (job ∷ jobs) (r ∷ rs) [] are also = absurd also
results_once once file (job ∷ jobs) (r ∷ rs) (s ∷ ss) are also =
    cons_same r s rs ss (result_once once job file r s are.0 also.0) (results_once once file jobs rs ss are.1 also.1)

ok_is : (a b : List JobWords) (r : Result (List JobWords) Unloaded) → r ≡ Ok a → r ≡ Ok b → a ≡ b
ok_is a b r p q = (let same : Ok a ≡ Ok b = sym p ∙ q in cc)

ok_or_err : (a : List JobWords) (u : Unloaded) (r : Result (List JobWords) Unloaded) → r ≡ Ok a → r ≡ Err u → ⊥
ok_or_err a u r p q = (let same : Ok a ≡ Err u = sym p ∙ q in cc)

err_is : (u v : Unloaded) (r : Result (List JobWords) Unloaded) → r ≡ Err u → r ≡ Err v → u ≡ v
err_is u v r p q = (let same : Err u ≡ Err v = sym p ∙ q in cc)

of_once : LoadsOnce → (file : Contents) (loaded : Result (List JobWords) Unloaded) (r s : Result (List JobResult) Unloaded) → ResultsOf file loaded r
    → ResultsOf file loaded s → r ≡ s
of_once once file loaded (Ok rs) (Ok ss) is also =
    let same = ok_is is.0 also.0 loaded is.1 also.1 in
    ap Ok (results_once once file also.0 rs ss (subst (λ jobs. AreResults file jobs rs) same is.2) also.2)
of_once once file loaded (Ok rs) (Err u) is also = absurd (ok_or_err is.0 u loaded is.1 also)
of_once once file loaded (Err u) (Ok ss) is also = absurd (ok_or_err also.0 u loaded also.1 is)
of_once once file loaded (Err u) (Err v) is also = ap Err (err_is u v loaded is also)

pub gives_once : LoadsOnce → GivesOnce
gives_once once word file r s is also = of_once once file (jobs_at file word) r s is also

-- ---- complete

given_status : (word : List ℕ) (file : Contents) (r : Result (List JobResult) Unloaded) → GivesResults word file r →
    (answered net_answer r).status ≡ loaded_status (jobs_at file word)
given_status word file (Ok rs) gives = ap loaded_status (sym gives.1)
given_status word file (Err u) gives = ap loaded_status (sym gives)

answered_status : (word : List ℕ) (file : Contents) (s : Status) (old new : Option (List ℕ)) →
    IsAnswered (GivesResults word file) (answered net_answer) s old new →
    s ≡ loaded_status (jobs_at file word)
answered_status word file s old new is = sym is.2 ∙ given_status word file is.0 is.1

pub complete : IsComplete
complete word file files out notes Done told reads writes answer = inl (answered_status word file Done out.old out.new (answer.answer file told))
complete word file files out notes Memory told reads writes answer = inr refl
complete word file files out notes Words told reads writes answer = absurd (answer.not_words refl)
complete word file files out notes ReadFault told reads writes answer = absurd (reads (answer.read_fault refl))
complete word file files out notes WriteFault told reads writes answer = absurd (writes (answer.write_fault refl))
complete word file files out notes RefusedFile told reads writes answer = inl (answered_status word file RefusedFile out.old out.new (answer.answer file told))
complete word file files out notes RefusedLine told reads writes answer = absurd (answer.not_line refl)
complete word file files out notes status.TooLong told reads writes answer =
    inl (answered_status word file status.TooLong out.old out.new (answer.answer file told))

-- ---- no file is too long

fits : {A : Type 0} (word bytes : List ℕ) (refusal : Option Refusal) (value : A) → length bytes ≤ text_limit →
    judged word bytes refusal value ≡ unless_refused word refusal value
fits word bytes refusal value short = rw (le-ltb text_limit (length bytes) short) refl

unless_never : {A : Type 0} (word w : List ℕ) (refusal : Option Refusal) (value : A) → unless_refused word refusal value ≡ Err (TooLong w) → ⊥
unless_never word w None value e = absurd (cc)
unless_never word w (Some at) value e = absurd (cc)

judged_short : {A : Type 0} (word bytes w : List ℕ) (refusal : Option Refusal) (value : A) → length bytes ≤ text_limit →
    judged word bytes refusal value ≡ Err (TooLong w) → ⊥
judged_short word bytes w refusal value short e = unless_never word w refusal value (sym (fits word bytes refusal value short) ∙ e)

unloaded_is : {A : Type 0} (u v : Unloaded) → ◌≡◌ {A = Result A Unloaded} (Err u) (Err v) → u ≡ v
unloaded_is u v e = cc

bind_short : {A B : Type 0} (r : Result A Unloaded) (f : A → Result B Unloaded) (w : List ℕ) → (r ≡ Err (TooLong w) → ⊥) →
    ((x : A) → f x ≡ Err (TooLong w) → ⊥) →
    (r >>= f) ≡ Err (TooLong w) → ⊥
bind_short (Ok x) f w never later e = later x e
bind_short (Err u) f w never later e = never (ap Err (unloaded_is u (TooLong w) e))

never_long : (site : Site) (w : List ℕ) → ◌≡◌ {A = Result Site Unloaded} (Ok site) (Err (TooLong w)) → ⊥
never_long site w e = absurd (cc)

site_short : (words : SiteWords) (file : Contents) (w : List ℕ) → length (file words.plan) ≤ text_limit → length (file words.times) ≤ text_limit →
    length (file words.intergreens) ≤ text_limit → site_of words file ≡ Err (TooLong w) → ⊥
site_short words file w p t g =
    bind_short (plan_at file words.plan) _ w
    (judged_short words.plan (file words.plan) w (plan_refusal (refusal_of (file words.plan))) (plan_of_text (file words.plan)) p)
    (λ plan. bind_short (times_at file words.times plan) _ w
    (judged_short words.times (file words.times) w (table_refusal plan (times_refusal plan (file words.times))) (times_of plan (file words.times)) t)
    (λ times. bind_short (intergreens_at file words.intergreens plan) _ w
    (judged_short words.intergreens (file words.intergreens) w (table_refusal plan (intergreens_refusal plan (file words.intergreens)))
    (intergreen_of plan (file words.intergreens)) g)
    (λ between e. never_long (record { plan = plan; rules = rules_by times between }) w e)))

judged_no_long : (program bytes w : List ℕ) (v : Result Program Unloaded) → v ≡ Err (TooLong w) → length bytes ≤ text_limit →
    IsJudged (SourceIs (ProgramFile program)) text_limit program bytes v → ⊥
judged_no_long program bytes w v e short (long more) = omega (arith, short, more)
judged_no_long program bytes w v e short (refused line reason at_most is) = absurd (cc)
judged_no_long program bytes w v e short (accepted value at_most is) = absurd (cc)

ok_no_long : (playing : Playing) (w : List ℕ) → ◌≡◌ {A = Result Playing Unloaded} (Err (TooLong w)) (Ok playing) → ⊥
ok_no_long playing w e = absurd (cc)

after_short : (program bytes : List ℕ) (site : Result Site Unloaded) (w : List ℕ) → (site ≡ Err (TooLong w) → ⊥) → length bytes ≤ text_limit →
    AfterSite (played_at (ProgramFile program)) site (IsSource (ProgramFile program) bytes) (Err (TooLong w)) → ⊥
after_short program bytes (Err u) w never short e = never (ap Err (sym (unloaded_is (TooLong w) u e)))
after_short program bytes (Ok site) w never short (Ok v, is, e) = ok_no_long (played_at (ProgramFile program) site v) w e
after_short program bytes (Ok site) w never short (Err u, is, e) =
    judged_no_long program bytes w (Err u) (ap Err (sym (unloaded_is (TooLong w) u e))) short is

-- ---- each run ends

short_step : (name : List ℕ) (b : Bool) (o : Option (List ℕ)) → (if b then Some name else o) ≡ None → (b ≡ false) × (o ≡ None)
short_step name true o e = absurd (cc)
short_step name false o e = (refl, e)

-- the first file is within its limit, and so are the others
short_first : (file : Contents) (name : List ℕ) (limit : ℕ) (rest : List Wanted) → first_long file ((name, limit) ∷ rest) ≡ None →
    (length (file name) ≤ limit) × (first_long file rest ≡ None)
short_first file name limit rest e =
    let both = short_step name (nat_lt limit (length (file name))) (first_long file rest) e in (ltb-false limit (length (file name)) both.0, both.1)

stream_ends : (o : Option (ℕ × StreamWhy)) (s : Status) → stream_status o ≡ s → IsEnd s
stream_ends None s e = subst IsEnd e tt
stream_ends (Some at) s e = subst IsEnd e tt

-- a junction whose files are within their limits
record IsShort (file : Contents) (job : JobWords) (rest : List Wanted) : Type 0 where
  pub plan : length (file job.plan) ≤ text_limit
  pub times : length (file job.times) ≤ text_limit
  pub intergreens : length (file job.intergreens) ≤ text_limit
  pub program : length (file job.program) ≤ text_limit
  pub others : first_long file rest ≡ None

short_job : (file : Contents) (job : JobWords) (rest : List Wanted) → first_long file (files_of_job job ++ rest) ≡ None → IsShort file job rest
short_job file job rest e =
    let p = short_first file job.plan text_limit
    ((job.times, text_limit) ∷ (job.intergreens, text_limit) ∷ (job.program, text_limit) ∷ (job.detectors, detectors_limit) ∷ rest) e in
    let t = short_first file job.times text_limit ((job.intergreens, text_limit) ∷ (job.program, text_limit) ∷ (job.detectors, detectors_limit) ∷ rest) p.1 in
    let i = short_first file job.intergreens text_limit ((job.program, text_limit) ∷ (job.detectors, detectors_limit) ∷ rest) t.1 in
    let g = short_first file job.program text_limit ((job.detectors, detectors_limit) ∷ rest) i.1 in
    let d = short_first file job.detectors detectors_limit rest g.1 in
    record { plan = p.0; times = t.0; intergreens = i.0; program = g.0; others = d.1 }

given_ends : (file : Contents) (job : JobWords) (rest : List Wanted) (given : Result Playing Unloaded) (s : Status) → IsShort file job rest →
    Loads (run_of job) file given →
    (answer_to (run_of job) file given).status ≡ s → IsEnd s
given_ends file job rest (Ok playing) s short gives e = stream_ends (stream_of (file job.detectors)).refusal s e
given_ends file job rest (Err (TooLong w)) s short gives e =
    absurd (after_short job.program (file job.program) (site_of (site_words job) file) w
    (site_short (site_words job) file w short.plan short.times short.intergreens) short.program gives)
given_ends file job rest (Err (Refused w line reason)) s short gives e = subst IsEnd e tt

all_end : (file : Contents) (jobs : List JobWords) (rs : List JobResult) → first_long file (files_of_jobs jobs) ≡ None → AreResults file jobs rs →
    AllByRecursion (λ r. IsEnd r.status) rs
all_end file [] [] short are = tt
all_end file [] (r ∷ rs) short are = absurd are
all_end file (job ∷ jobs) [] short are = absurd are
all_end file (job ∷ jobs) (r ∷ rs) short are =
    let of = short_job file job (files_of_jobs jobs) short in
    (given_ends file job (files_of_jobs jobs) are.0.given r.status of are.0.gives are.0.status, all_end file jobs rs of.others are.1)

long_none : (list jobs : List JobWords) (o : Option (List ℕ)) → unless_long list o ≡ Ok jobs → (list ≡ jobs) × (o ≡ None)
long_none list jobs None e = (cc, refl)
long_none list jobs (Some w) e = absurd (cc)

bind_ok : (file : Contents) (r : Result (List JobWords) Unloaded) (jobs : List JobWords) → (r >>= measured file) ≡ Ok jobs →
    first_long file (files_of_jobs jobs) ≡ None
bind_ok file (Ok list) jobs e =
    let both = long_none list jobs (first_long file (files_of_jobs list)) e in subst (λ l. first_long file (files_of_jobs l) ≡ None) both.0 both.1
bind_ok file (Err u) jobs e = absurd (cc)

pub ends_always : EndsAlways
ends_always word file rs gives = all_end file gives.0 rs (bind_ok file (list_at file word) gives.0 gives.1) gives.2

-- ---- always

of_program : (program bytes : List ℕ) (r : Result Program Refusal) → length bytes ≤ text_limit → ProgramIs bytes r →
    (v : Result Program Unloaded) × IsJudged (SourceIs (ProgramFile program)) text_limit program bytes v
of_program program bytes (Ok value) short is = (Ok value, accepted value short is)
of_program program bytes (Err at) short is = (Err (Refused program at.0 at.1), refused at.0 at.1 short is)

judged_some : ProgramsHaveOneAnswer → (program bytes : List ℕ) (b : Bool) → nat_lt text_limit (length bytes) ≡ b →
    (v : Result Program Unloaded) × IsJudged (SourceIs (ProgramFile program)) text_limit program bytes v
judged_some answers program bytes true e = (Err (TooLong program), long (ltb-true text_limit (length bytes) e))
judged_some answers program bytes false e = let is = answers bytes in of_program program bytes is.0 (ltb-false text_limit (length bytes) e) is.1

loads_some : ProgramsHaveOneAnswer → (job : JobWords) (file : Contents) (site : Result Site Unloaded) →
    (r : Result Playing Unloaded) × AfterSite (played_at (ProgramFile job.program)) site (IsSource (ProgramFile job.program) (file job.program)) r
loads_some answers job file (Err u) = (Err u, refl)
loads_some answers job file (Ok site) =
    let v = judged_some answers job.program (file job.program) (nat_lt text_limit (length (file job.program))) refl in
    (map_ok (played_at (ProgramFile job.program) site) v.0, (v.0, v.1, refl))

-- what is given has an answer
result_of_given : (job : JobWords) (file : Contents) (given : Result Playing Unloaded) → Loads (run_of job) file given → (r : JobResult)
    × IsResult (run_of job) file r
result_of_given job file (Ok playing) gives =
    let stream = stream_of (file job.detectors) in (
      record {
        status = stream_status stream.refusal;
        log = log_of playing (take (length stream.frames) stream.frames);
        note = stream_note job.detectors stream.refusal;
      },
      record { given = Ok playing; gives = gives; status = refl; log = refl; note = refl },
    )
result_of_given job file (Err (TooLong word)) gives = (
  record { status = status.TooLong; log = []; note = (unloaded_answer (TooLong word)).note },
  record { given = Err (TooLong word); gives = gives; status = refl; log = refl; note = refl },
)
result_of_given job file (Err (Refused word line reason)) gives = (
  record { status = RefusedFile; log = []; note = (unloaded_answer (Refused word line reason)).note },
  record { given = Err (Refused word line reason); gives = gives; status = refl; log = refl; note = refl },
)

some_results : ProgramsHaveOneAnswer → (file : Contents) (jobs : List JobWords) → (rs : List JobResult) × AreResults file jobs rs
some_results answers file [] = ([], tt)
some_results answers file (job ∷ jobs) =
    let loaded = loads_some answers job file (site_of (site_words job) file) in
    let first = result_of_given job file loaded.0 loaded.1 in
    let rest = some_results answers file jobs in
    (first.0 ∷ rest.0, (first.1, rest.1))

of_always : ProgramsHaveOneAnswer → (file : Contents) (loaded : Result (List JobWords) Unloaded) → (r : Result (List JobResult) Unloaded)
    × ResultsOf file loaded r
of_always answers file (Ok jobs) = let is = some_results answers file jobs in (Ok is.0, (jobs, refl, is.1))
of_always answers file (Err u) = (Err u, refl)

pub gives_always : ProgramsHaveOneAnswer → GivesAlways
gives_always answers word file = of_always answers file (jobs_at file word)
