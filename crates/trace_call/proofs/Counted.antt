-- What was counted and written of lines.
use Rattle.std.proofs.Common.{◌≡◌, ◌∙◌, [], ◌∷◌, ◌++◌, ◌<◌, ◌≤◌, ℕ, List, Option, None, Some, Result, Ok, Err, Vec, Global, Bor, inl, inr, append_assoc, map, ap, sym, subst, refl, arith}
use Rattle.std.proofs.lemmas.List.{append-nil}
use Rattle.std.specs.Io.KnownBytes.{append_known}
use Rattle.sig_io.specs.Draft.{IsCut}
use Rattle.std.specs.Prelude.{OnErr}
use Rattle.sig_io.specs.Outside.{Contents, Rose}
use Rattle.sig_types.specs.Counts.{Counts}
use Rattle.sig_types.specs.Pass.{Logic}
use Rattle.vap_ast.specs.Syntax.{Program}
use Rattle.vap_code.specs.declared.Instr.{Instr}
use Rattle.vap_code.specs.Codes.{CodeOf}
use Rattle.vap_code.specs.Sights.{Sight}
use Rattle.vap_code.specs.Stores.{first_store}
use Rattle.controller.specs.declared.controller.Controller.{Controller}
use Rattle.controller.specs.Controls.{code_of, site_of}
use Rattle.controller.specs.Past.{Site, Past, opening}
use Rattle.controller.specs.Second.{past_after_second}
use Rattle.det_stream.specs.Stream.{stream_of}
use Rattle.junction_run.specs.declared.load.Site.{Site as Loaded}
use Rattle.junction_run.specs.declared.stop.PlayStop.{PlayStop}
use Rattle.junction_run.specs.declared.stop.PlayStop.TheVariants as play
use Rattle.junction_run.specs.declared.stop.Stop.{Stop as RunStop}
use Rattle.junction_run.specs.declared.stop.Stop.TheVariants.{Load, Play}
use Rattle.junction_run.specs.declared.stop.LoadStop.TheVariants as load
use Rattle.junction_run.specs.Form.{SiteWords, ProgramFile}
use Rattle.junction_run.specs.Loading as loading
use Rattle.junction_run.specs.Loading.{ReachedInSite, Unloaded, played_at}
use Rattle.junction_run.proofs.Texts.{no_site}
use Rattle.junction_run.specs.Played as run
use Rattle.junction_run.specs.Sites.{site_in}
use Rattle.junction_run.specs.Stop.{IsLoadStop, StopsWith, play_status}
use Rattle.junction_run.specs.declared.status.Status.TheVariants as status
use Rattle.trace_lines.specs.declared.line.Line.{Line}
use Rattle.trace_lines.specs.Lines.{LineOf, line_in, lines_counted}
use Rattle.trace_call.specs.Loaded.{FilesGive, code_for}
use Rattle.run_seconds.specs.declared.play.Stop.{Stop as TellStop}
use Rattle.run_seconds.specs.declared.play.Stop.TheVariants as tell
use Rattle.run_seconds.specs.Told as told
use Rattle.run_seconds.specs.Told.{told_from}
use Rattle.trace_lines.specs.declared.tally.Tally.{Tally}
use Rattle.trace_lines.specs.Seconds.{sights_by}
use Rattle.trace_lines.specs.Tallied.{HasTallied}
use Rattle.trace_call.specs.declared.stop.Stop.{Stop}
use Rattle.trace_call.specs.declared.stop.Stop.TheVariants.{Run}
use Rattle.trace_call.specs.Chosen.{play_stop_of}
use Rattle.trace_call.specs.Form.{LinesWords}
use Rattle.trace_call.specs.Lines.{
  AreAddedRuns,
  AreCountedRuns,
  AreMade,
  AreStopped,
  IsAddedRun,
  IsLines,
  IsMakingStop,
  IsRun,
  IsStoppedRun,
  IsTalliedRun,
  WereCounted,
  counted_of,
  detectors_of,
  lines_text,
  sights_in_runs,
  sights_of,
}
use Rattle.trace_call.specs.Notes.{status_of}
use Rattle.trace_call.specs.Written.{IsWritten}
use Rattle.trace_call.proofs.Ends.{read_no_write, refused_no_write}

-- seconds of which nothing is told
pub told_none : (logic : Logic) (site : Site) (past : Past) (fs : List Counts) → told_from (λ past frame. []) logic site past fs ≡ []
told_none logic site past [] = refl
told_none logic site past (f ∷ fs) = told_none logic site (past_after_second logic site past f) fs

known_none : (start : Option (List ℕ)) → append_known start [] ≡ start
known_none None = refl
known_none (Some bytes) = ap Some (append-nil bytes)

no_cut : {A : Type 0} (old new : Option (List ℕ)) (n : ℕ) → IsCut old new n [] → A
no_cut old new n cut = absurd (let some : n < 0 = cut.some in omega (arith, some))

-- nothing was written where nothing was told
pub none_written : (r : Result (Unit {0}) TellStop) (old new : Option (List ℕ)) → told.IsWritten r [] old new → new ≡ old
none_written (Ok x) old new is = is ∙ known_none old
none_written (Err tell.ReadFault) old new is = is ∙ known_none old
none_written (Err tell.WriteFault) old new is = no_cut old new is.0 is.1
none_written (Err (tell.Refused line why)) old new is = is ∙ known_none old

-- nothing was taken while nothing was told
pub none_taken : (r : Result (Unit {0}) TellStop) (text : List ℕ) (old new : Option (List ℕ)) → text ≡ [] → told.IsWritten r text old new → new ≡ old
none_taken r text old new none is = none_written r old new (subst (λ t. told.IsWritten r t old new) none is)

-- and the sink stopped nothing
pub no_writing : (stop : TellStop) (text : List ℕ) (old new : Option (List ℕ)) (word : Bor (List ℕ)) → text ≡ [] →
    told.IsWritten {A = Unit {0}} (Err stop) text old new → play_status (play_stop_of word stop) ≡ status.WriteFault → ⊥
no_writing tell.ReadFault text old new word none is at = read_no_write at
no_writing tell.WriteFault text old new word none is at =
    let cut = subst (λ t. told.IsWritten {A = Unit {0}} (Err tell.WriteFault) t old new) none is in no_cut old new cut.0 cut.1
no_writing (tell.Refused line why) text old new word none is at = refused_no_write at

-- a stop that is none of the sink
pub makes : (stop : PlayStop) → (play_status stop ≡ status.WriteFault → ⊥) → IsMakingStop stop
makes (play.ReadFault word) none = tt
makes play.WriteFault none = none refl
makes (play.RefusedLine word line reason) none = tt

-- before the first second nothing was tallied
pub tallied_none : (started : Tally) (site : Loaded) (c : Controller) → code_of c ≡ site.code → HasTallied started site.code.instrs [] →
    HasTallied started (code_of c).instrs []
tallied_none started site c code none = subst (λ (k : CodeOf). HasTallied started k.instrs []) (sym code) none

-- nor of the instructions of a site's code
pub tallied_first : (started : Tally) (instrs : List Instr) (code : CodeOf) → instrs ≡ code.instrs → HasTallied started instrs [] →
    HasTallied started code.instrs []
tallied_first started instrs code same none = subst (λ is. HasTallied started is []) same none

-- the seconds of a detector file were tallied at a site
pub tallied_all : (site : Loaded) (name read : List ℕ) (file : Contents) (ended : Tally) (c : Controller) (frames : List Counts) →
    code_of c ≡ site.code → site_of c ≡ site_in site → read ≡ name →
    HasTallied ended (code_of c).instrs (sights_by (code_of c) (site_of c) (opening (site_of c) (first_store site.code)) frames) →
    run.IsPlayed {A = Unit {0}} name (Ok tt) (stream_of (file read)) frames → IsTalliedRun site.code (site_in site) [] name file ended (Ok tt)
tallied_all site name read file ended c frames code at named knows played = (
  frames,
  subst (λ n. run.IsPlayed {A = Unit {0}} name (Ok tt) (stream_of (file n)) frames) named played,
  subst (λ (k : CodeOf). HasTallied ended k.instrs (sights_by k (site_in site) (opening (site_in site) (first_store site.code)) frames)) code
      (subst (λ (s : Site). HasTallied ended (code_of c).instrs (sights_by (code_of c) s (opening s (first_store site.code)) frames)) at knows),
)

-- or not all were made
pub tallied_some : (site : Loaded) (name read : List ℕ) (file : Contents) (ended : Tally) (stop : PlayStop) (frames : List Counts) → read ≡ name →
    (play_status stop ≡ status.WriteFault → ⊥) → run.IsPlayed {A = Unit {0}} name (Err stop) (stream_of (file read)) frames →
    IsTalliedRun site.code (site_in site) [] name file ended (Err (Play stop))
tallied_some site name read file ended stop frames named made played = (
  (frames, subst (λ n. run.IsPlayed {A = Unit {0}} name (Err stop) (stream_of (file n)) frames) named played),
  makes stop made,
)

-- a run that stopped
pub run_stopped : (code : CodeOf) (site : Site) (name : List ℕ) (file : Contents) (ended : Tally) (stop : RunStop) →
    IsTalliedRun code site [] name file ended (Err stop) → IsRun code site name file (Err stop)
run_stopped code site name file ended (Load stop) is = is
run_stopped code site name file ended (Play stop) is = is

-- what a site is read as
same_site : (r : Result Site Unloaded) (a b : Site) → r ≡ Ok a → r ≡ Ok b → a ≡ b
same_site r a b first second = let same : ◌≡◌ {A = Result Site Unloaded} (Ok a) (Ok b) = sym first ∙ second in cc

-- a run of a code at a site is one of the code and the site that are the same
same_run : (code read : CodeOf) (site at : Site) (name : List ℕ) (file : Contents) (r : Result Tally RunStop) → read ≡ code → at ≡ site →
    IsRun read at name file r → IsRun code site name file r
same_run code read site at name file r agrees here is =
    subst (λ (k : CodeOf). IsRun k site name file r) agrees (subst (λ (s : Site). IsRun read s name file r) here is)

-- one run more was tallied
pub run_added : (words : SiteWords) (code read : CodeOf) (site at : Site) (seconds : List (List Sight)) (name : List ℕ) (file : Contents)
    (one then now : Tally) → loading.site_of words file ≡ Ok at → loading.site_of words file ≡ Ok site → read ≡ code →
    IsRun read at name file (Ok one) → HasTallied then code.instrs seconds →
    ((instrs : List Instr) (seconds more : List (List Sight)) → HasTallied then instrs seconds → HasTallied one instrs more →
    HasTallied now instrs (seconds ++ more)) → IsAddedRun words code site seconds name file now (Ok tt)
run_added words code read site at seconds name file one then now given here agrees is tallied add =
    let made = same_run code read site at name file (Ok one) agrees (same_site (loading.site_of words file) at site given here) is in
    (made.0, made.1, add code.instrs seconds (sights_of code site made.0) tallied made.2)

-- or not all of its seconds were made
pub run_not_added : (words : SiteWords) (code read : CodeOf) (site at : Site) (seconds : List (List Sight)) (name : List ℕ) (file : Contents)
    (now : Tally) (stop : RunStop) → IsRun read at name file (Err stop) → IsAddedRun words code site seconds name file now (Err stop)
run_not_added words code read site at seconds name file now (Load stop) is =
    subst (λ s. IsLoadStop (ReachedInSite words file) s (loading.site_of words file)) (sym is) tt
run_not_added words code read site at seconds name file now (Play stop) is = is

-- ---- several runs

-- runs of some detector files were tallied after these seconds, and these files are left
pub record HasAdded (code : CodeOf) (site : Site) (seconds : List (List Sight)) (left all : List (List ℕ)) (file : Contents) (total : Tally) : Type 0 where
  pub done : List (List ℕ)
  pub runs : List (List Counts)
  pub made : AreMade done file runs
  pub then_left : done ++ left ≡ all
  pub tallied : HasTallied total code.instrs (seconds ++ sights_in_runs code site runs)

made-more : (names : List (List ℕ)) (name : List ℕ) (file : Contents) (runs : List (List Counts)) (frames : List Counts) → AreMade names file runs →
    run.IsPlayed {A = Unit {0}} name (Ok tt) (stream_of (file name)) frames → AreMade (names ++ name ∷ []) file (runs ++ frames ∷ [])
made-more [] name file [] frames made one = (one, tt)
made-more [] name file (r ∷ rs) frames made one = absurd made
made-more (n ∷ ns) name file [] frames made one = absurd made
made-more (n ∷ ns) name file (r ∷ rs) frames made one = (made.0, made-more ns name file rs frames made.1 one)

sights-more : (code : CodeOf) (site : Site) (runs : List (List Counts)) (frames : List Counts) →
    sights_in_runs code site (runs ++ frames ∷ []) ≡ sights_in_runs code site runs ++ sights_of code site frames
sights-more code site [] frames = append-nil (sights_of code site frames)
sights-more code site (r ∷ rs) frames =
    ap (λ (l : List (List Sight)). sights_of code site r ++ l) (sights-more code site rs frames)
    ∙ sym (append_assoc (sights_of code site r) (sights_in_runs code site rs) (sights_of code site frames))

stopped_after : (names : List (List ℕ)) (name : List ℕ) (left : List (List ℕ)) (file : Contents) (runs : List (List Counts)) (stop : PlayStop) →
    AreMade names file runs → IsStoppedRun name file stop → AreStopped (names ++ name ∷ left) file stop
stopped_after [] name left file runs stop made stopped = inl stopped
stopped_after (n ∷ ns) name left file [] stop made stopped = absurd made
stopped_after (n ∷ ns) name left file (r ∷ rs) stop made stopped = inr (r, made.0, stopped_after ns name left file rs stop made.1 stopped)

-- before the first of them
pub none_added : (code : CodeOf) (site : Site) (seconds : List (List Sight)) (all : List (List ℕ)) (file : Contents) (total : Tally) →
    HasTallied total code.instrs seconds → HasAdded code site seconds all all file total
none_added code site seconds all file total tallied = record {
  done = [];
  runs = [];
  made = tt;
  then_left = refl;
  tallied = subst (λ (s : List (List Sight)). HasTallied total code.instrs s) (sym (append-nil seconds)) tallied;
}

-- one more
pub added_more : (words : SiteWords) (code : CodeOf) (site : Site) (seconds : List (List Sight)) (name : List ℕ) (left all : List (List ℕ)) (file : Contents)
    (then now : Tally) → HasAdded code site seconds (name ∷ left) all file then →
    ((seconds : List (List Sight)) → HasTallied then code.instrs seconds → IsAddedRun words code site seconds name file now (Ok tt)) →
    HasAdded code site seconds left all file now
added_more words code site seconds name left all file then now has add =
    let one = add (seconds ++ sights_in_runs code site has.runs) has.tallied in record {
      done = has.done ++ name ∷ [];
      runs = has.runs ++ one.0 ∷ [];
      made = made-more has.done name file has.runs one.0 has.made one.1;
      then_left = append_assoc has.done (name ∷ []) left ∙ has.then_left;
      tallied = subst (λ (s : List (List Sight)). HasTallied now code.instrs s)
          (append_assoc seconds (sights_in_runs code site has.runs) (sights_of code site one.0)
          ∙ ap (λ (l : List (List Sight)). seconds ++ l) (sym (sights-more code site has.runs one.0))) one.2;
    }

-- all of them
pub added_all : (words : SiteWords) (code : CodeOf) (site : Site) (seconds : List (List Sight)) (left all : List (List ℕ)) (file : Contents) (total : Tally) →
    left ≡ [] → HasAdded code site seconds left all file total → AreAddedRuns words code site seconds all file total (Ok tt)
added_all words code site seconds left all file total none has =
    let same : has.done ≡ all = sym (append-nil has.done) ∙ ap (λ (l : List (List ℕ)). has.done ++ l) (sym none) ∙ has.then_left in
    (has.runs, subst (λ (names : List (List ℕ)). AreMade names file has.runs) same has.made, has.tallied)

-- one of them stopped
pub added_stopped : (words : SiteWords) (code : CodeOf) (site : Site) (seconds : List (List Sight)) (name : List ℕ) (left all : List (List ℕ))
    (file : Contents) (then now : Tally) (stop : RunStop) → HasAdded code site seconds (name ∷ left) all file then →
    ((seconds : List (List Sight)) → HasTallied then code.instrs seconds → IsAddedRun words code site seconds name file now (Err stop)) →
    AreAddedRuns words code site seconds all file now (Err stop)
added_stopped words code site seconds name left all file then now (Load stop) has add = add (seconds ++ sights_in_runs code site has.runs) has.tallied
added_stopped words code site seconds name left all file then now (Play stop) has add =
    let one = add (seconds ++ sights_in_runs code site has.runs) has.tallied in (
      subst (λ (names : List (List ℕ)). AreStopped names file stop) has.then_left (stopped_after has.done name left file has.runs stop has.made one.0),
      one.1,
    )

-- ---- what was counted of all of them

-- the first run stopped
pub first_stopped : (words : SiteWords) (code read : CodeOf) (site : Site) (name : List ℕ) (names : List (List ℕ)) (file : Contents) (stop : RunStop) →
    IsRun read site name file (Err stop) → AreCountedRuns words code site (name ∷ names) file (Err stop)
first_stopped words code read site name names file (Load stop) is =
    subst (λ s. IsLoadStop (ReachedInSite words file) s (loading.site_of words file)) (sym is) tt
first_stopped words code read site name names file (Play stop) is = (inl is.0, is.1)

-- what the first run is tallied as
pub first_tallied : (code read : CodeOf) (site : Site) (name : List ℕ) (file : Contents) (total : Tally) → read ≡ code →
    IsRun read site name file (Ok total) → IsRun code site name file (Ok total)
first_tallied code read site name file total agrees is = same_run code read site site name file (Ok total) agrees refl is

-- an added one stopped
pub later_stopped : (words : SiteWords) (code : CodeOf) (site : Site) (name : List ℕ) (names : List (List ℕ)) (file : Contents) (first now : Tally)
    (stop : RunStop) → IsRun code site name file (Ok first) →
    ((seconds : List (List Sight)) → HasTallied first code.instrs seconds → AreAddedRuns words code site seconds names file now (Err stop)) →
    AreCountedRuns words code site (name ∷ names) file (Err stop)
later_stopped words code site name names file first now (Load stop) is add = add (sights_of code site is.0) is.2
later_stopped words code site name names file first now (Play stop) is add =
    let rest = add (sights_of code site is.0) is.2 in (inr (is.0, is.1, rest.0), rest.1)

-- all were counted
pub all_counted : (words : SiteWords) (code : CodeOf) (site : Site) (name : List ℕ) (names : List (List ℕ)) (file : Contents) (first now : Tally)
    (lines : Vec Line Global) → IsRun code site name file (Ok first) →
    ((seconds : List (List Sight)) → HasTallied first code.instrs seconds → AreAddedRuns words code site seconds names file now (Ok tt)) →
    ((is : List Instr) (seconds : List (List Sight)) → HasTallied now is seconds → map line_in lines.items ≡ lines_counted is seconds) →
    AreCountedRuns words code site (name ∷ names) file (Ok lines)
unfolding counted_of
all_counted words code site name names file first now lines is add of =
    let rest = add (sights_of code site is.0) is.2 in (
      is.0 ∷ rest.0,
      (is.1, rest.1),
      of code.instrs (sights_in_runs code site (is.0 ∷ rest.0)) rest.2,
    )

-- or memory was wanted
pub memory_wanted : (words : SiteWords) (file : Contents) → IsLoadStop (ReachedInSite words file) load.Memory (loading.site_of words file)
memory_wanted words file = tt

-- a fault of the sink behind what was made
pub rose_written : {a b d : ℕ} (r : Result (Unit {0}) Stop) → a ≤ b → OnErr r (Rose b d) → StopsWith status_of status.WriteFault r → Rose a d
rose_written (Ok x) least cause is = absurd is
rose_written (Err stop) least cause is = omega (arith, least, cause)

-- it is none of a file
pub written_no_read : {C : Type 0} (text : List ℕ) (r : Result (Unit {0}) Stop) (old new : Option (List ℕ)) → IsWritten text r old new →
    StopsWith status_of status.ReadFault r → C
written_no_read text (Ok x) old new written is = absurd is
written_no_read text (Err stop) old new written is =
    absurd (write_no_read (subst (λ s. status_of s ≡ status.ReadFault) written.0 is))
  where
    write_no_read : status.WriteFault ≡ status.ReadFault → ⊥
    write_no_read is = absurd cc

module _ (asked : LinesWords) (file : Contents) (site : Site) (program : Program)
    (gives : FilesGive asked.run.program asked.run.site file site program) where
  -- the text of what was counted
  abbrev text : List (List Counts) → List ℕ
  text runs = lines_text asked.style asked.run.program (file asked.run.program) (counted_of (code_for program) site runs)

  -- what was counted was written
  pub lines_written : (lines : Vec Line Global) (name bytes : List ℕ) (slice : List Line) (r : Result (Unit {0}) Stop) (old now new : Option (List ℕ)) →
      AreCountedRuns asked.run.site (code_for program) site (detectors_of asked) file (Ok lines) → now ≡ old →
      name ≡ asked.run.program → bytes ≡ file asked.run.program → slice ≡ lines.items →
      IsWritten (lines_text asked.style name bytes (map line_in slice)) r now new → IsLines asked file r old new
  lines_written lines name bytes slice r old now new counted none named read taken written =
      ended r (subst (λ (ls : List LineOf). IsWritten (lines_text asked.style asked.run.program (file asked.run.program) ls) r old new)
      (ap (map line_in) taken ∙ counted.2)
      (subst (λ (b : List ℕ). IsWritten (lines_text asked.style asked.run.program b (map line_in slice)) r old new) read
      (subst (λ (n : List ℕ). IsWritten (lines_text asked.style n bytes (map line_in slice)) r old new) named
      (subst (λ o. IsWritten (lines_text asked.style name bytes (map line_in slice)) r o new) none written))))
    where
      were : (Done : List ℕ → Type 0) → Done (text counted.0) → WereCounted asked file Done
      were Done done = record {
        program = program;
        site = site;
        gives = gives;
        runs = counted.0;
        made = counted.1;
        done = done;
      }

      failed : (stop : Stop) → stop ≡ Run (Play play.WriteFault) → ((n : ℕ) × IsCut old new n (text counted.0)) → IsLines {A = Unit {0}} asked file (Err stop) old new
      failed stop is cut = subst (λ s. IsLines {A = Unit {0}} asked file (Err s) old new) (sym is) (were (λ t. (n : ℕ) × IsCut old new n t) cut)

      ended : (r : Result (Unit {0}) Stop) → IsWritten (text counted.0) r old new → IsLines asked file r old new
      ended (Ok x) is = were (λ t. new ≡ append_known old t) is
      ended (Err stop) is = failed stop is.0 is.1

  -- not all seconds were made
  pub lines_stopped : (stop : RunStop) (old new : Option (List ℕ)) →
      AreCountedRuns asked.run.site (code_for program) site (detectors_of asked) file (Err stop) → new ≡ old →
      IsLines {A = Unit {0}} asked file (Err (Run stop)) old new
  lines_stopped (Load stop) old new is none = (
    no_site (played_at (ProgramFile asked.run.program)) (loading.IsSource (ProgramFile asked.run.program) (file asked.run.program)) asked.run.program asked.run.site file stop is,
    none,
  )
  lines_stopped (Play (play.ReadFault word)) old new is none = (record { program = program; site = site; gives = gives; stopped = is.0 }, none)
  lines_stopped (Play play.WriteFault) old new is none = absurd is.1
  lines_stopped (Play (play.RefusedLine word line reason)) old new is none =
      (record { program = program; site = site; gives = gives; stopped = is.0 }, none)
