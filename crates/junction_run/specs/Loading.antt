-- What the files of a command give.
use Rattle.std.specs.Prelude.{◌≡◌, ◌<◌, ◌≤◌, ℕ, List, length, Option, None, Some, Result, Ok, Err}
use Rattle.sig_io.specs.Outside.{Contents}
use Rattle.sig_types.specs.Pass.{Logic, Store}
use Rattle.sig_types.specs.Turns.{Picture}
use Rattle.sig_tables.specs.SiteRules.{rules_by}
use Rattle.controller.specs.Past.{Site}
use Rattle.log_read.specs.declared.refusal.LogWhy.{LogWhy}
use Rattle.log_read.specs.Readings.{IsPictures}
use Rattle.log_read.specs.declared.begin.Begin.TheVariants.{AtOne}
use Rattle.junction_run.specs.Codes.{CodeIs}
use Rattle.junction_run.specs.Form.{SiteWords, Source, ProgramFile, CodeFile, word_of, Form, Play, Compile, Sample, Audit}
use Rattle.junction_run.specs.Programs.{ProgramIs, logic_of, store_of}
use Rattle.vap_ast.specs.Syntax.{Program}
use Rattle.vap_code.specs.Codes.{CodeOf}
use Rattle.vap_code.specs.Machine.{machine}
use Rattle.vap_code.specs.Stores as machines
-- the first file that is not as it must be, what each file of a site gives, and the file of a site that is read
pub use Rattle.site_load.specs.Loading.{Unloaded, TooLong, Refused, Refusal, text_limit, plan_refusal, table_refusal, unless_refused, judged}
pub use Rattle.site_load.specs.Loading.{plan_at, times_at, intergreens_at, ◌>>=◌, ReachedInSite}

-- the bytes that a code file may have
abbrev pub code_limit : ℕ
code_limit = 2097152

-- ---- the site

-- the plan, then the times, then the intergreens
abbrev pub site_of : SiteWords → Contents → Result Site Unloaded
site_of words file = do
  plan ← plan_at file words.plan
  times ← times_at file words.times plan
  between ← intergreens_at file words.intergreens plan
  Ok (record { plan = plan; rules = rules_by times between })

-- ---- a program or a code

-- a file is measured, and then judged: `Is` tells the value of its bytes, or the line and the reason of a refusal
pub data IsJudged {V : Type 0} (Is : List ℕ → Result V Refusal → Type 0) (limit : ℕ)
    (word bytes : List ℕ) : Result V Unloaded → Type 0 where
  long : limit < length bytes → IsJudged Is limit word bytes (Err (TooLong word))
  refused : (line : ℕ) (reason : List ℕ) → length bytes ≤ limit → Is bytes (Err (line, reason)) →
      IsJudged Is limit word bytes (Err (Refused word line reason))
  accepted : (value : V) → length bytes ≤ limit → Is bytes (Ok value) → IsJudged Is limit word bytes (Ok value)

-- ---- what a command works on

-- what is played: a logic that decides the passes, from its first store on, at a site
pub record Playing : Type 0 where
  pub logic : Logic
  pub store : Store
  pub site : Site

-- what is played of a program at a site: its own meaning, from its first store on
abbrev pub program_at : Site → Program → Playing
program_at site program = record { logic = logic_of program; store = store_of program; site = site }

-- what is played of a code at a site: the meaning of the code, from its first store on
abbrev pub code_at : Site → CodeOf → Playing
code_at site code = record { logic = machine code; store = machines.first_store code; site = site }

-- what the file of a source is read as
abbrev pub Value : Source → Type 0
Value (ProgramFile word) = Program
Value (CodeFile word) = CodeOf

-- the bytes that it may have
abbrev pub limit_of : Source → ℕ
limit_of (ProgramFile word) = text_limit
limit_of (CodeFile word) = code_limit

-- its text is that of a program or of a code, or is refused at a line
abbrev pub SourceIs : (source : Source) → List ℕ → Result (Value source) Refusal → Type 0
SourceIs (ProgramFile word) bytes r = ProgramIs bytes r
SourceIs (CodeFile word) bytes r = CodeIs bytes r

-- what is played of it at a site
abbrev pub played_at : (source : Source) → Site → Value source → Playing
played_at (ProgramFile word) site program = program_at site program
played_at (CodeFile word) site code = code_at site code

-- the file of a source is measured, and then judged
abbrev pub IsSource : (source : Source) (bytes : List ℕ) → Result (Value source) Unloaded → Type 0
IsSource source bytes v = IsJudged (SourceIs source) (limit_of source) (word_of source) bytes v

-- the value that a function makes of what was loaded
abbrev pub map_ok : {A B : Type 0} → (A → B) → Result A Unloaded → Result B Unloaded
map_ok f (Ok x) = Ok (f x)
map_ok f (Err u) = Err u

-- the site first, and then a file that is judged
abbrev pub AfterSite : {V : Type 0} → (Site → V → Playing) → Result Site Unloaded → (Result V Unloaded → Type 0) →
    Result Playing Unloaded → Type 0
AfterSite at (Err u) Judged r = r ≡ Err u
AfterSite {V} at (Ok site) Judged r = (v : Result V Unloaded) × Judged v × (r ≡ map_ok (at site) v)

-- a source at a site
abbrev pub LoadsSource : Source → SiteWords → Contents → Result Playing Unloaded → Type 0
LoadsSource source words file r = AfterSite (played_at source) (site_of words file) (IsSource source (file (word_of source))) r

-- a program at a site
abbrev pub LoadsProgram : (program : List ℕ) → SiteWords → Contents → Result Playing Unloaded → Type 0
LoadsProgram program words file r = LoadsSource (ProgramFile program) words file r

-- a log at the site by which it is judged: the pictures of its records, and its first refused line, if there is one
pub record Logged : Type 0 where
  pub site : Site
  pub pictures : List Picture
  pub refusal : Option (ℕ × LogWhy)

-- a log with these bytes tells this at the site
abbrev pub IsLogged : Site → List ℕ → Logged → Type 0
IsLogged site bytes logged = (logged.site ≡ site) × IsPictures AtOne site.plan.names bytes logged.pictures logged.refusal

-- the site first, and then a log with these bytes
abbrev pub LogAfterSite : Result Site Unloaded → List ℕ → Result Logged Unloaded → Type 0
LogAfterSite (Err u) bytes r = r ≡ Err u
LogAfterSite (Ok site) bytes r = (logged : Logged) × IsLogged site bytes logged × (r ≡ Ok logged)

-- what a form works on
abbrev pub Loaded : Form → Type 0
Loaded (Play source site detectors) = Playing
Loaded (Compile program) = Program
Loaded (Sample program site seed seconds) = Playing
Loaded (Audit log site) = Logged

-- what a form plays of it, if anything
abbrev pub plays : (form : Form) → Loaded form → Option Playing
plays (Play source site detectors) playing = Some playing
plays (Compile program) tree = None
plays (Sample program site seed seconds) playing = Some playing
plays (Audit log site) logged = None

-- what the files of a form give, each of which is read, measured and judged before the next one: what the form works on, or
-- the first file that is not as it must be; a log has no limit, and is judged line by line
abbrev pub Loads : (form : Form) → Contents → Result (Loaded form) Unloaded → Type 0
Loads (Play source site detectors) file r = LoadsSource source site file r
Loads (Compile program) file r = IsSource (ProgramFile program) (file program) r
Loads (Sample program site seed seconds) file r = LoadsProgram program site file r
Loads (Audit log site) file r = LogAfterSite (site_of site file) (file log) r

-- ---- which file is read

-- a file after those of a site
pub data ReachedAfterSite (word : List ℕ) (words : SiteWords) (file : Contents) : List ℕ → Type 0 where
  at_site : (w : List ℕ) → ReachedInSite words file w → ReachedAfterSite word words file w
  at_last : (site : Site) → site_of words file ≡ Ok site → ReachedAfterSite word words file word

-- the detector file is read once all others are accepted
pub data ReachedInPlay (word : List ℕ) (words : SiteWords) (detectors : List ℕ) (file : Contents)
    (IsLoaded : Playing → Type 0) : List ℕ → Type 0 where
  at_load : (w : List ℕ) → ReachedAfterSite word words file w → ReachedInPlay word words detectors file IsLoaded w
  at_detectors : (playing : Playing) → IsLoaded playing → ReachedInPlay word words detectors file IsLoaded detectors

-- a form comes to read this file
abbrev pub Reached : Form → Contents → List ℕ → Type 0
Reached (Play source site detectors) file word =
    ReachedInPlay (word_of source) site detectors file (λ playing. LoadsSource source site file (Ok playing)) word
Reached (Compile program) file word = word ≡ program
Reached (Sample program site seed seconds) file word = ReachedAfterSite program site file word
Reached (Audit log site) file word = ReachedAfterSite log site file word
