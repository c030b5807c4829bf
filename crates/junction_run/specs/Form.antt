-- The words of a command.
use Rattle.std.specs.Prelude.{ℕ, ◌-◌, ◌^◌, nat_eq, List, [], ◌∷◌, codes, Bool, true, false, Option, None, Some, if◌then◌else◌}
use lib.Pointwise.{pointwise}
use Rattle.sig_types.specs.Text.{number_of, within}
-- the names of the files of a site, and these in the order in which they are read
pub use Rattle.site_load.specs.Loading.{SiteFiles as SiteWords, files_in as site_files}

-- what decides the passes of a run: the name of a program or of a code
pub data Source : Type 0 where
  ProgramFile : (word : List ℕ) → Source
  CodeFile : (word : List ℕ) → Source

-- the name of its file
abbrev pub word_of : Source → List ℕ
word_of (ProgramFile word) = word
word_of (CodeFile word) = word

-- what the words ask for
pub data Form : Type 0 where
  Play : (source : Source) (site : SiteWords) (detectors : List ℕ) → Form
  Compile : (program : List ℕ) → Form
  Sample : (program : List ℕ) (site : SiteWords) (seed seconds : ℕ) → Form
  Audit : (log : List ℕ) (site : SiteWords) → Form

-- the word is this name, byte for byte
abbrev pub is_word : List ℕ → List ℕ → Bool
is_word word name = pointwise nat_eq word name

-- COMMAND PROGRAM
abbrev pub form_of_one : (command program : List ℕ) → Option Form
form_of_one command program = if is_word command (codes "compile") then Some (Compile program) else None

-- COMMAND LOG PUA TIMES INTERGREENS
abbrev pub form_of_audit : (command log : List ℕ) (site : SiteWords) → Option Form
form_of_audit command log site = if is_word command (codes "audit") then Some (Audit log site) else None

-- COMMAND FILE PUA TIMES INTERGREENS DETECTORS
abbrev pub form_of_play : (command file : List ℕ) (site : SiteWords) (detectors : List ℕ) → Option Form
form_of_play command file site detectors =
    if is_word command (codes "run") then Some (Play (ProgramFile file) site detectors)
    else (if is_word command (codes "exec") then Some (Play (CodeFile file) site detectors) else None)

-- a sample by its two numbers, if there are both
abbrev pub sample_by : (program : List ℕ) (site : SiteWords) (seed seconds : Option ℕ) → Option Form
sample_by program site None seconds = None
sample_by program site (Some seed) None = None
sample_by program site (Some seed) (Some seconds) = Some (Sample program site seed seconds)

-- COMMAND PROGRAM PUA TIMES INTERGREENS SEED SECONDS: decimal numbers of 0 to 2^64 - 1 and of 0 to 604,800
abbrev pub form_of_sample : (command program : List ℕ) (site : SiteWords) (seed seconds : List ℕ) → Option Form
form_of_sample command program site seed seconds =
    if is_word command (codes "sample")
    then sample_by program site (within 0 (2 ^ 64 - 1) (number_of seed)) (within 0 604800 (number_of seconds))
    else None

-- compile PROGRAM; run PROGRAM PUA TIMES INTERGREENS DETECTORS; exec CODE PUA TIMES INTERGREENS DETECTORS;
-- sample PROGRAM PUA TIMES INTERGREENS SEED SECONDS; audit LOG PUA TIMES INTERGREENS
abbrev pub form_of : List (List ℕ) → Option Form
form_of (command ∷ program ∷ []) = form_of_one command program
form_of (command ∷ log ∷ plan ∷ times ∷ intergreens ∷ []) =
    form_of_audit command log (record { plan = plan; times = times; intergreens = intergreens })
form_of (command ∷ file ∷ plan ∷ times ∷ intergreens ∷ detectors ∷ []) =
    form_of_play command file (record { plan = plan; times = times; intergreens = intergreens }) detectors
form_of (command ∷ program ∷ plan ∷ times ∷ intergreens ∷ seed ∷ seconds ∷ []) =
    form_of_sample command program (record { plan = plan; times = times; intergreens = intergreens }) seed seconds
form_of _ = None

-- the files that a form names
abbrev pub files_of : Form → List (List ℕ)
files_of (Play source site detectors) = site.plan ∷ site.times ∷ site.intergreens ∷ word_of source ∷ detectors ∷ []
files_of (Compile program) = program ∷ []
files_of (Sample program site seed seconds) = site.plan ∷ site.times ∷ site.intergreens ∷ program ∷ []
files_of (Audit log site) = site.plan ∷ site.times ∷ site.intergreens ∷ log ∷ []

-- a form that reads a file line by line
abbrev pub reads_lines : Form → Bool
reads_lines (Play source site detectors) = true
reads_lines (Compile program) = false
reads_lines (Sample program site seed seconds) = false
reads_lines (Audit log site) = true

-- a form that writes what it makes of a line before it reads the next
abbrev pub writes_lines : Form → Bool
writes_lines (Play source site detectors) = true
writes_lines (Compile program) = false
writes_lines (Sample program site seed seconds) = false
writes_lines (Audit log site) = false
