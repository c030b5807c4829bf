-- The site and the program of a command, as the program holds them.
use Rattle.std.specs.Prelude.{◌≡◌, ℕ, List, Result, Ok, Err}
use Rattle.sig_io.specs.Outside.{Contents}
use Rattle.controller.specs.Past.{Site}
use Rattle.sig_tables.specs.SiteRules.{rules_of}
use Rattle.vap_ast.specs.Syntax.{Program}
use Rattle.vap_ast.specs.Tree.{program_of}
use Rattle.vap_check.specs.Numbers.{Meant, checked_of}
use Rattle.vap_code.specs.Codes.{CodeOf}
use Rattle.site_load.specs.declared.site.SiteTables.{SiteTables}
use Rattle.junction_run.specs.declared.load.Site.{Site as Loaded}
use Rattle.junction_run.specs.declared.stop.LoadStop.{LoadStop}
use Rattle.junction_run.specs.Codes.{CodeIs}
use Rattle.junction_run.specs.Form.{SiteWords, Source, ProgramFile, CodeFile, word_of}
use Rattle.junction_run.specs.Loading.{Playing, Value, IsSource, LoadsSource, code_at, played_at, ReachedAfterSite}
use Rattle.junction_run.specs.Programs.{ProgramIs}
-- a code that does what a program does
pub use Rattle.junction_run.specs.Programs.{Runs}
use Rattle.junction_run.specs.Stop.{IsRefusedBy, IsUnloadedBy}

-- the site by its plan and its tables
abbrev pub site_of_tables : SiteTables → Site
site_of_tables tables = record { plan = tables.plan; rules = rules_of tables.times tables.intergreens }

-- the site that was loaded, by its plan and its tables
abbrev pub site_in : Loaded → Site
site_in s = record { plan = s.plan; rules = rules_of s.times s.intergreens }

-- what is played at a loaded site
abbrev pub playing_in : Loaded → Playing
playing_in s = code_at (site_in s) s.code

-- the text of a program is refused
abbrev pub IsRefusedProgram : List ℕ → LoadStop → Type 0
IsRefusedProgram bytes stop = IsRefusedBy ProgramIs bytes stop

-- the text of a program was checked so
abbrev pub IsCheckedText : List ℕ → Result Meant LoadStop → Type 0
IsCheckedText bytes (Ok checked) = ProgramIs bytes (Ok (program_of checked.tree)) × (checked ≡ checked_of checked.tree)
IsCheckedText bytes (Err stop) = IsRefusedProgram bytes stop

-- the text of a program was checked and compiled so
abbrev pub IsProgramText : List ℕ → Result CodeOf LoadStop → Type 0
IsProgramText bytes (Ok code) = (program : Program) × ProgramIs bytes (Ok program) × Runs code program
IsProgramText bytes (Err stop) = IsRefusedProgram bytes stop

-- the text of a code was read and verified so
abbrev pub IsCodeText : List ℕ → Result CodeOf LoadStop → Type 0
IsCodeText bytes (Ok code) = CodeIs bytes (Ok code)
IsCodeText bytes (Err stop) = IsRefusedBy CodeIs bytes stop

-- a code does what the value of a source does: it runs that program, or is that code
abbrev pub RunsAs : (source : Source) → CodeOf → Value source → Type 0
RunsAs (ProgramFile word) code program = Runs code program
RunsAs (CodeFile word) code read = code ≡ read

-- the file of a source was taken so
abbrev pub IsSourceFile : (source : Source) (bytes : List ℕ) → Result CodeOf LoadStop → Type 0
IsSourceFile source bytes (Ok code) = (value : Value source) × IsSource source bytes (Ok value) × RunsAs source code value
IsSourceFile source bytes (Err stop) = IsUnloadedBy (IsSource source bytes) (λ word. word ≡ word_of source) stop

-- a source at a site was loaded so
abbrev pub IsSourceLoad : Source → SiteWords → Contents → Result Loaded LoadStop → Type 0
IsSourceLoad source words file (Ok s) =
    (value : Value source) × LoadsSource source words file (Ok (played_at source (site_in s) value)) × RunsAs source s.code value
IsSourceLoad source words file (Err stop) =
    IsUnloadedBy (LoadsSource source words file) (ReachedAfterSite (word_of source) words file) stop
