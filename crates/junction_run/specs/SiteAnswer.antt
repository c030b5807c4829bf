-- What is answered where a site is loaded with its program.
use Rattle.std.specs.Prelude.{◌≡◌, ◌++◌, ◌∷◌, [], ℕ, List, Result, Ok, Err, codes}
use Rattle.sig_io.specs.Outside.{Contents}
use Rattle.vap_ast.specs.Syntax.{Program}
use Rattle.junction_run.specs.declared.load.Site.{Site as Loaded}
use Rattle.junction_run.specs.declared.status.Status.{Status}
use Rattle.junction_run.specs.declared.status.Status.TheVariants as status
use Rattle.junction_run.specs.Answer.{unloaded_answer, note_of}
use Rattle.junction_run.specs.Form.{SiteWords}
use Rattle.junction_run.specs.Loading.{Unloaded, LoadsProgram, program_at, ReachedAfterSite}
use Rattle.junction_run.specs.Programs.{Runs}
use Rattle.junction_run.specs.Sites.{site_in}

-- the names of the program, the PUA file, the times and the intergreens: of the program
abbrev pub program_named : List (List ℕ) → List ℕ
program_named (program ∷ rest) = program
program_named [] = []

-- and of the site
abbrev pub site_named : List (List ℕ) → SiteWords
site_named (program ∷ plan ∷ times ∷ intergreens ∷ rest) = record { plan = plan; times = times; intergreens = intergreens }
site_named _ = record { plan = []; times = []; intergreens = [] }

-- a status with which loading ends before its end: memory was wanted, a file could not be read, is refused or is too long
abbrev pub IsLoadStatus : Status → Type 0
IsLoadStatus status.Done = ⊥
IsLoadStatus status.Memory = Unit {0}
IsLoadStatus status.Words = ⊥
IsLoadStatus status.ReadFault = Unit {0}
IsLoadStatus status.WriteFault = ⊥
IsLoadStatus status.RefusedFile = Unit {0}
IsLoadStatus status.RefusedLine = ⊥
IsLoadStatus status.TooLong = Unit {0}

-- the files are refused so, with this status
abbrev pub IsRefusedLoad : List ℕ → SiteWords → Contents → Status → Type 0
IsRefusedLoad program words file status =
    (u : Unloaded) × LoadsProgram program words file (Err u) × ((unloaded_answer u).status ≡ status)

-- the files give this site and its program, or they are refused, or memory was wanted or a file could not be read
abbrev pub IsSiteLoad : List ℕ → SiteWords → Contents → Result Loaded Status → Type 0
IsSiteLoad name words file (Ok s) =
    (program : Program) × LoadsProgram name words file (Ok (program_at (site_in s) program)) × Runs s.code program
IsSiteLoad name words file (Err status.Done) = ⊥
IsSiteLoad name words file (Err status.Memory) = Unit {0}
IsSiteLoad name words file (Err status.Words) = ⊥
IsSiteLoad name words file (Err status.ReadFault) = Unit {0}
IsSiteLoad name words file (Err status.WriteFault) = ⊥
IsSiteLoad name words file (Err status.RefusedFile) = IsRefusedLoad name words file status.RefusedFile
IsSiteLoad name words file (Err status.RefusedLine) = ⊥
IsSiteLoad name words file (Err status.TooLong) = IsRefusedLoad name words file status.TooLong

-- the note of files that are refused so
abbrev pub IsRefusedNote : List ℕ → SiteWords → Contents → Status → List ℕ → Type 0
IsRefusedNote program words file status note =
    (u : Unloaded) × LoadsProgram program words file (Err u) × ((unloaded_answer u).status ≡ status)
    × (note ≡ (unloaded_answer u).note)

-- the note of a status that tells of what the files hold
abbrev pub IsSiteNote : List ℕ → SiteWords → Contents → Status → List ℕ → Type 0
IsSiteNote name words file status.Done note = ⊥
IsSiteNote name words file status.Memory note = Unit {0}
IsSiteNote name words file status.Words note = ⊥
IsSiteNote name words file status.ReadFault note =
    (word : List ℕ) × ReachedAfterSite name words file word × (note ≡ note_of (word ++ codes ": ReadFault"))
IsSiteNote name words file status.WriteFault note = ⊥
IsSiteNote name words file status.RefusedFile note = IsRefusedNote name words file status.RefusedFile note
IsSiteNote name words file status.RefusedLine note = ⊥
IsSiteNote name words file status.TooLong note = IsRefusedNote name words file status.TooLong note
