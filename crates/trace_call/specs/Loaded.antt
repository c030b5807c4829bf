-- A program at its site, as it was loaded.
use Rattle.std.specs.Prelude.{◌≡◌, ◌++◌, ◌∷◌, [], ℕ, List, Result, Ok, Err, length, map}
use Rattle.sig_io.specs.Outside.{Contents}
use Rattle.vap_ast.specs.Sound.{source_of}
use Rattle.vap_ast.specs.Syntax.{Program}
use Rattle.vap_ast.specs.Tree.{program_of}
use Rattle.vap_check.specs.Names.{timers, variables}
use Rattle.vap_check.specs.Numbers.{Meant, checked_of, names_of}
use Rattle.vap_code.specs.Codes.{CodeOf}
use Rattle.vap_compile.specs.Layout.{routines_code, routine_starts}
use Rattle.controller.specs.Past.{Site}
use Rattle.junction_run.specs.declared.stop.LoadStop.{LoadStop}
use Rattle.junction_run.specs.Form.{SiteWords, ProgramFile}
use Rattle.junction_run.specs.Loading.{IsSource, LoadsProgram, ReachedAfterSite, site_of}
use Rattle.junction_run.specs.Programs.{ProgramIs, Runs}
use Rattle.junction_run.specs.Sites.{IsRefusedProgram, site_in}
use Rattle.junction_run.specs.Stop.{IsUnloadedBy}
use Rattle.trace_call.specs.declared.load.Loaded.{Loaded}
use Rattle.trace_call.specs.declared.program.Program.{Program as Taken}

-- The code of a program: its routines as they are laid out, the main one last, its numbers of variables and timers, and its
-- arrays with their values.
unfoldable pub code_for : Program → CodeOf
code_for program =
    let source = source_of program (names_of program) in
    let routines = source.subs ++ source.main ∷ [] in
    record {
      instrs = routines_code source.names 0 routines;
      starts = routine_starts 0 routines;
      vars = length (variables program);
      timers = length (timers program);
      arrays = map (λ a. a.values) program.arrays;
    }

-- a text is that of a program, which was checked to be this, and this code does what it does
pub record IsProgramOf (bytes : List ℕ) (checked : Meant) (code : CodeOf) : Type 0 where
  pub program : ProgramIs bytes (Ok (program_of checked.tree))
  pub value : checked ≡ checked_of checked.tree
  pub runs : Runs code (program_of checked.tree)
  pub code_is : code ≡ code_for (program_of checked.tree)

-- the text of a program was judged and compiled so
abbrev pub IsToldText : List ℕ → Result (Meant × CodeOf) LoadStop → Type 0
IsToldText bytes (Ok told) = IsProgramOf bytes told.0 told.1
IsToldText bytes (Err stop) = IsRefusedProgram bytes stop

-- the file of a program was taken so
abbrev pub IsToldFile : (word bytes : List ℕ) → Result Taken LoadStop → Type 0
IsToldFile word bytes (Ok taken) =
    IsSource (ProgramFile word) bytes (Ok (program_of taken.checked.tree)) × (taken.text.items ≡ bytes)
    × (taken.checked ≡ checked_of taken.checked.tree) × Runs taken.code (program_of taken.checked.tree)
    × (taken.code ≡ code_for (program_of taken.checked.tree))
IsToldFile word bytes (Err stop) = IsUnloadedBy (IsSource (ProgramFile word) bytes) (λ w. w ≡ word) stop

-- The files give this program at this site: the plan and the tables are accepted, and are those of the site; and the program is the
-- tree of its file's text. Of two programs that do the same in each pass, they give the one that is written there.
pub record FilesGive (program : List ℕ) (words : SiteWords) (file : Contents) (site : Site) (tree : Program) : Type 0 where
  pub at_site : site_of words file ≡ Ok site
  pub spelled : IsSource (ProgramFile program) (file program) (Ok tree)

-- a program at a site was loaded so: it is the one that the files give, with its text, and the code does what it does
pub record IsLoaded (program : List ℕ) (words : SiteWords) (file : Contents) (loaded : Loaded) : Type 0 where
  pub given : FilesGive program words file (site_in loaded.site) (program_of loaded.checked.tree)
  pub text : loaded.text.items ≡ file program
  pub value : loaded.checked ≡ checked_of loaded.checked.tree
  pub runs : Runs loaded.site.code (program_of loaded.checked.tree)
  pub code_is : loaded.site.code ≡ code_for (program_of loaded.checked.tree)

-- loading answered so: a program at its site, or why there is none
abbrev pub IsToldLoad : List ℕ → SiteWords → Contents → Result Loaded LoadStop → Type 0
IsToldLoad program words file (Ok loaded) = IsLoaded program words file loaded
IsToldLoad program words file (Err stop) =
    IsUnloadedBy (LoadsProgram program words file) (ReachedAfterSite program words file) stop
