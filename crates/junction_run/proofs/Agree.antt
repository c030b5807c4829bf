-- A code that does what a program does makes the program's log.
use Rattle.std.proofs.Common.{◌≡◌, ◌∙◌, List, [], ◌∷◌, length, map, replicate, pos, false, Ok, refl, sym, ap, subst}
use Rattle.std.proofs.lemmas.List.{length-map, length-replicate}
use Rattle.sig_types.specs.Counts.{Counts}
use Rattle.sig_types.specs.Pass.{Store, End, Done, Faulted, Stuck, Unfinished, counted, begun, store_after, without_commands}
use Rattle.controller.specs.Agree.{KeepsFit}
use Rattle.controller.specs.Past.{Site, opening}
use Rattle.controller.specs.Second.{run_from}
use Rattle.controller.proofs.Runs.{runs_agree}
use Rattle.code_verify.specs.Ends.{IfDone}
use Rattle.code_verify.proofs.Bound.{runs_well}
use Rattle.signal_log.specs.Log.{log_text}
use Rattle.vap_ast.specs.Syntax.{Program}
use Rattle.vap_ast.specs.Tree.{program_of}
use Rattle.vap_check.specs.Names.{timers, variables}
use Rattle.vap_check.specs.Numbers.{Meant, checked_of}
use Rattle.vap_code.specs.Codes.{CodeOf}
use Rattle.vap_code.specs.Machine.{machine}
use Rattle.vap_code.specs.Valid.{Valid}
use Rattle.vap_compile.specs.Compiled.{HasNumbersOf, MeansProgram}
use Rattle.vap_ast.specs.Passes.{FitsProgram}
use Rattle.vap_code.specs.Stores.{StoreFits, first_store}
use Rattle.code_file.specs.Reading.{code_of}
use Rattle.code_file.specs.Text.{code_text}
use Rattle.junction_run.specs.Codes.{IsCompiled}
use Rattle.junction_run.specs.Form.{Source, ProgramFile, CodeFile}
use Rattle.junction_run.specs.Loading.{Value, program_at, code_at, played_at}
use Rattle.junction_run.specs.Sites.{RunsAs}
use Rattle.junction_run.specs.Programs.{logic_of, store_of, Runs}
use Rattle.junction_run.specs.Records.{records_of, log_of}
use Rattle.controller.specs.declared.controller.Controller.{Controller}
use Rattle.controller.specs.Controls.{logic_of as controller_logic, site_of}
use Rattle.junction_run.specs.Played.{playing_of}

-- the code of a checked program runs it
pub runs_checked : (m : Meant) (code : CodeOf) → m ≡ checked_of m.tree → MeansProgram m code → HasNumbersOf m code → Runs code (program_of m.tree)
runs_checked m code is means numbers =
    let same : MeansProgram (checked_of m.tree) code = subst (λ m. MeansProgram m code) is means in
    let has : HasNumbersOf (checked_of m.tree) code = subst (λ m. HasNumbersOf m code) is numbers in
    record { variables_are = has.variables; timers_are = has.timers; arrays_are = has.arrays; same = same }

map-map : {A B C : Type 0} (f : B → C) (g : A → B) (xs : List A) → map f (map g xs) ≡ map (λ x. f (g x)) xs
map-map f g [] = refl
map-map f g (x ∷ xs) = ap (λ l. f (g x) ∷ l) (map-map f g xs)

-- the stores of a program
abbrev Fits : Program → Store → Type 0
Fits program s = FitsProgram (length (variables program)) (length (timers program)) program.arrays s

module _ (code : CodeOf) (program : Program) (runs : Runs code program) where
  -- the lengths of the cells
  lengths : map length code.arrays ≡ map (λ a. length a.values) program.arrays
  lengths = ap (λ l. map length l) runs.arrays_are ∙ map-map length (λ a. a.values) program.arrays

  to_code : (s : Store) → Fits program s → StoreFits code s
  to_code s fits = record {
    variables = fits.variables ∙ sym runs.variables_are;
    timers = fits.timers ∙ sym runs.timers_are;
    arrays = fits.arrays ∙ sym lengths;
    fresh = fits.no_commands;
  }

  of_code : (s : Store) → StoreFits code s → Fits program s
  of_code s fits = record {
    variables = fits.variables ∙ runs.variables_are;
    timers = fits.timers ∙ runs.timers_are;
    arrays = fits.arrays ∙ lengths;
    no_commands = fits.fresh;
  }

  fits_begun : (s : Store) → Fits program s → Fits program (begun s)
  fits_begun s fits = record {
    variables = fits.variables;
    timers = length-map s.timers counted ∙ fits.timers;
    arrays = fits.arrays;
    no_commands = refl;
  }

  fits_after : (s : Store) (e : End) → Fits program s → IfDone e (λ after. StoreFits code (without_commands after)) → Fits program (store_after s e)
  fits_after s (Done after) fits done = of_code (without_commands after) done
  fits_after s (Faulted kind line) fits done = fits
  fits_after s Stuck fits done = fits
  fits_after s Unfinished fits done = fits

  keeps : Valid code → KeepsFit (Fits program) (machine code)
  keeps valid = record {
    begins = λ s fits. fits_begun s fits;
    goes_on = λ w s fits. fits_after s (machine code w s) fits (runs_well code w s valid (to_code s fits)).fits;
  }

  first_is : first_store code ≡ store_of program
  first_is = λ j. record {
    variables = replicate (runs.variables_are j) (pos 0);
    arrays = runs.arrays_are j;
    timers = replicate (runs.timers_are j) record { count = 0; runs = false };
    commands = [];
  }

  first_fits : Fits program (store_of program)
  first_fits = record {
    variables = length-replicate (length (variables program)) (pos 0);
    timers = length-replicate (length (timers program)) record { count = 0; runs = false };
    arrays = map-map length (λ a. a.values) program.arrays;
    no_commands = refl;
  }

  -- the same records
  pub same_records : Valid code → (site : Site) (frames : List Counts) →
      records_of (code_at site code) frames ≡ records_of (program_at site program) frames
  unfolding records_of
  same_records valid site frames =
      ap (λ store. run_from (machine code) site (opening site store) frames) first_is
      ∙ runs_agree (Fits program) (machine code) (logic_of program) site (opening site (store_of program)) frames (keeps valid) runs.same first_fits

  -- and so the same log
  pub same_log : Valid code → (site : Site) (frames : List Counts) →
      log_of (code_at site code) frames ≡ log_of (program_at site program) frames
  unfolding log_of
  same_log valid site frames = ap (λ rs. log_text site.plan.names rs) (same_records valid site frames)

-- its text, which spells it, is one that compiling may give
pub compiled_text : (code : CodeOf) (program : Program) → Valid code → code_of (code_text code) ≡ Ok code → Runs code program →
    IsCompiled program (code_text code)
compiled_text code program valid spells runs = record { code = code; valid = valid; is_text = refl; spells = spells; runs = runs }

-- the log of a controller with this code is the code's
pub log_is : (code : CodeOf) (controller : Controller) (site : Site) (frames : List Counts) → controller_logic controller ≡ machine code →
    site_of controller ≡ site →
    log_of (playing_of controller (first_store code)) frames ≡ log_of (code_at site code) frames
log_is code controller site frames logic is = λ j. log_of (record { logic = logic j; store = first_store code; site = is j }) frames

-- and so are its records
pub records_are : (code : CodeOf) (controller : Controller) (site : Site) (frames : List Counts) → controller_logic controller ≡ machine code →
    site_of controller ≡ site →
    records_of (playing_of controller (first_store code)) frames ≡ records_of (code_at site code) frames
records_are code controller site frames logic is = λ j. records_of (record { logic = logic j; store = first_store code; site = is j }) frames

-- code that does what a source does makes its log
pub source_log : (source : Source) (code : CodeOf) (value : Value source) → RunsAs source code value → Valid code → (site : Site) (frames : List Counts) →
    log_of (code_at site code) frames ≡ log_of (played_at source site value) frames
source_log (ProgramFile word) code program runs valid site frames = same_log code program runs valid site frames
source_log (CodeFile word) code read same valid site frames = ap (λ c. log_of (code_at site c) frames) same
