-- A code that does what a program does leaves the program's values.
use Rattle.std.proofs.Common.{◌≡◌, ◌∙◌, ℕ, List, [], ◌∷◌, ◌++◌, length, map, replicate, pos, false, refl, sym, ap, subst}
use Rattle.std.proofs.lemmas.List.{length-map, length-replicate}
use Rattle.sig_types.specs.Counts.{Counts}
use Rattle.sig_types.specs.Pass.{Logic, Store, End, Done, Faulted, Stuck, Unfinished, counted, begun, store_after, without_commands}
use Rattle.controller.specs.Agree.{AgreeOn, KeepsFit}
use Rattle.controller.specs.Past.{Site, Past, next_second, opening}
use Rattle.controller.specs.Second.{past_after, past_after_second, pass_of}
use Rattle.controller.specs.World.{world_in}
use Rattle.code_verify.specs.Ends.{IfDone}
use Rattle.code_verify.proofs.Bound.{runs_well}
use Rattle.vap_ast.specs.Passes.{FitsProgram}
use Rattle.vap_ast.specs.Syntax.{Program}
use Rattle.vap_check.specs.Names.{timers, variables}
use Rattle.vap_code.specs.Codes.{CodeOf}
use Rattle.vap_code.specs.Machine.{machine}
use Rattle.vap_code.specs.Stores.{StoreFits, first_store}
use Rattle.vap_code.specs.Valid.{Valid}
use Rattle.junction_run.specs.Loading.{code_at, program_at}
use Rattle.junction_run.specs.Programs.{logic_of, store_of, Runs}
use Rattle.run_seconds.specs.Told.{told_from}
use Rattle.trace_told.specs.declared.columns.Column.{Column}
use Rattle.trace_told.specs.ValueRows.{row_within}
use Rattle.trace_call.specs.Values.{row_of, rows_text}

-- logics that agree on the stores that fit leave the same values
rows_agree : (first last : ℕ) (columns : List Column) (Fits : Store → Type 0) (a b : Logic) (site : Site) (past : Past) (fs : List Counts) →
    KeepsFit Fits a → AgreeOn Fits a b → Fits past.store →
    told_from (row_of first last columns a site) a site past fs ≡ told_from (row_of first last columns b site) b site past fs
unfolding past_after
rows_agree first last columns Fits a b site past [] keeps agree fits = refl
rows_agree first last columns Fits a b site past (f ∷ fs) keeps agree fits =
    let w = world_in site.plan past (past.frames ++ f ∷ []) in
    let same : pass_of a site past f ≡ pass_of b site past f = agree w (begun past.store) (keeps.begins past.store fits) in
    ap (λ e. row_within first last (next_second past) (past_after site past f e).store columns
    ++ told_from (row_of first last columns a site) a site (past_after site past f e) fs) same
    ∙ ap (λ rows. row_of first last columns b site past f ++ rows)
    (rows_agree first last columns Fits a b site (past_after_second b site past f) fs keeps agree (next-fits same))
  where
    next-fits : pass_of a site past f ≡ pass_of b site past f → Fits (past_after_second b site past f).store
    next-fits same = subst (λ e. Fits (store_after (begun past.store) e)) same
        (keeps.goes_on (world_in site.plan past (past.frames ++ f ∷ [])) (begun past.store) (keeps.begins past.store fits))

-- and the same is told, whatever is told of a past and a frame
told_agrees : (row : Past → Counts → List ℕ) (Fits : Store → Type 0) (a b : Logic) (site : Site) (past : Past) (fs : List Counts) →
    KeepsFit Fits a → AgreeOn Fits a b → Fits past.store → told_from row a site past fs ≡ told_from row b site past fs
unfolding past_after
told_agrees row Fits a b site past [] keeps agree fits = refl
told_agrees row Fits a b site past (f ∷ fs) keeps agree fits =
    let w = world_in site.plan past (past.frames ++ f ∷ []) in
    let same : pass_of a site past f ≡ pass_of b site past f = agree w (begun past.store) (keeps.begins past.store fits) in
    ap (λ e. row past f ++ told_from row a site (past_after site past f e) fs) same
    ∙ ap (λ rows. row past f ++ rows) (told_agrees row Fits a b site (past_after_second b site past f) fs keeps agree (next-fits same))
  where
    next-fits : pass_of a site past f ≡ pass_of b site past f → Fits (past_after_second b site past f).store
    next-fits same = subst (λ e. Fits (store_after (begun past.store) e)) same
        (keeps.goes_on (world_in site.plan past (past.frames ++ f ∷ [])) (begun past.store) (keeps.begins past.store fits))

map-map : {A B C : Type 0} (f : B → C) (g : A → B) (xs : List A) → map f (map g xs) ≡ map (λ x. f (g x)) xs
map-map f g [] = refl
map-map f g (x ∷ xs) = ap (λ l. f (g x) ∷ l) (map-map f g xs)

-- the stores of a program
abbrev Fits : Program → Store → Type 0
Fits program s = FitsProgram (length (variables program)) (length (timers program)) program.arrays s

module _ (code : CodeOf) (program : Program) (runs : Runs code program) where
  lengths : map length code.arrays ≡ map (λ a. length a.values) program.arrays
  lengths = ap (λ l. map length l) runs.arrays_are ∙ map-map length (λ a. a.values) program.arrays

  to_code : (s : Store) → Fits program s → StoreFits code s
  to_code s fits = record {
    variables = fits.variables ∙ sym runs.variables_are;
    timers = fits.timers ∙ sym runs.timers_are;
    arrays = fits.arrays ∙ sym lengths;
    fresh = fits.no_commands;
  }

  of_code : (s : Store) → StoreFits code s → Fits program s
  of_code s fits = record {
    variables = fits.variables ∙ runs.variables_are;
    timers = fits.timers ∙ runs.timers_are;
    arrays = fits.arrays ∙ lengths;
    no_commands = fits.fresh;
  }

  fits_begun : (s : Store) → Fits program s → Fits program (begun s)
  fits_begun s fits = record {
    variables = fits.variables;
    timers = length-map s.timers counted ∙ fits.timers;
    arrays = fits.arrays;
    no_commands = refl;
  }

  fits_after : (s : Store) (e : End) → Fits program s → IfDone e (λ after. StoreFits code (without_commands after)) → Fits program (store_after s e)
  fits_after s (Done after) fits done = of_code (without_commands after) done
  fits_after s (Faulted kind line) fits done = fits
  fits_after s Stuck fits done = fits
  fits_after s Unfinished fits done = fits

  keeps : Valid code → KeepsFit (Fits program) (machine code)
  keeps valid = record {
    begins = λ s fits. fits_begun s fits;
    goes_on = λ w s fits. fits_after s (machine code w s) fits (runs_well code w s valid (to_code s fits)).fits;
  }

  first_is : first_store code ≡ store_of program
  first_is = λ j. record {
    variables = replicate (runs.variables_are j) (pos 0);
    arrays = runs.arrays_are j;
    timers = replicate (runs.timers_are j) record { count = 0; runs = false };
    commands = [];
  }

  first_fits : Fits program (store_of program)
  first_fits = record {
    variables = length-replicate (length (variables program)) (pos 0);
    timers = length-replicate (length (timers program)) record { count = 0; runs = false };
    arrays = map-map length (λ a. a.values) program.arrays;
    no_commands = refl;
  }

  -- the same rows
  pub same_rows : Valid code → (first last : ℕ) (columns : List Column) (site : Site) (frames : List Counts) →
      rows_text first last columns (code_at site code) frames ≡ rows_text first last columns (program_at site program) frames
  unfolding rows_text
  same_rows valid first last columns site frames =
      ap (λ store. told_from (row_of first last columns (machine code) site) (machine code) site (opening site store) frames) first_is
      ∙ rows_agree first last columns (Fits program) (machine code) (logic_of program) site (opening site (store_of program)) frames
      (keeps valid) runs.same first_fits

  -- the same is told of the code's run and of the program's
  pub same_told : Valid code → (row : Past → Counts → List ℕ) (site : Site) (frames : List Counts) →
      told_from row (machine code) site (opening site (first_store code)) frames
      ≡ told_from row (logic_of program) site (opening site (store_of program)) frames
  same_told valid row site frames =
      ap (λ store. told_from row (machine code) site (opening site store) frames) first_is
      ∙ told_agrees row (Fits program) (machine code) (logic_of program) site (opening site (store_of program)) frames (keeps valid) runs.same first_fits
