-- The code of a checked program is valid and means the program.
use Rattle.std.proofs.Common.{◌≡◌, ℕ, zero, suc, ◌+◌, ◌<◌, ◌≤◌, List, [], ◌∷◌, ◌++◌, length, map, get_or, true, refl, sym, ap, ◌∙◌, subst, arith, ⊎_elim, length-append}
use Rattle.std.specs.Prelude.{ℤ, sum, IsTrue, replicate, pos}
use Rattle.std.specs.List.{All, flat_map, sum_by}
use Rattle.std.proofs.lemmas.Bool.{cases_lt}
use Rattle.std.proofs.lemmas.List.{length-map, get_or_append_left}
use Rattle.std.proofs.lemmas.List.Elements.{All-from_recursion, All-head, All-tail, All-map}
use Rattle.std.proofs.lemmas.List.Sums.{sum-map, sum_by-cons}
use Rattle.sig_types.specs.Pass.{Store}
use Rattle.vap_ast.specs.Parsed.{ParsedRoutine, ParsedItems}
use Rattle.vap_ast.specs.Sound.{IsSound, source_of}
use Rattle.vap_ast.specs.Syntax.{Array, Items, Routine, Program}
use Rattle.vap_ast.specs.Tree.{program_of}
use Rattle.vap_check.specs.Accepted.{bodies_size}
use Rattle.vap_check.specs.Checked.{IsChecked}
use Rattle.vap_check.specs.Names.{bodies, variables, timers}
use Rattle.vap_check.specs.Numbers.{Meant, names_of}
use Rattle.vap_check.specs.Usable.{UsableItems}
use Rattle.vap_code.specs.Codes.{CodeOf}
use Rattle.vap_code.specs.Valid.{Valid, HasShape, begins, rise}
use Rattle.code_verify.specs.Ends.{ValidCodeEnds}
use Rattle.vap_compile.specs.Layout.{routine_starts}
use Rattle.vap_check.specs.Passes.{first_store_of, source_in}
use Rattle.vap_compile.specs.Compiled.{IsLaidOut, HasNumbersOf, MeansProgram}
use Rattle.vap_code.specs.Stores.{first_store, stopped}
use Rattle.vap_compile.proofs.Means.{means_the}
use Rattle.vap_compile.proofs.Validity.{BodyFits, valid_code, good_at, all_is}
use Rattle.vap_compile.proofs.Routines.{starts_length, starts_rise, starts_inside}

-- ---- bodies of routines

at_front : (P : Items → Type 0) (subs : List Items) (main : Items) (k : ℕ) → k < length subs
    → P (get_or subs k Items.none) → P (get_or (subs ++ main ∷ []) k Items.none)
at_front P subs main k lt h = subst P (sym (get_or_append_left subs (main ∷ []) Items.none k lt)) h

at_back : (subs : List Items) (main : Items) → get_or (subs ++ main ∷ []) (length subs) Items.none ≡ main
at_back [] main = refl
at_back (body ∷ subs) main = at_back subs main

parsed_at : (most : ℕ) (rs : List Routine) (k : ℕ) → All (λ r. ParsedRoutine most r) rs → k < length rs
    → ParsedItems most 100 (get_or (map (λ r. r.body) rs) k Items.none)
parsed_at most [] k all lt = absurd (omega arith)
parsed_at most (r ∷ rs) zero all lt = (All-head (λ r. ParsedRoutine most r) r rs all).body
parsed_at most (r ∷ rs) (suc k) all lt =
    parsed_at most rs k (All-tail (λ r. ParsedRoutine most r) r rs all) (omega arith)

-- ---- arrays

-- the lengths of what is kept of each
lengths : {A B : Type 0} (f : A → List B) (xs : List A) → map (λ a. length (f a)) xs ≡ map length (map f xs)
lengths f [] = refl
lengths f (x ∷ xs) = ap (λ ns. length (f x) ∷ ns) (lengths f xs)

flat_length : (xs : List Array) → sum_by (λ a. length a.values) xs ≡ length (flat_map (λ a. a.values) xs)
flat_length [] = refl
flat_length (x ∷ xs) =
    omega (
      arith,
      sum_by-cons (λ a. length a.values) x xs,
      length-append x.values
          (flat_map (λ a. a.values) xs),
      flat_length xs,
    )

-- ---- starts

first_start : (subs : List Items) (main : Items)
    → (get_or (routine_starts 0 (subs ++ main ∷ [])) 0 1 ≡ 0) ×
    (begins (routine_starts 0 (subs ++ main ∷ [])) 0 ≡ true)
first_start [] main = (refl, refl)
first_start (body ∷ subs) main = (refl, refl)

-- how many cells an array may have
abbrev Limits : List ℤ → Type 0
Limits xs = (1 ≤ length xs) × (length xs ≤ 1024)

module _ (m : Meant) (c : CodeOf) (checked : IsChecked m) (is : IsLaidOut m c) where
  abbrev p : Program
  p = program_of m.tree

  abbrev subs : List Items
  subs = map (λ r. r.body) (program_of m.tree).subs

  abbrev all : List Items
  all = bodies (program_of m.tree)

  usable_as : (k : ℕ) (body : Items)
      → UsableItems (names_of p) (length (variables p))
      (length (timers p)) (length p.arrays) k body
      → UsableItems m.names c.vars c.timers (length c.arrays) k body
  usable_as k body u =
      let e1 = ap (λ x. x.names) checked.value in
      let e2 = is.numbers.variables ∙ ap (λ x. x.variables) checked.value in
      let e3 = is.numbers.timers ∙ ap (λ x. x.timers) checked.value in
      let u1 =
      subst (λ ns. UsableItems ns (length (variables p))
      (length (timers p)) (length p.arrays) k body) (sym e1)
      u in
      let u2 =
      subst (λ n. UsableItems m.names n (length (timers p))
      (length p.arrays) k body) (sym e2) u1 in
      let u3 =
      subst (λ n. UsableItems m.names c.vars n (length p.arrays) k body) (sym e3) u2 in
      subst (λ n. UsableItems m.names c.vars c.timers n k body) (sym arrays_are) u3
    where
      arrays_are : length c.arrays ≡ length p.arrays
      arrays_are =
          ap length is.numbers.arrays ∙ length-map p.arrays (λ a. a.values)

  fits : (k : ℕ) → k < length all
      → BodyFits m.names c.vars c.timers (length c.arrays) k
      (get_or all k Items.none)
  fits k lt =
      let n = length-append subs (p.main.body ∷ []) in
      let l = length-map p.subs (λ r. r.body) in
      ⊎_elim
      (λ less. let fewer : k < length p.subs = omega (arith, l) in at_front
      (BodyFits m.names c.vars c.timers (length c.arrays) k) subs
      p.main.body k less (record {
        low = checked.runs.subs_low k fewer;
        usable = usable_as k (get_or subs k Items.none) (checked.usable.subs k fewer);
        parsed = parsed_at 1048577 p.subs k checked.parsed.subs fewer;
      }))
      (λ more. let e : length p.subs ≡ k = omega (arith, n, l) in let e' : length subs
      ≡ k = omega (arith, n) in
      subst (λ j. BodyFits m.names c.vars c.timers (length c.arrays) j
      (get_or all j Items.none)) e'
      (subst (λ b. BodyFits m.names c.vars c.timers (length c.arrays) (length subs) b)
      (sym (at_back subs p.main.body)) (record {
        low = checked.runs.main_low;
        usable =
            subst (λ j. UsableItems m.names c.vars c.timers (length c.arrays) j
            p.main.body) (sym l)
            (usable_as (length p.subs) p.main.body
            checked.usable.main);
        parsed = checked.parsed.main.body;
      })))
      (cases_lt k (length subs))

  all_size : length c.instrs ≡ bodies_size all
  all_size = all_is c m.names all is.layout.instrs is.layout.starts fits

  first : (get_or c.starts 0 1 ≡ 0) × (begins c.starts 0 ≡ true)
  first =
      subst (λ ss. (get_or ss 0 1 ≡ 0) × (begins ss 0 ≡ true)) (sym is.layout.starts)
      (first_start subs p.main.body)

  few_starts : length c.starts ≡ length p.subs + 1
  few_starts =
      omega (
        arith,
        ap length is.layout.starts,
        starts_length all 0,
        length-append subs (p.main.body ∷ []),
        length-map p.subs
            (λ r. r.body),
      )

  start_inside : (k : ℕ) → k < length c.starts → get_or c.starts k 0 < length c.instrs
  start_inside k lt =
      let e = ap (λ ss. get_or ss k 0) is.layout.starts in
      let n = ap length is.layout.starts in
      omega (
        arith,
        e,
        all_size,
        starts_inside all 0 k
            (omega (arith, n, starts_length all 0)),
      )

  shape : HasShape c
  shape = record {
    instrs = omega (arith, all_size, checked.accepted.short);
    routines = omega (arith, few_starts, checked.usable.few.subs);
    variables =
        omega (
          arith,
          is.numbers.variables,
          ap (λ x. x.variables) checked.value,
          checked.usable.few.variables,
        );
    timers = omega (arith, is.numbers.timers, ap (λ x. x.timers) checked.value, checked.usable.few.timers);
    arrays =
        omega (
          arith,
          ap length is.numbers.arrays,
          length-map p.arrays (λ a. a.values),
          checked.usable.few.arrays,
        );
    cells =
        subst (All Limits) (sym is.numbers.arrays)
        (All-map Limits (λ a. a.values) p.arrays
        (All-from_recursion (λ a. Limits a.values) p.arrays checked.usable.sized));
    all_cells =
        omega (
          arith,
          ap (λ arrays. sum (map length arrays)) is.numbers.arrays,
          ap sum (lengths (λ a. a.values) p.arrays),
          sum-map (λ a. length a.values) p.arrays,
          flat_length p.arrays,
          checked.usable.few.cells,
        );
    first = first.0;
    rising = subst (λ ss. IsTrue (rise ss)) (sym is.layout.starts) (starts_rise all 0);
    inside = start_inside;
    lines =
        λ q lt. (good_at c m.names all is.layout.instrs is.layout.starts fits q
        lt).line;
  }

  pub compiled_valid : Valid c
  compiled_valid =
      valid_code c m.names all is.layout.instrs is.layout.starts fits first.1
      (omega (arith, start_inside 0 (omega (arith, few_starts)))) shape

  sound : IsSound (source_in m)
  sound =
      subst (λ ns. IsSound (source_of p ns)) (sym (ap (λ x. x.names) checked.value))
      checked.runs.sound

  pub compiled_means : ValidCodeEnds → MeansProgram m c
  compiled_means law world s fit =
      means_the (source_in m) c sound is.layout compiled_valid law world s (record {
        variables = fit.variables ∙ sym is.numbers.variables;
        timers = fit.timers ∙ sym is.numbers.timers;
        arrays = fit.arrays
            ∙ lengths (λ a. a.values) p.arrays ∙ ap (map length) (sym is.numbers.arrays);
        fresh = fit.no_commands;
      })

-- the stores with which a code and its program begin
abbrev store_with : ℕ → ℕ → List (List ℤ) → Store
store_with variables timers arrays =
    record { variables = replicate variables (pos 0); arrays = arrays; timers = replicate timers stopped; commands = [] }

pub begins_alike : (m : Meant) (c : CodeOf) → HasNumbersOf m c → first_store c ≡ first_store_of m
begins_alike m c numbers =
    ap (λ n. store_with n c.timers c.arrays) numbers.variables
    ∙ ap (λ n. store_with m.variables n c.arrays) numbers.timers
    ∙ ap (store_with m.variables m.timers) numbers.arrays
