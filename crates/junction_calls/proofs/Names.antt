-- The names of variables and their values.
use Rattle.std.proofs.Common.{◌≡◌, ◌∙◌, ◌≤◌, ◌+◌, ◌++◌, ◌∷◌, [], ℕ, ℤ, List, length, take, None, Some, Ok, refl, sym, ap, subst, arith, inl, inr, ⊎_elim, Bor}
use Rattle.std.specs.List.{slice_get, flat_map}
use Rattle.std.proofs.lemmas.Grind.{take_at_read}
use Rattle.std.proofs.lemmas.List.{append_assoc, flat_map_more, take_all}
use Rattle.std.proofs.lemmas.Option.{get_or_from_slice_get, slice_get_within, slice_get_cases}
use Rattle.sig_types.specs.Pass.{Store, without_commands}
use Rattle.controller.specs.Controls.{StandsFor}
use Rattle.controller.specs.Past.{Past}
use Rattle.controller.specs.declared.controller.Controller.{Controller}
use Rattle.vap_ast.specs.Syntax.{Program}
use Rattle.junction_run.specs.declared.stop.LoadStop.{LoadStop}
use Rattle.junction_run.specs.declared.stop.LoadStop.TheVariants as load
use Rattle.junction_run.specs.declared.stop.Reason.{Reason}
use Rattle.junction_run.specs.Programs.{ProgramIs}
use Rattle.junction_run.specs.Reasons.{reason_text}
use Rattle.junction_run.specs.Sites.{IsRefusedProgram}
use Rattle.junction_calls.specs.Copied.{IsCopied}
use Rattle.sig_types.specs.declared.numbers.Clock.{Clock}
use Rattle.junction_calls.specs.declared.variables.NamesOf.{NamesOf}
use Rattle.junction_calls.specs.Variables.{names_text, AreNamesTold, named, no_program, IsCountTold, IsValueTold}

-- a name with its line feed
abbrev pub line : List ℕ → List ℕ
line name = name ++ 10 ∷ []

-- one name more
pub one_more : (names : List (List ℕ)) (i : ℕ) (name text : List ℕ) → slice_get names i ≡ Some name → text ≡ flat_map line (take i names) →
    text ++ line name ≡ flat_map line (take (i + 1) names)
one_more names i name text is so_far =
    let first : take (i + 1) names ≡ take i names ++ name ∷ [] =
    (take_at_read names i name (slice_get_within names i name is)).1 ∙ ap (λ x. take i names ++ x ∷ []) (get_or_from_slice_get names i name name is) in
    ap (λ t. t ++ line name) so_far ∙ flat_map_more line [] (take i names) name ∙ sym (ap (λ l. flat_map line l) first)

-- the same, where the name and its line feed come behind the text one after the other
pub with_line : (names : List (List ℕ)) (i : ℕ) (name bytes text longer ended : List ℕ) → slice_get names i ≡ Some name → bytes ≡ name →
    text ≡ flat_map line (take i names) → longer ≡ text ++ bytes → ended ≡ longer ++ 10 ∷ [] → ended ≡ flat_map line (take (i + 1) names)
with_line names i name bytes text longer ended is same so_far first second =
    second ∙ ap (λ t. t ++ 10 ∷ []) (first ∙ ap (λ b. text ++ b) same) ∙ append_assoc text name (10 ∷ []) ∙ one_more names i name text is so_far

-- nothing stands behind the last of a list
pub past_end : {A : Type 0} (xs : List A) (i : ℕ) → slice_get xs i ≡ None → length xs ≤ i
past_end xs i is = ⊎_elim (λ p. absurd (let e : Some p.0 ≡ None = sym p.2 ∙ is in cc)) (λ p. p.0) (slice_get_cases xs i).1

-- no name is behind the last one
pub no_more : (names : List (List ℕ)) (i : ℕ) (text : List ℕ) → slice_get names i ≡ None → text ≡ flat_map line (take i names) →
    text ≡ flat_map line (take (i + 1) names)
no_more names i text is so_far =
    let past : length names ≤ i = past_end names i is in
    so_far ∙ ap (λ l. flat_map line l) (take_all i names past ∙ sym (take_all (i + 1) names (omega (arith, past))))

-- the variables of a controller that stands for a past are those of its store
vars_of : (c : Controller) (store : Store) (vars : List ℤ) (past : Past) → ((past : Past) → StandsFor c past → without_commands store ≡ past.store) →
    vars ≡ store.variables → StandsFor c past → vars ≡ past.store.variables
vars_of c store vars past kept is stands = is ∙ ap (λ s. s.variables) (kept past stands)

pub some_value : (c : Controller) (store : Store) (vars : List ℤ) (number : ℕ) (value before : ℤ) →
    ((past : Past) → StandsFor c past → without_commands store ≡ past.store) → vars ≡ store.variables → slice_get vars number ≡ Some value →
    IsValueTold (Some c) number 0 before value
some_value c store vars number value before kept is found =
    λ past stands. inl (refl, subst (λ vs. slice_get vs number ≡ Some value) (vars_of c store vars past kept is stands) found)

pub no_value : (c : Controller) (store : Store) (vars : List ℤ) (number : ℕ) (before : ℤ) →
    ((past : Past) → StandsFor c past → without_commands store ≡ past.store) → vars ≡ store.variables → slice_get vars number ≡ None →
    IsValueTold (Some c) number 4 before before
no_value c store vars number before kept is found =
    λ past stands. inr (refl, subst (λ vs. length vs ≤ number) (vars_of c store vars past kept is stands) (past_end vars number found), refl)

-- the timers of a controller that stands for a past are those of its store
timers_of : (c : Controller) (store : Store) (timers : List Clock) (past : Past) → ((past : Past) → StandsFor c past → without_commands store ≡ past.store) →
    timers ≡ store.timers → StandsFor c past → timers ≡ past.store.timers
timers_of c store timers past kept is stands = is ∙ ap (λ s. s.timers) (kept past stands)

pub some_count : (c : Controller) (store : Store) (timers : List Clock) (number : ℕ) (timer : Clock) (before : ℕ) →
    ((past : Past) → StandsFor c past → without_commands store ≡ past.store) → timers ≡ store.timers → slice_get timers number ≡ Some timer →
    IsCountTold (Some c) number 0 before timer.count
some_count c store timers number timer before kept is found =
    λ past stands. inl (timer, refl, subst (λ ts. slice_get ts number ≡ Some timer) (timers_of c store timers past kept is stands) found, refl)

pub no_count : (c : Controller) (store : Store) (timers : List Clock) (number before : ℕ) →
    ((past : Past) → StandsFor c past → without_commands store ≡ past.store) → timers ≡ store.timers → slice_get timers number ≡ None →
    IsCountTold (Some c) number 4 before before
no_count c store timers number before kept is found =
    λ past stands. inr (refl, subst (λ ts. length ts ≤ number) (timers_of c store timers past kept is stands) (past_end timers number found), refl)

-- the names of a program are copied from a text that shows them
pub names_told : (of : NamesOf) (bytes old new shown text : List ℕ) (before told : ℕ) (p : Program) → ProgramIs bytes (Ok p) → IsCopied shown old new →
    shown ≡ text → text ≡ names_text of p → told ≡ length shown → AreNamesTold of bytes old new before told 0
names_told of bytes old new shown text before told p is copied same tells n =
    let all : shown ≡ names_text of p = same ∙ tells in
    named p is (subst (λ t. IsCopied t old new) all copied) (n ∙ ap length all)

-- the text of a program that is refused
pub refused_told : (of : NamesOf) (bytes old : List ℕ) (before : ℕ) (stop : LoadStop) (word : Bor (List ℕ)) (line : ℕ) (reason : Reason) →
    stop ≡ load.Refused word line reason → IsRefusedProgram bytes stop → AreNamesTold of bytes old old before before 5
refused_told of bytes old before stop word line reason same is =
    let at : IsRefusedProgram bytes (load.Refused word line reason) = subst (λ s. IsRefusedProgram bytes s) same is in
    no_program (line, reason_text reason) at refl refl
