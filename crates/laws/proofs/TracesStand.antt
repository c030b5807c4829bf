-- The TRACE statements that are counted in the code of a program.
use Rattle.std.proofs.Common.{◌≡◌, ◌∙◌, ℕ, ◌+◌, List, [], ◌∷◌, ◌++◌, Bool, true, false, length, map, refl, sym, ap, arith, append_assoc}
use Rattle.std.proofs.lemmas.List.{append-nil}
use Rattle.std.specs.List.{flat_map}
use Rattle.sig_types.specs.declared.kinds.TimerKind.{TimerKind}
use Rattle.sig_types.specs.declared.kinds.TimerKind.TheVariants as timer
use Rattle.vap_ast.specs.declared.name.Entry.{Entry}
use Rattle.vap_ast.specs.Mean.{timer_number, variable_number}
use Rattle.vap_ast.specs.Names.{meaning_in}
use Rattle.vap_ast.specs.Sizes.{expr_size, item_size, items_size}
use Rattle.vap_ast.specs.Syntax.{Item, Items, Program, Routine, Stmt}
use Rattle.vap_ast.specs.Value.{array_number}
use Rattle.vap_code.specs.declared.Instr.TheVariants.{Do, Jump, JumpZero, Ret, SetCell, Store, Tick}
use Rattle.vap_compile.specs.Layout.{expr_code, exprs_code, item_code, items_code, label_place, routine_code, routines_code, stmt_code, sub_number, timer_instr}
use Rattle.vap_compile.proofs.Lengths.{expr_length, item_length, items_length, routine_length}
use Rattle.trace_watch.specs.Places.{statements_from, statements_in}
use Rattle.trace_told.specs.Statements.{item_traces, items_traces, program_traces, routine_traces, stmt_traces}
use Rattle.trace_told.specs.Traces.{taken_from}
use Rattle.laws.specs.TracesStand.{bodies_of, item_marks, items_marks, routines_marks, stmt_marks}
use Rattle.laws.proofs.StatementsCounted.{Counts, IsQuiet, by_number, call, join, nothing, quiet, tick}
use Rattle.laws.proofs.QuietExpressions.{expr_quiet, exprs_quiet, join_quiet}

timer_quiet : (k : TimerKind) (t : ℕ) → IsQuiet (timer_instr k t)
timer_quiet timer.Start t = record { none = λ p. refl; no_call = refl }
timer_quiet timer.Stop t = record { none = λ p. refl; no_call = refl }
timer_quiet timer.Reset t = record { none = λ p. refl; no_call = refl }

module _ (names : List Entry) (labels : List ℕ → ℕ) where
  mutual
    pub stmt_counts : (p line : ℕ) (what : Stmt) → Counts (stmt_code names labels p line what) p (stmt_traces what) (stmt_marks p line what)
    stmt_counts p line (Stmt.Assign target e) =
        join (Tick line ∷ []) _ p (p + 1) (false ∷ []) [] [] [] refl (tick p line false)
        (quiet (expr_code names e ++ Store (variable_number (meaning_in names target)) ∷ []) (p + 1)
        (join_quiet (expr_code names e) _ (expr_quiet names e) (record { none = λ p. refl; no_call = refl }, tt)))
    stmt_counts p line (Stmt.Cell array index e) =
        join (Tick line ∷ []) _ p (p + 1) (false ∷ []) [] [] [] refl (tick p line false)
        (quiet (expr_code names index ++ (expr_code names e ++ SetCell (array_number (meaning_in names array)) ∷ [])) (p + 1)
        (join_quiet (expr_code names index) _ (expr_quiet names index)
        (join_quiet (expr_code names e) _ (expr_quiet names e) (record { none = λ p. refl; no_call = refl }, tt))))
    stmt_counts p line (Stmt.If test first second) =
        let at_first = p + expr_size test + 2 in
        let at_second = at_first + items_size first + 1 in
        let one = items_code names labels at_first first in
        let two = items_code names labels at_second second in
        let e : p + 1 + expr_size test ≡ p + 1 + length (expr_code names test) = omega (arith, expr_length names test) in
        let f : at_first ≡ p + 1 + expr_size test + 1 = omega arith in
        let h : at_first + items_size first ≡ at_first + length one = omega (arith, items_length names labels at_first first) in
        join (Tick line ∷ []) _ p (p + 1) (false ∷ []) _ [] _ refl (tick p line false)
        (join (expr_code names test) _ (p + 1) (p + 1 + expr_size test) [] _ [] _ e (quiet (expr_code names test) (p + 1) (expr_quiet names test))
        (join (JumpZero at_second ∷ []) _ (p + 1 + expr_size test) at_first [] _ [] _ f
        (quiet (JumpZero at_second ∷ []) (p + 1 + expr_size test) (record { none = λ p. refl; no_call = refl }, tt))
        (join one _ at_first (at_first + items_size first) (items_traces first) _ (items_marks at_first first) _ h (items_count at_first first)
        (join (Jump (at_second + items_size second) ∷ []) two (at_first + items_size first) at_second [] (items_traces second) [] (items_marks at_second second) refl
        (quiet (Jump (at_second + items_size second) ∷ []) (at_first + items_size first) (record { none = λ p. refl; no_call = refl }, tt))
        (items_count at_second second)))))
    stmt_counts p line (Stmt.Goto label) =
        join (Tick line ∷ []) _ p (p + 1) (false ∷ []) [] [] [] refl (tick p line false)
        (quiet (Jump (labels label) ∷ []) (p + 1) (record { none = λ p. refl; no_call = refl }, tt))
    stmt_counts p line (Stmt.Gosub sub) = call p line (sub_number (meaning_in names sub))
    stmt_counts p line (Stmt.Do kind args) =
        join (Tick line ∷ []) _ p (p + 1) (false ∷ []) [] [] [] refl (tick p line false)
        (quiet (exprs_code names args ++ Do kind ∷ []) (p + 1)
        (join_quiet (exprs_code names args) _ (exprs_quiet names args) (record { none = λ p. refl; no_call = refl }, tt)))
    stmt_counts p line (Stmt.Timer kind timer) =
        join (Tick line ∷ []) _ p (p + 1) (false ∷ []) [] [] [] refl (tick p line false)
        (quiet (timer_instr kind (timer_number (meaning_in names timer)) ∷ []) (p + 1) (timer_quiet kind (timer_number (meaning_in names timer)), tt))
    stmt_counts p line Stmt.Trace = tick p line true

    pub item_counts : (p : ℕ) (item : Item) → Counts (item_code names labels p item) p (item_traces item) (item_marks p item)
    item_counts p (Item.Label name line) = nothing p
    item_counts p (Item.Step line what) = stmt_counts p line what

    pub items_count : (p : ℕ) (items : Items) → Counts (items_code names labels p items) p (items_traces items) (items_marks p items)
    items_count p Items.none = nothing p
    items_count p (Items.next item items) =
        let at : p + item_size item ≡ p + length (item_code names labels p item) = omega (arith, item_length names labels p item) in
        join (item_code names labels p item) (items_code names labels (p + item_size item) items) p (p + item_size item) (item_traces item) (items_traces items)
        (item_marks p item) (items_marks (p + item_size item) items) at (item_counts p item) (items_count (p + item_size item) items)

-- for the statements of routines, whether they are TRACE statements
abbrev routines_traces : List Items → List Bool
routines_traces [] = []
routines_traces (body ∷ bodies) = (items_traces body ++ []) ++ routines_traces bodies

module _ (names : List Entry) where
  routine_counts : (p : ℕ) (body : Items) → Counts (routine_code names p body) p (items_traces body ++ []) (items_marks p body ++ [])
  routine_counts p body =
      let labels = label_place p body in
      let at : p + items_size body ≡ p + length (items_code names labels p body) = omega (arith, items_length names labels p body) in
      join (items_code names labels p body) (Ret ∷ []) p (p + items_size body) (items_traces body) [] (items_marks p body) [] at
      (items_count names labels p body) (quiet (Ret ∷ []) (p + items_size body) (record { none = λ p. refl; no_call = refl }, tt))

  routines_count : (p : ℕ) (bodies : List Items) → Counts (routines_code names p bodies) p (routines_traces bodies) (routines_marks p bodies)
  routines_count p [] = nothing p
  routines_count p (body ∷ bodies) =
      let next = p + items_size body + 1 in
      let at : next ≡ p + length (routine_code names p body) = omega (arith, routine_length names p body) in
      let both : Counts (routine_code names p body ++ routines_code names next bodies) p (routines_traces (body ∷ bodies))
      ((items_marks p body ++ []) ++ routines_marks next bodies) =
      join (routine_code names p body) (routines_code names next bodies) p next (items_traces body ++ []) (routines_traces bodies)
      (items_marks p body ++ []) (routines_marks next bodies) at (routine_counts p body) (routines_count next bodies) in
      record {
        found = both.found;
        reads = both.reads;
        as_many = both.as_many;
        are = both.are ∙ ap (λ ms. ms ++ routines_marks next bodies) (append-nil (items_marks p body));
      }

  -- the statements of a whole program
  traces_are : (subs : List Routine) (main : Items)
      → routines_traces (map (λ r. r.body) subs ++ main ∷ []) ≡ flat_map routine_traces subs ++ items_traces main
  traces_are [] main = append-nil (items_traces main ++ []) ∙ append-nil (items_traces main)
  traces_are (r ∷ rs) main =
      ap (λ fs. fs ++ routines_traces (map (λ r. r.body) rs ++ main ∷ [])) (append-nil (items_traces r.body))
      ∙ ap (λ fs. items_traces r.body ++ fs) (traces_are rs main)
      ∙ sym (append_assoc (items_traces r.body) (flat_map routine_traces rs) (items_traces main))

  pub all_stand_by : (p : Program)
      → taken_from 0 (program_traces p) (statements_in (routines_code names 0 (bodies_of names p))) ≡ routines_marks 0 (bodies_of names p)
  all_stand_by p =
      let bodies = bodies_of names p in
      let code = routines_code names 0 bodies in
      let counts = routines_count 0 bodies in
      let found : statements_in code ≡ counts.found =
      ap (statements_from 0 false) (sym (append-nil code)) ∙ counts.reads [] ∙ append-nil counts.found in
      (λ i. taken_from 0 (sym (traces_are p.subs p.main.body) i) (found i))
      ∙ by_number [] (routines_traces bodies) counts.found counts.as_many
      ∙ counts.are

pub all_stand : (names : List Entry) (p : Program)
    → taken_from 0 (program_traces p) (statements_in (routines_code names 0 (bodies_of names p))) ≡ routines_marks 0 (bodies_of names p)
all_stand names p = all_stand_by names p
