-- The names of an accepted program can be used as they are.
use Rattle.std.proofs.Common.{◌≡◌, ℕ, zero, suc, ◌+◌, ◌<◌, ◌≤◌, Bool, true, false, not, ◌||◌, ◌==◌, cond, List, [], ◌∷◌, ◌++◌, map, length, Option, None, Some, refl, sym, ap, ◌∙◌, subst, true≢false, if◌then◌else◌, arith, append_assoc, append-nil, length-append}
use Rattle.std.specs.Prelude.{position, nat_lt, nat_le, filter, flat_map, ℤ, pos, negsuc, ◌&&◌, slice_index_or as get_or}
use Rattle.std.specs.List.{AllByRecursion}
use Rattle.std.specs.Option.{option_map, option_or}
use Rattle.std.specs.Str.{bytes_eq}
use Rattle.std.proofs.lemmas.Bool.{ltb-false, or_right, or_parts}
use Rattle.std.proofs.lemmas.Slice.Eq.{bytes_eq-Decides}
use Rattle.std.proofs.lemmas.List.{length-map}
use Rattle.std.proofs.lemmas.Bool.Decides.{nat_tests}
use Rattle.std.proofs.lemmas.List.Folds.{list_any-append}
use Rattle.sig_types.specs.Arity.{reading_arity, command_arity}
use Rattle.sig_types.specs.Limits.{most_array_cells}
use Rattle.vap_ast.specs.declared.name.Entry.{Entry}
use Rattle.vap_ast.specs.declared.name.Meaning.{Meaning}
use Rattle.vap_ast.specs.declared.name.Meaning.TheVariants.{Constant as Const_is, Array as Array_is, Sub as Sub_is, Timer as Timer_is, Variable as Variable_is}
use Rattle.vap_ast.specs.Names.{meaning_in}
use Rattle.vap_ast.specs.Sizes.{own_size}
use Rattle.vap_ast.specs.Sound.{count_arguments}
use Rattle.vap_ast.specs.Syntax.{Expr, Exprs, Item, Items, Stmt, Routine, Constant, Array, Program}
use Rattle.vap_check.specs.declared.refusal.CheckWhy.TheVariants.{NameKind, ArraySize, NoSub, Arity, StatementTooLong, SubTwice}
use Rattle.vap_check.specs.declared.kinds.Kind.{Kind}
use Rattle.vap_check.specs.declared.kinds.Kind.TheVariants as kind
use Rattle.vap_check.specs.FirstFinding.{when}
use Rattle.vap_check.specs.Names.{among, with_name, kind_of, uses, expr_uses, exprs_uses, stmt_uses, item_uses, stmt_timers, item_timers, items_timers, items_uses, is_kind, variables, timers, array_names, sub_names, const_names, timer_names, items_labels, label_names}
use Rattle.vap_check.specs.Findings.{is_misread, is_no_array, is_no_timer, assign_findings, expr_findings, exprs_findings, stmt_findings, item_findings, items_findings, body_findings, label_findings, subs_findings, is_declared, findings, array_findings, clash_findings, is_odd_size, const_line}
use Rattle.vap_check.specs.Accepted.{passed}
use Rattle.vap_check.specs.Numbers.{consts_of, names_of}
use Rattle.vap_check.specs.Usable.{IsValue, IsVariable, IsTimer, IsArray, IsSub, UsableExpr, UsableExprs, UsableStmt, UsableItem, UsableItems, Usable}
use Rattle.vap_check.proofs.Agree.{among_distinct, same_is}
use Rattle.vap_check.proofs.Meanings.{turned, position_step, meaning_is}
use Rattle.vap_check.proofs.Fresh.{first_empty, second_empty, when_none, one_name, no_array, no_sub, no_main, few}

-- ---- where a name stands in a list

found_front : (ns more : List (List ℕ)) (n : List ℕ) → among ns n ≡ true → (i : ℕ) × (i < length ns) × (position (bytes_eq n) (ns ++ more) ≡ Some i)
found_front [] more n e = absurd (true≢false (sym e))
found_front (x ∷ xs) more n e =
    (elim (bytes_eq n x) as (λ b. bytes_eq n x ≡ b → (b || among xs n) ≡ true → (i : ℕ) × (i < suc (length xs))
    × (position (bytes_eq n) (x ∷ (xs ++ more)) ≡ Some i)) [
      | true ↦ λ t h. (
        0,
        omega arith,
        position_step (bytes_eq n) x (xs ++ more) ∙
            ap (λ b. cond b (Some 0) (option_map suc (position (bytes_eq n) (xs ++ more)))) t,
      )
      | false ↦ λ t h. let r = found_front xs more n h in (
        suc r.0,
        omega (arith, r.1),
        position_step (bytes_eq n) x (xs ++ more) ∙
            ap (λ b. cond b (Some 0) (option_map suc (position (bytes_eq n) (xs ++ more)))) t ∙ ap (option_map suc) r.2,
      )
    ]) refl e

pub found_at : (ns : List (List ℕ)) (n : List ℕ) → among ns n ≡ true → (i : ℕ) × (i < length ns) × (position (bytes_eq n) ns ≡ Some i)
found_at ns n e = let r = found_front ns [] n e in (r.0, r.1, ap (position (bytes_eq n)) (sym (append-nil ns)) ∙ r.2)

pub absent_at : (ns : List (List ℕ)) (n : List ℕ) → among ns n ≡ false → position (bytes_eq n) ns ≡ None
absent_at [] n e = refl
absent_at (x ∷ xs) n e =
    (elim (bytes_eq n x) as (λ b. bytes_eq n x ≡ b → (b || among xs n) ≡ false → position (bytes_eq n) (x ∷ xs) ≡ None) [
      | true ↦ λ t h. absurd (true≢false h)
      | false ↦ λ t h. position_step (bytes_eq n) x xs ∙ ap (λ b. cond b (Some 0) (option_map suc (position (bytes_eq n) xs))) t ∙
          ap (option_map suc) (absent_at xs n h)
    ]) refl e

abbrev entry_of : Constant → Entry
entry_of c = record { name = c.name; meaning = Const_is c.value }

const_there : (cs : List Constant) (n : List ℕ) → among (map (λ c. c.name) cs) n ≡ true → (v : ℤ) × (meaning_in (map entry_of cs) n ≡ Some (Const_is v))
const_there [] n e = absurd (true≢false (sym e))
const_there (c ∷ cs) n e =
    (elim (bytes_eq n c.name) as (λ b. bytes_eq n c.name ≡ b → (b || among (map (λ c. c.name) cs) n) ≡ true → (v : ℤ)
    × ((if bytes_eq c.name n then Some (Const_is c.value) else meaning_in (map entry_of cs) n) ≡ Some (Const_is v))) [
      | true ↦ λ t h. (c.value, ap (λ b. if b then Some (Const_is c.value) else meaning_in (map entry_of cs) n) (turned c.name n ∙ t))
      | false ↦ λ t h. let r = const_there cs n h in
          (r.0, ap (λ b. if b then Some (Const_is c.value) else meaning_in (map entry_of cs) n) (turned c.name n ∙ t) ∙ r.1)
    ]) refl e

const_absent : (cs : List Constant) (n : List ℕ) → among (map (λ c. c.name) cs) n ≡ false → meaning_in (map entry_of cs) n ≡ None
const_absent [] n e = refl
const_absent (c ∷ cs) n e =
    (elim (bytes_eq n c.name) as (λ b. bytes_eq n c.name ≡ b → (b || among (map (λ c. c.name) cs) n) ≡ false →
    (if bytes_eq c.name n then Some (Const_is c.value) else meaning_in (map entry_of cs) n) ≡ None) [
      | true ↦ λ t h. absurd (true≢false h)
      | false ↦ λ t h. ap (λ b. if b then Some (Const_is c.value) else meaning_in (map entry_of cs) n) (turned c.name n ∙ t) ∙ const_absent cs n h
    ]) refl e

among_filter : (f : List ℕ → Bool) (xs : List (List ℕ)) (n : List ℕ) → f n ≡ true → among xs n ≡ true → among (filter f xs) n ≡ true
among_filter f [] n t e = e
among_filter f (x ∷ xs) n t e =
    (elim (bytes_eq n x) as (λ b. bytes_eq n x ≡ b → (b || among xs n) ≡ true → among (if f x then x ∷ filter f xs else filter f xs) n ≡ true) [
      | true ↦ λ s h. ap (λ b. among (if b then x ∷ filter f xs else filter f xs) n) (subst (λ y. f y ≡ true) (same_is n x s) t) ∙
          ap (λ b. b || among (filter f xs) n) s
      | false ↦ λ s h. (elim (f x) as (λ c. among (if c then x ∷ filter f xs else filter f xs) n ≡ true) [
        | true ↦ ap (λ b. b || among (filter f xs) n) s ∙ among_filter f xs n t h
        | false ↦ among_filter f xs n t h
      ])
    ]) refl e

among_no_filter : (f : List ℕ → Bool) (xs : List (List ℕ)) (n : List ℕ) → f n ≡ false → among (filter f xs) n ≡ false
among_no_filter f [] n t = refl
among_no_filter f (x ∷ xs) n t =
    (elim (f x) as (λ c. f x ≡ c → among (if c then x ∷ filter f xs else filter f xs) n ≡ false) [
      | true ↦ λ s. (elim (bytes_eq n x) as (λ b. bytes_eq n x ≡ b → (b || among (filter f xs) n) ≡ false) [
        | true ↦ λ u. absurd (true≢false (sym s ∙ subst (λ y. f y ≡ false) (same_is n x u) t))
        | false ↦ λ u. among_no_filter f xs n t
      ]) refl
      | false ↦ λ s. among_no_filter f xs n t
    ]) refl

count_is : (a b : ℕ) → not (a == b) ≡ false → a ≡ b
count_is a b e = grind (arith, nat_tests)

not_false : (b : Bool) → not b ≡ false → b ≡ true
not_false true e = refl
not_false false e = absurd (true≢false e)

-- ---- what a name of a program is

module _ (p : Program) where
  -- what the name n means, part by part
  parts : (n : List ℕ) (c a s t v : Option Meaning) → meaning_in (consts_of p) n ≡ c →
      option_map Array_is (position (bytes_eq n) (array_names p)) ≡ a → option_map Sub_is (position (bytes_eq n) (sub_names p)) ≡ s
      → option_map Timer_is (position (bytes_eq n) (timers p)) ≡ t → option_map Variable_is (position (bytes_eq n) (variables p)) ≡ v →
      meaning_in (names_of p) n ≡ option_or c (option_or a (option_or s (option_or t v)))
  parts n c a s t v ec ea es et ev = meaning_is (consts_of p) (array_names p) (sub_names p) (timers p) (variables p) n ∙
      (λ i. option_or (ec i) (option_or (ea i) (option_or (es i) (option_or (et i) (ev i)))))

  abbrev Is : List ℕ → Kind → Type 0
  Is n kind.Constant = (v : ℤ) × (meaning_in (names_of p) n ≡ Some (Const_is v))
  Is n kind.Array = (a : ℕ) × (a < length (array_names p)) × (meaning_in (names_of p) n ≡ Some (Array_is a))
  Is n kind.Sub = Unit {0}
  Is n kind.Timer = among (uses p) n ≡ true → (t : ℕ) × (t < length (timers p)) × (meaning_in (names_of p) n ≡ Some (Timer_is t))
  Is n kind.Variable = among (uses p) n ≡ true → (x : ℕ) × (x < length (variables p)) × (meaning_in (names_of p) n ≡ Some (Variable_is x))

  is_const : (n : List ℕ) → among (const_names p) n ≡ true → Is n kind.Constant
  is_const n e = let r = const_there p.consts n e in (r.0, parts n _ _ _ _ _ r.1 refl refl refl refl)

  is_array : (n : List ℕ) → among (const_names p) n ≡ false → among (array_names p) n ≡ true → Is n kind.Array
  is_array n c e = let r = found_at (array_names p) n e in
      (r.0, r.1, parts n _ _ _ _ _ (const_absent p.consts n c) (ap (option_map Array_is) r.2) refl refl refl)

  -- a subroutine's number is that of the first with its name
  is_sub : (n : List ℕ) (i : ℕ) → among (const_names p) n ≡ false → among (array_names p) n ≡ false → position (bytes_eq n) (sub_names p) ≡ Some i →
      meaning_in (names_of p) n ≡ Some (Sub_is i)
  is_sub n i c a e = parts n _ _ _ _ _ (const_absent p.consts n c) (ap (option_map Array_is) (absent_at (array_names p) n a))
      (ap (option_map Sub_is) e) refl refl

  module _ (n : List ℕ) (c : among (const_names p) n ≡ false) (a : among (array_names p) n ≡ false) (s : among (sub_names p) n ≡ false) where
    undeclared : kind_of p n ≡ (if among (timer_names p) n then kind.Timer else kind.Variable)
    undeclared = λ i. if c i then kind.Constant else if a i then kind.Array else if s i then kind.Sub else if among (timer_names p) n then kind.Timer
        else kind.Variable

    is_a_timer : among (timer_names p) n ≡ true → Is n kind.Timer
    is_a_timer t used =
        let f = λ (m : List ℕ). is_kind kind.Timer (kind_of p m) in
        let yes_it : f n ≡ true = ap (is_kind kind.Timer) (undeclared ∙ ap (λ b. if b then kind.Timer else kind.Variable) t) in
        let there : among (timers p) n ≡ true = (λ i. among_distinct (filter f (uses p)) i n) ∙ among_filter f (uses p) n yes_it used in
        let r = found_at (timers p) n there in (
          r.0,
          r.1,
          parts n _ _ _ _ _ (const_absent p.consts n c) (ap (option_map Array_is) (absent_at (array_names p) n a))
              (ap (option_map Sub_is) (absent_at (sub_names p) n s)) (ap (option_map Timer_is) r.2) refl,
        )

    is_a_variable : among (timer_names p) n ≡ false → Is n kind.Variable
    is_a_variable t used =
        let f = λ (m : List ℕ). is_kind kind.Timer (kind_of p m) in
        let g = λ (m : List ℕ). is_kind kind.Variable (kind_of p m) in
        let kind_is : kind_of p n ≡ kind.Variable = undeclared ∙ ap (λ b. if b then kind.Timer else kind.Variable) t in
        let no_timer : among (timers p) n ≡ false = (λ i. among_distinct (filter f (uses p)) i n) ∙
        among_no_filter f (uses p) n (ap (is_kind kind.Timer) kind_is) in
        let there : among (variables p) n ≡ true = (λ i. among_distinct (filter g (uses p)) i n) ∙
        among_filter g (uses p) n (ap (is_kind kind.Variable) kind_is) used in
        let r = found_at (variables p) n there in (
          r.0,
          r.1,
          parts n _ _ _ _ _ (const_absent p.consts n c) (ap (option_map Array_is) (absent_at (array_names p) n a))
              (ap (option_map Sub_is) (absent_at (sub_names p) n s)) (ap (option_map Timer_is) (absent_at (timers p) n no_timer))
              (ap (option_map Variable_is) r.2),
        )

  sorted : (n : List ℕ) → Is n (kind_of p n)
  sorted n =
      (elim (among (const_names p) n) as (λ b. among (const_names p) n ≡ b →
      Is n (if b then kind.Constant else if among (array_names p) n then kind.Array else if among (sub_names p) n then kind.Sub else if among
      (timer_names p) n then kind.Timer else kind.Variable)) [
        | true ↦ λ c. is_const n c
        | false ↦ λ c. (elim (among (array_names p) n) as
            (λ b. among (array_names p) n ≡ b → Is n
            (if b then kind.Array else if among (sub_names p) n then kind.Sub else if among (timer_names p) n then kind.Timer else kind.Variable)) [
              | true ↦ λ a. is_array n c a
              | false ↦ λ a. (elim (among (sub_names p) n) as
                  (λ b. among (sub_names p) n ≡ b → Is n (if b then kind.Sub else if among (timer_names p) n then kind.Timer else kind.Variable)) [
                    | true ↦ λ s. tt
                    | false ↦ λ s. (elim (among (timer_names p) n) as (λ b. among (timer_names p) n ≡ b → Is n (if b then kind.Timer else kind.Variable)) [
                      | true ↦ λ t. is_a_timer n c a s t
                      | false ↦ λ t. is_a_variable n c a s t
                    ]) refl
                  ]) refl
            ]) refl
      ]) refl

-- ---- trees

last_within : (f : Items → List (List ℕ)) (bs : List Items) (b : Items) (n : List ℕ) → among (f b) n ≡ true → among (flat_map f (bs ++ b ∷ [])) n ≡ true
last_within f [] b n e = list_any-append (bytes_eq n) (f b) [] ∙ ap (λ c. c || false) e
last_within f (x ∷ bs) b n e = list_any-append (bytes_eq n) (f x) (flat_map f (bs ++ b ∷ [])) ∙ ap (λ c. among (f x) n || c) (last_within f bs b n e)
    ∙ or_right (among (f x) n) true refl

-- a name in a timer command that isn't declared is no variable
never_variable : (a b c : Bool) → (if a then kind.Constant else if b then kind.Array else if c then kind.Sub else kind.Timer) ≡ kind.Variable → ⊥
never_variable true b c e = cc
never_variable false true c e = cc
never_variable false false true e = cc
never_variable false false false e = cc

no_variable : (p : Program) (n : List ℕ) → among (timer_names p) n ≡ true → kind_of p n ≡ kind.Variable → ⊥
no_variable p n t e =
    never_variable (among (const_names p) n) (among (array_names p) n) (among (sub_names p) n)
    (sym (ap (λ b. if among (const_names p) n then kind.Constant else if among (array_names p) n then kind.Array else if among (sub_names p) n then
    kind.Sub else if b then kind.Timer else kind.Variable) t) ∙ e)

module _ (p : Program) where
  abbrev Within : List (List ℕ) → Type 0
  Within names = (n : List ℕ) → among names n ≡ true → among (uses p) n ≡ true

  left_within : (a b : List (List ℕ)) → Within (a ++ b) → Within a
  left_within a b w n e = w n (list_any-append (bytes_eq n) a b ∙ ap (λ c. c || among b n) e)

  right_within : (a b : List (List ℕ)) → Within (a ++ b) → Within b
  right_within a b w n e = w n (list_any-append (bytes_eq n) a b ∙ ap (λ c. among a n || c) e ∙ or_right (among a n) true refl)

  itself : (n : List ℕ) → Within (n ∷ []) → among (uses p) n ≡ true
  itself n w = w n (ap (λ b. b || false) ((bytes_eq-Decides n n).1 refl))

  abbrev Value_ok : List ℕ → Type 0
  Value_ok n = IsValue (names_of p) (length (variables p)) (length (timers p)) (length p.arrays) (meaning_in (names_of p) n)

  abbrev Variable_ok : List ℕ → Type 0
  Variable_ok n = IsVariable (names_of p) (length (variables p)) (length (timers p)) (length p.arrays) (meaning_in (names_of p) n)

  abbrev Timer_ok : List ℕ → Type 0
  Timer_ok n = IsTimer (names_of p) (length (variables p)) (length (timers p)) (length p.arrays) (meaning_in (names_of p) n)

  abbrev Array_ok : List ℕ → Type 0
  Array_ok n = IsArray (names_of p) (length (variables p)) (length (timers p)) (length p.arrays) (meaning_in (names_of p) n)

  abbrev Sub_ok : ℕ → List ℕ → Type 0
  Sub_ok q n = IsSub (names_of p) (length (variables p)) (length (timers p)) (length p.arrays) q (meaning_in (names_of p) n)

  -- by the kind of a name
  value_of : (k : Kind) (n : List ℕ) → Is p n k → is_misread k ≡ false → among (uses p) n ≡ true → Value_ok n
  value_of kind.Constant n i e u = subst (IsValue (names_of p) (length (variables p)) (length (timers p)) (length p.arrays)) (sym i.1) tt
  value_of kind.Timer n i e u = let r = i u in subst (IsValue (names_of p) (length (variables p)) (length (timers p)) (length p.arrays)) (sym r.2) r.1
  value_of kind.Variable n i e u = let r = i u in subst (IsValue (names_of p) (length (variables p)) (length (timers p)) (length p.arrays)) (sym r.2) r.1
  value_of kind.Array n i e u = absurd (true≢false e)
  value_of kind.Sub n i e u = absurd (true≢false e)

  variable_of : (k : Kind) (n : List ℕ) (line : ℕ) → Is p n k → assign_findings k line ≡ [] → among (uses p) n ≡ true → Variable_ok n
  variable_of kind.Variable n line i e u = let r = i u in
      subst (IsVariable (names_of p) (length (variables p)) (length (timers p)) (length p.arrays)) (sym r.2) r.1
  variable_of kind.Constant n line i e u = cc
  variable_of kind.Timer n line i e u = cc
  variable_of kind.Array n line i e u = cc
  variable_of kind.Sub n line i e u = cc

  -- a timer command makes its name a timer, where it isn't declared
  timer_of : (k : Kind) (n : List ℕ) → kind_of p n ≡ k → Is p n k → is_no_timer k ≡ false → among (timer_names p) n ≡ true → among (uses p) n ≡ true
      → Timer_ok n
  timer_of kind.Timer n is i e t u = let r = i u in subst (IsTimer (names_of p) (length (variables p)) (length (timers p)) (length p.arrays)) (sym r.2) r.1
  timer_of kind.Variable n is i e t u = absurd (no_variable p n t is)
  timer_of kind.Constant n is i e t u = absurd (true≢false e)
  timer_of kind.Array n is i e t u = absurd (true≢false e)
  timer_of kind.Sub n is i e t u = absurd (true≢false e)

  arrays_length : length (array_names p) ≡ length p.arrays
  arrays_length = length-map p.arrays (λ a. a.name)

  array_of : (k : Kind) (n : List ℕ) → Is p n k → is_no_array k ≡ false → Array_ok n
  array_of kind.Array n i e = let at : i.0 < length p.arrays = subst (λ l. i.0 < l) arrays_length i.1 in
      subst (IsArray (names_of p) (length (variables p)) (length (timers p)) (length p.arrays)) (sym i.2) at
  array_of kind.Constant n i e = absurd (true≢false e)
  array_of kind.Timer n i e = absurd (true≢false e)
  array_of kind.Variable n i e = absurd (true≢false e)
  array_of kind.Sub n i e = absurd (true≢false e)

  abbrev Timers_within : List (List ℕ) → Type 0
  Timers_within names = (n : List ℕ) → among names n ≡ true → among (timer_names p) n ≡ true

  left_timers : (a b : List (List ℕ)) → Timers_within (a ++ b) → Timers_within a
  left_timers a b w n e = w n (list_any-append (bytes_eq n) a b ∙ ap (λ c. c || among b n) e)

  right_timers : (a b : List (List ℕ)) → Timers_within (a ++ b) → Timers_within b
  right_timers a b w n e = w n (list_any-append (bytes_eq n) a b ∙ ap (λ c. among a n || c) e ∙ or_right (among a n) true refl)

  abbrev Expr_ok : Expr → Type 0
  Expr_ok = UsableExpr (names_of p) (length (variables p)) (length (timers p)) (length p.arrays)

  abbrev Exprs_ok : Exprs → Type 0
  Exprs_ok = UsableExprs (names_of p) (length (variables p)) (length (timers p)) (length p.arrays)

  mutual
    expr_ok : (line : ℕ) (e : Expr) → expr_findings (kind_of p) line e ≡ [] → Within (expr_uses e) → Expr_ok e
    expr_ok line (Expr.Literal value) c w = tt
    expr_ok line (Expr.Name n) c w = value_of (kind_of p n) n (sorted p n) (when_none (is_misread (kind_of p n)) line NameKind c) (itself n w)
    expr_ok line (Expr.Cell a index) c w =
        let head = when (is_no_array (kind_of p a)) line NameKind in
        let tail = expr_findings (kind_of p) line index in (
          array_of (kind_of p a) a (sorted p a) (when_none (is_no_array (kind_of p a)) line NameKind (first_empty head tail c)),
          expr_ok line index (second_empty head tail c) w,
        )
    expr_ok line (Expr.Unary op arg) c w = expr_ok line arg c w
    expr_ok line (Expr.Binary op left right) c w =
        let head = expr_findings (kind_of p) line left in
        let tail = expr_findings (kind_of p) line right in (
          expr_ok line left (first_empty head tail c) (left_within (expr_uses left) (expr_uses right) w),
          expr_ok line right (second_empty head tail c) (right_within (expr_uses left) (expr_uses right) w),
        )
    expr_ok line (Expr.Read word args) c w =
        let head = when (not (count_arguments args == reading_arity word)) line Arity in
        let tail = exprs_findings (kind_of p) line args in (
          count_is (count_arguments args) (reading_arity word)
              (when_none (not (count_arguments args == reading_arity word)) line Arity (first_empty head tail c)),
          exprs_ok line args (second_empty head tail c) w,
        )

    exprs_ok : (line : ℕ) (args : Exprs) → exprs_findings (kind_of p) line args ≡ [] → Within (exprs_uses args) → Exprs_ok args
    exprs_ok line Exprs.none c w = tt
    exprs_ok line (Exprs.next arg args) c w =
        let head = expr_findings (kind_of p) line arg in
        let tail = exprs_findings (kind_of p) line args in (
          expr_ok line arg (first_empty head tail c) (left_within (expr_uses arg) (exprs_uses args) w),
          exprs_ok line args (second_empty head tail c) (right_within (expr_uses arg) (exprs_uses args) w),
        )

  module _ (calls labels : List ℕ → Bool) (q : ℕ) (sub_is : (n : List ℕ) → calls n ≡ true → Sub_ok q n) where
    abbrev Stmt_ok : Stmt → Type 0
    Stmt_ok = UsableStmt (names_of p) (length (variables p)) (length (timers p)) (length p.arrays) q

    abbrev Item_ok : Item → Type 0
    Item_ok = UsableItem (names_of p) (length (variables p)) (length (timers p)) (length p.arrays) q

    abbrev Items_ok : Items → Type 0
    Items_ok = UsableItems (names_of p) (length (variables p)) (length (timers p)) (length p.arrays) q

    mutual
      stmt_ok : (line : ℕ) (what : Stmt) → stmt_findings (kind_of p) calls labels line what ≡ [] → Within (stmt_uses what) →
          Timers_within (stmt_timers what) → Stmt_ok what
      stmt_ok line (Stmt.Assign target value) c w t =
          let head = assign_findings (kind_of p target) line in
          let tail = expr_findings (kind_of p) line value in (
            variable_of (kind_of p target) target line (sorted p target) (first_empty head tail c)
                (itself target (left_within (target ∷ []) (expr_uses value) w)),
            expr_ok line value (second_empty head tail c) (right_within (target ∷ []) (expr_uses value) w),
          )
      stmt_ok line (Stmt.Cell a index value) c w t =
          let head = when (is_no_array (kind_of p a)) line NameKind in
          let middle = expr_findings (kind_of p) line index in
          let tail = expr_findings (kind_of p) line value in
          let rest = second_empty head (middle ++ tail) c in (
            array_of (kind_of p a) a (sorted p a) (when_none (is_no_array (kind_of p a)) line NameKind (first_empty head (middle ++ tail) c)),
            (
              expr_ok line index (first_empty middle tail rest) (left_within (expr_uses index) (expr_uses value) w),
              expr_ok line value (second_empty middle tail rest) (right_within (expr_uses index) (expr_uses value) w),
            ),
          )
      stmt_ok line (Stmt.If test first second) c w t =
          let head = expr_findings (kind_of p) line test in
          let middle = items_findings (kind_of p) calls labels first in
          let tail = items_findings (kind_of p) calls labels second in
          let rest = second_empty head (middle ++ tail) c in
          let others = right_within (expr_uses test) (items_uses first ++ items_uses second) w in (
            expr_ok line test (first_empty head (middle ++ tail) c) (left_within (expr_uses test) (items_uses first ++ items_uses second) w),
            (
              items_ok first (first_empty middle tail rest) (left_within (items_uses first) (items_uses second) others)
                  (left_timers (items_timers first) (items_timers second) t),
              items_ok second (second_empty middle tail rest) (right_within (items_uses first) (items_uses second) others)
                  (right_timers (items_timers first) (items_timers second) t),
            ),
          )
      stmt_ok line (Stmt.Goto label) c w t = tt
      stmt_ok line (Stmt.Gosub sub) c w t = sub_is sub (not_false (calls sub) (when_none (not (calls sub)) line NoSub c))
      stmt_ok line (Stmt.Do word args) c w t =
          let head = when (not (count_arguments args == command_arity word)) line Arity in
          let tail = exprs_findings (kind_of p) line args in (
            count_is (count_arguments args) (command_arity word)
                (when_none (not (count_arguments args == command_arity word)) line Arity (first_empty head tail c)),
            exprs_ok line args (second_empty head tail c) w,
          )
      stmt_ok line (Stmt.Timer word timer) c w t =
          timer_of (kind_of p timer) timer refl (sorted p timer) (when_none (is_no_timer (kind_of p timer)) line NameKind c)
          (t timer (ap (λ b. b || false) ((bytes_eq-Decides timer timer).1 refl))) (itself timer w)
      stmt_ok line Stmt.Trace c w t = tt

      item_ok : (item : Item) → item_findings (kind_of p) calls labels item ≡ [] → Within (item_uses item) → Timers_within (item_timers item) → Item_ok item
      item_ok (Item.Label name line) c w t = tt
      item_ok (Item.Step line what) c w t =
          let head = when (nat_lt 900 (own_size what)) line StatementTooLong in
          let tail = stmt_findings (kind_of p) calls labels line what in (
            ltb-false 900 (own_size what) (when_none (nat_lt 900 (own_size what)) line StatementTooLong (first_empty head tail c)),
            stmt_ok line what (second_empty head tail c) w t,
          )

      items_ok : (items : Items) → items_findings (kind_of p) calls labels items ≡ [] → Within (items_uses items) →
          Timers_within (items_timers items) → Items_ok items
      items_ok Items.none c w t = tt
      items_ok (Items.next item items) c w t =
          let head = item_findings (kind_of p) calls labels item in
          let tail = items_findings (kind_of p) calls labels items in (
            item_ok item (first_empty head tail c) (left_within (item_uses item) (items_uses items) w) (left_timers (item_timers item) (items_timers items) t),
            items_ok items (second_empty head tail c) (right_within (item_uses item) (items_uses items) w)
                (right_timers (item_timers item) (items_timers items) t),
          )

-- ---- routines

free_of : (rs : List Routine) (kind : List ℕ → Kind) (taken : List ℕ → Bool) (before : List (List ℕ)) → subs_findings kind taken before rs ≡ [] →
    (n : List ℕ) → among (map (λ r. r.name) rs) n ≡ true → taken n ≡ false
free_of [] kind taken before e n a = absurd (true≢false (sym a))
free_of (r ∷ rs) kind taken before e n a =
    let w = when (among before r.name) r.line SubTwice in
    let other = when (taken r.name) r.line NameKind in
    let body = body_findings kind before r.body in
    let rest = subs_findings kind taken (with_name before r.name) rs in
    let past = second_empty w (other ++ (body ++ rest)) e in
    let here : taken r.name ≡ false = when_none (taken r.name) r.line NameKind (first_empty other (body ++ rest) past) in
    let others : rest ≡ [] = second_empty body rest (second_empty other (body ++ rest) past) in
    (elim (bytes_eq n r.name) as (λ b. bytes_eq n r.name ≡ b → (b || among (map (λ r. r.name) rs) n) ≡ true → taken n ≡ false) [
      | true ↦ λ t h. subst (λ m. taken m ≡ false) (sym (same_is n r.name t)) here
      | false ↦ λ t h. free_of rs kind taken (with_name before r.name) others n h
    ]) refl a

-- an array that is no odd one has a cell, and no more than the most
sized_low : (n m : ℕ) → not (nat_lt 0 n && nat_le n most_array_cells && n == m) ≡ false → 1 ≤ m
sized_low n m e = grind (arith, nat_tests)

sized_high : (n m : ℕ) → not (nat_lt 0 n && nat_le n most_array_cells && n == m) ≡ false → m ≤ most_array_cells
sized_high n m e = grind (arith, nat_tests)

sized_one : (size : ℤ) (values : List ℤ) → is_odd_size size values ≡ false → (1 ≤ length values) × (length values ≤ most_array_cells)
sized_one (pos n) values e =
    (sized_low n (length values) e, sized_high n (length values) e)
sized_one (negsuc n) values e = absurd (true≢false e)

sized_of : (xs : List Array) (line_of : List ℕ → Option ℕ) (before : List (List ℕ)) → array_findings line_of before xs ≡ [] →
    AllByRecursion (λ a. (1 ≤ length a.values) × (length a.values ≤ most_array_cells)) xs
sized_of [] line_of before e = tt
sized_of (a ∷ xs) line_of before e =
    let w = when (among before a.name) a.line NameKind in
    let clash = clash_findings (line_of a.name) a.line in
    let size = when (is_odd_size a.size a.values) a.line ArraySize in
    let rest = array_findings line_of (with_name before a.name) xs in
    let past = second_empty clash (size ++ rest) (second_empty w (clash ++ (size ++ rest)) e) in (
      sized_one a.size a.values (when_none (is_odd_size a.size a.values) a.line ArraySize (first_empty size rest past)),
      sized_of xs line_of (with_name before a.name) (second_empty size rest past),
    )

module _ (p : Program) (clean : findings p ≡ []) where
  free : (n : List ℕ) → among (sub_names p) n ≡ true → is_declared p n ≡ false
  free = free_of p.subs (kind_of p) (is_declared p) [] (no_sub p clean)

  -- the subroutines above may be called
  above_ok : (before more : List (List ℕ)) (q : ℕ) → length before ≡ q → sub_names p ≡ before ++ more → (n : List ℕ) → among before n ≡ true → Sub_ok p q n
  above_ok before more q l s n e =
      let r = found_front before more n e in
      let there : among (sub_names p) n ≡ true = ap (λ ns. among ns n) s ∙ list_any-append (bytes_eq n) before more ∙ ap (λ c. c || among more n) e in
      let no = free n there in
      let at = ap (position (bytes_eq n)) s ∙ r.2 in
      let neither = or_parts (among (const_names p) n) (among (array_names p) n) no in
      let is = is_sub p n r.0 neither.0 neither.1 at in
      let below : r.0 < q = subst (λ m. r.0 < m) l r.1 in
      subst (IsSub (names_of p) (length (variables p)) (length (timers p)) (length p.arrays) q) (sym is) below

  abbrev Body_ok : ℕ → Items → Type 0
  Body_ok q = UsableItems (names_of p) (length (variables p)) (length (timers p)) (length p.arrays) q

  body_ok : (before more : List (List ℕ)) (q : ℕ) → length before ≡ q → sub_names p ≡ before ++ more → (body : Items) →
      body_findings (kind_of p) before body ≡ [] → Within p (items_uses body) → Timers_within p (items_timers body) → Body_ok q body
  body_ok before more q l s body c w t =
      items_ok p (among before) (among (label_names body)) q (above_ok before more q l s) body
      (second_empty (label_findings [] (items_labels body)) (items_findings (kind_of p) (among before) (among (label_names body)) body) c) w t

  walk : (rs : List Routine) (before : List (List ℕ)) (q : ℕ) → length before ≡ q → sub_names p ≡ before ++ map (λ r. r.name) rs →
      subs_findings (kind_of p) (is_declared p) before rs ≡ []
      → Within p (flat_map items_uses (map (λ r. r.body) rs ++ p.main.body ∷ [])) →
      Timers_within p (flat_map items_timers (map (λ r. r.body) rs ++ p.main.body ∷ []))
      → (k : ℕ) → k < length rs → Body_ok (q + k) (get_or (map (λ r. r.body) rs) k Items.none)
  walk [] before q l s c w t k lt = absurd (omega arith)
  walk (r ∷ rs) before q l s c w t zero lt =
      let twice = when (among before r.name) r.line SubTwice in
      let other = when (is_declared p r.name) r.line NameKind in
      let body = body_findings (kind_of p) before r.body in
      let rest = subs_findings (kind_of p) (is_declared p) (with_name before r.name) rs in
      let past = second_empty other (body ++ rest) (second_empty twice (other ++ (body ++ rest)) c) in
      let more = map (λ (r : Routine). r.body) rs ++ p.main.body ∷ [] in
      let e : q ≡ q + 0 = omega arith in
      subst (λ m. Body_ok m r.body) e (body_ok before (map (λ r. r.name) (r ∷ rs)) q l s r.body (first_empty body rest past)
      (left_within p (items_uses r.body) (flat_map items_uses more) w) (left_timers p (items_timers r.body) (flat_map items_timers more) t))
  walk (r ∷ rs) before q l s c w t (suc k) lt =
      let twice = when (among before r.name) r.line SubTwice in
      let other = when (is_declared p r.name) r.line NameKind in
      let body = body_findings (kind_of p) before r.body in
      let rest = subs_findings (kind_of p) (is_declared p) (with_name before r.name) rs in
      let past = second_empty other (body ++ rest) (second_empty twice (other ++ (body ++ rest)) c) in
      let new = when_none (among before r.name) r.line SubTwice (first_empty twice (other ++ (body ++ rest)) c) in
      let more = map (λ (r : Routine). r.body) rs ++ p.main.body ∷ [] in
      let e : q + 1 + k ≡ q + suc k = omega arith in
      let l1 : length (before ++ r.name ∷ []) ≡ q + 1 = length-append before (r.name ∷ []) ∙ ap (λ n. n + 1) l in
      let c1 : subs_findings (kind_of p) (is_declared p) (before ++ r.name ∷ []) rs ≡ [] =
      subst (λ ns. subs_findings (kind_of p) (is_declared p) ns rs ≡ []) (one_name before r.name new) (second_empty body rest past) in
      let lt1 : k < length rs = omega arith in
      subst (λ m. Body_ok m (get_or (map (λ (r : Routine). r.body) rs) k Items.none)) e
      (walk rs (before ++ r.name ∷ []) (q + 1) l1 (s ∙ sym (append_assoc before (r.name ∷ []) (map (λ r. r.name) rs))) c1
      (right_within p (items_uses r.body) (flat_map items_uses more) w) (right_timers p (items_timers r.body) (flat_map items_timers more) t) k lt1)

  pub usable : passed p ≡ None → Usable p
  usable none = record {
    few = few p none;
    sized = sized_of p.arrays (const_line p.consts) [] (no_array p clean);
    subs = λ k lt. let e : 0 + k ≡ k = omega arith in
        subst (λ m. Body_ok m (get_or (map (λ (r : Routine). r.body) p.subs) k Items.none)) e
        (walk p.subs [] 0 refl refl (no_sub p clean) (λ n e. e) (λ n e. e) k lt);
    main = body_ok (sub_names p) [] (length p.subs) (length-map p.subs (λ r. r.name)) (sym (append-nil (sub_names p))) p.main.body (no_main p clean)
        (λ n e. last_within items_uses (map (λ (r : Routine). r.body) p.subs) p.main.body n e)
        (λ n e. last_within items_timers (map (λ (r : Routine). r.body) p.subs) p.main.body n e);
  }
