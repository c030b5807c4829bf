-- A place of the code carries out a list of items.
use Rattle.std.proofs.Common.{◌≡◌, ℕ, ◌+◌, ◌<◌, List, [], ◌∷◌, ◌++◌, Some}
use Rattle.std.specs.Prelude.{slice_get}
use Rattle.sig_types.specs.declared.kinds.CommandKind.{CommandKind}
use Rattle.sig_types.specs.declared.kinds.TimerKind.{TimerKind}
use Rattle.vap_ast.specs.declared.name.Meaning.TheVariants.{Sub as Sub_of}
use Rattle.vap_ast.specs.declared.name.Entry.{Entry}
use Rattle.vap_ast.specs.Names.{meaning_in}
use Rattle.vap_ast.specs.Value.{array_number}
use Rattle.vap_ast.specs.Mean.{variable_number, timer_number}
use Rattle.vap_ast.specs.Rest.{rest_from}
use Rattle.vap_code.specs.declared.Instr.{Instr}
use Rattle.vap_code.specs.declared.Instr.TheVariants.{Tick, Store, SetCell, Do, Jump, JumpZero, Call, Ret}
use Rattle.sig_types.specs.Arity.{command_arity}
use Rattle.vap_ast.specs.Sizes.{expr_size, exprs_size}
use Rattle.vap_ast.specs.Sound.{count_arguments, Regular, Regular_all}
use Rattle.vap_compile.specs.Layout.{expr_code, exprs_code, timer_instr}
use Rattle.vap_compile.proofs.Runs.{HasAt}
use Rattle.vap_ast.specs.Syntax.{Expr, Exprs, Item, Items, Stmt, ◌before◌}

mutual
  -- the code at a place carries out the items, to the end of the routine
  pub data Carries (instrs : List Instr) (names : List Entry) (subs : ℕ) (labels : List ℕ → ℕ) : ℕ
      → Items → Type 0 where
    at_end : {p : ℕ} → slice_get instrs p ≡ Some Ret → Carries instrs names subs labels p Items.none
    at_jump : {p q : ℕ} {todo : Items} → slice_get instrs p ≡ Some (Jump q)
        → Carries instrs names subs labels q todo → Carries instrs names subs labels p todo
    at_label : {p : ℕ} {name : List ℕ} {line : ℕ} {rest : Items}
        → Carries instrs names subs labels p rest
        → Carries instrs names subs labels p (Items.next (Item.Label name line) rest)
    at_tick : {p line : ℕ} {what : Stmt} {rest : Items} → slice_get instrs p ≡ Some (Tick line)
        → Does instrs names subs labels (p + 1) line what rest
        → Carries instrs names subs labels p (Items.next (Item.Step line what) rest)

  -- the code at a place carries out a statement whose unit is spent, and then the items
  pub data Does (instrs : List Instr) (names : List Entry) (subs : ℕ) (labels : List ℕ → ℕ) : ℕ → ℕ
      → Stmt → Items → Type 0 where
    does_assign : {p line : ℕ} {name : List ℕ} {e : Expr} {rest : Items} → Regular e
        → HasAt instrs p (expr_code names e ++ Store (variable_number (meaning_in names name)) ∷ [])
        → Carries instrs names subs labels (p + expr_size e + 1) rest
        → Does instrs names subs labels p line (Stmt.Assign name e) rest
    does_cell : {p line : ℕ} {name : List ℕ} {i e : Expr} {rest : Items} → Regular i → Regular e
        → HasAt instrs p (expr_code names i
        ++ (expr_code names e ++ SetCell (array_number (meaning_in names name)) ∷ []))
        → Carries instrs names subs labels (p + expr_size i + expr_size e + 1) rest
        → Does instrs names subs labels p line (Stmt.Cell name i e) rest
    does_if : {p line q : ℕ} {test : Expr} {first second : Items} {rest : Items} → Regular test
        → HasAt instrs p (expr_code names test ++ JumpZero q ∷ [])
        → Carries instrs names subs labels (p + expr_size test + 1) (first before rest)
        → Carries instrs names subs labels q (second before rest)
        → Does instrs names subs labels p line (Stmt.If test first second) rest
    does_goto : {p line : ℕ} {label : List ℕ} {rest : Items}
        → slice_get instrs p ≡ Some (Jump (labels label))
        → Does instrs names subs labels p line (Stmt.Goto label) rest
    does_gosub : {p line : ℕ} {name : List ℕ} {rest : Items} (k : ℕ)
        → meaning_in names name ≡ Some (Sub_of k) → k < subs → slice_get instrs p ≡ Some (Call k)
        → slice_get instrs (p + 1) ≡ Some (Tick line) → Carries instrs names subs labels (p + 2) rest
        → Does instrs names subs labels p line (Stmt.Gosub name) rest
    does_do : {p line : ℕ} {kind : CommandKind} {args : Exprs} {rest : Items} → Regular_all args
        → count_arguments args ≡ command_arity kind
        → HasAt instrs p (exprs_code names args ++ Do kind ∷ [])
        → Carries instrs names subs labels (p + exprs_size args + 1) rest
        → Does instrs names subs labels p line (Stmt.Do kind args) rest
    does_timer : {p line : ℕ} {kind : TimerKind} {name : List ℕ} {rest : Items}
        → slice_get instrs p ≡ Some (timer_instr kind (timer_number (meaning_in names name)))
        → Carries instrs names subs labels (p + 1) rest
        → Does instrs names subs labels p line (Stmt.Timer kind name) rest
    does_trace : {p line : ℕ} {rest : Items} → Carries instrs names subs labels p rest
        → Does instrs names subs labels p line Stmt.Trace rest

-- the code of a routine: from its first place it carries out the body, and from each label what stands after it
pub record RoutineAt (instrs : List Instr) (names : List Entry) (subs : ℕ) (labels : List ℕ → ℕ)
    (start : ℕ) (body : Items) : Type 0 where
  pub entry : Carries instrs names subs labels start body
  pub each : (label : List ℕ) → Carries instrs names subs labels (labels label) (rest_from label body)
