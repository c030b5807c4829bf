-- What the instructions of compiled code weigh in a table from its last place back: the induction over the tree that the
-- stretches and the command counts share.
use Rattle.vap_ast.specs.Sizes.{own_size}
use Rattle.std.proofs.Common.{◌≡◌, ℕ, ◌+◌, ◌-◌, ◌<◌, ◌≤◌, List, [], ◌∷◌, ◌++◌, length, Some, Option, None, refl, sym, ap, arith}
use Rattle.std.specs.Prelude.{slice_get, IsTrue}
use Rattle.std.proofs.lemmas.Option.{slice_get_within}
use Rattle.sig_types.specs.declared.kinds.TimerKind.{TimerKind}
use Rattle.sig_types.specs.declared.kinds.TimerKind.TheVariants.{Start as Start_timer, Stop as Stop_timer, Reset as Reset_timer}
use Rattle.vap_ast.specs.declared.name.Entry.{Entry}
use Rattle.vap_ast.specs.declared.name.Meaning.{Meaning}
use Rattle.vap_ast.specs.declared.name.Meaning.TheVariants.{Constant, Array, Sub as Sub_of, Timer as Timer_of, Variable}
use Rattle.vap_ast.specs.declared.tree.BinaryOp.{BinaryOp}
use Rattle.vap_ast.specs.declared.tree.BinaryOp.TheVariants.{Or as O_or, And as O_and, Eq as O_eq, Ne as O_ne, Lt as O_lt, Le as O_le, Gt as O_gt, Ge as O_ge, Add as O_add, Sub as O_sub, Mul as O_mul, Div as O_div}
use Rattle.vap_ast.specs.declared.tree.UnaryOp.{UnaryOp}
use Rattle.vap_ast.specs.declared.tree.UnaryOp.TheVariants.{Neg as O_neg, Not as O_not}
use Rattle.vap_ast.specs.Names.{meaning_in}
use Rattle.vap_ast.specs.Value.{array_number}
use Rattle.vap_ast.specs.Mean.{variable_number, timer_number}
use Rattle.vap_ast.specs.Sizes.{expr_size, stmt_size, item_size, items_size}
use Rattle.vap_ast.specs.Parsed.{ParsedStmt, ParsedItem, ParsedItems}
use Rattle.vap_ast.specs.Syntax.{Expr, Exprs, Item, Items, Stmt}
use Rattle.vap_code.specs.declared.Instr.{Instr}
use Rattle.vap_code.specs.declared.Instr.TheVariants.{Tick, Store, SetCell, Do, Jump, JumpZero, Call, Ret}
use Rattle.vap_code.specs.Valid.{is_tick, instr_at}
use Rattle.vap_compile.specs.Layout.{expr_code, exprs_code, binary_instr, unary_instr, name_instr, timer_instr, sub_number, stmt_code, item_code, items_code}
use Rattle.vap_compile.proofs.Runs.{HasAt, has_front}
use Rattle.vap_compile.proofs.Laid.{past, choice_parts}
use Rattle.vap_compile.proofs.Each.{Each, each_join, each_from}
use Rattle.vap_compile.proofs.Targets.{LandsOn, on_tick, on_end, Lands, stmt_first}
use Rattle.vap_compile.proofs.BackTables.{Flat, Flats, flats_on, costs, number, weight, weight_upto, weight_tick, flat_run, jump_number, zero_number, tick_number, ret_number}
use Rattle.vap_compile.proofs.Lengths.{expr_length, item_length, items_length, stmt_length}

binary_flat : (op : BinaryOp) → Flat (binary_instr op)
binary_flat O_or = record { no_target = refl; on = refl }
binary_flat O_and = record { no_target = refl; on = refl }
binary_flat O_eq = record { no_target = refl; on = refl }
binary_flat O_ne = record { no_target = refl; on = refl }
binary_flat O_lt = record { no_target = refl; on = refl }
binary_flat O_le = record { no_target = refl; on = refl }
binary_flat O_gt = record { no_target = refl; on = refl }
binary_flat O_ge = record { no_target = refl; on = refl }
binary_flat O_add = record { no_target = refl; on = refl }
binary_flat O_sub = record { no_target = refl; on = refl }
binary_flat O_mul = record { no_target = refl; on = refl }
binary_flat O_div = record { no_target = refl; on = refl }

unary_flat : (op : UnaryOp) → Flat (unary_instr op)
unary_flat O_neg = record { no_target = refl; on = refl }
unary_flat O_not = record { no_target = refl; on = refl }

name_flat : (m : Option Meaning) → Flat (name_instr m)
name_flat (Some (Constant v)) = record { no_target = refl; on = refl }
name_flat (Some (Timer_of t)) = record { no_target = refl; on = refl }
name_flat (Some (Variable x)) = record { no_target = refl; on = refl }
name_flat None = record { no_target = refl; on = refl }
name_flat (Some (Array a)) = record { no_target = refl; on = refl }
name_flat (Some (Sub_of k)) = record { no_target = refl; on = refl }

timer_flat : (kind : TimerKind) (t : ℕ) → Flat (timer_instr kind t)
timer_flat Start_timer t = record { no_target = refl; on = refl }
timer_flat Stop_timer t = record { no_target = refl; on = refl }
timer_flat Reset_timer t = record { no_target = refl; on = refl }

module _ (names : List Entry) where
  mutual
    pub expr_flat : (e : Expr) → Flats (expr_code names e)
    expr_flat (Expr.Literal v) = (record { no_target = refl; on = refl }, tt)
    expr_flat (Expr.Name name) = (name_flat (meaning_in names name), tt)
    expr_flat (Expr.Cell array index) =
        flats_on (expr_code names index) _ (expr_flat index)
        (record { no_target = refl; on = refl }, tt)
    expr_flat (Expr.Unary op arg) = flats_on (expr_code names arg) _ (expr_flat arg) (unary_flat op, tt)
    expr_flat (Expr.Binary op left right) =
        flats_on (expr_code names left) _ (expr_flat left)
        (flats_on (expr_code names right) _ (expr_flat right) (binary_flat op, tt))
    expr_flat (Expr.Read kind args) =
        flats_on (exprs_code names args) _ (exprs_flat args)
        (record { no_target = refl; on = refl }, tt)

    pub exprs_flat : (args : Exprs) → Flats (exprs_code names args)
    exprs_flat Exprs.none = tt
    exprs_flat (Exprs.next arg args) = flats_on (expr_code names arg) _ (expr_flat arg) (exprs_flat args)

  -- the instructions between a statement's tick and its first jump
  abbrev pub flat_code : ℕ → Stmt → List Instr
  flat_code line (Stmt.Assign name e) =
      expr_code names e ++ Store (variable_number (meaning_in names name)) ∷ []
  flat_code line (Stmt.Cell name index e) =
      expr_code names index ++ (expr_code names e ++ SetCell
      (array_number (meaning_in names name)) ∷ [])
  flat_code line (Stmt.If test first second) = expr_code names test
  flat_code line (Stmt.Goto label) = []
  flat_code line (Stmt.Gosub name) = Call (sub_number (meaning_in names name)) ∷ Tick line ∷ []
  flat_code line (Stmt.Do kind args) = exprs_code names args ++ Do kind ∷ []
  flat_code line (Stmt.Timer kind name) = timer_instr kind (timer_number (meaning_in names name)) ∷ []
  flat_code line Stmt.Trace = []

  -- how many jumps follow them
  abbrev pub jumps : Stmt → ℕ → ℕ
  jumps (Stmt.If test first second) u = u + u
  jumps (Stmt.Goto label) u = u
  jumps (Stmt.Assign name e) u = 0
  jumps (Stmt.Cell name index e) u = 0
  jumps (Stmt.Gosub name) u = 0
  jumps (Stmt.Do kind args) u = 0
  jumps (Stmt.Timer kind name) u = 0
  jumps Stmt.Trace u = 0

abbrev mutual
  -- each statement, at each depth, is small enough
  pub SmallStmt : Stmt → Type 0
  SmallStmt (Stmt.If test first second) = SmallItems first × SmallItems second
  SmallStmt (Stmt.Assign name e) = Unit {0}
  SmallStmt (Stmt.Cell name index e) = Unit {0}
  SmallStmt (Stmt.Goto label) = Unit {0}
  SmallStmt (Stmt.Gosub name) = Unit {0}
  SmallStmt (Stmt.Do kind args) = Unit {0}
  SmallStmt (Stmt.Timer kind name) = Unit {0}
  SmallStmt Stmt.Trace = Unit {0}

  pub SmallItem : Item → Type 0
  SmallItem (Item.Label name line) = Unit {0}
  SmallItem (Item.Step line what) = (own_size what ≤ 900) × SmallStmt what

  pub SmallItems : Items → Type 0
  SmallItems Items.none = Unit {0}
  SmallItems (Items.next item items) = SmallItem item × SmallItems items

-- a table's numbers, and what its instructions cost: a jump at most u, a return at most r
pub record Weighs (kind : Instr → ℕ → ℕ) (cost : Instr → ℕ) (most top u r : ℕ) (bound : ℕ → ℕ)
    (names : List Entry) : Type 0 where
  pub cheap : (i : Instr) (g : ℕ) → kind i g ≤ cost i + g
  pub ticks : (line g : ℕ) → kind (Tick line) g ≡ 0
  pub jump : (t : ℕ) → cost (Jump t) ≤ u
  pub zero_jump : (t : ℕ) → cost (JumpZero t) ≤ u
  pub ret : (g : ℕ) → kind Ret g ≤ r
  pub low : (n : ℕ) → bound n ≤ top
  pub more : (n : ℕ) → 0 < n → n ≤ 100 → bound n + u ≤ bound (n - 1)
  pub returns : r ≤ bound 100
  pub fine : (line : ℕ) (what : Stmt) → own_size what ≤ 900
      → costs cost (flat_code names line what) + jumps names what u + top ≤ most

module _ (instrs : List Instr) (starts : List ℕ) (kind : Instr → ℕ → ℕ) (cost : Instr → ℕ)
    (most top u r : ℕ) (bound : ℕ → ℕ) (names : List Entry) (labels : List ℕ → ℕ)
    (w : Weighs kind cost most top u r bound names) (start end : ℕ)
    (lands : (label : List ℕ) → Lands instrs start end (labels label))
    (ret : slice_get instrs end ≡ Some Ret) where
  abbrev pub LightAt : ℕ → Instr → Type 0
  LightAt q i = number instrs starts kind q ≤ most

  inside : (q : ℕ) → q ≤ end → q < length instrs
  inside q le = omega (arith, slice_get_within instrs end Ret ret)

  -- what a label's place weighs
  label_weight : (label : List ℕ) → weight instrs starts kind (labels label) ≤ r
  label_weight label = go (lands label).what
    where
      go : LandsOn instrs end (labels label) → weight instrs starts kind (labels label) ≤ r
      go (on_tick t) = omega (arith, weight_tick instrs starts kind (labels label) t)
      go (on_end e) =
          omega (
            arith,
            ap (weight instrs starts kind) e,
            weight_upto instrs starts kind end,
            ret_number
                instrs starts kind cost w.cheap end r w.ret ret,
          )

  label_back : (label : List ℕ) (p : ℕ) → p + 1 ≤ end → labels label ≤ p
      → IsTrue (is_tick (instr_at instrs (labels label)))
  label_back label p lt le = go (lands label).what
    where
      go : LandsOn instrs end (labels label) → IsTrue (is_tick (instr_at instrs (labels label)))
      go (on_tick t) = t
      go (on_end e) = absurd (omega arith)

  tick_low : (p line : ℕ) → slice_get instrs p ≡ Some (Tick line) → number instrs starts kind p ≤ most
  tick_low p line h = omega (arith, (tick_number instrs starts kind cost w.cheap p line (w.ticks line) h).0)

  -- a statement without a jump
  ticked : (p line b : ℕ) (is : List Instr) (size : ℕ) → length (Tick line ∷ is) ≡ size
      → HasAt instrs p (Tick line ∷ is) → Flats is → p + size ≤ end
      → weight instrs starts kind (p + size) ≤ b → costs cost is + b ≤ most
      → Each LightAt p (Tick line ∷ is)
  ticked p line b is size e has flat below after le =
      let n : p + 1 + length is ≡ p + size = omega (arith, e) in (
        tick_low p line has.0,
        (flat_run instrs starts kind cost w.cheap is (p + 1) b most has.1 flat
            (inside (p + 1 + length is) (omega arith))
            (omega (arith, ap (weight instrs starts kind) n, after)) le).0,
      )

  mutual
    pub stmt_weighs : (what : Stmt) (p line b ifs : ℕ)
        → HasAt instrs p (stmt_code names labels p line what) → own_size what ≤ 900 → SmallStmt what
        → ParsedStmt 1048577 ifs what → b ≤ bound ifs → ifs ≤ 100 → p + stmt_size what ≤ end
        → weight instrs starts kind (p + stmt_size what) ≤ b
        → Each LightAt p (stmt_code names labels p line what)
    stmt_weighs (Stmt.Assign name e) p line b ifs has own small parsed le few below after =
        let what = Stmt.Assign name e in
        ticked p line b (flat_code names line what) (stmt_size what)
        (stmt_length names labels p line what) has
        (flats_on (expr_code names e) _ (expr_flat names e)
        (record { no_target = refl; on = refl }, tt)) below after
        (omega (arith, w.fine line what own, w.low ifs))
    stmt_weighs (Stmt.Cell name index e) p line b ifs has own small parsed le few below after =
        let what = Stmt.Cell name index e in
        ticked p line b (flat_code names line what) (stmt_size what)
        (stmt_length names labels p line what) has
        (flats_on (expr_code names index) _ (expr_flat names index)
        (flats_on (expr_code names e) _ (expr_flat names e)
        (record { no_target = refl; on = refl }, tt))) below after
        (omega (arith, w.fine line what own, w.low ifs))
    stmt_weighs (Stmt.If test first second) p line b ifs has own small parsed le few below after =
        let at_first = p + expr_size test + 2 in
        let at_second = at_first + items_size first + 1 in
        let to_end = at_second + items_size second in
        let z = p + 1 + expr_size test in
        let j = at_first + items_size first in
        let t = expr_code names test in
        let x = items_code names labels at_first first in
        let y = items_code names labels at_second second in
        let k =
        choice_parts names labels instrs 0 p line t x y (expr_size test) (items_size first)
        (items_size second) at_second to_end (expr_length names test)
        (items_length names labels at_first first) has in
        let end_place : p + stmt_size (Stmt.If test first second) ≡ to_end = omega arith in
        let w_end : weight instrs starts kind to_end ≤ b =
        omega (arith, ap (weight instrs starts kind) end_place, after) in
        let more = w.more ifs parsed.1 few in
        let n_jump =
        jump_number instrs starts kind cost w.cheap j b to_end k.jump (inside to_end (omega arith))
        (λ back. absurd (omega arith)) w_end in
        let w_jump = weight_upto instrs starts kind j in
        let one =
        items_weigh first at_first (b + u) (ifs - 1) k.yes_code small.0 parsed.2
        (omega (arith, more)) (omega arith) (omega arith)
        (omega (arith, n_jump, w_jump, w.jump to_end)) in
        let two =
        items_weigh second at_second b (ifs - 1) k.no_code small.1 parsed.3 (omega (arith, more))
        (omega arith) (omega arith) w_end in
        let jz : slice_get instrs z ≡ Some (JumpZero at_second) =
        (past names labels instrs 0 (p + 1) t (JumpZero at_second ∷ []) (expr_size test)
        (expr_length names test) k.tests).0 in
        let next : z + 1 ≡ at_first = omega arith in
        let n_zero =
        zero_number instrs starts kind cost w.cheap z (b + u) at_second jz
        (inside at_second (omega arith)) (omega arith) (omega (arith, two.1))
        (inside (z + 1) (omega arith))
        (omega (arith, ap (weight instrs starts kind) next, one.1)) in
        let w_zero = weight_upto instrs starts kind z in
        let z_place : p + 1 + length t ≡ z = omega (arith, expr_length names test) in
        let fine = w.fine line (Stmt.If test first second) own in
        let low = w.low ifs in
        let cost_zero = w.zero_jump at_second in
        let run =
        flat_run instrs starts kind cost w.cheap t (p + 1) (b + u + u) most
        (has_front instrs (p + 1) t _ k.tests) (expr_flat names test)
        (inside (p + 1 + length t) (omega arith))
        (omega (arith, ap (weight instrs starts kind) z_place, n_zero, w_zero, cost_zero))
        (omega (arith, fine, low)) in (
          tick_low p line has.0,
          each_join LightAt (p + 1) (expr_size test) t _ (expr_length names test) run.0 (
            omega (arith, n_zero, cost_zero, fine, low),
            each_from LightAt at_first (z + 1) _ (sym next)
                (each_join LightAt at_first (items_size first) x _
                (items_length names labels at_first first) one.0
                (omega (arith, n_jump, w.jump to_end, fine, low), two.0)),
          ),
        )
    stmt_weighs (Stmt.Goto label) p line b ifs has own small parsed le few below after =
        let n =
        jump_number instrs starts kind cost w.cheap (p + 1) r (labels label) has.1.0
        (inside (labels label) (lands label).below) (label_back label (p + 1) (omega arith))
        (label_weight label) in (
          tick_low p line has.0,
          (
            omega
                (arith, n, w.jump (labels label), w.fine line (Stmt.Goto label) own, w.returns, w.low 100),
            tt,
          ),
        )
    stmt_weighs (Stmt.Gosub name) p line b ifs has own small parsed le few below after =
        let what = Stmt.Gosub name in
        ticked p line b (flat_code names line what) (stmt_size what) refl has
        (record { no_target = refl; on = refl }, (record { no_target = refl; on = refl }, tt)) below
        after (omega (arith, w.fine line what own, w.low ifs))
    stmt_weighs (Stmt.Do kind args) p line b ifs has own small parsed le few below after =
        let what = Stmt.Do kind args in
        ticked p line b (flat_code names line what) (stmt_size what)
        (stmt_length names labels p line what) has
        (flats_on (exprs_code names args) _ (exprs_flat names args)
        (record { no_target = refl; on = refl }, tt)) below after
        (omega (arith, w.fine line what own, w.low ifs))
    stmt_weighs (Stmt.Timer kind name) p line b ifs has own small parsed le few below after =
        let what = Stmt.Timer kind name in
        ticked p line b (flat_code names line what) (stmt_size what) refl has (timer_flat kind _, tt)
        below after (omega (arith, w.fine line what own, w.low ifs))
    stmt_weighs Stmt.Trace p line b ifs has own small parsed le few below after = (tick_low p line has.0, tt)

    pub item_weighs : (item : Item) (p b ifs : ℕ) → HasAt instrs p (item_code names labels p item)
        → SmallItem item → ParsedItem 1048577 ifs item → b ≤ bound ifs → ifs ≤ 100
        → p + item_size item ≤ end → weight instrs starts kind (p + item_size item) ≤ b
        → Each LightAt p (item_code names labels p item) × (weight instrs starts kind p ≤ b)
    item_weighs (Item.Label name line) p b ifs has small parsed le few below after =
        (tt, let e : p + 0 ≡ p = omega arith in omega (arith, ap (weight instrs starts kind) e, after))
    item_weighs (Item.Step line what) p b ifs has small parsed le few below after = (
      stmt_weighs what p line b ifs has small.0 small.1 parsed.1 le few below after,
      omega (
        arith,
        (tick_number instrs starts kind cost w.cheap p line (w.ticks line)
            (stmt_first instrs start end names labels p line what has)).1,
      ),
    )

    pub items_weigh : (items : Items) (p b ifs : ℕ) → HasAt instrs p (items_code names labels p items)
        → SmallItems items → ParsedItems 1048577 ifs items → b ≤ bound ifs → ifs ≤ 100
        → p + items_size items ≤ end → weight instrs starts kind (p + items_size items) ≤ b
        → Each LightAt p (items_code names labels p items) × (weight instrs starts kind p ≤ b)
    items_weigh Items.none p b ifs has small parsed le few below after =
        (tt, let e : p + 0 ≡ p = omega arith in omega (arith, ap (weight instrs starts kind) e, after))
    items_weigh (Items.next item items) p b ifs has small parsed le few below after =
        let q = p + item_size item in
        let front = has_front instrs p (item_code names labels p item) _ has in
        let back =
        past names labels instrs 0 p (item_code names labels p item)
        (items_code names labels q items) (item_size item) (item_length names labels p item)
        has in
        let e : p + (item_size item + items_size items) ≡ q + items_size items = omega arith in
        let rest =
        items_weigh items q b ifs back small.1 parsed.1 le few (omega arith)
        (omega (arith, ap (weight instrs starts kind) e, after)) in
        let one = item_weighs item p b ifs front small.0 parsed.0 le few (omega arith) rest.1 in (
          each_join LightAt p (item_size item) (item_code names labels p item) _
              (item_length names labels p item) one.0 rest.0,
          one.1,
        )
