-- Each instruction of compiled code fits its place: slots, lines, calls and targets.
use Rattle.std.proofs.Common.{◌≡◌, ℕ, ◌+◌, ◌<◌, ◌≤◌, List, [], ◌∷◌, length, Some, None, Option, refl, sym, ap, ◌∙◌, arith}
use Rattle.std.specs.Prelude.{slice_get, IsTrue, IfSome}
use Rattle.std.proofs.lemmas.Option.{get_or_from_slice_get, slice_get_within}
use Rattle.sig_types.specs.declared.kinds.TimerKind.{TimerKind}
use Rattle.sig_types.specs.declared.kinds.TimerKind.TheVariants.{Start as Start_timer, Stop as Stop_timer, Reset as Reset_timer}
use Rattle.vap_ast.specs.declared.name.Entry.{Entry}
use Rattle.vap_ast.specs.declared.name.Meaning.{Meaning}
use Rattle.vap_ast.specs.declared.name.Meaning.TheVariants.{Constant, Array, Sub as Sub_of, Timer as Timer_of, Variable}
use Rattle.vap_ast.specs.declared.tree.BinaryOp.{BinaryOp}
use Rattle.vap_ast.specs.declared.tree.BinaryOp.TheVariants.{Or as O_or, And as O_and, Eq as O_eq, Ne as O_ne, Lt as O_lt, Le as O_le, Gt as O_gt, Ge as O_ge, Add as O_add, Sub as O_sub, Mul as O_mul, Div as O_div}
use Rattle.vap_ast.specs.declared.tree.UnaryOp.{UnaryOp}
use Rattle.vap_ast.specs.declared.tree.UnaryOp.TheVariants.{Neg as O_neg, Not as O_not}
use Rattle.vap_ast.specs.Names.{meaning_in}
use Rattle.vap_ast.specs.Value.{array_number}
use Rattle.vap_ast.specs.Mean.{variable_number, timer_number}
use Rattle.vap_ast.specs.Sizes.{expr_size, stmt_size, item_size, items_size}
use Rattle.vap_ast.specs.Sound.{Low, Low_item, Low_items}
use Rattle.vap_ast.specs.Parsed.{IsLine, ParsedStmt, ParsedItem, ParsedItems}
use Rattle.vap_ast.specs.Syntax.{Expr, Exprs, Item, Items, Stmt}
use Rattle.vap_check.specs.Usable.{IsValue, IsVariable, IsTimer, IsArray, IsSub, UsableExpr, UsableExprs, UsableStmt, UsableItem, UsableItems}
use Rattle.vap_code.specs.Codes.{CodeOf}
use Rattle.vap_code.specs.declared.Instr.{Instr}
use Rattle.vap_code.specs.declared.Instr.TheVariants.{Tick, Jump, JumpZero, Call, Ret}
use Rattle.vap_code.specs.Valid.{target, is_tick, is_call, line_fits, SlotFits, stands_clear, instr_at}
use Rattle.vap_compile.specs.Layout.{expr_code, exprs_code, binary_instr, unary_instr, name_instr, timer_instr, sub_number, stmt_code, item_code, items_code}
use Rattle.vap_compile.proofs.Runs.{HasAt, has_front}
use Rattle.vap_compile.proofs.Laid.{past, choice_parts}
use Rattle.vap_compile.proofs.Rises.{Rises, expr_rises, item_rises, items_rise}
use Rattle.vap_compile.proofs.Standing.{stands, stands_after, stands_past, clear_stands}
use Rattle.vap_compile.proofs.Each.{Each, each_on, each_join, each_from}
use Rattle.vap_compile.proofs.Targets.{LandsOn, on_tick, on_end, Lands}
use Rattle.vap_compile.proofs.Lengths.{expr_length, item_length, items_length}

-- a call of one of the first routines
abbrev pub CallsBelow : ℕ → Instr → Type 0
CallsBelow calls (Call r) = r < calls
CallsBelow calls _ = Unit {0}

module _ (code : CodeOf) (start end calls : ℕ) where
  abbrev pub instrs : List Instr
  instrs = code.instrs

  -- where a jump of the routine may lead from p
  pub record Leads (p t : ℕ) : Type 0 where
    pub above : start ≤ t
    pub below : t ≤ end
    pub ticks : t ≤ p → IsTrue (is_tick (instr_at instrs t))
    pub none : stands instrs t ≡ 0

  pub record Placed (p : ℕ) (i : Instr) : Type 0 where
    pub slot : SlotFits code i
    pub line : IsTrue (line_fits i)
    pub called : CallsBelow calls i
    pub jumped : IfSome (target i) (Leads p)
    pub after_call : IsTrue (is_call i) → IsTrue (is_tick (instr_at instrs (p + 1)))

  binary_placed : (op : BinaryOp) (p : ℕ) → Placed p (binary_instr op)
  binary_placed O_or p = record { slot = tt; line = refl; called = tt; jumped = tt; after_call = λ c. cc }
  binary_placed O_and p = record { slot = tt; line = refl; called = tt; jumped = tt; after_call = λ c. cc }
  binary_placed O_eq p = record { slot = tt; line = refl; called = tt; jumped = tt; after_call = λ c. cc }
  binary_placed O_ne p = record { slot = tt; line = refl; called = tt; jumped = tt; after_call = λ c. cc }
  binary_placed O_lt p = record { slot = tt; line = refl; called = tt; jumped = tt; after_call = λ c. cc }
  binary_placed O_le p = record { slot = tt; line = refl; called = tt; jumped = tt; after_call = λ c. cc }
  binary_placed O_gt p = record { slot = tt; line = refl; called = tt; jumped = tt; after_call = λ c. cc }
  binary_placed O_ge p = record { slot = tt; line = refl; called = tt; jumped = tt; after_call = λ c. cc }
  binary_placed O_add p = record { slot = tt; line = refl; called = tt; jumped = tt; after_call = λ c. cc }
  binary_placed O_sub p = record { slot = tt; line = refl; called = tt; jumped = tt; after_call = λ c. cc }
  binary_placed O_mul p = record { slot = tt; line = refl; called = tt; jumped = tt; after_call = λ c. cc }
  binary_placed O_div p = record { slot = tt; line = refl; called = tt; jumped = tt; after_call = λ c. cc }

  unary_placed : (op : UnaryOp) (p : ℕ) → Placed p (unary_instr op)
  unary_placed O_neg p = record { slot = tt; line = refl; called = tt; jumped = tt; after_call = λ c. cc }
  unary_placed O_not p = record { slot = tt; line = refl; called = tt; jumped = tt; after_call = λ c. cc }

  module _ (names : List Entry) where
    name_placed : (m : Option Meaning) (p : ℕ)
        → IsValue names code.vars code.timers (length code.arrays) m → Placed p (name_instr m)
    name_placed (Some (Constant v)) p u =
        record { slot = tt; line = refl; called = tt; jumped = tt; after_call = λ c. cc }
    name_placed (Some (Timer_of t)) p u =
        record { slot = u; line = refl; called = tt; jumped = tt; after_call = λ c. cc }
    name_placed (Some (Variable x)) p u =
        record { slot = u; line = refl; called = tt; jumped = tt; after_call = λ c. cc }
    name_placed None p u = absurd u
    name_placed (Some (Array a)) p u = absurd u
    name_placed (Some (Sub_of k)) p u = absurd u

    array_known : (m : Option Meaning)
        → IsArray names code.vars code.timers (length code.arrays) m
        → array_number m < length code.arrays
    array_known (Some (Array a)) u = u
    array_known None u = absurd u
    array_known (Some (Constant v)) u = absurd u
    array_known (Some (Timer_of t)) u = absurd u
    array_known (Some (Variable x)) u = absurd u
    array_known (Some (Sub_of k)) u = absurd u

    variable_known : (m : Option Meaning)
        → IsVariable names code.vars code.timers (length code.arrays) m
        → variable_number m < code.vars
    variable_known (Some (Variable x)) u = u
    variable_known None u = absurd u
    variable_known (Some (Constant v)) u = absurd u
    variable_known (Some (Timer_of t)) u = absurd u
    variable_known (Some (Array a)) u = absurd u
    variable_known (Some (Sub_of k)) u = absurd u

    timer_known : (m : Option Meaning)
        → IsTimer names code.vars code.timers (length code.arrays) m
        → timer_number m < code.timers
    timer_known (Some (Timer_of t)) u = u
    timer_known None u = absurd u
    timer_known (Some (Constant v)) u = absurd u
    timer_known (Some (Variable x)) u = absurd u
    timer_known (Some (Array a)) u = absurd u
    timer_known (Some (Sub_of k)) u = absurd u

    sub_known : (m : Option Meaning)
        → IsSub names code.vars code.timers (length code.arrays) calls m → sub_number m < calls
    sub_known (Some (Sub_of k)) u = u
    sub_known None u = absurd u
    sub_known (Some (Constant v)) u = absurd u
    sub_known (Some (Variable x)) u = absurd u
    sub_known (Some (Array a)) u = absurd u
    sub_known (Some (Timer_of t)) u = absurd u

    timer_placed : (kind : TimerKind) (t p : ℕ) → t < code.timers → Placed p (timer_instr kind t)
    timer_placed Start_timer t p u =
        record { slot = u; line = refl; called = tt; jumped = tt; after_call = λ c. cc }
    timer_placed Stop_timer t p u =
        record { slot = u; line = refl; called = tt; jumped = tt; after_call = λ c. cc }
    timer_placed Reset_timer t p u =
        record { slot = u; line = refl; called = tt; jumped = tt; after_call = λ c. cc }

    mutual
      pub expr_placed : (e : Expr) (p : ℕ)
          → UsableExpr names code.vars code.timers (length code.arrays) e
          → Each Placed p (expr_code names e)
      expr_placed (Expr.Literal v) p u =
          (record { slot = tt; line = refl; called = tt; jumped = tt; after_call = λ c. cc }, tt)
      expr_placed (Expr.Name name) p u = (name_placed (meaning_in names name) p u, tt)
      expr_placed (Expr.Cell array index) p u =
          each_on Placed p (expr_code names index) _ (expr_placed index p u.1) (
            record {
              slot = array_known (meaning_in names array) u.0;
              line = refl;
              called = tt;
              jumped = tt;
              after_call = λ c. cc;
            },
            tt,
          )
      expr_placed (Expr.Unary op arg) p u =
          each_on Placed p (expr_code names arg) _ (expr_placed arg p u) (unary_placed op _, tt)
      expr_placed (Expr.Binary op left right) p u =
          each_on Placed p (expr_code names left) _ (expr_placed left p u.0)
          (each_on Placed _ (expr_code names right) _ (expr_placed right _ u.1)
          (binary_placed op _, tt))
      expr_placed (Expr.Read kind args) p u =
          each_on Placed p (exprs_code names args) _ (exprs_placed args p u.1)
          (record { slot = tt; line = refl; called = tt; jumped = tt; after_call = λ c. cc }, tt)

      pub exprs_placed : (args : Exprs) (p : ℕ)
          → UsableExprs names code.vars code.timers (length code.arrays) args
          → Each Placed p (exprs_code names args)
      exprs_placed Exprs.none p u = tt
      exprs_placed (Exprs.next arg args) p u =
          each_on Placed p (expr_code names arg) _ (expr_placed arg p u.0) (exprs_placed args _ u.1)

    line_is : (line : ℕ) → IsLine 1048577 line → IsTrue (line_fits (Tick line))
    line_is line l = grind (arith, l)

    tick_placed : (p line : ℕ) → IsTrue (line_fits (Tick line)) → Placed p (Tick line)
    tick_placed p line fits =
        record { slot = tt; line = fits; called = tt; jumped = tt; after_call = λ c. cc }

    jump_placed : (p t : ℕ) → Leads p t → Placed p (Jump t)
    jump_placed p t l = record { slot = tt; line = refl; called = tt; jumped = l; after_call = λ c. cc }

    zero_placed : (p t : ℕ) → Leads p t → Placed p (JumpZero t)
    zero_placed p t l = record { slot = tt; line = refl; called = tt; jumped = l; after_call = λ c. cc }

    module _ (labels : List ℕ → ℕ) (lands : (label : List ℕ) → Lands code.instrs start end
        (labels label)) (ret : slice_get code.instrs end ≡ Some Ret) (h' : ℕ)
        (rises : Rises 0 code.instrs h') where
      -- a place on which a label lands leads on from an earlier place of the routine
      leads_label : (p : ℕ) (label : List ℕ) → p + 1 ≤ end → Leads p (labels label)
      leads_label p label lt =
          record { above = l.above; below = l.below; ticks = back l.what; none = nothing l.what }
        where
          l : Lands code.instrs start end (labels label)
          l = lands label

          within : labels label < length code.instrs
          within = omega (arith, (lands label).below, slice_get_within code.instrs end Ret ret)

          back : LandsOn code.instrs end (labels label) → labels label ≤ p
              → IsTrue (is_tick (instr_at code.instrs (labels label)))
          back (on_tick t) le = t
          back (on_end e) le = absurd (omega arith)

          tick_clear : (i : Instr) → IsTrue (is_tick i) → IsTrue (stands_clear i)
          tick_clear (Tick line) e = refl
          tick_clear Ret e = refl
          tick_clear (Call r) e = refl
          tick_clear _ e = e

          nothing : LandsOn code.instrs end (labels label) → stands code.instrs (labels label) ≡ 0
          nothing (on_tick t) = clear_stands code.instrs h' rises (labels label) within (tick_clear _ t)
          nothing (on_end e) =
              clear_stands code.instrs h' rises (labels label) within
              (ap stands_clear (ap (instr_at code.instrs) e ∙ get_or_from_slice_get
              code.instrs end Ret Ret ret))

      mutual
        pub stmt_placed : (what : Stmt) (p line ifs : ℕ)
            → HasAt code.instrs p (stmt_code names labels p line what)
            → stands code.instrs p ≡ 0 → IsTrue (line_fits (Tick line)) → Low what
            → UsableStmt names code.vars code.timers (length code.arrays) calls what
            → ParsedStmt 1048577 ifs what → start ≤ p → p + stmt_size what ≤ end
            → Each Placed p (stmt_code names labels p line what)
        stmt_placed (Stmt.Assign name e) p line ifs has none fits low usable parsed above below = (
          tick_placed p line fits,
          each_on Placed (p + 1) (expr_code names e) _
              (expr_placed e (p + 1) usable.1) (
                record {
                  slot = variable_known (meaning_in names name) usable.0;
                  line = refl;
                  called = tt;
                  jumped = tt;
                  after_call = λ c. cc;
                },
                tt,
              ),
        )
        stmt_placed (Stmt.Cell name index e) p line ifs has none fits low usable parsed above below = (
          tick_placed p line fits,
          each_on Placed (p + 1) (expr_code names index) _
              (expr_placed index (p + 1) usable.1.0)
              (each_on Placed _ (expr_code names e) _ (expr_placed e _ usable.1.1) (
                record {
                  slot = array_known (meaning_in names name) usable.0;
                  line = refl;
                  called = tt;
                  jumped = tt;
                  after_call = λ c. cc;
                },
                tt,
              )),
        )
        stmt_placed (Stmt.If test first second) p line ifs has none fits low usable parsed above below =
            let at_first = p + expr_size test + 2 in
            let at_second = at_first + items_size first + 1 in
            let to_end = at_second + items_size second in
            let t = expr_code names test in
            let a = items_code names labels at_first first in
            let b = items_code names labels at_second second in
            let k =
            choice_parts names labels code.instrs 0 p line t a b (expr_size test)
            (items_size first) (items_size second) at_second to_end (expr_length names test)
            (items_length names labels at_first first) has in
            let at_test : stands code.instrs (p + 1) ≡ 0 =
            stands_after code.instrs p 0 (Tick line) has.0 none in
            let one : stands code.instrs (p + 1 + length t) ≡ 1 =
            stands_past code.instrs t (p + 1) 0 1
            (has_front code.instrs (p + 1) t _ k.tests) at_test
            (expr_rises names test 0 low.0.0 (omega (arith, low.0.1))) in
            let zero_place : p + 1 + length t + 1 ≡ at_first = omega (arith, expr_length names test) in
            let jz =
            (past names labels code.instrs 0 (p + 1) t (JumpZero at_second ∷ []) (length t)
            refl k.tests).0 in
            let none_first : stands code.instrs at_first ≡ 0 =
            ap (stands code.instrs) (sym zero_place) ∙ stands_after code.instrs
            (p + 1 + length t) 1 (JumpZero at_second) jz one in
            let none_jump : stands code.instrs (at_first + length a) ≡ 0 =
            stands_past code.instrs a at_first 0 0 k.yes_code none_first
            (items_rise names labels first at_first low.1.0) in
            let jump_place : at_first + length a ≡ at_first + items_size first =
            omega (arith, items_length names labels at_first first) in
            let none_second : stands code.instrs at_second ≡ 0 =
            stands_after code.instrs (at_first + items_size first) 0 (Jump to_end) k.jump
            (ap (stands code.instrs) (sym jump_place) ∙ none_jump) in
            let none_end' : stands code.instrs (at_second + length b) ≡ 0 =
            stands_past code.instrs b at_second 0 0 k.no_code none_second
            (items_rise names labels second at_second low.1.1) in
            let end_place : at_second + length b ≡ to_end =
            omega (arith, items_length names labels at_second second) in
            let none_end : stands code.instrs to_end ≡ 0 =
            ap (stands code.instrs) (sym end_place) ∙ none_end' in
            let l2 : Leads (p + 1 + expr_size test) at_second =
            record {
              above = omega arith;
              below = omega arith;
              ticks = λ le. absurd (omega arith);
              none = none_second;
            } in
            let l3 : Leads (at_first + items_size first) to_end =
            record {
              above = omega arith;
              below = omega arith;
              ticks = λ le. absurd (omega arith);
              none = none_end;
            } in (
              tick_placed p line fits,
              each_join Placed (p + 1) (expr_size test) t _ (expr_length names test)
                  (expr_placed test (p + 1) usable.0) (
                    zero_placed _ at_second l2,
                    each_from Placed at_first (p + 1 + expr_size test + 1) _ (omega arith)
                        (each_join Placed at_first (items_size first) a _
                        (items_length names labels at_first first)
                        (items_placed first at_first _ k.yes_code none_first low.1.0 usable.1.0 parsed.2
                        (omega arith) (omega arith)) (
                          jump_placed _ to_end l3,
                          items_placed second at_second _ k.no_code none_second
                              low.1.1 usable.1.1 parsed.3 (omega arith) (omega arith),
                        )),
                  ),
            )
        stmt_placed (Stmt.Goto label) p line ifs has none fits low usable parsed above below = (
          tick_placed p line fits,
          (
            jump_placed (p + 1) (labels label)
                (leads_label (p + 1) label (omega arith)),
            tt,
          ),
        )
        stmt_placed (Stmt.Gosub name) p line ifs has none fits low usable parsed above below =
            let after = get_or_from_slice_get code.instrs (p + 1 + 1) (Tick line) Ret has.1.1.0 in (
              tick_placed p line fits,
              (
                record {
                  slot = tt;
                  line = refl;
                  called = sub_known (meaning_in names name) usable;
                  jumped = tt;
                  after_call = λ c. ap is_tick after;
                },
                (tick_placed (p + 1 + 1) line fits, tt),
              ),
            )
        stmt_placed (Stmt.Do kind args) p line ifs has none fits low usable parsed above below = (
          tick_placed p line fits,
          each_on Placed (p + 1) (exprs_code names args) _
              (exprs_placed args (p + 1) usable.1)
              (record { slot = tt; line = refl; called = tt; jumped = tt; after_call = λ c. cc }, tt),
        )
        stmt_placed (Stmt.Timer kind name) p line ifs has none fits low usable parsed above below = (
          tick_placed p line fits,
          (
            timer_placed kind _ (p + 1)
                (timer_known (meaning_in names name) usable),
            tt,
          ),
        )
        stmt_placed Stmt.Trace p line ifs has none fits low usable parsed above below =
            (tick_placed p line fits, tt)

        pub item_placed : (item : Item) (p ifs : ℕ)
            → HasAt code.instrs p (item_code names labels p item) → stands code.instrs p ≡ 0
            → Low_item item
            → UsableItem names code.vars code.timers (length code.arrays) calls item
            → ParsedItem 1048577 ifs item → start ≤ p → p + item_size item ≤ end
            → Each Placed p (item_code names labels p item)
        item_placed (Item.Label name line) p ifs has none low usable parsed above below = tt
        item_placed (Item.Step line what) p ifs has none low usable parsed above below =
            stmt_placed what p line ifs has none (line_is line parsed.0) low usable.1 parsed.1 above
            below

        pub items_placed : (items : Items) (p ifs : ℕ)
            → HasAt code.instrs p (items_code names labels p items)
            → stands code.instrs p ≡ 0 → Low_items items
            → UsableItems names code.vars code.timers (length code.arrays) calls items
            → ParsedItems 1048577 ifs items → start ≤ p → p + items_size items ≤ end
            → Each Placed p (items_code names labels p items)
        items_placed Items.none p ifs has none low usable parsed above below = tt
        items_placed (Items.next item items) p ifs has none low usable parsed above below =
            let q = p + item_size item in
            let front = has_front code.instrs p (item_code names labels p item) _ has in
            let back =
            past names labels code.instrs 0 p (item_code names labels p item)
            (items_code names labels q items) (item_size item) (item_length names labels p item)
            has in
            let e : p + length (item_code names labels p item) ≡ q =
            omega (arith, item_length names labels p item) in
            let none' =
            ap (stands code.instrs) (sym e) ∙ stands_past code.instrs
            (item_code names labels p item) p 0 0 front none
            (item_rises names labels item p low.0) in
            each_join Placed p (item_size item) (item_code names labels p item) _
            (item_length names labels p item)
            (item_placed item p ifs front none low.0 usable.0 parsed.0 above (omega arith))
            (items_placed items q ifs back none' low.1 usable.1 parsed.1 (omega arith)
            (omega arith))
