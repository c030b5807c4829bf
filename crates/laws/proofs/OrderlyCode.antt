-- In the code of a program a call stands between the ticks of its line, and what jumps and routines lead to is no call, and stands
-- behind none.
use Rattle.std.specs.Str.{bytes_eq}
use Rattle.std.specs.Option.{option_or}
use Rattle.std.proofs.Common.{◌≡◌, ℕ, zero, suc, ◌+◌, List, [], ◌∷◌, ◌++◌, length, get_or, Bool, true, false, Option, Some, None, refl, ap, ◌∙◌, subst, arith}
use Rattle.std.specs.Prelude.{slice_get, if◌then◌else◌, IfSome, codes, unwrap_or}
use Rattle.std.proofs.lemmas.Option.{slice_get_within, get_or_from_slice_get}
use Rattle.sig_types.specs.declared.kinds.TimerKind.{TimerKind}
use Rattle.sig_types.specs.declared.kinds.TimerKind.TheVariants.{Start as Start_timer, Stop as Stop_timer, Reset as Reset_timer}
use Rattle.vap_ast.specs.declared.name.Entry.{Entry as Name_entry}
use Rattle.vap_ast.specs.declared.name.Meaning.{Meaning}
use Rattle.vap_ast.specs.declared.name.Meaning.TheVariants.{Constant, Timer as Timer_of, Variable}
use Rattle.vap_ast.specs.declared.tree.BinaryOp.{BinaryOp}
use Rattle.vap_ast.specs.declared.tree.BinaryOp.TheVariants.{Or as O_or}
use Rattle.vap_ast.specs.declared.tree.UnaryOp.{UnaryOp}
use Rattle.vap_ast.specs.declared.tree.UnaryOp.TheVariants.{Neg as O_neg, Not as O_not}
use Rattle.vap_ast.specs.Names.{meaning_in}
use Rattle.vap_ast.specs.Value.{array_number}
use Rattle.vap_ast.specs.Sizes.{expr_size, exprs_size, stmt_size, item_size, items_size}
use Rattle.vap_ast.specs.Syntax.{Expr, Exprs, Item, Items, Stmt}
use Rattle.vap_code.specs.declared.Instr.{Instr}
use Rattle.vap_code.specs.declared.Instr.TheVariants.{Tick, SetCell, Jump, JumpZero, Call, Ret}
use Rattle.vap_code.specs.Valid.{is_call}
use Rattle.vap_compile.specs.Layout.{expr_code, exprs_code, binary_instr, unary_instr, name_instr, timer_instr, stmt_code, item_code, items_code, items_steps, place_in_stmt, place_in_item, place_in_items, label_place, routine_code, routines_code, routine_starts}
use Rattle.vap_compile.proofs.Runs.{HasAt, has_front, has_all}
use Rattle.vap_compile.proofs.Laid.{past, choice_parts}
use Rattle.vap_compile.proofs.Lengths.{expr_length, exprs_length, item_length, items_length, routine_length}
use Rattle.vap_compile.proofs.Each.{Each, each_on, each_join, each_from, each_at}
use Rattle.vap_compile.proofs.Targets.{stmt_first}
use Rattle.vap_compile.proofs.Means.{tail_at}

-- whether there is a call
abbrev pub calls : Option Instr → Bool
calls None = false
calls (Some i) = is_call i

-- whether a call stands before a place
abbrev pub behind : List Instr → ℕ → Bool
behind instrs zero = false
behind instrs (suc p) = calls (slice_get instrs p)

-- a place at which no call stands, and none before it
pub record Open (instrs : List Instr) (p : ℕ) : Type 0 where
  pub none_there : calls (slice_get instrs p) ≡ false
  pub none_before : behind instrs p ≡ false

-- a call between the ticks of its line
pub record Enclosed (instrs : List Instr) (p : ℕ) : Type 0 where
  pub before : ℕ
  pub line : ℕ
  pub is_before : before + 1 ≡ p
  pub tick_before : slice_get instrs before ≡ Some (Tick line)
  pub tick_behind : slice_get instrs (p + 1) ≡ Some (Tick line)

-- where an instruction leads is open, and a call is enclosed
abbrev pub Orderly : List Instr → ℕ → Instr → Type 0
Orderly instrs p (Jump t) = Open instrs t
Orderly instrs p (JumpZero t) = Open instrs t
Orderly instrs p (Call r) = Enclosed instrs p
Orderly instrs p _ = Unit {0}

module _ (instrs : List Instr) where
  abbrev Fits : ℕ → Instr → Type 0
  Fits = Orderly instrs

  -- behind an instruction that is no call
  pub behind_this : (p q : ℕ) (i : Instr) → p + 1 ≡ q → slice_get instrs p ≡ Some i → is_call i ≡ false → behind instrs q ≡ false
  behind_this p q i e h none =
      let n : suc p ≡ q = omega (arith, e) in subst (λ n. behind instrs n ≡ false) n (ap calls h ∙ none)

  binary_orderly : (op : BinaryOp) (p : ℕ) → Fits p (binary_instr op)
  binary_orderly O_or p = tt
  binary_orderly _ p = tt

  unary_orderly : (op : UnaryOp) (p : ℕ) → Fits p (unary_instr op)
  unary_orderly O_neg p = tt
  unary_orderly O_not p = tt

  name_orderly : (m : Option Meaning) (p : ℕ) → Fits p (name_instr m)
  name_orderly None p = tt
  name_orderly (Some (Constant v)) p = tt
  name_orderly (Some (Timer_of t)) p = tt
  name_orderly (Some (Variable x)) p = tt
  name_orderly (Some _) p = tt

  timer_orderly : (kind : TimerKind) (t p : ℕ) → Fits p (timer_instr kind t)
  timer_orderly Start_timer t p = tt
  timer_orderly Stop_timer t p = tt
  timer_orderly Reset_timer t p = tt

  timer_no_call : (kind : TimerKind) (t : ℕ) → is_call (timer_instr kind t) ≡ false
  timer_no_call Start_timer t = refl
  timer_no_call Stop_timer t = refl
  timer_no_call Reset_timer t = refl

  module _ (names : List Name_entry) where
    mutual
      expr_orderly : (e : Expr) (p : ℕ) → Each Fits p (expr_code names e)
      expr_orderly (Expr.Literal v) p = (tt, tt)
      expr_orderly (Expr.Name name) p = (name_orderly (meaning_in names name) p, tt)
      expr_orderly (Expr.Cell array index) p = each_on Fits p (expr_code names index) _ (expr_orderly index p) (tt, tt)
      expr_orderly (Expr.Unary op arg) p =
          each_on Fits p (expr_code names arg) _ (expr_orderly arg p) (unary_orderly op _, tt)
      expr_orderly (Expr.Binary op left right) p =
          each_on Fits p (expr_code names left) _ (expr_orderly left p)
          (each_on Fits _ (expr_code names right) _ (expr_orderly right _) (binary_orderly op _, tt))
      expr_orderly (Expr.Read kind args) p = each_on Fits p (exprs_code names args) _ (exprs_orderly args p) (tt, tt)

      exprs_orderly : (args : Exprs) (p : ℕ) → Each Fits p (exprs_code names args)
      exprs_orderly Exprs.none p = tt
      exprs_orderly (Exprs.next arg args) p =
          each_on Fits p (expr_code names arg) _ (expr_orderly arg p) (exprs_orderly args _)

    module _ (labels : List ℕ → ℕ) where
      -- behind the last instruction of a part
      last_behind : (p n q : ℕ) (a : List Instr) (i : Instr) → length a ≡ n → HasAt instrs p (a ++ i ∷ []) → is_call i ≡ false
          → p + n + 1 ≡ q → behind instrs q ≡ false
      last_behind p n q a i len h none e = behind_this (p + n) q i e (past names labels instrs 0 p a (i ∷ []) n len h).0 none

      mutual
        -- no call ends a statement
        stmt_behind : (what : Stmt) (p line : ℕ) → HasAt instrs p (stmt_code names labels p line what)
            → behind instrs (p + stmt_size what) ≡ false
        stmt_behind (Stmt.Assign name e) p line h =
            last_behind (p + 1) (expr_size e) _ (expr_code names e) _ (expr_length names e) h.1 refl (omega arith)
        stmt_behind (Stmt.Cell name i e) p line h =
            let set = SetCell (array_number (meaning_in names name)) in
            let back =
            past names labels instrs 0 (p + 1) (expr_code names i) (expr_code names e ++ set ∷ []) (expr_size i)
            (expr_length names i) h.1 in
            last_behind (p + 1 + expr_size i) (expr_size e) _ (expr_code names e) set (expr_length names e) back refl (omega arith)
        stmt_behind (Stmt.If test first second) p line h =
            let at_first = p + expr_size test + 2 in
            let at_second = at_first + items_size first + 1 in
            let to_end = at_second + items_size second in
            let k =
            choice_parts names labels instrs 0 p line (expr_code names test) (items_code names labels at_first first)
            (items_code names labels at_second second) (expr_size test) (items_size first) (items_size second) at_second to_end
            (expr_length names test) (items_length names labels at_first first) h in
            let jump = behind_this (at_first + items_size first) at_second (Jump to_end) refl k.jump refl in
            let e : to_end ≡ p + stmt_size (Stmt.If test first second) = omega arith in
            subst (λ q. behind instrs q ≡ false) e (items_behind second at_second k.no_code jump)
        stmt_behind (Stmt.Goto label) p line h = behind_this (p + 1) _ _ (omega arith) h.1.0 refl
        stmt_behind (Stmt.Gosub name) p line h = behind_this (p + 1 + 1) _ _ (omega arith) h.1.1.0 refl
        stmt_behind (Stmt.Do kind args) p line h =
            last_behind (p + 1) (exprs_size args) _ (exprs_code names args) _ (exprs_length names args) h.1 refl (omega arith)
        stmt_behind (Stmt.Timer kind name) p line h = behind_this (p + 1) _ _ (omega arith) h.1.0 (timer_no_call kind _)
        stmt_behind Stmt.Trace p line h = behind_this p _ _ (omega arith) h.0 refl

        -- nor items
        items_behind : (items : Items) (p : ℕ) → HasAt instrs p (items_code names labels p items) → behind instrs p ≡ false
            → behind instrs (p + items_size items) ≡ false
        items_behind Items.none p h b = let e : p ≡ p + 0 = omega arith in subst (λ q. behind instrs q ≡ false) e b
        items_behind (Items.next item items) p h b =
            let q = p + item_size item in
            let e : q + items_size items ≡ p + items_size (Items.next item items) = omega arith in
            let front = has_front instrs p (item_code names labels p item) _ h in
            let back =
            past names labels instrs 0 p (item_code names labels p item) (items_code names labels q items) (item_size item)
            (item_length names labels p item) h in
            subst (λ n. behind instrs n ≡ false) e (items_behind items q back (item_behind item p front b))

        item_behind : (item : Item) (p : ℕ) → HasAt instrs p (item_code names labels p item) → behind instrs p ≡ false
            → behind instrs (p + item_size item) ≡ false
        item_behind (Item.Label name line) p h b = let e : p ≡ p + 0 = omega arith in subst (λ q. behind instrs q ≡ false) e b
        item_behind (Item.Step line what) p h b = stmt_behind what p line h

      -- no call begins items, if none follows them
      items_begin : (items : Items) (p : ℕ) → HasAt instrs p (items_code names labels p items)
          → calls (slice_get instrs (p + items_size items)) ≡ false → calls (slice_get instrs p) ≡ false
      items_begin Items.none p h f = let e : p + 0 ≡ p = omega arith in subst (λ q. calls (slice_get instrs q) ≡ false) e f
      items_begin (Items.next (Item.Label name line) items) p h f =
          let n : p + 0 ≡ p = omega arith in
          let same : p + items_size (Items.next (Item.Label name line) items) ≡ p + items_size items = omega arith in
          items_begin items p (subst (λ q. HasAt instrs p (items_code names labels q items)) n h)
          (subst (λ q. calls (slice_get instrs q) ≡ false) same f)
      items_begin (Items.next (Item.Step line what) items) p h f =
          ap calls (stmt_first instrs 0 0 names labels p line what (has_front instrs p (stmt_code names labels p line what) _ h))

      -- the parts of items
      pub record Parts (p : ℕ) (item : Item) (items : Items) : Type 0 where
        pub front : HasAt instrs p (item_code names labels p item)
        pub back : HasAt instrs (p + item_size item) (items_code names labels (p + item_size item) items)
        pub follows : calls (slice_get instrs (p + item_size item)) ≡ false
        pub last : calls (slice_get instrs (p + item_size item + items_size items)) ≡ false
        pub between : behind instrs (p + item_size item) ≡ false

      parts : (item : Item) (items : Items) (p : ℕ) → HasAt instrs p (items_code names labels p (Items.next item items))
          → behind instrs p ≡ false → calls (slice_get instrs (p + items_size (Items.next item items))) ≡ false
          → Parts p item items
      parts item items p h b f =
          let q = p + item_size item in
          let front = has_front instrs p (item_code names labels p item) _ h in
          let back =
          past names labels instrs 0 p (item_code names labels p item) (items_code names labels q items) (item_size item)
          (item_length names labels p item) h in
          let e : p + items_size (Items.next item items) ≡ q + items_size items = omega arith in
          let last = subst (λ n. calls (slice_get instrs n) ≡ false) e f in
          record {
            front = front;
            back = back;
            follows = items_begin items q back last;
            last = last;
            between = item_behind item p front b;
          }

      -- the parts of a choice
      pub record Branches (p : ℕ) (test : Expr) (first second : Items) : Type 0 where
        pub tests : HasAt instrs (p + 1) (expr_code names test ++ JumpZero (p + expr_size test + 2 + items_size first + 1) ∷ [])
        pub yes_code : HasAt instrs (p + expr_size test + 2) (items_code names labels (p + expr_size test + 2) first)
        pub no_code : HasAt instrs (p + expr_size test + 2 + items_size first + 1)
            (items_code names labels (p + expr_size test + 2 + items_size first + 1) second)
        pub at_first : behind instrs (p + expr_size test + 2) ≡ false
        pub after_first : calls (slice_get instrs (p + expr_size test + 2 + items_size first)) ≡ false
        pub at_second : Open instrs (p + expr_size test + 2 + items_size first + 1)
        pub at_end : Open instrs (p + expr_size test + 2 + items_size first + 1 + items_size second)

      branches : (p line : ℕ) (test : Expr) (first second : Items)
          → HasAt instrs p (stmt_code names labels p line (Stmt.If test first second))
          → calls (slice_get instrs (p + stmt_size (Stmt.If test first second))) ≡ false → Branches p test first second
      branches p line test first second h f =
          let at_first = p + expr_size test + 2 in
          let at_second = at_first + items_size first + 1 in
          let to_end = at_second + items_size second in
          let k =
          choice_parts names labels instrs 0 p line (expr_code names test) (items_code names labels at_first first)
          (items_code names labels at_second second) (expr_size test) (items_size first) (items_size second) at_second to_end
          (expr_length names test) (items_length names labels at_first first) h in
          let e : p + stmt_size (Stmt.If test first second) ≡ to_end = omega arith in
          let last = subst (λ n. calls (slice_get instrs n) ≡ false) e f in
          let jump = behind_this (at_first + items_size first) at_second (Jump to_end) refl k.jump refl in
          record {
            tests = k.tests;
            yes_code = k.yes_code;
            no_code = k.no_code;
            at_first = last_behind (p + 1) (expr_size test) at_first (expr_code names test) (JumpZero at_second)
                (expr_length names test) k.tests refl (omega arith);
            after_first = ap calls k.jump;
            at_second = record { none_there = items_begin second at_second k.no_code last; none_before = jump };
            at_end = record { none_there = last; none_before = items_behind second at_second k.no_code jump };
          }

      -- ---- the places of labels are open

      module _ (label : List ℕ) where
        abbrev Opens : ℕ → Type 0
        Opens q = Open instrs q

        first_opens : (a b : Option ℕ) → IfSome a Opens → IfSome b Opens → IfSome (option_or a b) Opens
        first_opens None b f g = g
        first_opens (Some q) b f g = f

        either_opens : (b : Bool) (p q : ℕ) → Opens p → Opens q → Opens (if b then p else q)
        either_opens true p q f g = f
        either_opens false p q f g = g

        mutual
          stmt_opens : (what : Stmt) (p line after : ℕ) → HasAt instrs p (stmt_code names labels p line what)
              → calls (slice_get instrs (p + stmt_size what)) ≡ false → Opens after → IfSome (place_in_stmt label p after what) Opens
          stmt_opens (Stmt.If test first second) p line after h f o =
              let k = branches p line test first second h f in
              let at_first = p + expr_size test + 2 in
              first_opens _ _ (items_open first at_first after k.yes_code k.at_first k.after_first o)
              (items_open second (at_first + items_size first + 1) after k.no_code k.at_second.none_before k.at_end.none_there o)
          stmt_opens (Stmt.Assign _ _) p line after h f o = tt
          stmt_opens (Stmt.Cell _ _ _) p line after h f o = tt
          stmt_opens (Stmt.Goto _) p line after h f o = tt
          stmt_opens (Stmt.Gosub _) p line after h f o = tt
          stmt_opens (Stmt.Do _ _) p line after h f o = tt
          stmt_opens (Stmt.Timer _ _) p line after h f o = tt
          stmt_opens Stmt.Trace p line after h f o = tt

          item_opens : (item : Item) (p after : ℕ) → HasAt instrs p (item_code names labels p item)
              → calls (slice_get instrs (p + item_size item)) ≡ false → Opens after → IfSome (place_in_item label p after item) Opens
          item_opens (Item.Label name line) p after h f o =
              elim (bytes_eq name label) as (λ b. IfSome (if b then Some after else None) Opens) [ true ↦ o | false ↦ tt ]
          item_opens (Item.Step line what) p after h f o = stmt_opens what p line after h f o

          items_open : (items : Items) (p after : ℕ) → HasAt instrs p (items_code names labels p items) → behind instrs p ≡ false
              → calls (slice_get instrs (p + items_size items)) ≡ false → Opens after
              → IfSome (place_in_items label p after items) Opens
          items_open Items.none p after h b f o = tt
          items_open (Items.next item items) p after h b f o =
              let q = p + item_size item in
              let k = parts item items p h b f in
              let here : Opens q = record { none_there = k.follows; none_before = k.between } in
              let next = either_opens (items_steps items) q after here o in
              first_opens _ _ (item_opens item p (if items_steps items then q else after) k.front k.follows next)
              (items_open items q after k.back k.between k.last o)

      -- ---- each instruction is orderly

      module _ (opens : (label : List ℕ) → Open instrs (labels label)) where
        mutual
          stmt_orderly : (what : Stmt) (p line : ℕ) → HasAt instrs p (stmt_code names labels p line what)
              → calls (slice_get instrs (p + stmt_size what)) ≡ false → Each Fits p (stmt_code names labels p line what)
          stmt_orderly (Stmt.Assign name e) p line h f =
              (tt, each_on Fits (p + 1) (expr_code names e) _ (expr_orderly e (p + 1)) (tt, tt))
          stmt_orderly (Stmt.Cell name i e) p line h f = (
            tt,
            each_on Fits (p + 1) (expr_code names i) _ (expr_orderly i (p + 1))
                (each_on Fits _ (expr_code names e) _ (expr_orderly e _) (tt, tt)),
          )
          stmt_orderly (Stmt.If test first second) p line h f =
              let at_first = p + expr_size test + 2 in
              let at_second = at_first + items_size first + 1 in
              let a = items_code names labels at_first first in
              let k = branches p line test first second h f in (
                tt,
                each_join Fits (p + 1) (expr_size test) (expr_code names test) _ (expr_length names test)
                    (expr_orderly test (p + 1)) (
                      k.at_second,
                      each_from Fits at_first (p + 1 + expr_size test + 1) _ (omega arith)
                          (each_join Fits at_first (items_size first) a _ (items_length names labels at_first first)
                          (items_orderly first at_first k.yes_code k.at_first k.after_first) (
                            k.at_end,
                            items_orderly second at_second k.no_code k.at_second.none_before k.at_end.none_there,
                          )),
                    ),
              )
          stmt_orderly (Stmt.Goto label) p line h f = (tt, (opens label, tt))
          stmt_orderly (Stmt.Gosub name) p line h f = (
            tt,
            (
              record { before = p; line = line; is_before = refl; tick_before = h.0; tick_behind = h.1.1.0 },
              (tt, tt),
            ),
          )
          stmt_orderly (Stmt.Do kind args) p line h f =
              (tt, each_on Fits (p + 1) (exprs_code names args) _ (exprs_orderly args (p + 1)) (tt, tt))
          stmt_orderly (Stmt.Timer kind name) p line h f = (tt, (timer_orderly kind _ (p + 1), tt))
          stmt_orderly Stmt.Trace p line h f = (tt, tt)

          items_orderly : (items : Items) (p : ℕ) → HasAt instrs p (items_code names labels p items) → behind instrs p ≡ false
              → calls (slice_get instrs (p + items_size items)) ≡ false → Each Fits p (items_code names labels p items)
          items_orderly Items.none p h b f = tt
          items_orderly (Items.next item items) p h b f =
              let k = parts item items p h b f in
              each_join Fits p (item_size item) (item_code names labels p item) _ (item_length names labels p item)
              (item_orderly item p k.front k.follows)
              (items_orderly items (p + item_size item) k.back k.between k.last)

          item_orderly : (item : Item) (p : ℕ) → HasAt instrs p (item_code names labels p item)
              → calls (slice_get instrs (p + item_size item)) ≡ false → Each Fits p (item_code names labels p item)
          item_orderly (Item.Label name line) p h f = tt
          item_orderly (Item.Step line what) p h f = stmt_orderly what p line h f

    -- ---- routines

    -- a routine that begins behind no call: its places, and where labels and its start lead
    module _ (p : ℕ) (body : Items) (h : HasAt instrs p (routine_code names p body)) (b : behind instrs p ≡ false) where
      abbrev end : ℕ
      end = p + items_size body

      abbrev places : List ℕ → ℕ
      places = label_place p body

      in_body : HasAt instrs p (items_code names places p body)
      in_body = has_front instrs p (items_code names places p body) (Ret ∷ []) h

      ret : slice_get instrs end ≡ Some Ret
      ret =
          (past names places instrs 0 p (items_code names places p body) (Ret ∷ []) (items_size body)
          (items_length names places p body) h).0

      at_end : Open instrs end
      at_end = record { none_there = ap calls ret; none_before = items_behind places body p in_body b }

      placed : (o : Option ℕ) → IfSome o (Open instrs) → Open instrs (unwrap_or o end)
      placed None f = at_end
      placed (Some q) f = f

      label_opens : (label : List ℕ) → Open instrs (places label)
      label_opens label =
          elim (bytes_eq label (codes "prog_ende"))
          as (λ b. Open instrs (if b then end else unwrap_or (place_in_items label p end body) end)) [
            | true ↦ at_end
            | false ↦ placed (place_in_items label p end body)
                (items_open places label body p end in_body b at_end.none_there at_end)
          ]

      routine_orderly : Each Fits p (routine_code names p body)
      routine_orderly =
          each_join Fits p (items_size body) (items_code names places p body) _ (items_length names places p body)
          (items_orderly places label_opens body p in_body b at_end.none_there) (tt, tt)

      routine_opens : Open instrs p
      routine_opens = record { none_there = items_begin places body p in_body at_end.none_there; none_before = b }

      behind_ret : behind instrs (end + 1) ≡ false
      behind_ret = behind_this end (end + 1) Ret refl ret refl

    routines_orderly : (bodies : List Items) (p : ℕ) → HasAt instrs p (routines_code names p bodies) → behind instrs p ≡ false
        → Each Fits p (routines_code names p bodies)
    routines_orderly [] p h b = tt
    routines_orderly (body ∷ bodies) p h b =
        let front = has_front instrs p (routine_code names p body) _ h in
        let n : p + items_size body + 1 ≡ p + (items_size body + 1) = omega arith in
        each_join Fits p (items_size body + 1) (routine_code names p body) _ (routine_length names p body)
        (routine_orderly p body front b)
        (each_from Fits _ _ _ n (routines_orderly bodies (p + items_size body + 1) (tail_at names instrs p body bodies h)
        (behind_ret p body front b)))

    starts_open : (bodies : List Items) (p k q : ℕ) → HasAt instrs p (routines_code names p bodies) → behind instrs p ≡ false
        → slice_get (routine_starts p bodies) k ≡ Some q → Open instrs q
    starts_open [] p k q h b e = cc
    starts_open (body ∷ bodies) p zero q h b e =
        subst (Open instrs) (same p q e) (routine_opens p body (has_front instrs p (routine_code names p body) _ h) b)
      where
        same : (p q : ℕ) → Some p ≡ Some q → p ≡ q
        same p q e = cc
    starts_open (body ∷ bodies) p (suc k) q h b e =
        starts_open bodies (p + items_size body + 1) k q (tail_at names instrs p body bodies h)
        (behind_ret p body (has_front instrs p (routine_code names p body) _ h) b) e

-- ---- a whole program

module _ (names : List Name_entry) (bodies : List Items) where
  abbrev whole : List Instr
  whole = routines_code names 0 bodies

  pub orderly : (p : ℕ) (i : Instr) → slice_get whole p ≡ Some i → Orderly whole p i
  orderly p i e =
      let n : 0 + p ≡ p = omega arith in
      subst (Orderly whole p) (get_or_from_slice_get whole p i Ret e)
      (subst (λ q. Orderly whole q (get_or whole p Ret)) n
      (each_at (Orderly whole) 0 whole p (routines_orderly whole names bodies 0 (has_all whole []) refl)
      (slice_get_within whole p i e)))

  pub starts_are_open : (k q : ℕ) → slice_get (routine_starts 0 bodies) k ≡ Some q → Open whole q
  starts_are_open k q e = starts_open whole names bodies 0 k q (has_all whole []) refl e
