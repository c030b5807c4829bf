-- Where the jumps of GOTO lead: to the tick of a statement, or to the routine's return.
use Rattle.std.specs.Str.{bytes_eq}
use Rattle.std.specs.Option.{option_or}
use Rattle.std.proofs.Common.{◌≡◌, ℕ, ◌+◌, ◌≤◌, List, Bool, true, false, Option, Some, None, refl, ap, subst, arith}
use Rattle.std.specs.Prelude.{slice_get, if◌then◌else◌, IsTrue, IfSome, codes, unwrap_or}
use Rattle.std.proofs.lemmas.Option.{get_or_from_slice_get}
use Rattle.vap_ast.specs.declared.name.Entry.{Entry}
use Rattle.vap_ast.specs.Sizes.{expr_size, item_size, items_size, stmt_size}
use Rattle.vap_ast.specs.Syntax.{Item, Items, Stmt}
use Rattle.vap_code.specs.declared.Instr.{Instr}
use Rattle.vap_code.specs.declared.Instr.TheVariants.{Tick, Ret}
use Rattle.vap_code.specs.Valid.{is_tick, instr_at}
use Rattle.vap_compile.specs.Layout.{expr_code, stmt_code, item_code, items_code, items_steps, place_in_stmt, place_in_item, place_in_items, label_place}
use Rattle.vap_compile.proofs.Runs.{HasAt, has_front}
use Rattle.vap_compile.proofs.Laid.{past, choice_parts}
use Rattle.vap_compile.proofs.Lengths.{expr_length, item_length, items_length}

pub data LandsOn (instrs : List Instr) (end : ℕ) : ℕ → Type 0 where
  on_tick : {q : ℕ} → IsTrue (is_tick (instr_at instrs q)) → LandsOn instrs end q
  on_end : {q : ℕ} → q ≡ end → LandsOn instrs end q

module _ (instrs : List Instr) (start end : ℕ) where
  -- a place of the routine, with a tick or its return
  pub record Lands (q : ℕ) : Type 0 where
    pub above : start ≤ q
    pub below : q ≤ end
    pub what : LandsOn instrs end q

  module _ (names : List Entry) (labels : List ℕ → ℕ) where
    pub stmt_first : (p line : ℕ) (what : Stmt) → HasAt instrs p (stmt_code names labels p line what)
        → slice_get instrs p ≡ Some (Tick line)
    stmt_first p line (Stmt.Assign name e) h = h.0
    stmt_first p line (Stmt.Cell name i e) h = h.0
    stmt_first p line (Stmt.If test first second) h = h.0
    stmt_first p line (Stmt.Goto label) h = h.0
    stmt_first p line (Stmt.Gosub name) h = h.0
    stmt_first p line (Stmt.Do kind args) h = h.0
    stmt_first p line (Stmt.Timer kind name) h = h.0
    stmt_first p line Stmt.Trace h = h.0

    tick_at : (p line : ℕ) → slice_get instrs p ≡ Some (Tick line) → IsTrue (is_tick (instr_at instrs p))
    tick_at p line h = ap is_tick (get_or_from_slice_get instrs p (Tick line) Ret h)

    -- past labels stands the first step
    pub items_first : (items : Items) (p : ℕ) → items_steps items ≡ true
        → HasAt instrs p (items_code names labels p items) → IsTrue (is_tick (instr_at instrs p))
    items_first Items.none p e h = cc
    items_first (Items.next (Item.Label name line) items) p e h =
        let n : p + 0 ≡ p = omega arith in
        items_first items p e (subst (λ q. HasAt instrs p (items_code names labels q items)) n h)
    items_first (Items.next (Item.Step line what) items) p e h =
        tick_at p line (stmt_first p line what
        (has_front instrs p (stmt_code names labels p line what) _ h))

    module _ (label : List ℕ) where
      first_lands : (a b : Option ℕ) → IfSome a Lands → IfSome b Lands → IfSome (option_or a b) Lands
      first_lands None b f g = g
      first_lands (Some q) b f g = f

      either_lands : (b : Bool) (p after : ℕ) → (b ≡ true → Lands p) → Lands after
          → Lands (if b then p else after)
      either_lands true p after f g = f refl
      either_lands false p after f g = g

      mutual
        pub stmt_lands : (what : Stmt) (p line after : ℕ)
            → HasAt instrs p (stmt_code names labels p line what) → start ≤ p → p + stmt_size what ≤ end
            → Lands after → IfSome (place_in_stmt label p after what) Lands
        stmt_lands (Stmt.If test first second) p line after h a b l =
            let at_first = p + expr_size test + 2 in
            let at_second = at_first + items_size first + 1 in
            let to_end = at_second + items_size second in
            let k =
            choice_parts names labels instrs 0 p line (expr_code names test)
            (items_code names labels at_first first) (items_code names labels at_second second)
            (expr_size test) (items_size first) (items_size second) at_second to_end
            (expr_length names test) (items_length names labels at_first first) h in
            first_lands _ _ (items_land first at_first after k.yes_code (omega arith) (omega arith) l)
            (items_land second at_second after k.no_code (omega arith) (omega arith) l)
        stmt_lands (Stmt.Assign _ _) p line after h a b l = tt
        stmt_lands (Stmt.Cell _ _ _) p line after h a b l = tt
        stmt_lands (Stmt.Goto _) p line after h a b l = tt
        stmt_lands (Stmt.Gosub _) p line after h a b l = tt
        stmt_lands (Stmt.Do _ _) p line after h a b l = tt
        stmt_lands (Stmt.Timer _ _) p line after h a b l = tt
        stmt_lands Stmt.Trace p line after h a b l = tt

        pub item_lands : (item : Item) (p after : ℕ) → HasAt instrs p (item_code names labels p item)
            → start ≤ p → p + item_size item ≤ end → Lands after
            → IfSome (place_in_item label p after item) Lands
        item_lands (Item.Label name line) p after h a b l =
            elim (bytes_eq name label) as (λ b. IfSome (if b then Some after else None) Lands)
            [ true ↦ l | false ↦ tt ]
        item_lands (Item.Step line what) p after h a b l = stmt_lands what p line after h a b l

        pub items_land : (items : Items) (p after : ℕ)
            → HasAt instrs p (items_code names labels p items) → start ≤ p → p + items_size items ≤ end
            → Lands after → IfSome (place_in_items label p after items) Lands
        items_land Items.none p after h a b l = tt
        items_land (Items.next item items) p after h a b l =
            let q = p + item_size item in
            let front = has_front instrs p (item_code names labels p item) _ h in
            let back =
            past names labels instrs 0 p (item_code names labels p item)
            (items_code names labels q items) (item_size item) (item_length names labels p item)
            h in
            let next =
            either_lands (items_steps items) q after
            (λ e. record {
              above = omega arith;
              below = omega arith;
              what = on_tick
                  (items_first items q e back);
            }) l in
            first_lands _ _ (item_lands item p (if items_steps items then q else after) front a
            (omega arith) next) (items_land items q after back (omega arith) (omega arith) l)

-- the place of each label of a routine
pub label_lands : (instrs : List Instr) (names : List Entry) (labels : List ℕ → ℕ) (p : ℕ) (body : Items)
    → HasAt instrs p (items_code names labels p body) → (label : List ℕ)
    → Lands instrs p (p + items_size body) (label_place p body label)
label_lands instrs names labels p body h label =
    let end = p + items_size body in
    let there : Lands instrs p end end =
    record { above = omega arith; below = omega arith; what = on_end refl } in
    (elim (bytes_eq label (codes "prog_ende")) as (λ b. Lands instrs p end
    (if b then end else unwrap_or (place_in_items label p end body) end)) [
      | true ↦ there
      | false ↦ placed (place_in_items label p end body) there
          (items_land instrs p end names labels label body p end h (omega arith) (omega arith) there)
    ])
  where
    placed : (o : Option ℕ) → Lands instrs p (p + items_size body) (p + items_size body)
        → IfSome o (Lands instrs p (p + items_size body))
        → Lands instrs p (p + items_size body) (unwrap_or o (p + items_size body))
    placed None l f = l
    placed (Some q) l f = f
