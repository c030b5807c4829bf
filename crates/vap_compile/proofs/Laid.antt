-- The code of a routine carries out its items from each place.
use Rattle.std.specs.Str.{bytes_eq}
use Rattle.std.specs.Option.{option_or}
use Rattle.std.proofs.Common.{◌≡◌, ℕ, ◌+◌, ◌<◌, List, [], ◌∷◌, ◌++◌, length, Bool, true, false, Option, Some, None, refl, sym, ap, ◌∙◌, subst, arith, append_assoc}
use Rattle.std.specs.Prelude.{slice_get, if◌then◌else◌, codes, unwrap_or}
use Rattle.vap_ast.specs.declared.name.Meaning.{Meaning}
use Rattle.vap_ast.specs.declared.name.Meaning.TheVariants.{Constant, Array, Sub as Sub_of, Timer as Timer_of, Variable}
use Rattle.vap_ast.specs.declared.name.Entry.{Entry}
use Rattle.vap_ast.specs.Names.{meaning_in}
use Rattle.vap_ast.specs.Rest.{in_stmt, in_item, in_items, in_items, or_none}
use Rattle.vap_code.specs.declared.Instr.{Instr}
use Rattle.vap_code.specs.declared.Instr.TheVariants.{Jump, JumpZero, Call, Ret}
use Rattle.vap_ast.specs.Sizes.{expr_size, exprs_size, stmt_size, item_size, items_size}
use Rattle.vap_ast.specs.Sound.{Calls, Sound, Sound_item, Sound_items}
use Rattle.vap_compile.specs.Layout.{expr_code, stmt_code, item_code, items_code, choice_code, items_steps, place_in_stmt, place_in_item, place_in_items, label_place, routine_code, sub_number}
use Rattle.vap_compile.proofs.Runs.{HasAt, has_front, has_back}
use Rattle.vap_compile.proofs.Carries.{Carries, at_end, at_jump, at_label, at_tick, does_assign, does_cell, does_if, does_goto, does_gosub, does_do, does_timer, does_trace, RoutineAt}
use Rattle.vap_ast.specs.Syntax.{Item, Items, Stmt, ◌before◌}
use Rattle.vap_compile.proofs.Lengths.{expr_length, item_length, items_length}

module _ (names : List Entry) (labels : List ℕ → ℕ) where
  module _ (instrs : List Instr) (subs : ℕ) where
    abbrev pub CarriesOut : ℕ → Items → Type 0
    CarriesOut p todo = Carries instrs names subs labels p todo

    from_here : (p q : ℕ) (todo : Items) → p ≡ q → CarriesOut p todo → CarriesOut q todo
    from_here p q todo e c = subst (λ n. CarriesOut n todo) e c

    -- the code after a part of this length
    pub past : (p : ℕ) (a b : List Instr) (n : ℕ) → length a ≡ n → HasAt instrs p (a ++ b)
        → HasAt instrs (p + n) b
    past p a b n e h = subst (λ k. HasAt instrs (p + k) b) e (has_back instrs p a b h)

    known_sub : (m : Option Meaning) → Calls names subs m
        → (k : ℕ) × (m ≡ Some (Sub_of k)) × (k < subs) × (sub_number m ≡ k)
    known_sub (Some (Sub_of k)) c = (k, refl, c, refl)
    known_sub None c = absurd c
    known_sub (Some (Constant v)) c = absurd c
    known_sub (Some (Array v)) c = absurd c
    known_sub (Some (Timer_of v)) c = absurd c
    known_sub (Some (Variable v)) c = absurd c

    -- the parts of the code of a choice
    pub record Choice (p : ℕ) (test first second : List Instr) (t f s to_second to_end : ℕ) : Type 0 where
      pub tests : HasAt instrs (p + 1) (test ++ JumpZero to_second ∷ [])
      pub yes_code : HasAt instrs (p + t + 2) first
      pub jump : slice_get instrs (p + t + 2 + f) ≡ Some (Jump to_end)
      pub no_code : HasAt instrs (p + t + 2 + f + 1) second

    pub choice_parts : (p line : ℕ) (test first second : List Instr) (t f s to_second to_end : ℕ)
        → length test ≡ t → length first ≡ f
        → HasAt instrs p (choice_code names line test first second to_second to_end)
        → Choice p test first second t f s to_second to_end
    choice_parts p line test first second t f s to_second to_end lt lf h =
        let tail = JumpZero to_second ∷ (first ++ (Jump to_end ∷ second)) in
        let split = append_assoc test (JumpZero to_second ∷ []) (first ++ (Jump to_end ∷ second)) in
        let h1 = subst (HasAt instrs (p + 1)) (sym split) h.1 in
        let back = past (p + 1) test tail t lt h.1 in
        let e : p + 1 + t + 1 ≡ p + t + 2 = omega arith in
        let body = subst (λ n. HasAt instrs n (first ++ (Jump to_end ∷ second))) e back.1 in
        let rest = past (p + t + 2) first (Jump to_end ∷ second) f lf body in
        record {
          tests = has_front instrs (p + 1) (test ++ JumpZero to_second ∷ []) _ h1;
          yes_code = has_front instrs (p + t + 2) first _ body;
          jump = rest.0;
          no_code = rest.1;
        }

    mutual
      pub laid_stmt : (what : Stmt) (p line : ℕ) (rest : Items) → Sound names subs what
          → HasAt instrs p (stmt_code names labels p line what) → CarriesOut (p + stmt_size what) rest
          → CarriesOut p (Items.next (Item.Step line what) rest)
      laid_stmt (Stmt.Assign name e) p line rest sound h c =
          at_tick h.0 (does_assign sound h.1
          (from_here (p + stmt_size (Stmt.Assign name e)) (p + 1 + expr_size e + 1) rest (omega arith) c))
      laid_stmt (Stmt.Cell name i e) p line rest sound h c =
          at_tick h.0 (does_cell sound.0 sound.1 h.1
          (from_here (p + stmt_size (Stmt.Cell name i e)) (p + 1 + expr_size i + expr_size e + 1)
          rest (omega arith) c))
      laid_stmt (Stmt.If test first second) p line rest sound h c =
          let at_first = p + expr_size test + 2 in
          let at_second = at_first + items_size first + 1 in
          let to_end = at_second + items_size second in
          let k =
          choice_parts p line (expr_code names test) (items_code names labels at_first first)
          (items_code names labels at_second second) (expr_size test) (items_size first)
          (items_size second) at_second to_end (expr_length names test)
          (items_length names labels at_first first) h in
          let c_end = from_here (p + stmt_size (Stmt.If test first second)) to_end rest (omega arith) c in
          let c1 = laid_items first at_first rest sound.1 k.yes_code (at_jump k.jump c_end) in
          let c2 = laid_items second at_second rest sound.2 k.no_code c_end in
          at_tick h.0 (does_if sound.0 k.tests
          (from_here at_first (p + 1 + expr_size test + 1) (first before rest) (omega arith) c1) c2)
      laid_stmt (Stmt.Goto label) p line rest sound h c = at_tick h.0 (does_goto h.1.0)
      laid_stmt (Stmt.Gosub name) p line rest sound h c =
          let m = meaning_in names name in
          let k = known_sub m sound in
          let call = h.1.0 ∙ ap (λ n. Some (Call n)) k.3 in
          at_tick h.0 (does_gosub k.0 k.1 k.2 call h.1.1.0
          (from_here (p + 3) (p + 1 + 2) rest (omega arith) c))
      laid_stmt (Stmt.Do kind args) p line rest sound h c =
          at_tick h.0 (does_do sound.1 sound.0 h.1
          (from_here (p + stmt_size (Stmt.Do kind args)) (p + 1 + exprs_size args + 1) rest (omega arith)
          c))
      laid_stmt (Stmt.Timer kind name) p line rest sound h c =
          at_tick h.0 (does_timer h.1.0 (from_here (p + 2) (p + 1 + 1) rest (omega arith) c))
      laid_stmt Stmt.Trace p line rest sound h c = at_tick h.0 (does_trace c)

      pub laid_item : (item : Item) (p : ℕ) (rest : Items) → Sound_item names subs item
          → HasAt instrs p (item_code names labels p item) → CarriesOut (p + item_size item) rest
          → CarriesOut p (Items.next item rest)
      laid_item (Item.Label name line) p rest sound h c = at_label (from_here (p + 0) p rest (omega arith) c)
      laid_item (Item.Step line what) p rest sound h c = laid_stmt what p line rest sound h c

      pub laid_items : (items : Items) (p : ℕ) (rest : Items) → Sound_items names subs items
          → HasAt instrs p (items_code names labels p items) → CarriesOut (p + items_size items) rest
          → CarriesOut p (items before rest)
      laid_items Items.none p rest sound h c = from_here (p + 0) p rest (omega arith) c
      laid_items (Items.next item items) p rest sound h c =
          let q = p + item_size item in
          let front = has_front instrs p (item_code names labels p item) _ h in
          let back =
          past p (item_code names labels p item) (items_code names labels q items) (item_size item)
          (item_length names labels p item) h in
          laid_item item p (items before rest) sound.0 front
          (laid_items items q rest sound.1 back
          (from_here (p + (item_size item + items_size items)) (q + items_size items) rest
          (omega arith) c))

    -- a label stands in both or in neither, and its place carries out what stands after it
    abbrev pub Matches : Option (Items) → Option ℕ → Type 0
    Matches None None = Unit {0}
    Matches (Some todo) (Some q) = CarriesOut q todo
    Matches None (Some q) = ⊥
    Matches (Some todo) None = ⊥

    first_matches : (a a' : Option (Items)) (b b' : Option ℕ) → Matches a b → Matches a' b'
        → Matches (option_or a a') (option_or b b')
    first_matches None a' None b' m m' = m'
    first_matches (Some todo) a' (Some q) b' m m' = m
    first_matches None a' (Some q) b' m m' = absurd m
    first_matches (Some todo) a' None b' m m' = absurd m

    only_labels : (items : Items) (after : ℕ) (rest : Items) → items_steps items ≡ false
        → CarriesOut after rest → CarriesOut after (items before rest)
    only_labels Items.none after rest e c = c
    only_labels (Items.next (Item.Label name line) items) after rest e c =
        at_label (only_labels items after rest e c)
    only_labels (Items.next (Item.Step line what) items) after rest e c = cc

    -- the place at which what stands after an item begins
    either_place : (b : Bool) (p after : ℕ) (todo : Items) → (b ≡ true → CarriesOut p todo)
        → (b ≡ false → CarriesOut after todo) → CarriesOut (if b then p else after) todo
    either_place true p after todo f g = f refl
    either_place false p after todo f g = g refl

    module _ (label : List ℕ) where
      mutual
        pub label_stmt : (what : Stmt) (p line : ℕ) (rest : Items) (after : ℕ) → Sound names subs what
            → HasAt instrs p (stmt_code names labels p line what) → CarriesOut (p + stmt_size what) rest
            → CarriesOut after rest
            → Matches (in_stmt label what rest) (place_in_stmt label p after what)
        label_stmt (Stmt.If test first second) p line rest after sound h c ca =
            let at_first = p + expr_size test + 2 in
            let at_second = at_first + items_size first + 1 in
            let to_end = at_second + items_size second in
            let k =
            choice_parts p line (expr_code names test) (items_code names labels at_first first)
            (items_code names labels at_second second) (expr_size test) (items_size first)
            (items_size second) at_second to_end (expr_length names test)
            (items_length names labels at_first first) h in
            let c_end = from_here (p + stmt_size (Stmt.If test first second)) to_end rest (omega arith) c in
            first_matches _ _ _ _ (label_items first at_first rest after sound.1 k.yes_code
            (at_jump k.jump c_end) ca) (label_items second at_second rest after sound.2 k.no_code
            c_end ca)
        label_stmt (Stmt.Assign _ _) p line rest after sound h c ca = tt
        label_stmt (Stmt.Cell _ _ _) p line rest after sound h c ca = tt
        label_stmt (Stmt.Goto _) p line rest after sound h c ca = tt
        label_stmt (Stmt.Gosub _) p line rest after sound h c ca = tt
        label_stmt (Stmt.Do _ _) p line rest after sound h c ca = tt
        label_stmt (Stmt.Timer _ _) p line rest after sound h c ca = tt
        label_stmt Stmt.Trace p line rest after sound h c ca = tt

        pub label_item : (item : Item) (p : ℕ) (rest : Items) (after : ℕ) → Sound_item names subs item
            → HasAt instrs p (item_code names labels p item) → CarriesOut (p + item_size item) rest
            → CarriesOut after rest
            → Matches (in_item label item rest) (place_in_item label p after item)
        label_item (Item.Label name line) p rest after sound h c ca =
            elim (bytes_eq name label) as (λ b. Matches (if b then Some rest else None)
            (if b then Some after else None)) [ true ↦ ca | false ↦ tt ]
        label_item (Item.Step line what) p rest after sound h c ca =
            label_stmt what p line rest after sound h c ca

        pub label_items : (items : Items) (p : ℕ) (rest : Items) (after : ℕ)
            → Sound_items names subs items → HasAt instrs p (items_code names labels p items)
            → CarriesOut (p + items_size items) rest → CarriesOut after rest
            → Matches (in_items label items rest) (place_in_items label p after items)
        label_items Items.none p rest after sound h c ca = tt
        label_items (Items.next item items) p rest after sound h c ca =
            let q = p + item_size item in
            let front = has_front instrs p (item_code names labels p item) _ h in
            let back =
            past p (item_code names labels p item) (items_code names labels q items)
            (item_size item) (item_length names labels p item) h in
            let c' =
            from_here (p + (item_size item + items_size items)) (q + items_size items) rest
            (omega arith) c in
            let here = laid_items items q rest sound.1 back c' in
            first_matches _ _ _ _ (label_item item p (items before rest)
            (if items_steps items then q else after) sound.0 front here
            (either_place (items_steps items) q after (items before rest) (λ e. here)
            (λ e. only_labels items after rest e ca)))
            (label_items items q rest after sound.1 back c' ca)

      matched : (end : ℕ) (a : Option (Items)) (b : Option ℕ) → CarriesOut end Items.none → Matches a b
          → CarriesOut (unwrap_or b end) (or_none a)
      matched end None None c m = c
      matched end (Some todo) (Some q) c m = m
      matched end None (Some q) c m = absurd m
      matched end (Some todo) None c m = absurd m

before_none : (items : Items) → (items before Items.none) ≡ items
before_none Items.none = refl
before_none (Items.next item items) = ap (λ others. Items.next item others) (before_none items)

-- the code of a routine carries out its body, and from each label what stands after it
pub routine_at : (names : List Entry) (instrs : List Instr) (subs p : ℕ) (body : Items)
    → Sound_items names subs body → HasAt instrs p (routine_code names p body)
    → RoutineAt instrs names subs (label_place p body) p body
routine_at names instrs subs p body sound h =
    let labels = label_place p body in
    let end = p + items_size body in
    let code = items_code names labels p body in
    let front = has_front instrs p code (Ret ∷ []) h in
    let ret =
    (past names labels instrs subs p code (Ret ∷ []) (items_size body)
    (items_length names labels p body) h).0 in
    let c_end : Carries instrs names subs labels end Items.none = at_end ret in
    record {
      entry =
          subst (λ todo. Carries instrs names subs labels p todo) (before_none body)
          (laid_items names labels instrs subs body p Items.none sound front c_end);
      each =
          λ label. elim (bytes_eq label (codes "prog_ende")) as (λ b. Carries instrs names subs labels
          (if b then end else unwrap_or (place_in_items label p end body) end)
          (if b then Items.none else or_none (in_items label body Items.none))) [
            | true ↦ c_end
            | false ↦ matched names labels instrs subs label end (in_items label body Items.none)
                (place_in_items label p end body) c_end
                (label_items names labels instrs subs label body p Items.none end sound front c_end c_end)
          ];
    }
