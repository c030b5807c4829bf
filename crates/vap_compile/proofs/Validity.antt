-- Compiled code is valid.
use Rattle.std.proofs.Common.{◌≡◌, ℕ, zero, suc, ◌+◌, ◌-◌, ◌<◌, ◌≤◌, List, [], ◌∷◌, length, get_or, Bool, true, false, Option, Some, None, refl, sym, ap, ◌∙◌, subst, arith, ⊎_elim}
use Rattle.std.proofs.lemmas.Bool.{cases_lt}
use Rattle.std.proofs.lemmas.Option.{get_or_from_slice_get, slice_get_within}
use Rattle.std.specs.Prelude.{slice_get, if◌then◌else◌, nat_lt, IsTrue, IfSome}
use Rattle.vap_ast.specs.declared.name.Entry.{Entry}
use Rattle.vap_ast.specs.Sizes.{items_size}
use Rattle.vap_ast.specs.Sound.{Low_items}
use Rattle.vap_ast.specs.Parsed.{ParsedItems}
use Rattle.vap_ast.specs.Syntax.{Item, Items, Stmt}
use Rattle.vap_check.specs.Accepted.{bodies_size}
use Rattle.vap_check.specs.Usable.{UsableStmt, UsableItem, UsableItems}
use Rattle.vap_code.specs.Codes.{CodeOf}
use Rattle.vap_code.specs.declared.Instr.{Instr}
use Rattle.vap_code.specs.declared.Instr.TheVariants.{Tick, Call, Ret}
use Rattle.vap_code.specs.declared.VerifyWhy.{VerifyWhy}
use Rattle.vap_code.specs.declared.VerifyWhy.TheVariants.{JumpOut, BackToNoTick, Height, Slot, CallOrder, EdgeToNoTick, FallsOff, Stretch, Shape, Commands}
use Rattle.vap_code.specs.Valid.{Valid, FitsCheck, HasShape, HeightFits, SlotFits, CallFits, leaves, target, goes_on, is_tick, is_ret, is_call, stands_clear, line_fits, instr_at, begins, has_next, end_above, routine_of, stretch_of, commands_of, heights}
use Rattle.vap_compile.specs.Layout.{items_code, items_steps, label_place, routine_code, routines_code, routine_starts}
use Rattle.vap_compile.proofs.Runs.{HasAt, has_front, has_all}
use Rattle.vap_compile.proofs.Laid.{past}
use Rattle.vap_compile.proofs.Means.{tail_at}
use Rattle.vap_compile.proofs.Rises.{Rises, rises_on, items_rise}
use Rattle.vap_compile.proofs.Heights.{standing, okay_at, standing_next, heights_are}
use Rattle.vap_compile.proofs.Standing.{stands, stands_past, clear_stands}
use Rattle.vap_compile.proofs.Each.{Each, each_join, each_at, each_map, each_both}
use Rattle.vap_compile.proofs.Targets.{label_lands, items_first}
use Rattle.vap_compile.proofs.Placed.{CallsBelow, Leads, Placed, items_placed}
use Rattle.vap_compile.proofs.BackTables.{number, weight_upto, ret_number}
use Rattle.vap_compile.proofs.Weights.{SmallStmt, SmallItem, SmallItems, items_weigh}
use Rattle.vap_compile.proofs.Bounds.{one, stretch_weighs, of_command, commands_weigh}
use Rattle.vap_compile.proofs.Routines.{LiesIn, lies_in}
use Rattle.vap_compile.proofs.Lengths.{items_length, routine_length, routines_length}

-- what is known of the body of the routine k
pub record BodyFits (names : List Entry) (variables timers arrays k : ℕ) (body : Items) : Type 0 where
  pub low : Low_items body
  pub usable : UsableItems names variables timers arrays k body
  pub parsed : ParsedItems 1048577 100 body

module _ (names : List Entry) (variables timers arrays k : ℕ) where
  mutual
    small_stmt : (what : Stmt) → UsableStmt names variables timers arrays k what → SmallStmt what
    small_stmt (Stmt.If test first second) u = (small_items first u.1.0, small_items second u.1.1)
    small_stmt (Stmt.Assign name e) u = tt
    small_stmt (Stmt.Cell name index e) u = tt
    small_stmt (Stmt.Goto label) u = tt
    small_stmt (Stmt.Gosub name) u = tt
    small_stmt (Stmt.Do kind args) u = tt
    small_stmt (Stmt.Timer kind name) u = tt
    small_stmt Stmt.Trace u = tt

    small_item : (item : Item) → UsableItem names variables timers arrays k item → SmallItem item
    small_item (Item.Label name line) u = tt
    small_item (Item.Step line what) u = (u.0, small_stmt what u.1)

    pub small_items : (items : Items) → UsableItems names variables timers arrays k items → SmallItems items
    small_items Items.none u = tt
    small_items (Items.next item items) u = (small_item item u.0, small_items items u.1)

-- what is asked of a target t of a jump at p
pub record Target (code : CodeOf) (p t : ℕ) : Type 0 where
  pub inside : t < length code.instrs
  pub same_routine : routine_of code.starts t ≡ routine_of code.starts p
  pub ticks : t ≤ p → IsTrue (is_tick (instr_at code.instrs t))
  pub clear : stands code.instrs t ≡ 0

-- what validity asks of the instruction i at p, but for heights and shape
pub record Good (code : CodeOf) (p : ℕ) (i : Instr) : Type 0 where
  pub slot : SlotFits code i
  pub line : IsTrue (line_fits i)
  pub called : CallFits code.starts p i
  pub jumped : IfSome (target i) (Target code p)
  pub after_call : IsTrue (is_call i) → IsTrue (is_tick (instr_at code.instrs (p + 1)))
  pub first : IsTrue (begins code.starts p) → is_ret i ≡ false → IsTrue (is_tick i)
  pub falls : IsTrue (goes_on i)
      → (p + 1 < length code.instrs) × IsTrue (has_next code.starts (length code.instrs) p)
  pub stretch : number code.instrs code.starts stretch_of p ≤ 1022
  pub commands : number code.instrs code.starts commands_of p ≤ 1

no_steps : (items : Items) → items_steps items ≡ false → items_size items ≡ 0
no_steps Items.none e = refl
no_steps (Items.next (Item.Label name line) items) e = omega (arith, no_steps items e)
no_steps (Items.next (Item.Step line what) items) e = cc

each_has : (instrs : List Instr) (p : ℕ) (is : List Instr) → HasAt instrs p is
    → Each (λ q i. slice_get instrs q ≡ Some i) p is
each_has instrs p [] h = tt
each_has instrs p (i ∷ is) h = (h.0, each_has instrs (p + 1) is h.1)

call_fits : (starts : List ℕ) (k p : ℕ) (i : Instr) → k ≡ routine_of starts p → CallsBelow k i
    → CallFits starts p i
call_fits starts k p (Call r) e c = omega (arith, e, c)
call_fits starts k p Ret e c = tt
call_fits starts k p _ e c = tt

module _ (code : CodeOf) (names : List Entry) (bodies : List Items)
    (instrs_are : code.instrs ≡ routines_code names 0 bodies)
    (starts_are : code.starts ≡ routine_starts 0 bodies)
    (fits : (k : ℕ) → k < length bodies → BodyFits names code.vars code.timers
    (length code.arrays) k (get_or bodies k Items.none)) where
  routine_rises : (body : Items) (p : ℕ) → Low_items body → Rises 0 (routine_code names p body) 0
  routine_rises body p low =
      rises_on (items_code names (label_place p body) p body) (Ret ∷ []) 0 0 0
      (items_rise names (label_place p body) body p low)
      (record { enough = omega arith; room = omega arith; clear = λ c. refl; jumped = tt }, refl)

  routines_rise : (bs : List Items) (p : ℕ)
      → ((k : ℕ) → k < length bs → Low_items (get_or bs k Items.none))
      → Rises 0 (routines_code names p bs) 0
  routines_rise [] p low = refl
  routines_rise (body ∷ bs) p low =
      rises_on (routine_code names p body) (routines_code names (p + items_size body + 1) bs) 0 0 0
      (routine_rises body p (low 0 (omega arith)))
      (routines_rise bs (p + items_size body + 1) (λ k lt. low (suc k) (omega arith)))

  pub all_is : length code.instrs ≡ bodies_size bodies
  all_is = ap length instrs_are ∙ routines_length names bodies 0

  rises : Rises 0 code.instrs 0
  rises = subst (λ xs. Rises 0 xs 0) (sym instrs_are) (routines_rise bodies 0 (λ k lt. (fits k lt).low))

  -- where a routine begins nothing stands
  begun : (bs : List Items) (p k : ℕ) → HasAt code.instrs p (routines_code names p bs)
      → stands code.instrs p ≡ 0 → ((j : ℕ) → j < length bs → Low_items (get_or bs j Items.none))
      → k < length bs
      → HasAt code.instrs (get_or (routine_starts p bs) k 0)
      (routine_code names (get_or (routine_starts p bs) k 0) (get_or bs k Items.none)) ×
      (stands code.instrs (get_or (routine_starts p bs) k 0) ≡ 0)
  begun [] p k h none low lt = absurd (omega arith)
  begun (body ∷ bs) p zero h none low lt =
      (has_front code.instrs p (routine_code names p body) _ h, none)
  begun (body ∷ bs) p (suc k) h none low lt =
      let front = has_front code.instrs p (routine_code names p body) _ h in
      let e : p + length (routine_code names p body) ≡ p + items_size body + 1 =
      omega (arith, routine_length names p body) in
      let next =
      ap (stands code.instrs) (sym e) ∙ stands_past code.instrs
      (routine_code names p body) p 0 0 front none
      (routine_rises body p (low 0 (omega arith))) in
      begun bs (p + items_size body + 1) k (tail_at names code.instrs p body bs h) next
      (λ j l. low (suc j) (omega arith)) (omega arith)

  first_stands : stands code.instrs 0 ≡ 0
  first_stands = none code.instrs
    where
      none : (is : List Instr) → standing 0 is 0 ≡ 0
      none [] = refl
      none (i ∷ is) = refl

  module _ (k : ℕ) (lt : k < length bodies) where
    -- the place at which the routine begins, its body, and the place of its return
    abbrev start : ℕ
    start = get_or (routine_starts 0 bodies) k 0

    abbrev body : Items
    body = get_or bodies k Items.none

    abbrev end : ℕ
    end = start + items_size body

    placed : HasAt code.instrs start (routine_code names start body) ×
        (stands code.instrs start ≡ 0)
    placed =
        begun bodies 0 k (subst (λ xs. HasAt xs 0 (routines_code names 0 bodies)) (sym instrs_are)
        (has_all (routines_code names 0 bodies) [])) first_stands (λ j l. (fits j l).low) lt

    lies : (q : ℕ) → start ≤ q → q ≤ end → LiesIn code.starts (length code.instrs) k start end q
    lies q low high =
        subst (λ xs. LiesIn xs (length code.instrs) k start end q) (sym starts_are)
        (lies_in bodies 0 (length code.instrs) k q lt (omega (arith, all_is)) low high)

    routine_good : Each (Good code) start (routine_code names start body)
    routine_good =
        let labels = label_place start body in
        let is = code.instrs in
        let ss = code.starts in
        let part = items_code names labels start body in
        let len = items_length names labels start body in
        let h = placed.0 in
        let f = fits k lt in
        let front = has_front is start part (Ret ∷ []) h in
        let ret : slice_get is end ≡ Some Ret =
        (past names labels is 0 start part (Ret ∷ []) (items_size body) len h).0 in
        let lands = label_lands is names labels start body front in
        let small = small_items names code.vars code.timers (length code.arrays) k body f.usable in
        let right =
        items_placed code start end k names labels lands ret 0 rises body start 100 front placed.1
        f.low f.usable f.parsed (omega arith) (omega arith) in
        let w1 = stretch_weighs names in
        let w2 = commands_weigh names in
        let r1 = ret_number is ss stretch_of one w1.cheap end 1 w1.ret ret in
        let r2 = ret_number is ss commands_of of_command w2.cheap end 0 w2.ret ret in
        let u1 = weight_upto is ss stretch_of end in
        let u2 = weight_upto is ss commands_of end in
        let light1 =
        items_weigh is ss stretch_of one 1022 101 1 1 (λ n. 101 - n) names labels w1 start end lands
        ret body start 1 100 front small f.parsed (omega arith) (omega arith) (omega arith)
        (omega (arith, r1, u1)) in
        let light2 =
        items_weigh is ss commands_of of_command 1 0 0 0 (λ n. 0) names labels w2 start end lands
        ret body start 0 100 front small f.parsed (omega arith) (omega arith) (omega arith)
        (omega (arith, r2, u2)) in
        let all_right =
        each_join (Placed code start end k) start (items_size body) part (Ret ∷ []) len right (
          record { slot = tt; line = refl; called = tt; jumped = tt; after_call = λ c. cc },
          tt,
        ) in
        let all_light1 =
        each_join (λ p i. number is ss stretch_of p ≤ 1022) start (items_size body) part (Ret ∷ [])
        len light1.0 (omega (arith, r1), tt) in
        let all_light2 =
        each_join (λ p i. number is ss commands_of p ≤ 1) start (items_size body) part (Ret ∷ [])
        len light2.0 (omega (arith, r2), tt) in
        let whole = routine_code names start body in
        let there = each_has is start whole h in
        each_map _ (Good code) start (end + 1) start whole
        (λ p i low high x. good p i low (omega arith) x.0.0 x.0.1 x.1.0 x.1.1 ret front)
        (omega arith) (omega (arith, routine_length names start body))
        (each_both _ _ start whole (each_both _ _ start whole all_right all_light1)
        (each_both _ _ start whole all_light2 there))
      where
        good : (p : ℕ) (i : Instr) → start ≤ p → p ≤ end → Placed code start end k p i
            → number code.instrs code.starts stretch_of p ≤ 1022
            → number code.instrs code.starts commands_of p ≤ 1
            → slice_get code.instrs p ≡ Some i
            → slice_get code.instrs end ≡ Some Ret → HasAt code.instrs start
            (items_code names (label_place start body) start body) → Good code p i
        good p i low high r stretch commands there ret front =
            let here = lies p low high in
            let same : k ≡ routine_of code.starts p = omega (arith, here.upto) in
            let within = slice_get_within code.instrs end Ret ret in
            record {
              slot = r.slot;
              line = r.line;
              called = call_fits code.starts k p i same r.called;
              jumped = led (target i) r.jumped;
              after_call = r.after_call;
              first = λ b n. begins_so (items_steps body) refl (here.first b) n;
              falls =
                  λ g. ⊎_elim (λ lt. (omega (arith, within), falls_on lt here.ends))
                  (λ le. absurd (stays (i_is_ret le) g)) (cases_lt p end);
              stretch = stretch;
              commands = commands;
            }
          where
            led : (o : Option ℕ) → IfSome o (Leads code start end k p) → IfSome o (Target code p)
            led None l = tt
            led (Some t) l =
                let a = lies t l.above l.below in
                let b = lies p low high in
                record {
                  inside = omega (arith, l.below, slice_get_within code.instrs _ Ret ret);
                  same_routine = omega (arith, a.upto, b.upto);
                  ticks = l.ticks;
                  clear = l.none;
                }

            falls_on : p < end → end_above code.starts (length code.instrs) p ≡ end + 1
                → IsTrue (has_next code.starts (length code.instrs) p)
            falls_on lt e = ap (nat_lt (p + 1)) e ∙ grind (arith, lt)

            i_is_ret : end ≤ p → i ≡ Ret
            i_is_ret le =
                let e : p ≡ end = omega arith in
                sym (get_or_from_slice_get code.instrs p i Ret there) ∙ ap
                (instr_at code.instrs) e ∙ get_or_from_slice_get code.instrs _ Ret Ret
                ret

            stays : i ≡ Ret → IsTrue (goes_on i) → ⊥
            stays e g = differ (sym (ap goes_on e) ∙ g)
              where
                differ : false ≡ true → ⊥
                differ x = cc

            begins_so : (b : Bool) → items_steps body ≡ b → p ≡ start → is_ret i ≡ false → IsTrue (is_tick i)
            begins_so true e at n =
                ap is_tick (sym (get_or_from_slice_get code.instrs p i Ret there) ∙ ap
                (instr_at code.instrs) at) ∙ items_first code.instrs 0 0 names _ body
                start e front
            begins_so false e at n =
                absurd (differ (sym n ∙ ap is_ret (i_is_ret (omega (arith, at, no_steps body e)))))
              where
                differ : false ≡ true → ⊥
                differ x = cc

  all_good : (bs : List Items) (p : ℕ)
      → ((j : ℕ) → j < length bs → Each (Good code) (get_or (routine_starts p bs) j 0)
      (routine_code names (get_or (routine_starts p bs) j 0) (get_or bs j Items.none)))
      → Each (Good code) p (routines_code names p bs)
  all_good [] p h = tt
  all_good (body ∷ bs) p h =
      let e : p + (items_size body + 1) ≡ p + items_size body + 1 = omega arith in
      each_join (Good code) p (items_size body + 1) (routine_code names p body)
      (routines_code names (p + items_size body + 1) bs) (routine_length names p body)
      (h 0 (omega arith)) (subst
      (λ n. Each (Good code) n (routines_code names (p + items_size body + 1) bs)) (sym e)
      (all_good bs (p + items_size body + 1) (λ j lt. h (suc j) (omega arith))))

  pub good_at : (p : ℕ) → p < length code.instrs → Good code p (instr_at code.instrs p)
  good_at p lt =
      let whole =
      subst (λ xs. Each (Good code) 0 xs) (sym instrs_are)
      (all_good bodies 0 (λ j l. routine_good j l)) in
      let e : 0 + p ≡ p = omega arith in
      subst (λ q. Good code q (instr_at code.instrs p)) e
      (each_at (Good code) 0 code.instrs p whole lt)

  clear_first : (i : Instr) → (is_ret i ≡ false → IsTrue (is_tick i)) → IsTrue (stands_clear i)
  clear_first (Tick line) f = refl
  clear_first (Call r) f = refl
  clear_first Ret f = refl
  clear_first _ f = f refl

  module _ (first_begins : begins code.starts 0 ≡ true) where
    height_is : (p : ℕ) → p < length code.instrs
        → get_or (heights code) p 0 ≡ stands code.instrs p
    height_is p lt =
        heights_are code.instrs code.starts 0 rises first_begins
        (λ q l b. clear_stands code.instrs 0 rises q l
        (clear_first (instr_at code.instrs q) ((good_at q l).first b)))
        (length code.instrs) (omega arith) p lt

    height_fits : (p : ℕ) → p < length code.instrs → HeightFits code p
    height_fits p lt =
        let g = good_at p lt in
        let o = okay_at 0 code.instrs 0 p rises lt in
        let h = height_is p lt in
        record {
          enough = omega (arith, h, o.enough);
          room = subst (λ n. leaves n (instr_at code.instrs p) ≤ 256) (sym h) o.room;
          clear = λ c. h ∙ o.clear c;
          jumped = jumps (target (instr_at code.instrs p)) g.jumped o.jumped;
          fallen =
              λ on there. height_is (p + 1) (g.falls on).0 ∙ standing_next 0 code.instrs p lt ∙ ap
              (λ b. if b then leaves (stands code.instrs p)
              (instr_at code.instrs p) else 0) on ∙ ap
              (λ n. leaves n (instr_at code.instrs p)) (sym h);
        }
      where
        jumps : (o : Option ℕ) → IfSome o (Target code p)
            → IfSome o (λ _. leaves (stands code.instrs p) (instr_at code.instrs p) ≡ 0)
            → IfSome o (λ t. get_or (heights code) t 0 ≡ leaves (get_or (heights code) p 0)
            (instr_at code.instrs p))
        jumps None a b = tt
        jumps (Some t) a b =
            height_is t a.inside ∙ a.clear ∙ sym b ∙ ap (λ n. leaves n (instr_at code.instrs p))
            (sym (height_is p lt))

    pub valid_code : 0 < length code.instrs → HasShape code → Valid code
    valid_code some shape why p within = fit why
      where
        lt : p < length code.instrs
        lt = omega arith

        inside : (o : Option ℕ) → IfSome o (Target code p)
            → IfSome o (λ t. (t < length code.instrs) ×
            (routine_of code.starts t ≡ routine_of code.starts p))
        inside None a = tt
        inside (Some t) a = (a.inside, a.same_routine)

        back : (o : Option ℕ) → IfSome o (Target code p)
            → IfSome o (λ t. t ≤ p → IsTrue (is_tick (instr_at code.instrs t)))
        back None a = tt
        back (Some t) a = a.ticks

        fit : (why : VerifyWhy) → FitsCheck code why p
        fit JumpOut = inside (target (instr_at code.instrs p)) (good_at p lt).jumped
        fit BackToNoTick = back (target (instr_at code.instrs p)) (good_at p lt).jumped
        fit Height = height_fits p lt
        fit Slot = (good_at p lt).slot
        fit CallOrder = (good_at p lt).called
        fit EdgeToNoTick =
            record {
              after_call = λ c there. (good_at p lt).after_call c;
              at_start = (good_at p lt).first;
            }
        fit FallsOff = λ on. ((good_at p lt).falls on).1
        fit Stretch = (good_at p lt).stretch
        fit Shape = λ e. shape
        fit Commands = (good_at p lt).commands
