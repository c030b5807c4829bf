-- What is counted of a pass tells which lines of the program run in it.
use Rattle.std.proofs.Common.{◌≡◌, ℕ, zero, suc, ◌+◌, ◌≤◌, List, [], ◌∷◌, ◌++◌, inl, inr, Bool, true, false, Some, refl, sym, ap, ◌∙◌, subst, arith}
use Rattle.std.specs.Prelude.{slice_get, Contains, count_by, cond, ◌&&◌, ◌==◌}
use Rattle.std.proofs.lemmas.Bool.Decides.{eqb_tells}
use Rattle.std.proofs.lemmas.List.Elements.{Contains-append_cases, Contains-append_left, Contains-append_right}
use Rattle.std.proofs.lemmas.List.Sums.{sum_by-cons}
use Rattle.sig_types.specs.Pass.{Store as StoreOf, World, unit_limit}
use Rattle.vap_ast.specs.Names.{Source}
use Rattle.vap_ast.specs.Syntax.{Items}
use Rattle.vap_code.specs.declared.Instr.{Instr}
use Rattle.vap_code.specs.declared.Instr.TheVariants.{Tick}
use Rattle.vap_code.specs.Codes.{CodeOf}
use Rattle.vap_code.specs.Machine.{first_state, last_start, step_limit}
use Rattle.vap_code.specs.Sights.{Sight, machine_sights}
use Rattle.vap_code.specs.Valid.{is_call}
use Rattle.vap_compile.specs.Compiled.{IsCodeOf}
use Rattle.vap_compile.specs.Layout.{routine_starts}
use Rattle.trace_watch.specs.Counted.{begins, spends}
use Rattle.trace_watch.specs.Places.{statement_at, statements_from, statements_in}
use Rattle.laws.specs.LinesSeen.{LineBegins, LinesAreSeen}
use Rattle.laws.specs.UnitsSpent.{line_by, spent_in}
use Rattle.laws.proofs.LinesBegun.{Each_sight, Begins, Stands_so, spends_or_not, spent_holds, each_stands, each_spends, opened}
use Rattle.laws.proofs.UnitsFollow.{lines_agree}
use Rattle.laws.proofs.OrderlyCode.{calls, behind, Open, Orderly, orderly, starts_are_open}

-- ---- the statements of a code are its ticks behind no call

not_in_none : {A X : Type 0} {x : X} → Contains [] x → A
not_in_none c = absurd (omega (arith, c.1))

module _ (p : ℕ) where
  one_mark : (i : Instr) (b : Bool) (q line : ℕ) → Contains (statement_at p b i) (record { place = q; line = line })
      → (q ≡ p) × (i ≡ Tick line)
  one_mark (Tick l) false q line (zero, lt, is) = (ap (λ m. m.place) (sym is), ap (λ m. Tick m.line) is)
  one_mark (Tick l) false q line (suc k, lt, is) = absurd (omega (arith, lt))
  one_mark (Tick l) true q line c = not_in_none c
  one_mark _ false q line c = not_in_none c
  one_mark _ true q line c = not_in_none c

-- a statement stands at its place
mark_stands : (is : List Instr) (p : ℕ) (b : Bool) (q line : ℕ)
    → Contains (statements_from p b is) (record { place = q; line = line })
    → (k : ℕ) × (q ≡ p + k) × (slice_get is k ≡ Some (Tick line))
mark_stands [] p b q line c = not_in_none c
mark_stands (i ∷ is) p b q line c =
    elim (Contains-append_cases (statement_at p b i) (statements_from (p + 1) (is_call i) is) _ c) [
      | inl one ↦ let at = one_mark p i b q line one in (0, omega (arith, at.0), ap Some at.1)
      | inr more ↦ let at = mark_stands is (p + 1) (is_call i) q line more in (suc at.0, omega (arith, at.1), at.2)
    ]

pub statement_stands : (instrs : List Instr) (q line : ℕ) → Contains (statements_in instrs) (record { place = q; line = line })
    → slice_get instrs q ≡ Some (Tick line)
statement_stands instrs q line c =
    let at = mark_stands instrs 0 false q line c in
    let e : q ≡ at.0 = omega (arith, at.1) in
    subst (λ q. slice_get instrs q ≡ Some (Tick line)) (sym e) at.2

-- whether a call stands before a place, where one stands before the first or not
abbrev behind_from : Bool → List Instr → ℕ → Bool
behind_from b is zero = b
behind_from b [] (suc k) = false
behind_from b (i ∷ is) (suc k) = behind_from (is_call i) is k

behind_next : (is : List Instr) (b : Bool) (p : ℕ) → behind_from b is (suc p) ≡ calls (slice_get is p)
behind_next [] b zero = refl
behind_next [] b (suc p) = refl
behind_next (i ∷ is) b zero = refl
behind_next (i ∷ is) b (suc p) = behind_next is (is_call i) p

behind_same : (instrs : List Instr) (p : ℕ) → behind_from false instrs p ≡ behind instrs p
behind_same instrs zero = refl
behind_same instrs (suc p) = behind_next instrs false p

one_there : (p line : ℕ) (i : Instr) (b : Bool) → i ≡ Tick line → b ≡ false
    → Contains (statement_at p b i) (record { place = p; line = line })
one_there p line i b is e =
    subst (λ i. Contains (statement_at p b i) (record { place = p; line = line })) (sym is)
    (subst (λ b. Contains (statement_at p b (Tick line)) (record { place = p; line = line })) (sym e) (0, omega arith, refl))

mark_there : (is : List Instr) (p k q line : ℕ) (b : Bool) → q ≡ p + k → slice_get is k ≡ Some (Tick line)
    → behind_from b is k ≡ false → Contains (statements_from p b is) (record { place = q; line = line })
mark_there [] p k q line b at e none = cc
mark_there (i ∷ is) p zero q line b at e none =
    let n : p ≡ q = omega (arith, at) in
    Contains-append_left (statement_at p b i) (statements_from (p + 1) (is_call i) is) _
    (subst (λ q. Contains (statement_at p b i) (record { place = q; line = line })) n
    (one_there p line i b (same i e) none))
  where
    same : (i : Instr) → Some i ≡ Some (Tick line) → i ≡ Tick line
    same i e = cc
mark_there (i ∷ is) p (suc k) q line b at e none =
    Contains-append_right (statement_at p b i) (statements_from (p + 1) (is_call i) is) _
    (mark_there is (p + 1) k q line (is_call i) (omega (arith, at)) e none)

-- a tick behind no call is a statement
pub statement_there : (instrs : List Instr) (p line : ℕ) → slice_get instrs p ≡ Some (Tick line) → behind instrs p ≡ false
    → Contains (statements_in instrs) (record { place = p; line = line })
statement_there instrs p line e none =
    mark_there instrs 0 p p line false (omega arith) e (behind_same instrs p ∙ none)

-- ---- counts

-- one more or none
abbrev tells_one : Bool → ℕ
tells_one b = cond b 1 0

both : (a b : Bool) → (a && b) ≡ true → (a ≡ true) × (b ≡ true)
both true b e = (refl, e)
both false b e = cc

here : (p : ℕ) → (p == p) ≡ true
here p = elim (eqb_tells p p) [ inl at ↦ at.0 | inr other ↦ absurd (other.1 refl) ]

there : (p q : ℕ) → (p == q) ≡ true → p ≡ q
there p q e = elim (eqb_tells p q) [ inl at ↦ at.1 | inr other ↦ not_both e other.0 ]
  where
    not_both : {A : Type 0} {b : Bool} → b ≡ true → b ≡ false → A
    not_both e f = cc

-- a tick that finds a unit spends it at its line
its_line : (line units : ℕ) → spends (Tick line) units ≡ true → line_by (Tick line) units ≡ line ∷ []
its_line line zero e = cc
its_line line (suc units) e = refl

-- what spends a unit is a tick that finds one
its_tick : (i : Instr) (units l : ℕ) → line_by i units ≡ l ∷ [] → (i ≡ Tick l) × (spends i units ≡ true)
its_tick (Tick m) zero l is = cc
its_tick (Tick m) (suc units) l is = (ap Tick (head_is m l is), refl)
  where
    head_is : (m l : ℕ) → (m ∷ []) ≡ (l ∷ []) → m ≡ l
    head_is m l e = cc
its_tick _ units l is = cc

module _ (instrs : List Instr) (p line : ℕ) (stands : slice_get instrs p ≡ Some (Tick line)) where
  same : (i : Instr) → Some i ≡ Some (Tick line) → i ≡ Tick line
  same i e = cc

  spends_here : (x : Sight) → slice_get instrs x.state.place ≡ Some x.instr → begins p x ≡ true
      → line_by x.instr x.state.units ≡ line ∷ []
  spends_here x at b =
      let parts = both (x.state.place == p) (spends x.instr x.state.units) b in
      let tick =
      same x.instr (sym at ∙ ap (slice_get instrs) (there x.state.place p parts.0) ∙ stands) in
      ap (λ i. line_by i x.state.units) tick
      ∙ its_line line x.state.units (ap (λ i. spends i x.state.units) (sym tick) ∙ parts.1)

  -- a statement that is counted spends a unit at its line
  spent_there : (xs : List Sight) → Each_sight (λ x. slice_get instrs x.state.place ≡ Some x.instr) xs
      → 1 ≤ count_by (begins p) xs → (k : ℕ) × (slice_get (spent_in xs) k ≡ Some line)
  spent_there [] each some = absurd (omega (arith, some))
  spent_there (x ∷ xs) each some = at (spent_there xs each.1) (begins p x) refl
    where
      sum : count_by (begins p) (x ∷ xs) ≡ tells_one (begins p x) + count_by (begins p) xs
      sum = sum_by-cons (λ x. cond (begins p x) 1 0) x xs

      later : (k : ℕ) × (slice_get (spent_in xs) k ≡ Some line) → (k : ℕ) × (slice_get (spent_in (x ∷ xs)) k ≡ Some line)
      later k = elim (spends_or_not x.instr x.state.units) [
        | inl none ↦ (k.0, ap (λ ls. slice_get (ls ++ spent_in xs) k.0) none ∙ k.1)
        | inr one ↦ (suc k.0, ap (λ ls. slice_get (ls ++ spent_in xs) (suc k.0)) one.1 ∙ k.1)
      ]

      at : (1 ≤ count_by (begins p) xs → (k : ℕ) × (slice_get (spent_in xs) k ≡ Some line)) → (b : Bool) → begins p x ≡ b
          → (k : ℕ) × (slice_get (spent_in (x ∷ xs)) k ≡ Some line)
      at go true e = (0, ap (λ ls. slice_get (ls ++ spent_in xs) 0) (spends_here x each.0 e))
      at go false e =
          let less : tells_one (begins p x) ≡ 0 = ap tells_one e in
          later (go (omega (arith, some, sum, less)))

each_map : (P Q : Sight → Type 0) (xs : List Sight) → ((x : Sight) → P x → Q x) → Each_sight P xs → Each_sight Q xs
each_map P Q [] f each = tt
each_map P Q (x ∷ xs) f each = (f x each.0, each_map P Q xs f each.1)

each_both : (P Q R : Sight → Type 0) (xs : List Sight) → ((x : Sight) → P x → Q x → R x) → Each_sight P xs → Each_sight Q xs
    → Each_sight R xs
each_both P Q R [] f ps qs = tt
each_both P Q R (x ∷ xs) f ps qs = (f x ps.0 qs.0, each_both P Q R xs f ps.1 qs.1)

-- counted among these, wherever it begins a statement
abbrev CountedIn : List Sight → Sight → Type 0
CountedIn xs x = (p : ℕ) → begins p x ≡ true → 1 ≤ count_by (begins p) xs

-- each is counted among all
each_counted : (xs : List Sight) → Each_sight (CountedIn xs) xs
each_counted [] = tt
each_counted (x ∷ xs) = (here_counted, each_map (CountedIn xs) (CountedIn (x ∷ xs)) xs later_counted (each_counted xs))
  where
    sum : (p : ℕ) → count_by (begins p) (x ∷ xs) ≡ tells_one (begins p x) + count_by (begins p) xs
    sum p = sum_by-cons (λ x. cond (begins p x) 1 0) x xs

    here_counted : CountedIn (x ∷ xs) x
    here_counted p e =
        let one : tells_one (begins p x) ≡ 1 = ap tells_one e in
        omega (arith, sum p, one)

    later_counted : (y : Sight) → CountedIn xs y → CountedIn (x ∷ xs) y
    later_counted y some p e = omega (arith, some p e, sum p)

-- ---- the main routine begins at an open place

last_there : (p : ℕ) (ps : List ℕ) → (k : ℕ) × (slice_get (p ∷ ps) k ≡ Some (last_start (p ∷ ps)))
last_there p [] = (0, refl)
last_there p (q ∷ ps) = let at = last_there q ps in (suc at.0, at.1)

start_there : (subs : List Items) (main : Items) (p : ℕ)
    → (k : ℕ) × (slice_get (routine_starts p (subs ++ main ∷ [])) k ≡ Some (last_start (routine_starts p (subs ++ main ∷ []))))
start_there [] main p = last_there p []
start_there (b ∷ subs) main p = last_there p _

-- ---- the law

module _ (source : Source) (code : CodeOf) (world : World) (s : StoreOf) (is : IsCodeOf source code) where
  abbrev bodies : List Items
  bodies = source.subs ++ source.main ∷ []

  abbrev sights : List Sight
  sights = machine_sights code world s

  code_orderly : (p : ℕ) (i : Instr) → slice_get code.instrs p ≡ Some i → Orderly code.instrs p i
  code_orderly =
      subst (λ l. (p : ℕ) (i : Instr) → slice_get l p ≡ Some i → Orderly l p i) (sym is.instrs) (orderly source.names bodies)

  code_opens : (k q : ℕ) → slice_get code.starts k ≡ Some q → Open code.instrs q
  code_opens k q e =
      subst (λ l. Open l q) (sym is.instrs)
      (starts_are_open source.names bodies k q (subst (λ l. slice_get l k ≡ Some q) is.starts e))

  abbrev begun_so : Sight → Type 0
  begun_so = Begins code.instrs code.starts world code_orderly code_opens (LineBegins code world s)

  first_so : Stands_so code.instrs code.starts world code_orderly code_opens (LineBegins code world s)
      (first_state code.starts unit_limit s)
  first_so =
      opened code.instrs code.starts world code_orderly code_opens (LineBegins code world s) (first_state code.starts unit_limit s)
      (let at = start_there source.subs source.main 0 in
      code_opens at.0 (last_start code.starts)
      (subst (λ l. slice_get l at.0 ≡ Some (last_start l)) (sym is.starts) at.1)) tt

  stand : Each_sight (λ x. slice_get code.instrs x.state.place ≡ Some x.instr) sights
  stand = each_stands code.instrs code.starts world step_limit (first_state code.starts unit_limit s)

  begun_line : (x : Sight) → slice_get code.instrs x.state.place ≡ Some x.instr
      → CountedIn sights x → begun_so x
  begun_line x at counted l is none =
      let tick = its_tick x.instr x.state.units l is in
      record {
        place = x.state.place;
        there = statement_there code.instrs x.state.place l (at ∙ ap Some tick.0) none;
        begun = counted x.state.place (λ j. here x.state.place j && tick.1 j);
      }

  all_begin : Each_sight begun_so sights
  all_begin =
      each_both (λ x. slice_get code.instrs x.state.place ≡ Some x.instr)
      (CountedIn sights) begun_so sights begun_line stand (each_counted sights)

  begun_where_spent : (k line : ℕ) → slice_get (spent_in sights) k ≡ Some line → LineBegins code world s line
  begun_where_spent k line e =
      spent_holds (LineBegins code world s) sights k line
      (each_spends code.instrs code.starts world code_orderly code_opens (LineBegins code world s) step_limit
      (first_state code.starts unit_limit s) first_so all_begin) e

  spent_where_begun : (line : ℕ) → LineBegins code world s line → (k : ℕ) × (slice_get (spent_in sights) k ≡ Some line)
  spent_where_begun line b =
      spent_there code.instrs b.place line (statement_stands code.instrs b.place line b.there) sights stand b.begun

pub lines_are_seen : LinesAreSeen
lines_are_seen = record {
  seen = λ source code world s line sound is b.
      let at = spent_where_begun source code world s is line b in
      lines_agree.spent source code world s at.0 line sound is at.1;
  done = λ source code world s line sound is over ran.
      let at = lines_agree.runs source code world s line sound is over ran in
      begun_where_spent source code world s is at.0 line at.1;
}
