-- What the rule says of the tick's seat at the end.
use Rattle.std.proofs.Common.{◌≡◌, ◌≢◌, ℕ, zero, suc, ◌+◌, ◌<◌, ◌≤◌, List, [], ◌∷◌, ◌++◌, length, set, refl, sym, ap, ◌∙◌, subst, arith, get_or-set_same, get_or-set_other, length-set, length-append, Option, Some, None}
use Rattle.std.specs.Prelude.{slice_index, slice_index_or, slice_get}
use mathlib.Core.Logic.{dite}
use native.Mathlib.Decide.{ℕ_discrete}
use Rattle.atomic_table.specs.Table.{Seen, Final, Me}
use Rattle.det_board.specs.declared.view.View.{View}
use Rattle.det_board.specs.declared.view.View.TheVariants.{Tick, Feeder, Spent}
use Rattle.det_board.specs.Rule.{last_read, fronts_word, rears_word, Keeps, loads_of, owned_of, dealt_of, owned_by, IsTick}
use Rattle.det_board.specs.Passes.{Boarded, Feeding, Ticking, AreAll, Closes, GivenBack, WithinCounts, fronts_read, rears_read}
use Rattle.det_board.proofs.Steps.{at_tick}

pub within_counts : (detectors id : ℕ) (v : View) (ws : List ℕ) (xs : List (Unit {0})) → Final (Seen (Keeps detectors) id v) ws xs → WithinCounts detectors v
within_counts detectors id (Tick D L O) ws xs end ticks d f r inside owns =
    let s = end.0 in
    let h = end.1.0 in
    let at = end.1.1 in
    let is = at_tick detectors s h id D L O at in
    let own = ((h.fits id (Tick D L O) at).one_owner d (f, r) owns).2 in
    let wf = own.fronts in let wr = own.rears in
    let a = subst (λ l. last_read l (fronts_word d) ≤ slice_index s.words (fronts_word d)) (sym is.1) (h.read (fronts_word d) (omega arith)) in
    let b = subst (λ l. last_read l (rears_word d) ≤ slice_index s.words (rears_word d)) (sym is.1) (h.read (rears_word d) (omega arith)) in
    (omega arith, omega arith, own.ordered, own.bounded)
within_counts detectors id (Feeder k g q) ws xs end ticks d f r inside owns = absurd ticks
within_counts detectors id Spent ws xs end ticks d f r inside owns = absurd ticks

-- the passes that are still to be given back are the first ones
pub record Gathering (all rest : List Feeding) (detectors : ℕ) (loads : List (List ℕ)) (me : Me (Unit {0}) View) (counts : List (ℕ × ℕ)) : Type 0 where
  pub part : (k : ℕ) (p : Feeding) → slice_get rest k ≡ Some p → slice_get all k ≡ Some p
  pub back : GivenBack (length rest) detectors all loads me
  pub size : length counts ≡ 64
  pub counted : (k : ℕ) (p : Feeding) → length rest ≤ k → slice_get all k ≡ Some p → slice_index_or counts p.place (0, 0) ≡ (p.fronts, p.rears)

get_last : (xs : List Feeding) (x : Feeding) → slice_get (xs ++ x ∷ []) (length xs) ≡ Some x
get_last [] x = refl
get_last (y ∷ xs) x = get_last xs x

get_front : (xs ys : List Feeding) (k : ℕ) (p : Feeding) → slice_get xs k ≡ Some p → slice_get (xs ++ ys) k ≡ Some p
get_front [] ys k p e = absurd (cc)
get_front (x ∷ xs) ys zero p e = e
get_front (x ∷ xs) ys (suc k) p e = get_front xs ys k p e

some_one : {a b : Feeding} → Some a ≡ Some b → a ≡ b
some_one e = cc

pub gathers_one : (board : Boarded) (all rest rest' : List Feeding) (tick : Ticking) (x : Feeding) (place : ℕ) (loads : List (List ℕ))
    (me me' : Me (Unit {0}) View) (counts : List (ℕ × ℕ)) → AreAll board all tick → board.detectors ≤ 64
    → Gathering all rest board.detectors loads me counts → rest ≡ rest' ++ x ∷ [] → place ≡ x.place → x.place < board.detectors
    → me' ≡ (Tick (dealt_of me.0) (loads_of me.0) (set (owned_of me.0) x.place (Some (x.fronts, x.rears))), [])
    → Gathering all rest' board.detectors loads me' (set counts place (x.fronts, x.rears))
gathers_one board all rest rest' tick x place loads me me' counts are low g cut at inside is =
    let n : ℕ = length rest' in
    let long : length rest ≡ n + 1 = ap length cut ∙ length-append rest' (x ∷ []) in
    let mine : slice_get all n ≡ Some x = g.part n x (subst (λ l. slice_get l n ≡ Some x) (sym cut) (get_last rest' x)) in
    let L' : loads_of me.0 ≡ loads = ap (λ (m : Me (Unit {0}) View). loads_of m.0) g.back.view in
    let c : Option (ℕ × ℕ) = Some (x.fronts, x.rears) in
    let O = set (owned_of me.0) x.place c in
    let now : me' ≡ (Tick (dealt_of me.0) loads O, []) = is ∙ (λ i. (Tick (dealt_of me.0) (L' i) O, [])) in
    let which : (k : ℕ) (p : Feeding) → slice_get all k ≡ Some p → k ≡ n → x ≡ p =
    λ k p e same. some_one (sym mine ∙ subst (λ j. slice_get all j ≡ Some p) same e) in
    let apart : (k : ℕ) (p : Feeding) → slice_get all k ≡ Some p → k ≢ n → p.place ≢ x.place = λ k p e ne same. ne (are.once k n p x e mine same) in
    subst (λ (j : ℕ). Gathering all rest' board.detectors loads me' (set counts j (x.fronts, x.rears))) (sym at) (record {
      part = λ k p e. g.part k p (subst (λ l. slice_get l k ≡ Some p) (sym cut) (get_front rest' (x ∷ []) k p e));
      back = subst (GivenBack n board.detectors all loads) (sym now) (record {
        view = refl;
        owned_count = length-set (owned_of me.0) x.place c ∙ g.back.owned_count;
        inside = λ k p h e. dite (ℕ_discrete k n)
            (λ same. subst (λ (q : Feeding). q.place < board.detectors) (which k p e same) inside)
            (λ ne. g.back.inside k p (omega arith) e);
        back = λ k p h e. dite (ℕ_discrete k n)
            (λ same. subst (λ (q : Feeding). slice_index_or O q.place None ≡ Some (q.fronts, q.rears)) (which k p e same)
            (get_or-set_same (owned_of me.0) x.place c None (let o = g.back.owned_count in omega arith)))
            (λ ne. get_or-set_other (owned_of me.0) x.place p.place c None (apart k p e ne) ∙ g.back.back k p (omega arith) e);
      });
      size = length-set counts x.place (x.fronts, x.rears) ∙ g.size;
      counted = λ k p h e. dite (ℕ_discrete k n)
          (λ same. subst (λ (q : Feeding). slice_index_or (set counts x.place (x.fronts, x.rears)) q.place (0, 0) ≡ (q.fronts, q.rears)) (which k p e same)
          (get_or-set_same counts x.place (x.fronts, x.rears) (0, 0) (let z = g.size in omega arith)))
          (λ ne. get_or-set_other counts x.place p.place (x.fronts, x.rears) (0, 0) (apart k p e ne) ∙ g.counted k p (omega arith) e);
    })

-- the frame that is left
pub closes : (board : Boarded) (all : List Feeding) (tick : Ticking) (me : Me (Unit {0}) View) (totals counts frame : List (ℕ × ℕ)) →
    AreAll board all tick → board.detectors ≤ 64 → Gathering all [] board.detectors tick.loads me counts → WithinCounts board.detectors me.0
    → ((d : ℕ) → d < 64 → slice_index_or totals d (0, 0) ≡ (last_read tick.loads (fronts_word d), last_read tick.loads (rears_word d)))
    → length frame ≡ 64
    → ((d : ℕ) → d < board.detectors → ((slice_index_or frame d (0, 0)).0 + (slice_index_or totals d (0, 0)).0 ≡ (slice_index_or counts d (0, 0)).0)
    × ((slice_index_or frame d (0, 0)).1 + (slice_index_or totals d (0, 0)).1 ≡ (slice_index_or counts d (0, 0)).1))
    → ((d : ℕ) → board.detectors ≤ d → slice_index_or frame d (0, 0) ≡ (0, 0))
    → Closes board all tick frame
closes board all tick me totals counts frame are low g within read size sums absent = record {
  size = size;
  rest = λ k p e. let inside : p.place < board.detectors = g.back.inside k p (omega arith) e in
      let s = sums p.place inside in
      let t = read p.place (omega arith) in
      let c = g.counted k p (omega arith) e in
      let tf : (slice_index_or totals p.place (0, 0)).0 ≡ fronts_read tick p.place = ap (λ (q : ℕ × ℕ). q.0) t in
      let tr : (slice_index_or totals p.place (0, 0)).1 ≡ rears_read tick p.place = ap (λ (q : ℕ × ℕ). q.1) t in
      let cf : (slice_index_or counts p.place (0, 0)).0 ≡ p.fronts = ap (λ (q : ℕ × ℕ). q.0) c in
      let cr : (slice_index_or counts p.place (0, 0)).1 ≡ p.rears = ap (λ (q : ℕ × ℕ). q.1) c in
      (omega (arith, s.0), omega (arith, s.1));
  absent = absent;
  ordered = λ k p e. let w = within (ticks_of me g) p.place p.fronts p.rears (g.back.inside k p (omega arith) e) (owns me g k p e) in (w.2, w.3);
}
  where
    ticks_of : (me : Me (Unit {0}) View) → Gathering all [] board.detectors tick.loads me counts → IsTick me.0
    ticks_of me g = subst (λ (m : Me (Unit {0}) View). IsTick m.0) (sym g.back.view) tt

    owns : (me : Me (Unit {0}) View) → Gathering all [] board.detectors tick.loads me counts → (k : ℕ) (p : Feeding) → slice_get all k ≡ Some p →
        owned_by me.0 p.place ≡ Some (p.fronts, p.rears)
    owns me g k p e = ap (λ (m : Me (Unit {0}) View). owned_by m.0 p.place) g.back.view ∙ g.back.back k p (omega arith) e

-- what was read is at most what was counted
pub read_within : (board : Boarded) (all : List Feeding) (tick : Ticking) (me : Me (Unit {0}) View) (totals counts : List (ℕ × ℕ)) →
    AreAll board all tick → board.detectors ≤ 64 → Gathering all [] board.detectors tick.loads me counts → WithinCounts board.detectors me.0
    → ((d : ℕ) → d < 64 → slice_index_or totals d (0, 0) ≡ (last_read tick.loads (fronts_word d), last_read tick.loads (rears_word d)))
    → (d : ℕ) → d < board.detectors → ((slice_index_or totals d (0, 0)).0 ≤ (slice_index_or counts d (0, 0)).0)
    × ((slice_index_or totals d (0, 0)).1 ≤ (slice_index_or counts d (0, 0)).1)
read_within board all tick me totals counts are low g within read d inside =
    let one = are.each d inside in
    let k = one.0 in
    let p = one.1 in
    let e : slice_get all k ≡ Some p = one.2 in
    let at : p.place ≡ d = one.3 in
    let ticks = subst (λ (m : Me (Unit {0}) View). IsTick m.0) (sym g.back.view) tt in
    let owns : owned_by me.0 d ≡ Some (p.fronts, p.rears) = ap (λ (m : Me (Unit {0}) View). owned_by m.0 d) g.back.view ∙
    subst (λ (j : ℕ). slice_index_or (owned_of me.0) j None ≡ Some (p.fronts, p.rears)) at (g.back.back k p (omega arith) e) in
    let w = within ticks d p.fronts p.rears inside owns in
    let L : loads_of me.0 ≡ tick.loads = ap (λ (m : Me (Unit {0}) View). loads_of m.0) g.back.view in
    let a = subst (λ l. last_read l (fronts_word d) ≤ p.fronts) L w.0 in
    let b = subst (λ l. last_read l (rears_word d) ≤ p.rears) L w.1 in
    let t = read d (omega arith) in
    let c : slice_index_or counts d (0, 0) ≡ (p.fronts, p.rears) =
    subst (λ (j : ℕ). slice_index_or counts j (0, 0) ≡ (p.fronts, p.rears)) at (g.counted k p (omega arith) e) in
    let tf : (slice_index_or totals d (0, 0)).0 ≡ fronts_read tick d = ap (λ (q : ℕ × ℕ). q.0) t in
    let tr : (slice_index_or totals d (0, 0)).1 ≡ rears_read tick d = ap (λ (q : ℕ × ℕ). q.1) t in
    let cf : (slice_index_or counts d (0, 0)).0 ≡ p.fronts = ap (λ (q : ℕ × ℕ). q.0) c in
    let cr : (slice_index_or counts d (0, 0)).1 ≡ p.rears = ap (λ (q : ℕ × ℕ). q.1) c in
    (omega arith, omega arith)

pub none_left : (rest : List Feeding) → length rest ≡ 0 → rest ≡ []
none_left [] e = refl
none_left (x ∷ xs) e = absurd (omega arith)
