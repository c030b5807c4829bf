-- What the table asks of each kind of step: whatever state meets the rule, the step keeps it.
use Rattle.std.proofs.Common.{◌≡◌, ◌≢◌, ℕ, suc, ◌+◌, ◌*◌, ◌%◌, ◌^◌, ◌<◌, ◌≤◌, List, [], length, set, refl, sym, ap, ◌∙◌, subst, ⊎_elim, le_trans, arith, get_or-set_same, get_or-set_other, length-set, Option, Some, None}
use Rattle.std.specs.Prelude.{slice_index, slice_index_or, slice_set}
use Rattle.std.proofs.lemmas.List.{set-get_or}
use mathlib.Core.Option.{some, none}
use mathlib.Core.Logic.{dite}
use native.Mathlib.Decide.{ℕ_discrete}
use lib.ListN.{get_elem?}
use Rattle.atomic_table.specs.Table.{State, Me, keeps, step, Allows, Splits, Joins}
use Rattle.atomic_table.proofs.Lists.{at_set}
use Rattle.det_board.specs.declared.view.View.{View}
use Rattle.det_board.specs.declared.view.View.TheVariants.{Tick, Feeder, Spent}
use Rattle.det_board.specs.Interleaving.{front, rear, read_rears, read_fronts, Reached}
use Rattle.det_board.specs.Rule.{most_fronts, last_read, loads_after, fronts_word, rears_word, marks_of, CountsAt, Keeps, Fronts, Rears, ReadsRears, ReadsFronts}
use Rattle.det_board.proofs.Words.{last_read-here, last_read-else, owned_here}
use Rattle.det_board.proofs.Steps.{with, CountsOn, counts_on, reached_on, front_event, rear_event, rears_event, fronts_event, in_order, at_tick, loads_on, deals_on, gives_on}

pub fronts_set : (words : List ℕ) (k f r : ℕ) → 8 * k + 1 < length words → CountsAt words k (f, r) → f < most_fronts →
    CountsOn words (set words (fronts_word k) ((slice_index words (fronts_word k) + 1) % 2 ^ 64)) k (f + 1) r
fronts_set words k f r inside was room =
    let n = slice_index words (fronts_word k) in
    let is : n ≡ f = was.fronts in
    let low : r ≤ f = was.ordered in
    record {
      count = length-set words (fronts_word k) _;
      fronts = get_or-set_same words (fronts_word k) _ 0 (omega arith) ∙ (let fits : f + 1 < 2 ^ 64 = omega arith in omega arith);
      rears = get_or-set_other words (fronts_word k) (rears_word k) _ 0 (λ e. omega arith) ∙ was.rears;
      others = λ w nf nr. get_or-set_other words (fronts_word k) w _ 0 nf;
      fronts_grow = omega arith;
      rears_grow = let e = was.rears in omega arith;
      ordered = omega arith;
      bounded = omega arith;
    }

pub rears_set : (words : List ℕ) (k f r : ℕ) → 8 * k + 1 < length words → CountsAt words k (f, r) → r < f →
    CountsOn words (set words (rears_word k) ((slice_index words (rears_word k) + 1) % 2 ^ 64)) k f (r + 1)
rears_set words k f r inside was room =
    let n = slice_index words (rears_word k) in
    let is : n ≡ r = was.rears in
    let top : f ≤ most_fronts = was.bounded in
    record {
      count = length-set words (rears_word k) _;
      fronts = get_or-set_other words (rears_word k) (fronts_word k) _ 0 (λ e. omega arith) ∙ was.fronts;
      rears = get_or-set_same words (rears_word k) _ 0 (omega arith) ∙ (let fits : r + 1 < 2 ^ 64 = omega arith in omega arith);
      others = λ w nf nr. get_or-set_other words (rears_word k) w _ 0 nr;
      fronts_grow = let e = was.fronts in omega arith;
      rears_grow = omega arith;
      ordered = omega arith;
      bounded = top;
    }

-- a front of the detector at place k, from any state that meets the rule
pub front_allows : (detectors slots id k f r w : ℕ) → w ≡ fronts_word k → f < most_fronts
    → Allows (Keeps detectors) slots id (Feeder k f r, []) w (λ n. (n + 1) % 2 ^ 64) (Fronts (step slots w 1 0 none) (Feeder k f r, []))
front_allows detectors slots id k f r w at_word room =
    subst (λ (u : ℕ). Allows (Keeps detectors) slots id (Feeder k f r, []) u (λ n. (n + 1) % 2 ^ 64)
    (Fronts (step slots u 1 0 none) (Feeder k f r, []))) (sym at_word)
    (λ s h long at fits.
    let mine = (h.fits id (Feeder k f r) at).one_owner k (f, r) (owned_here k f r) in
    let inside : 8 * k + 1 < length s.words = let e = h.word_count in let lt = mine.0 in omega arith in
    let new = set s.words (fronts_word k) ((slice_index s.words (fronts_word k) + 1) % 2 ^ 64) in
    let on : CountsOn s.words new k (f + 1) r = fronts_set s.words k f r inside mine.2 room in
    let reached = reached_on (front k) (marks_of s.words h.loads) (marks_of new h.loads) h.reached tt
    (front_event s.words new h.loads k f r mine.2.fronts mine.2.rears on) in
    (Feeder k (f + 1) r, keeps, tt, counts_on detectors s h id k f r (f + 1) r new at on reached, refl))

pub rear_allows : (detectors slots id k f r w : ℕ) → w ≡ rears_word k → r < f
    → Allows (Keeps detectors) slots id (Feeder k f r, []) w (λ n. (n + 1) % 2 ^ 64) (Rears (step slots w 1 0 none) (Feeder k f r, []))
rear_allows detectors slots id k f r w at_word room =
    subst (λ (u : ℕ). Allows (Keeps detectors) slots id (Feeder k f r, []) u (λ n. (n + 1) % 2 ^ 64)
    (Rears (step slots u 1 0 none) (Feeder k f r, []))) (sym at_word)
    (λ s h long at fits.
    let mine = (h.fits id (Feeder k f r) at).one_owner k (f, r) (owned_here k f r) in
    let inside : 8 * k + 1 < length s.words = let e = h.word_count in let lt = mine.0 in omega arith in
    let new = set s.words (rears_word k) ((slice_index s.words (rears_word k) + 1) % 2 ^ 64) in
    let on : CountsOn s.words new k f (r + 1) = rears_set s.words k f r inside mine.2 room in
    let may : slice_index s.words (rears_word k) < slice_index s.words (fronts_word k) = let a = mine.2.fronts in let b = mine.2.rears in omega arith in
    let reached = reached_on (rear k) (marks_of s.words h.loads) (marks_of new h.loads) h.reached may
    (rear_event s.words new h.loads k f r mine.2.fronts mine.2.rears on) in
    (Feeder k f (r + 1), keeps, tt, counts_on detectors s h id k f r f (r + 1) new at on reached, refl))

-- a load of the word w by the tick's seat, as the event e
loaded : (detectors slots id dealt w : ℕ) (loads : List (List ℕ)) (owned : List (Option (ℕ × ℕ))) (then : ℕ → Me (Unit {0}) View → Type 0) → w < 8 * detectors
    → ((s : State (Unit {0}) View) (h : Keeps detectors s) → h.loads ≡ loads → Reached (marks_of s.words (loads_after loads w (slice_index s.words w))))
    → ((s : State (Unit {0}) View) (h : Keeps detectors s) → h.loads ≡ loads →
    then (slice_index s.words w) (Tick dealt (loads_after loads w (slice_index s.words w)) owned, []))
    → Allows (Keeps detectors) slots id (Tick dealt loads owned, []) w (λ n. n) then
loaded detectors slots id dealt w loads owned then inside reaches tells s h long at fits =
    let is = at_tick detectors s h id dealt loads owned at in
    let same : h.loads ≡ loads = sym is.1 in
    let n = slice_index s.words w in
    let V = Tick dealt (loads_after loads w n) owned in
    let size : length loads ≡ 8 * detectors = ap length is.1 ∙ h.load_count in
    let read : (k : ℕ) → k < 8 * detectors → last_read (loads_after loads w n) k ≤ slice_index s.words k = λ k lt. dite (ℕ_discrete k w)
    (λ e. subst (λ j. last_read (loads_after loads w n) j ≤ slice_index s.words j) (sym e)
    (let here = last_read-here loads w n (omega arith) in omega (arith, here)))
    (λ ne. let else = last_read-else loads w n k ne in let was = subst (λ l. last_read l k ≤ slice_index s.words k) same (h.read k lt) in
    omega (arith, else, was)) in
    let kept = loads_on detectors s h id dealt loads (loads_after loads w n) owned at (length-set loads w _ ∙ size) read (reaches s h same) in
    (V, keeps, tt, subst (λ ws. Keeps detectors (with s ws id V)) (sym (set-get_or s.words w 0)) kept, tells s h same)

pub read_rears_allows : (detectors slots id dealt d w : ℕ) (loads : List (List ℕ)) (owned : List (Option (ℕ × ℕ))) → w ≡ rears_word d → d < detectors
    → Allows (Keeps detectors) slots id (Tick dealt loads owned, []) w (λ n. n) (ReadsRears (step slots w 0 0 none) (Tick dealt loads owned, []))
read_rears_allows detectors slots id dealt d w loads owned at_word inside =
    subst (λ (u : ℕ). Allows (Keeps detectors) slots id (Tick dealt loads owned, []) u (λ n. n)
    (ReadsRears (step slots u 0 0 none) (Tick dealt loads owned, []))) (sym at_word)
    (loaded detectors slots id dealt (rears_word d) loads owned (ReadsRears (step slots (rears_word d) 0 0 none) (Tick dealt loads owned, [])) (omega arith)
    (λ s h same. reached_on (read_rears d) (marks_of s.words loads) _ (subst (λ l. Reached (marks_of s.words l)) same h.reached) tt
    (rears_event s.words loads d (slice_index s.words (rears_word d)) refl (let c = ap length (sym same) ∙ h.load_count in omega arith)))
    (λ s h same. let ord = in_order detectors s h d inside in (
      refl,
      subst (λ l. last_read l (rears_word d) ≤ slice_index s.words (rears_word d)) same (h.read (rears_word d) (omega arith)),
      let a =
          ord.0 in let b = ord.1 in omega arith,
    )))

pub read_fronts_allows : (detectors slots id dealt d w : ℕ) (loads : List (List ℕ)) (owned : List (Option (ℕ × ℕ))) → w ≡ fronts_word d → d < detectors
    → Allows (Keeps detectors) slots id (Tick dealt loads owned, []) w (λ n. n) (ReadsFronts (step slots w 0 0 none) (Tick dealt loads owned, []))
read_fronts_allows detectors slots id dealt d w loads owned at_word inside =
    subst (λ (u : ℕ). Allows (Keeps detectors) slots id (Tick dealt loads owned, []) u (λ n. n)
    (ReadsFronts (step slots u 0 0 none) (Tick dealt loads owned, []))) (sym at_word)
    (loaded detectors slots id dealt (fronts_word d) loads owned (ReadsFronts (step slots (fronts_word d) 0 0 none) (Tick dealt loads owned, [])) (omega arith)
    (λ s h same. reached_on (read_fronts d) (marks_of s.words loads) _ (subst (λ l. Reached (marks_of s.words l)) same h.reached) tt
    (fronts_event s.words loads d (slice_index s.words (fronts_word d)) refl (let c = ap length (sym same) ∙ h.load_count in omega arith)))
    (λ s h same. let ord = in_order detectors s h d inside in (
      refl,
      subst (λ l. last_read l (fronts_word d) ≤ slice_index s.words (fronts_word d)) same (h.read (fronts_word d) (omega arith)),
      ord.1,
      (let a : last_read loads (rears_word d) ≤ slice_index s.words (rears_word d) =
          subst (λ l. last_read l (rears_word d) ≤ slice_index s.words (rears_word d)) same (h.read (rears_word d) (omega arith)) in le_trans a ord.0),
    )))

pub deal_allows : (detectors id dealt f r : ℕ) (loads : List (List ℕ)) (owned : List (Option (ℕ × ℕ))) → slice_index_or owned dealt None ≡ Some (f, r)
    → Splits (Keeps detectors) id (Tick dealt loads owned) (Tick (suc dealt) loads (slice_set owned dealt None)) (Feeder dealt f r)
deal_allows detectors id dealt f r loads owned owns s h at = deals_on detectors s h id dealt f r loads owned at owns

pub give_back_allows : (detectors id other dealt d f r : ℕ) (loads : List (List ℕ)) (owned : List (Option (ℕ × ℕ))) → length owned ≡ detectors
    → Joins (Keeps detectors) id (Tick dealt loads owned) other (Feeder d f r) (Tick dealt loads (slice_set owned d (Some (f, r)))) Spent
give_back_allows detectors id other dealt d f r loads owned size s h at apart there =
    let L = Tick dealt loads (slice_set owned d (Some (f, r))) in
    let theirs = ⊎_elim (λ (t : (other ≡ id) × (L ≡ Feeder d f r)). absurd (apart t.0))
    (λ (t : (other ≢ id) × (get_elem? s.views other ≡ some (Feeder d f r))). t.1) (at_set s.views id other L (Feeder d f r) there) in
    gives_on detectors s h id other dealt d f r loads owned size at apart theirs
