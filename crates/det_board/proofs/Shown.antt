-- The six kinds of step, as events.
use Rattle.std.proofs.Common.{◌≡◌, ℕ, ◌+◌, ◌*◌, ◌%◌, ◌^◌, ◌<◌, ◌≤◌, List, length, set, refl, sym, ap, ◌∙◌, subst, arith, Option, length-set}
use Rattle.std.specs.Prelude.{slice_index}
use Rattle.std.proofs.lemmas.List.{set-get_or}
use mathlib.Core.Logic.{dite}
use native.Mathlib.Decide.{ℕ_discrete}
use Rattle.atomic_table.specs.Table.{State}
use Rattle.det_board.specs.declared.view.View.{View}
use Rattle.det_board.specs.declared.view.View.TheVariants.{Tick, Feeder}
use Rattle.det_board.specs.Interleaving.{Marks, front, rear, read_rears, read_fronts, May, after, Reached}
use Rattle.det_board.specs.Rule.{Keeps, marks_of, fronts_word, rears_word, loads_after, last_read}
use Rattle.det_board.specs.Laws.{Shows, FrontIsEvent, RearIsEvent, ReadRearsIsEvent, ReadFrontsIsEvent, DealMoves, GiveBackMoves}
use Rattle.det_board.proofs.Words.{last_read-here, last_read-else, owned_here}
use Rattle.det_board.proofs.Steps.{with, CountsOn, counts_on, reached_on, front_event, rear_event, rears_event, fronts_event, at_tick, loads_on, deals_on, gives_on}
use Rattle.det_board.proofs.Allowed.{fronts_set, rears_set}

pub front_is : FrontIsEvent
unfolding counts_on
front_is detectors id d f r s at room m sh =
    let h = sh.0 in
    let mine = (h.fits id (Feeder d f r) at).one_owner d (f, r) (owned_here d f r) in
    let inside : 8 * d + 1 < length s.words = let e = h.word_count in let lt = mine.0 in omega arith in
    let new = set s.words (fronts_word d) ((slice_index s.words (fronts_word d) + 1) % 2 ^ 64) in
    let on : CountsOn s.words new d (f + 1) r = fronts_set s.words d f r inside mine.2 room in
    let event = front_event s.words new h.loads d f r mine.2.fronts mine.2.rears on in
    let reached = reached_on (front d) (marks_of s.words h.loads) (marks_of new h.loads) h.reached tt event in
    (tt, (counts_on detectors s h id d f r (f + 1) r new at on reached, event ∙ ap (after (front d)) sh.1))

pub rear_is : RearIsEvent
unfolding counts_on
rear_is detectors id d f r s at room m sh =
    let h = sh.0 in
    let mine = (h.fits id (Feeder d f r) at).one_owner d (f, r) (owned_here d f r) in
    let inside : 8 * d + 1 < length s.words = let e = h.word_count in let lt = mine.0 in omega arith in
    let new = set s.words (rears_word d) ((slice_index s.words (rears_word d) + 1) % 2 ^ 64) in
    let on : CountsOn s.words new d f (r + 1) = rears_set s.words d f r inside mine.2 room in
    let may : slice_index s.words (rears_word d) < slice_index s.words (fronts_word d) = let a = mine.2.fronts in let b = mine.2.rears in omega arith in
    let event = rear_event s.words new h.loads d f r mine.2.fronts mine.2.rears on in
    let reached = reached_on (rear d) (marks_of s.words h.loads) (marks_of new h.loads) h.reached may event in
    (subst (May (rear d)) sh.1 may, (counts_on detectors s h id d f r f (r + 1) new at on reached, event ∙ ap (after (rear d)) sh.1))

loaded_is : (detectors id dealt w : ℕ) (loads : List (List ℕ)) (owned : List (Option (ℕ × ℕ))) (s : State (Unit {0}) View) (h : Keeps detectors s)
    (m : Marks) → lib.ListN.get_elem? s.views id ≡ mathlib.Core.Option.some (Tick dealt loads owned) → w < 8 * detectors
    → Reached (marks_of s.words (loads_after loads w (slice_index s.words w))) → marks_of s.words (loads_after loads w (slice_index s.words w)) ≡ m
    → Shows detectors (with s (set s.words w (slice_index s.words w)) id (Tick dealt (loads_after loads w (slice_index s.words w)) owned)) m
unfolding loads_on
loaded_is detectors id dealt w loads owned s h m at inside reached is =
    let tick = at_tick detectors s h id dealt loads owned at in
    let same : h.loads ≡ loads = sym tick.1 in
    let n = slice_index s.words w in
    let V = Tick dealt (loads_after loads w n) owned in
    let size : length loads ≡ 8 * detectors = ap length tick.1 ∙ h.load_count in
    let read : (k : ℕ) → k < 8 * detectors → last_read (loads_after loads w n) k ≤ slice_index s.words k = λ k lt. dite (ℕ_discrete k w)
    (λ e. subst (λ j. last_read (loads_after loads w n) j ≤ slice_index s.words j) (sym e)
    (let here = last_read-here loads w n (omega arith) in omega (arith, here)))
    (λ ne. let else = last_read-else loads w n k ne in let was = subst (λ l. last_read l k ≤ slice_index s.words k) same (h.read k lt) in
    omega (arith, else, was)) in
    let kept = loads_on detectors s h id dealt loads (loads_after loads w n) owned at (length-set loads w _ ∙ size) read reached in
    let got : Shows detectors (with s s.words id V) m = (kept, is) in
    subst (λ ws. Shows detectors (with s ws id V) m) (sym (set-get_or s.words w 0)) got

pub read_rears_is : ReadRearsIsEvent
read_rears_is detectors id d dealt loads owned s at inside m sh =
    let h = sh.0 in
    let tick = at_tick detectors s h id dealt loads owned at in
    let same : h.loads ≡ loads = sym tick.1 in
    let event = rears_event s.words loads d (slice_index s.words (rears_word d)) refl (let c = ap length tick.1 ∙ h.load_count in omega arith) in
    let was : marks_of s.words loads ≡ m = ap (marks_of s.words) tick.1 ∙ sh.1 in
    let reached = reached_on (read_rears d) (marks_of s.words loads) _ (subst (λ l. Reached (marks_of s.words l)) same h.reached) tt event in
    (tt, loaded_is detectors id dealt (rears_word d) loads owned s h (after (read_rears d) m) at (omega arith) reached (event ∙ ap (after (read_rears d)) was))

pub read_fronts_is : ReadFrontsIsEvent
read_fronts_is detectors id d dealt loads owned s at inside m sh =
    let h = sh.0 in
    let tick = at_tick detectors s h id dealt loads owned at in
    let same : h.loads ≡ loads = sym tick.1 in
    let event = fronts_event s.words loads d (slice_index s.words (fronts_word d)) refl (let c = ap length tick.1 ∙ h.load_count in omega arith) in
    let was : marks_of s.words loads ≡ m = ap (marks_of s.words) tick.1 ∙ sh.1 in
    let reached = reached_on (read_fronts d) (marks_of s.words loads) _ (subst (λ l. Reached (marks_of s.words l)) same h.reached) tt event in (
      tt,
      loaded_is detectors id dealt (fronts_word d) loads owned s h (after (read_fronts d) m) at (omega arith) reached
          (event ∙ ap (after (read_fronts d)) was),
    )

pub deal_moves : DealMoves
unfolding deals_on
deal_moves detectors id dealt f r loads owned s at owns m sh =
    let h = sh.0 in
    (deals_on detectors s h id dealt f r loads owned at owns, ap (marks_of s.words) (at_tick detectors s h id dealt loads owned at).1 ∙ sh.1)

pub give_back_moves : GiveBackMoves
unfolding gives_on
give_back_moves detectors id other dealt d f r loads owned s size at ne there m sh =
    let h = sh.0 in
    (gives_on detectors s h id other dealt d f r loads owned size at ne there, ap (marks_of s.words) (at_tick detectors s h id dealt loads owned at).1 ∙ sh.1)
