-- The closing second: with it the frames add up to what was played.
use Rattle.std.proofs.Common.{◌≡◌, ℕ, zero, suc, ◌+◌, ◌<◌, ◌≤◌, List, [], ◌∷◌, ◌++◌, length, take, refl, sym, ap, ◌∙◌, subst, arith, length-append, Some}
use Rattle.std.specs.Prelude.{slice_index_or, slice_get}
use Rattle.std.specs.List.{sum_by}
use Rattle.std.proofs.lemmas.List.Sums.{sum_by-append}
use Rattle.std.proofs.lemmas.List.{take_all, take-append-le}
use Rattle.std.proofs.lemmas.Option.{slice_get_within}
use native.Mathlib.Decide.{dec_le}
use Rattle.det_board.specs.Passes.{Boarded, Feeding, Ticking, IsOpening, AreAll, Closes, fronts_read, rears_read}
use Rattle.sig_types.specs.Counts.{Counts, Takes}
use Rattle.junction_live.specs.Play.{Loaded, Played, NeverAhead, SameSums, NoMore, all_fronts, all_rears, fronts_in, rears_in}
use Rattle.junction_live.proofs.Bridge.{takes_from}
use Rattle.junction_live.proofs.Loads.{never_ahead, fronts_sum, rears_sum}
use Rattle.junction_live.proofs.Printable.{printable_frame, loaded_printable, printable_push}
use Rattle.signal_log.specs.Laws.{ArePrintable}

index_of : (xs : List Feeding) (k : ℕ) (x d : Feeding) → slice_get xs k ≡ Some x → slice_index_or xs k d ≡ x
index_of [] k x d e = absurd (cc)
index_of (y ∷ ys) zero x d e = some_is e
  where
    some_is : {a b : Feeding} → Some a ≡ Some b → a ≡ b
    some_is e = cc
index_of (y ∷ ys) (suc k) x d e = index_of ys k x d e

get_of : (xs : List Feeding) (k : ℕ) (d : Feeding) → k < length xs → slice_get xs k ≡ Some (slice_index_or xs k d)
get_of [] k d h = absurd (omega arith)
get_of (x ∷ xs) zero d h = refl
get_of (x ∷ xs) (suc k) d h = get_of xs k d (omega arith)

-- all passes of a board of 64, after they played these frames
pub record Ready (board : Boarded) (fs : List Counts) (old new : List Feeding) (tick tick' : Ticking) (made : List Counts) (closing : Counts) : Type 0 where
  pub opening : IsOpening 64 board old tick
  pub played : (k : ℕ) (d : Feeding) → k < 64 → Played fs (slice_index_or old k d) (slice_index_or new k d)
  pub count : length new ≡ 64
  pub loaded : Loaded tick' made
  pub closes : Closes board new tick' closing

own : (board : Boarded) (fs : List Counts) (old new : List Feeding) (tick tick' : Ticking) (made : List Counts) (closing : Counts) →
    Ready board fs old new tick tick' made closing → (d : ℕ) → d < 64
    → (fronts_in d closing + all_fronts d made ≡ all_fronts d fs) × (rears_in d closing + all_rears d made ≡ all_rears d fs)
    × (all_rears d fs ≤ all_fronts d fs) × (all_fronts d fs ≤ 2147483647)
own board fs old new tick tick' made closing r d low =
    let first : Feeding = record { table = board.table; place = d; fronts = 0; rears = 0 } in
    let was = index_of old d first first (r.opening.each d low) in
    let p = slice_index_or new d first in
    let got : slice_get new d ≡ Some p = get_of new d first (let c = r.count in omega arith) in
    let is : Played fs first p = subst (λ (q : Feeding). Played fs q p) was (r.played d first low) in
    let pf : p.fronts ≡ all_fronts d fs = ap (λ (q : Feeding). q.fronts) is in
    let pr : p.rears ≡ all_rears d fs = ap (λ (q : Feeding). q.rears) is in
    let place : p.place ≡ d = ap (λ (q : Feeding). q.place) is in
    let rest = subst (λ (k : ℕ). ((slice_index_or closing k (0, 0)).0 + fronts_read tick' k ≡ p.fronts)
    × ((slice_index_or closing k (0, 0)).1 + rears_read tick' k ≡ p.rears)) place (r.closes.rest d p got) in
    let ord = r.closes.ordered d p got in
    let sf = fronts_sum tick' made d low r.loaded in
    let sr = rears_sum tick' made d low r.loaded in
    (omega (arith, rest.0), omega (arith, rest.1), omega (arith, ord.0), omega (arith, ord.1))

push_sum : (h : Counts → ℕ) (fs : List Counts) (f : Counts) → sum_by h (fs ++ f ∷ []) ≡ sum_by h fs + h f
push_sum h fs f = let e = sum_by-append h fs (f ∷ []) in omega arith

pub takes_close : (board : Boarded) (fs : List Counts) (old new : List Feeding) (tick tick' : Ticking) (made : List Counts) (closing : Counts) →
    Ready board fs old new tick tick' made closing → length made ≤ 604800 → Takes made closing
takes_close board fs old new tick tick' made closing r few = takes_from made closing (omega (arith, few)) r.closes.size (λ d low.
    let o = own board fs old new tick tick' made closing r d low in
    let a = push_sum (fronts_in d) made closing in
    let b = push_sum (rears_in d) made closing in
    (omega (arith, a, b, o.0, o.1, o.2), omega (arith, a, o.0, o.3)))

pub same_sums : (board : Boarded) (fs : List Counts) (old new : List Feeding) (tick tick' : Ticking) (made : List Counts) (closing : Counts) →
    Ready board fs old new tick tick' made closing → SameSums fs (made ++ closing ∷ [])
same_sums board fs old new tick tick' made closing r d low =
    let o = own board fs old new tick tick' made closing r d low in let a = push_sum (fronts_in d) made closing in let b =
    push_sum (rears_in d) made closing in (omega (arith, o.0), omega (arith, o.1))

pub no_more : (board : Boarded) (fs : List Counts) (old new : List Feeding) (tick tick' : Ticking) (made : List Counts) (closing : Counts) →
    Ready board fs old new tick tick' made closing → NoMore fs made
no_more board fs old new tick tick' made closing r d low =
    let o = own board fs old new tick tick' made closing r d low in (omega (arith, o.0), omega (arith, o.1))

pub ahead_closed : (board : Boarded) (fs : List Counts) (old new : List Feeding) (tick tick' : Ticking) (made : List Counts) (closing : Counts) →
    Ready board fs old new tick tick' made closing → NeverAhead (made ++ closing ∷ [])
ahead_closed board fs old new tick tick' made closing r n d le low = part (dec_le n (length made))
  where
    part : Dec (n ≤ length made) → all_rears d (take n (made ++ closing ∷ [])) ≤ all_fronts d (take n (made ++ closing ∷ []))
    part (yes h) = subst (λ (l : List Counts). all_rears d l ≤ all_fronts d l) (sym (take-append-le n made (closing ∷ []) h))
        (never_ahead tick' made r.loaded n d h low)
    part (no h) = let whole = take_all {A = Counts} n (made ++ closing ∷ []) (omega (arith, length-append made (closing ∷ []))) in
        let s = same_sums board fs old new tick tick' made closing r d low in let o = own board fs old new tick tick' made closing r d low in
        subst (λ (l : List Counts). all_rears d l ≤ all_fronts d l) (sym whole) (omega (arith, s.0, s.1, o.2))

-- all frames, the closing one with them, can be told apart in a text
pub closed_printable : (board : Boarded) (fs : List Counts) (old new : List Feeding) (tick tick' : Ticking) (made : List Counts) (closing : Counts) →
    Ready board fs old new tick tick' made closing → ArePrintable (made ++ closing ∷ [])
closed_printable board fs old new tick tick' made closing r =
    printable_push made closing (loaded_printable tick' made r.loaded) (printable_frame closing r.closes.size (λ d low.
    let o = own board fs old new tick tick' made closing r d low in (omega (arith, o.0, o.3), omega (arith, o.1, o.2, o.3))))

-- passes in the order of the detectors are all of the board
in_order : (board : Boarded) (feeders : List Feeding) (tick : Ticking) → length feeders ≡ board.detectors →
    ((k : ℕ) (p : Feeding) → slice_get feeders k ≡ Some p → (p.table ≡ board.table) × (p.place ≡ k)) →
    tick.table ≡ board.table → AreAll board feeders tick
in_order board feeders tick count each of_tick = record {
  of_board = λ k p got. (each k p got).0;
  each = λ d low.
      let first : Feeding = record { table = board.table; place = d; fronts = 0; rears = 0 } in
      let got = get_of feeders d first (omega (arith, low, count)) in
      (d, slice_index_or feeders d first, got, (each d (slice_index_or feeders d first) got).1);
  once = λ k l p q at at' same. sym (each k p at).1 ∙ same ∙ (each l q at').1;
  of_tick = of_tick;
}

-- the passes are still the board's, in order
pub all_passes : (board : Boarded) (fs : List Counts) (old new : List Feeding) (tick tick' : Ticking) → IsOpening 64 board old tick →
    ((k : ℕ) (d : Feeding) → k < 64 → Played fs (slice_index_or old k d) (slice_index_or new k d)) → length new ≡ 64 → tick'.table ≡ tick.table →
    AreAll board new tick'
all_passes board fs old new tick tick' opening played count same =
    in_order board new tick' (count ∙ sym opening.detectors_are) (λ k p got. each k p got (slice_get_within new k p got)) (same ∙ opening.of_tick)
  where
    each : (k : ℕ) (p : Feeding) → slice_get new k ≡ Some p → k < length new → (p.table ≡ board.table) × (p.place ≡ k)
    each k p got inside =
        let first : Feeding = record { table = board.table; place = k; fronts = 0; rears = 0 } in
        let low : k < 64 = omega (arith, inside, count) in
        let was = index_of old k first first (opening.each k low) in
        let is : Played fs first (slice_index_or new k first) = subst (λ (q : Feeding). Played fs q (slice_index_or new k first)) was (played k first low) in
        let here : p ≡ slice_index_or new k first = sym (index_of new k p first got) in
        (ap (λ (q : Feeding). q.table) (here ∙ is), ap (λ (q : Feeding). q.place) (here ∙ is))

-- the passes of a board as it is made are all of it
pub opening_all : (board : Boarded) (feeders : List Feeding) (tick : Ticking) → IsOpening 64 board feeders tick → AreAll board feeders tick
opening_all board feeders tick opening = in_order board feeders tick (opening.count ∙ sym opening.detectors_are) each opening.of_tick
  where
    each : (k : ℕ) (p : Feeding) → slice_get feeders k ≡ Some p → (p.table ≡ board.table) × (p.place ≡ k)
    each k p got =
        let first : Feeding = record { table = board.table; place = k; fronts = 0; rears = 0 } in
        let low : k < 64 = (let inside = slice_get_within feeders k p got in omega (arith, inside, opening.count)) in
        let here : p ≡ first = sym (index_of feeders k p first got) ∙ index_of feeders k first first (opening.each k low) in
        (ap (λ (q : Feeding). q.table) here, ap (λ (q : Feeding). q.place) here)
