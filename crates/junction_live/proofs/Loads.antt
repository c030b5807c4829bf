-- Loads add up.
use Rattle.std.proofs.Common.{◌≡◌, ℕ, zero, suc, ◌+◌, ◌<◌, ◌≤◌, List, [], ◌∷◌, ◌++◌, length, take, refl, sym, ap, ◌∙◌, subst, arith, add-one, length-append}
use Rattle.std.specs.Prelude.{slice_index, slice_index_or}
use Rattle.std.specs.List.{sum_by}
use Rattle.std.proofs.lemmas.List.Sums.{sum_by_more}
use Rattle.std.proofs.lemmas.List.{take_all}
use mathlib.Core.Logic.{dite}
use native.Mathlib.Decide.{ℕ_discrete}
use Rattle.det_board.specs.Rule.{last_from, fronts_word, rears_word}
use Rattle.sig_types.specs.Counts.{Counts, Takes}
use Rattle.junction_live.proofs.Bridge.{takes_from}
use Rattle.det_board.specs.Passes.{Ticking, Takes as TickTakes, fronts_loads, rears_loads, fronts_read, rears_read}
use Rattle.junction_live.specs.Play.{Loaded, all_fronts, all_rears, fronts_in, rears_in, before}

module _ {A : Type 0} where
  pub in_front : (xs ys : List A) (i : ℕ) (d : A) → i < length xs → slice_index_or (xs ++ ys) i d ≡ slice_index_or xs i d
  in_front [] ys i d h = absurd (omega arith)
  in_front (x ∷ xs) ys zero d h = refl
  in_front (x ∷ xs) ys (suc i) d h = in_front xs ys i d (omega arith)

  pub at_end : (xs : List A) (y : A) (i : ℕ) (d : A) → i ≡ length xs → slice_index_or (xs ++ y ∷ []) i d ≡ y
  at_end [] y zero d e = refl
  at_end [] y (suc i) d e = absurd (omega arith)
  at_end (x ∷ xs) y zero d e = absurd (omega arith)
  at_end (x ∷ xs) y (suc i) d e = at_end xs y i d (omega arith)

before_front : (xs : List ℕ) (y j : ℕ) → j ≤ length xs → before (xs ++ y ∷ []) j ≡ before xs j
before_front xs y zero h = refl
before_front xs y (suc j) h = in_front xs (y ∷ []) j 0 (omega arith)

before_last : (n : ℕ) (xs : List ℕ) → before (n ∷ xs) (suc (length xs)) ≡ last_from n xs
before_last n [] = refl
before_last n (x ∷ xs) = before_last x xs

pub before_all : (xs : List ℕ) → before xs (length xs) ≡ last_from 0 xs
before_all [] = refl
before_all (x ∷ xs) = before_last x xs

-- of one word: the gains make the values
abbrev pub Gains : (Counts → ℕ) → List Counts → List ℕ → Type 0
Gains h fs xs = (length xs ≡ length fs) × ((j : ℕ) → j < length fs → h (slice_index_or fs j []) + before xs j ≡ slice_index xs j)

sums_to : (h : Counts → ℕ) (fs : List Counts) (xs : List ℕ) → Gains h fs xs → (j : ℕ) → j ≤ length fs → sum_by h (take j fs) ≡ before xs j
sums_to h fs xs g zero le = refl
sums_to h fs xs g (suc j) le =
    let more = sum_by_more h fs j [] (omega arith) in
    let rec = sums_to h fs xs g j (omega arith) in
    let at = g.1 j (omega arith) in
    subst (λ k. sum_by h (take k fs) ≡ slice_index xs j) (add-one j) (omega arith)

pub gains_sum : (h : Counts → ℕ) (fs : List Counts) (xs : List ℕ) → Gains h fs xs → sum_by h fs ≡ last_from 0 xs
gains_sum h fs xs g = ap (sum_by h) (sym (take_all (length fs) fs (omega arith))) ∙ sums_to h fs xs g (length fs) (omega arith) ∙
    ap (before xs) (sym g.0) ∙ before_all xs

gains_more : (h : Counts → ℕ) (fs : List Counts) (xs : List ℕ) (f : Counts) (v : ℕ) → Gains h fs xs → h f + last_from 0 xs ≡ v →
    Gains h (fs ++ f ∷ []) (xs ++ v ∷ [])
gains_more h fs xs f v g gain =
    let long : length (fs ++ f ∷ []) ≡ length fs + 1 = length-append fs (f ∷ []) in
    let long' : length (xs ++ v ∷ []) ≡ length xs + 1 = length-append xs (v ∷ []) in
    let same = g.0 in (
      (omega arith),
      λ j lt. dite (ℕ_discrete j (length fs))
          (λ e. let a = ap h (at_end fs f j [] e) in let b = at_end xs v j 0 (omega arith) in let c = before_front xs v j (omega arith) in let d =
          ap (before xs) (e ∙ sym same) ∙ before_all xs in omega arith)
          (λ ne. let a = ap h (in_front fs (f ∷ []) j [] (omega arith)) in let b = in_front xs (v ∷ []) j 0 (omega arith) in let c =
          before_front xs v j (omega arith) in let w = g.1 j (omega arith) in omega arith),
    )

fronts_gains : (t : Ticking) (fs : List Counts) (d : ℕ) → d < 64 → Loaded t fs → Gains (fronts_in d) fs (fronts_loads t d)
fronts_gains t fs d low l = (l.fronts d low, λ j lt. (l.gains j d lt low).0)

rears_gains : (t : Ticking) (fs : List Counts) (d : ℕ) → d < 64 → Loaded t fs → Gains (rears_in d) fs (rears_loads t d)
rears_gains t fs d low l = (l.rears d low, λ j lt. (l.gains j d lt low).1)

pub loaded_none : (t : Ticking) → ((w : ℕ) → slice_index_or t.loads w [] ≡ []) → Loaded t []
loaded_none t unread = record {
  fronts = λ d low. ap length (unread (fronts_word d));
  rears = λ d low. ap length (unread (rears_word d));
  size = λ j lt. absurd (omega arith);
  gains = λ j d lt low. absurd (omega arith);
  ordered = λ j d lt low. absurd (omega arith);
}

pub loaded_more : (old new : Ticking) (fs : List Counts) (f : Counts) → Loaded old fs → TickTakes 64 old new f → Loaded new (fs ++ f ∷ [])
loaded_more old new fs f l t = record {
  fronts = λ d low. (fg d low).0;
  rears = λ d low. (rg d low).0;
  size = λ j lt. dite (ℕ_discrete j (length fs))
      (λ e. ap length (at_end fs f j [] e) ∙ t.size)
      (λ ne. let inside : j < length fs = omega (arith, length-append fs (f ∷ [])) in ap length (in_front fs (f ∷ []) j [] inside) ∙ l.size j inside);
  gains = λ j d lt low. ((fg d low).1 j lt, (rg d low).1 j lt);
  ordered = λ j d lt low. ord j d lt low;
}
  where
    fg : (d : ℕ) → d < 64 → Gains (fronts_in d) (fs ++ f ∷ []) (fronts_loads new d)
    fg d low = subst (Gains (fronts_in d) (fs ++ f ∷ [])) (sym (t.fronts d low))
        (gains_more (fronts_in d) fs (fronts_loads old d) f (fronts_read new d) (fronts_gains old fs d low l) (t.gains d low).0)

    ord : (j d : ℕ) → j < length (fs ++ f ∷ []) → d < 64 → (slice_index (rears_loads new d) j ≤ slice_index (fronts_loads new d) j)
        × (slice_index (fronts_loads new d) j ≤ 2147483647)
    ord j d lt low = let F = fronts_loads old d in let R = rears_loads old d in let vf = fronts_read new d in let vr = rears_read new d in
        let lf = l.fronts d low in let lr = l.rears d low in
        dite (ℕ_discrete j (length fs))
        (λ e. let a = ap (λ (xs : List ℕ). slice_index xs j) (t.fronts d low) ∙ at_end F vf j 0 (omega arith) in let b =
        ap (λ (xs : List ℕ). slice_index xs j) (t.rears d low) ∙ at_end R vr j 0 (omega arith) in let o = t.ordered d low in
        (omega (arith, o.0), omega (arith, o.1)))
        (λ ne. let inside : j < length fs = omega (arith, length-append fs (f ∷ [])) in
        let a = ap (λ (xs : List ℕ). slice_index xs j) (t.fronts d low) ∙ in_front F (vf ∷ []) j 0 (omega arith) in let b =
        ap (λ (xs : List ℕ). slice_index xs j) (t.rears d low) ∙ in_front R (vr ∷ []) j 0 (omega arith) in let o = l.ordered j d inside low in
        (omega (arith, o.0), omega (arith, o.1)))

    rg : (d : ℕ) → d < 64 → Gains (rears_in d) (fs ++ f ∷ []) (rears_loads new d)
    rg d low = subst (Gains (rears_in d) (fs ++ f ∷ [])) (sym (t.rears d low))
        (gains_more (rears_in d) fs (rears_loads old d) f (rears_read new d) (rears_gains old fs d low l) (t.gains d low).1)

-- a frame just taken makes a next second
pub takes_next : (old new : Ticking) (fs : List Counts) (f : Counts) → Loaded old fs → TickTakes 64 old new f → length fs < 604801 → Takes fs f
takes_next old new fs f l t room = takes_from fs f room t.size (λ d low.
    let a = gains_sum (fronts_in d) (fs ++ f ∷ []) (fronts_loads new d) (fronts_gains new (fs ++ f ∷ []) d low (loaded_more old new fs f l t)) in
    let b = gains_sum (rears_in d) (fs ++ f ∷ []) (rears_loads new d) (rears_gains new (fs ++ f ∷ []) d low (loaded_more old new fs f l t)) in
    let o = t.ordered d low in
    (omega (arith, a, b, o.0), omega (arith, a, o.1)))

pub never_ahead : (t : Ticking) (fs : List Counts) → Loaded t fs → (n d : ℕ) → n ≤ length fs → d < 64 → all_rears d (take n fs) ≤ all_fronts d (take n fs)
never_ahead t fs l zero d le low = omega arith
never_ahead t fs l (suc n) d le low =
    let a = sums_to (fronts_in d) fs (fronts_loads t d) (fronts_gains t fs d low l) (suc n) le in
    let b = sums_to (rears_in d) fs (rears_loads t d) (rears_gains t fs d low l) (suc n) le in
    let o = (l.ordered n d (omega arith) low).0 in omega arith

pub fronts_sum : (t : Ticking) (fs : List Counts) (d : ℕ) → d < 64 → Loaded t fs → all_fronts d fs ≡ fronts_read t d
fronts_sum t fs d low l = gains_sum (fronts_in d) fs (fronts_loads t d) (fronts_gains t fs d low l)

pub rears_sum : (t : Ticking) (fs : List Counts) (d : ℕ) → d < 64 → Loaded t fs → all_rears d fs ≡ rears_read t d
rears_sum t fs d low l = gains_sum (rears_in d) fs (rears_loads t d) (rears_gains t fs d low l)
