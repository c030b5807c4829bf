-- The frames that an actuation takes.
use Rattle.std.proofs.Common.{◌≡◌, ◌∙◌, ℕ, ◌+◌, ◌-◌, ◌<◌, ◌≤◌, List, [], ◌∷◌, ◌++◌, length, sym, ap, subst, arith, length-append}
use Rattle.sig_types.specs.Counts.{Counts, Kind, fronts, rears, count_of, count_to, Takes}
use Rattle.sig_types.specs.Detectors.{Clear, ClearsUntil}
use Rattle.actuation.specs.declared.actuation.Actuation.{Actuation}
use Rattle.actuation.specs.Detector.{nothing, at, count_at, advanced, CanTakeAt, IsSized}
use Rattle.actuation.specs.Stands.{HasTaken, DetectorStands, StandsFor}
use Rattle.actuation.proofs.Cleared.{until_later}
use Rattle.actuation.proofs.Frames.{count_more}
use Rattle.actuation.proofs.GoesOn.{GoesOn, goes_on}
use Rattle.actuation.proofs.Kept.{stands_next, stands_elsewhere}
use Rattle.std.proofs.Common.{refl, inl, inr}
use Rattle.std.proofs.lemmas.Bool.{cases_eq}
use Rattle.sig_types.specs.Detectors.{occupancy, is_detected, is_occupied}
use Rattle.sig_types.specs.Words.{last_below}

-- of the detector at place p
count_next : (kind : Kind) (frames : List Counts) (frame : Counts) (p : ℕ) →
    count_to kind (frames ++ frame ∷ []) (p + 1) (length frames + 1) ≡ count_to kind frames (p + 1) (length frames) + count_of kind (count_at frame p)
count_next kind frames frame p =
    let place : p + 1 - 1 ≡ p = omega arith in
    count_more kind frames frame (p + 1) ∙ ap (λ q. count_to kind frames (p + 1) (length frames) + count_of kind (count_at frame q)) place

pub held : (a : Actuation) (frames : List Counts) (clears : List Clear) (frame : Counts) → HasTaken a frames clears → Takes frames frame → (p : ℕ) → p < 64 → CanTakeAt a.detectors frame p
held a frames clears frame s takes p lt =
    let c = takes.counts (p + 1) (omega arith) (omega (arith, lt)) in
    let f = count_next fronts frames frame p in
    let r = count_next rears frames frame p in
    let x = s.each p lt in
    record {
      within = omega (arith, c.0, f, r, x.fronts_are, x.rears_are);
      at_most = omega (arith, c.1, f, x.fronts_are);
    }

pub taken : (a : Actuation) (frames : List Counts) (clears : List Clear) (frame : Counts) → HasTaken a frames clears → a.seconds < 604801 → length frame ≡ 64 →
    ((p : ℕ) → p < 64 → CanTakeAt a.detectors frame p) → Takes frames frame
taken a frames clears frame s few size holds = record {
  few = omega (arith, few, s.seconds);
  size = size;
  counts = λ d some most.
      let p = d - 1 in
      let lt : p < 64 = omega (arith, most) in
      let back : p + 1 ≡ d = omega (arith, some) in
      let h = holds p lt in
      let f = count_next fronts frames frame p in
      let r = count_next rears frames frame p in
      let x = s.each p lt in
      let within : count_to rears (frames ++ frame ∷ []) (p + 1) (length frames + 1) ≤ count_to fronts (frames ++ frame ∷ []) (p + 1) (length frames + 1) =
      omega (arith, h.within, f, r, x.fronts_are, x.rears_are) in
      let most_fronts : count_to fronts (frames ++ frame ∷ []) (p + 1) (length frames + 1) ≤ 2147483647 = omega (arith, h.at_most, f, x.fronts_are) in (
        subst (λ n. count_to rears (frames ++ frame ∷ []) n (length frames + 1) ≤ count_to fronts (frames ++ frame ∷ []) n (length frames + 1)) back within,
        subst (λ n. count_to fronts (frames ++ frame ∷ []) n (length frames + 1) ≤ 2147483647) back most_fronts,
      );
}

-- the second after a frame was taken
pub has_taken : (a b : Actuation) (frames : List Counts) (clears : List Clear) (frame : Counts) → HasTaken a frames clears → b.seconds ≡ a.seconds + 1 →
    ((p : ℕ) → p < 64 → at b.detectors p ≡ advanced (at a.detectors p) (count_at frame p) b.seconds) → HasTaken b (frames ++ frame ∷ []) clears
has_taken a b frames clears frame s second each =
    let len : length (frames ++ frame ∷ []) ≡ length frames + 1 = length-append frames (frame ∷ []) in
    let now : b.seconds ≡ length frames + 1 = second ∙ ap (λ n. n + 1) s.seconds in
    record {
      seconds = now ∙ sym len;
      each = λ p lt.
          let place : p ≡ p + 1 - 1 = omega arith in
          subst (λ x. DetectorStands x (frames ++ frame ∷ []) clears (p + 1)) (sym (each p lt))
          (stands_next (at a.detectors p) (advanced (at a.detectors p) (count_at frame p) b.seconds) frames frame clears (p + 1) (count_at frame p) (s.each p lt) s.clears_until
          (subst (λ n. GoesOn (at a.detectors p) (advanced (at a.detectors p) (count_at frame p) n) (count_at frame p) (length frames)) (sym now)
          (goes_on (at a.detectors p) (count_at frame p) (length frames) (subst (λ n. IsSized n (at a.detectors p)) s.seconds (a.sized p lt))))
          (ap (λ q. (count_at frame q).0) place) (ap (λ q. (count_at frame q).1) place));
      clears_until = until_later clears (length frames) (length (frames ++ frame ∷ [])) (omega (arith, len)) s.clears_until;
    }

-- no frame, and nothing cleared
pub nothing_taken : (a : Actuation) → a.seconds ≡ 0 → ((p : ℕ) → p < 64 → at a.detectors p ≡ nothing) → HasTaken a [] []
unfolding occupancy last_below is_detected is_occupied
nothing_taken a none each = record {
  seconds = none;
  each = λ p lt. subst (λ x. DetectorStands x [] [] (p + 1)) (sym (each p lt)) (record {
    fronts_are = refl;
    rears_are = refl;
    fronts_cleared_are = refl;
    rears_cleared_are = refl;
    occupied_is = refl;
    detected_is = refl;
  });
  clears_until = tt;
}

-- a clear in the last second
pub clears_one : (a b : Actuation) (frames : List Counts) (clears : List Clear) (c : Clear) (place : ℕ) → HasTaken a frames clears → b.seconds ≡ a.seconds →
    c.second ≡ length frames → c.detector ≡ place + 1 →
    ((p : ℕ) → p < 64 → (p ≡ place → ⊥) → at b.detectors p ≡ at a.detectors p) →
    (place < 64 → DetectorStands (at b.detectors place) frames (c ∷ clears) (place + 1)) → HasTaken b frames (c ∷ clears)
clears_one a b frames clears c place s same second detector others here = record {
  seconds = same ∙ s.seconds;
  each = λ p lt. elim (cases_eq p place) [
    | inl e ↦ subst (λ (q : ℕ). DetectorStands (at b.detectors q) frames (c ∷ clears) (q + 1)) (sym e) (here (omega (arith, lt, e)))
    | inr ne ↦ subst (λ x. DetectorStands x frames (c ∷ clears) (p + 1)) (sym (others p lt ne))
        (stands_elsewhere (at a.detectors p) frames clears c (p + 1) (λ e. ne (omega (arith, e, detector))) (s.each p lt))
  ];
  clears_until = (omega (arith, second), s.clears_until);
}

-- no clear has a second past the last one
pub clears_of : (a : Actuation) (frames : List Counts) (clears : List Clear) → StandsFor a frames clears → ClearsUntil clears (length frames)
unfolding StandsFor
clears_of a frames clears s = s.clears_until
