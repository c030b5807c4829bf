-- The detectors, as records are drawn.
use Rattle.std.proofs.Common.{◌≡◌, ◌∙◌, ℕ, ◌+◌, ◌<◌, ◌≤◌, Bool, List, [], ◌∷◌, ◌++◌, length, get_or, refl, sym, subst, arith, length-append}
use Rattle.std.proofs.lemmas.List.{get_or-map, length-map}
use Rattle.std.specs.Prelude.{max, min}
use Rattle.sig_types.specs.declared.record.Record.{Record}
use Rattle.sig_types.specs.Counts.{count_in, fronts, rears}
use Rattle.log_sums.specs.Told.{fronts_by, rears_by, told}
use Rattle.log_sums.proofs.Telling.{agrees_last, agrees_still}
use Rattle.log_chart.specs.declared.cover.Cover.{Cover}
use Rattle.log_chart.specs.declared.span.Span.{Span}
use Rattle.log_chart.specs.Spans.{AreSpans}
use Rattle.log_chart.specs.Covers.{IsCover}
use Rattle.log_svg.specs.Covers.{spans_in}
use Rattle.report_seen.specs.Drawn.{AreCovered}
use Rattle.report_seen.specs.Gathered.{covered_in}

-- a frame was taken
abbrev pub IsTaken : ℕ → Record → List Cover → List Cover → Type 0
IsTaken from x old new = (f r : ℕ → ℕ) (n p : ℕ) (d : Cover) → x.second.0 ≡ n + 1 → x.second.0 < 2147483648 → p < 64 →
    f x.second.0 ≡ count_in fronts (p + 1) x.frame → r x.second.0 ≡ count_in rears (p + 1) x.frame →
    IsCover f r from n (get_or old p d) → IsCover f r from x.second.0 (get_or new p d)

pub cover_none : (from to : ℕ) (covers : List Cover) → 1 ≤ from → length covers ≡ 64 →
    ((f r : ℕ → ℕ) (from p : ℕ) (d : Cover) → 1 ≤ from → p < 64 → IsCover f r from 0 (get_or covers p d)) → AreCovered [] from to covers
cover_none from to covers least size are = record {
  size = size;
  each = λ p d f r lt here there.
      let none : min to 0 ≡ 0 = omega arith in
      rw none (are f r from p d least lt);
}

pub cover_more : (records : List Record) (x : Record) (from to : ℕ) (old new : List Cover) → x.second.0 ≡ length records + 1 → x.second.0 ≤ to → to < 2147483648 →
    length new ≡ 64 → IsTaken from x old new → AreCovered records from to old → AreCovered (records ++ x ∷ []) from to new
cover_more records x from to old new second within small size taken are = record {
  size = size;
  each = λ p d f r lt here there.
      let now : min to (length (records ++ x ∷ [])) ≡ x.second.0 = omega (arith, second, within, length-append records (x ∷ [])) in
      let before : min to (length records) ≡ length records = omega (arith, second, within) in
      let was = rw before at (are.each p d f r lt (agrees_still ℕ (fronts_by p) 0 records x f here) (agrees_still ℕ (rears_by p) 0 records x r there)) in
      rw now (taken f r (length records) p d second (omega (arith, within, small)) lt (agrees_last ℕ (fronts_by p) 0 records x f x.second.0 second here)
      (agrees_last ℕ (rears_by p) 0 records x r x.second.0 second there) was);
}

pub cover_behind : (records : List Record) (x : Record) (from to : ℕ) (covers : List Cover) → to < length records + 1 →
    AreCovered records from to covers → AreCovered (records ++ x ∷ []) from to covers
cover_behind records x from to covers behind are = record {
  size = are.size;
  each = λ p d f r lt here there.
      let same : min to (length (records ++ x ∷ [])) ≡ min to (length records) = omega (arith, behind, length-append records (x ∷ [])) in
      rw same (are.each p d f r lt (agrees_still ℕ (fronts_by p) 0 records x f here) (agrees_still ℕ (rears_by p) 0 records x r there));
}

-- what holds of a detector's spans holds at its place of all spans
spans_at : (covers : List Cover) (p : ℕ) (P : List (Span Bool) → Type 0) → p < length covers → ((d : Cover) → P (get_or covers p d).spans.items) →
    P (get_or (spans_in covers) p [])
spans_at [] p P lt is = absurd (omega (arith, lt))
spans_at (c ∷ cs) p P lt is = subst P (sym (get_or-map (λ (x : Cover). x.spans.items) (c ∷ cs) p c [] lt)) (is c)

-- the spans of a whole window
pub cover_whole : (records : List Record) (from to : ℕ) (covers : List Cover) → from ≤ to → to ≤ length records → AreCovered records from to covers →
    (p : ℕ) → p < 64 → AreSpans (covered_in records p) from (to + 1) (get_or (spans_in covers) p [])
cover_whole records from to covers order long are p lt =
    let past : max from (to + 1) ≡ to + 1 = omega (arith, order) in
    let end : min to (length records) ≡ to = omega (arith, long) in
    spans_at covers p (λ s. AreSpans (covered_in records p) from (to + 1) s) (omega (arith, lt, are.size))
    (λ d. rw past at ((rw end at (are.each p d (told (fronts_by p) 0 records) (told (rears_by p) 0 records) lt (λ t le. refl) (λ t le. refl))).spans_are))

pub spans_count : (covers : List Cover) → length covers ≡ 64 → length (spans_in covers) ≡ 64
spans_count covers size = length-map covers (λ (x : Cover). x.spans.items) ∙ size
