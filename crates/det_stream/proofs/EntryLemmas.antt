-- The parts of an entry, and an entry's judgement by what a reader keeps.
use Rattle.std.proofs.Common.{◌≡◌, ℕ, ◌-◌, ◌<◌, ◌==◌, Bool, true, false, List, [], ◌∷◌, ◌++◌, length, Option, Some, None, refl, sym, ap, ◌∙◌, arith, length-append, if◌then◌else◌, cond, is_some, ◌&&◌, nat_le}
use Rattle.std.specs.Option.{option_map}
use Rattle.std.specs.List.{slice_split, onto_first}
use Rattle.std.proofs.Math.Seq.{get_or-append_seam}
use Rattle.std.proofs.lemmas.List.Splits.{length-slice_split}
use Rattle.std.proofs.Common.{replicate, slice_set, inl, inr, ◌≤◌}
use Rattle.std.proofs.lemmas.Bool.{eqb-true, cases_eq}
use Rattle.std.proofs.lemmas.List.{get_or-set_other, get_or-replicate}
use Rattle.std.proofs.lemmas.Grind.{get_or-set_at}
use Rattle.std.proofs.lemmas.List.Sums.{fold_push}
use Rattle.std.proofs.Common.{fold}
use Rattle.sig_types.specs.Counts.{Counts}
use Rattle.sig_types.specs.FirstRefused.{refused_to, first_refused}
use Rattle.sig_types.specs.Text.{cut_at, number_of}
use Rattle.det_stream.specs.Totals.{HasAtMost, RearsWithinFronts}
use Rattle.det_stream.specs.Entries.{Numbers, judge_entry, numbers_of, last_detector, numbers_in, all_three, field_number, AreNumbers, entries_of, frame_of, with_entry}

abbrev at_colon : ℕ → Bool
at_colon c = c == 58

abbrev split_by : List ℕ → Option (List ℕ × List ℕ) → List (List ℕ)
split_by xs None = xs ∷ []
split_by xs (Some p) = p.0 ∷ slice_split at_colon p.1

split_turn : (b : Bool) (x : ℕ) (xs : List ℕ) (o : Option (List ℕ × List ℕ)) → slice_split at_colon xs ≡ split_by xs o →
    cond b ([] ∷ slice_split at_colon xs) (onto_first x (slice_split at_colon xs))
    ≡ split_by (x ∷ xs) (if◌then◌else◌ {A = Option (List ℕ × List ℕ)} b (Some ([], xs))
    (option_map {T = List ℕ × List ℕ} {U = List ℕ × List ℕ} (λ p. (x ∷ p.0, p.1)) o))
split_turn true x xs o ih = refl
split_turn false x xs None ih = rw ih refl
split_turn false x xs (Some p) ih = rw ih refl

-- a list is cut at its first colon
split_cut : (xs : List ℕ) → slice_split at_colon xs ≡ split_by xs (cut_at 58 xs)
split_cut [] = refl
split_cut (x ∷ xs) = split_turn (x == 58) x xs (cut_at 58 xs) (split_cut xs)

split_none : (xs : List ℕ) → cut_at 58 xs ≡ None → slice_split at_colon xs ≡ xs ∷ []
split_none xs none = split_cut xs ∙ ap (split_by xs) none

split_some : (xs a b : List ℕ) → cut_at 58 xs ≡ Some (a, b) → slice_split at_colon xs ≡ a ∷ slice_split at_colon b
split_some xs a b some = split_cut xs ∙ ap (split_by xs) some

pub one_part : (xs : List ℕ) → cut_at 58 xs ≡ None → numbers_of xs ≡ None
unfolding numbers_of
one_part xs none = rw (split_none xs none) refl

pub two_parts : (xs a b : List ℕ) → cut_at 58 xs ≡ Some (a, b) → cut_at 58 b ≡ None → numbers_of xs ≡ None
unfolding numbers_of
two_parts xs a b some none = rw (split_some xs a b some, split_none b none) refl

pub three_parts : (xs a b c d : List ℕ) → cut_at 58 xs ≡ Some (a, b) → cut_at 58 b ≡ Some (c, d) → cut_at 58 d ≡ None → slice_split at_colon xs ≡ a ∷ c ∷ d ∷ []
three_parts xs a b c d some more none = split_some xs a b some ∙ ap (λ l. a ∷ l) (split_some b c d more ∙ ap (λ l. c ∷ l) (split_none d none))

no_fourth : (a c e : List ℕ) (l : List (List ℕ)) → 0 < length l → numbers_in (a ∷ c ∷ e ∷ l) ≡ None
no_fourth a c e [] lt = absurd (omega arith)
no_fourth a c e (x ∷ l) lt = refl

pub more_parts : (xs a b c d e f : List ℕ) → cut_at 58 xs ≡ Some (a, b) → cut_at 58 b ≡ Some (c, d) → cut_at 58 d ≡ Some (e, f) → numbers_of xs ≡ None
unfolding numbers_of
more_parts xs a b c d e f some more yet =
    rw (split_some xs a b some, split_some b c d more, split_some d e f yet)
    (no_fourth a c e (slice_split at_colon f) (omega (arith, length-slice_split at_colon f)))

field_is : (b : Bool) (o : Option ℕ) → is_some (if◌then◌else◌ {A = Option ℕ} b o None) ≡ true → if◌then◌else◌ {A = Option ℕ} b o None ≡ o
field_is true o some = refl
field_is false o some = cc

all_there : (xs : List ℕ) (d f r : List ℕ) → slice_split at_colon xs ≡ d ∷ f ∷ r ∷ [] →
    numbers_of xs ≡ all_three (field_number d) (field_number f) (field_number r)
unfolding numbers_of
all_there xs d f r parts = ap numbers_in parts

three_none : (d f r : Option ℕ) → (is_some d && is_some f && is_some r) ≡ false → all_three d f r ≡ None
three_none None f r failed = refl
three_none (Some d) None r failed = refl
three_none (Some d) (Some f) None failed = refl
three_none (Some d) (Some f) (Some r) failed = cc

pub no_numbers : (xs : List ℕ) (d f r : List ℕ) → slice_split at_colon xs ≡ d ∷ f ∷ r ∷ [] →
    (is_some (field_number d) && is_some (field_number f) && is_some (field_number r)) ≡ false → numbers_of xs ≡ None
no_numbers xs d f r parts failed = all_there xs d f r parts ∙ three_none (field_number d) (field_number f) (field_number r) failed

three_some : (d f r : Option ℕ) → (is_some d && is_some f && is_some r) ≡ true → (is_some d ≡ true) × (is_some f ≡ true) × (is_some r ≡ true)
three_some None f r passed = cc
three_some (Some d) None r passed = cc
three_some (Some d) (Some f) None passed = cc
three_some (Some d) (Some f) (Some r) passed = (refl, refl, refl)

pub are_numbers : (xs : List ℕ) (d f r : List ℕ) → slice_split at_colon xs ≡ d ∷ f ∷ r ∷ [] →
    (is_some (field_number d) && is_some (field_number f) && is_some (field_number r)) ≡ true →
    AreNumbers (numbers_of xs) (number_of d) (number_of f) (number_of r)
are_numbers xs d f r parts passed =
    let each = three_some (field_number d) (field_number f) (field_number r) passed in
    let d_is = field_is (nat_le (length d) 9) (number_of d) each.0 in
    let f_is = field_is (nat_le (length f) 9) (number_of f) each.1 in
    let r_is = field_is (nat_le (length r) 9) (number_of r) each.2 in
    record {
      are = all_there xs d f r parts ∙ ap (λ o. all_three o (field_number f) (field_number r)) d_is ∙
          ap (λ o. all_three (number_of d) o (field_number r)) f_is ∙ ap (λ o. all_three (number_of d) (number_of f) o) r_is;
      detector = ap is_some (sym d_is) ∙ each.0;
      fronts = ap is_some (sym f_is) ∙ each.1;
      rears = ap is_some (sym r_is) ∙ each.2;
    }

pub last_pushed : (before : List (List ℕ)) (piece : List ℕ) (n : Numbers) → numbers_of piece ≡ Some n → last_detector (before ++ piece ∷ []) ≡ n.0
last_pushed before piece n is =
    let end : length (before ++ piece ∷ []) - 1 ≡ length before = omega (arith, length-append before (piece ∷ [])) in
    rw (end, get_or-append_seam before piece [] [], is) refl

-- the parts of a line that isn't empty
pub some_entries : (line : List ℕ) → (length line == 0) ≡ false → entries_of line ≡ slice_split (λ c. c == 32) line
some_entries [] some = cc
some_entries (x ∷ xs) some = refl

pub empty_judged : (line : List ℕ) → (length line == 0) ≡ true → first_refused judge_entry (entries_of line) [] ≡ None
unfolding refused_to
empty_judged [] none = refl
empty_judged (x ∷ xs) none = absurd (omega (arith, eqb-true (length (x ∷ xs)) 0 none))

pub empty_frame : (line : List ℕ) → (length line == 0) ≡ true → replicate 64 (0, 0) ≡ frame_of line
unfolding frame_of
empty_frame [] none = refl
empty_frame (x ∷ xs) none = absurd (omega (arith, eqb-true (length (x ∷ xs)) 0 none))

abbrev pub nothing : ℕ × ℕ
nothing = (0, 0)

pub zero_counts : (most : ℕ) → HasAtMost most (replicate 64 (0, 0))
zero_counts most p lt = rw (get_or-replicate 64 p nothing nothing lt) (omega arith, omega arith)

pub zeros_within : RearsWithinFronts (replicate 64 (0, 0))
zeros_within p lt = rw (get_or-replicate 64 p nothing nothing lt) (omega arith)

pub small_put : (counts : Counts) (d f r : ℕ) → HasAtMost 99 counts → length counts ≡ 64 → 1 ≤ d → d ≤ 64 → f ≤ 99 → r ≤ 99 →
    HasAtMost 99 (slice_set counts (d - 1) (f, r))
small_put counts d f r small size least most few more p lt = elim (cases_eq p (d - 1)) [
  | inl same ↦ rw (get_or-set_at counts (d - 1) p item nothing same (omega arith)) (few, more)
  | inr other ↦ rw (get_or-set_other counts (d - 1) p item nothing other) (small p lt)
]
  where
    item : ℕ × ℕ
    item = (f, r)

-- the frame of these entries
abbrev pub entries_frame : List (List ℕ) → Counts
entries_frame = fold (λ counts entry. with_entry counts (numbers_of entry)) (replicate 64 (0, 0))

pub frame_whole : (line : List ℕ) → entries_frame (entries_of line) ≡ frame_of line
unfolding frame_of
frame_whole line = refl

pub frame_pushed : (before : List (List ℕ)) (piece : List ℕ) (n : Numbers) (counts : Counts) → counts ≡ entries_frame before → numbers_of piece ≡ Some n →
    slice_set counts (n.0 - 1) (n.1, n.2) ≡ entries_frame (before ++ piece ∷ [])
frame_pushed before piece n counts is known =
    sym (fold_push (λ counts entry. with_entry counts (numbers_of entry)) (replicate 64 (0, 0)) before piece ∙
    ap (with_entry (entries_frame before)) known ∙ ap (λ (l : Counts). slice_set l (n.0 - 1) (n.1, n.2)) (sym is))
