-- The entries of a line, read one after another.
use Rattle.std.proofs.Common.{◌≡◌, ℕ, ◌+◌, ◌-◌, ◌<◌, ◌≤◌, ◌==◌, Bool, true, false, not, List, [], ◌∷◌, ◌++◌, length, take, drop, get_or, replicate, slice_set, Some, None, refl, sym, ap, ◌∙◌, arith, inl, inr, cond}
use Rattle.std.specs.List.{slice_split, position}
use Rattle.std.proofs.lemmas.Bool.{ltb-false, cases_lt, cases_eq}
use Rattle.std.proofs.lemmas.Grind.{get_or-set_at}
use Rattle.std.proofs.lemmas.List.{get_or-replicate, get_or-set_other, take_all, take_more, length-set}
use Rattle.std.proofs.lemmas.List.Elements.{All-from_get_or}
use Rattle.std.proofs.lemmas.List.Splits.{slice_split_first, slice_split_none}
use Rattle.std.proofs.lemmas.List.Sums.{fails_before_first, prefix_len-le-length}
use Rattle.std.proofs.Math.ListN.{length-drop}
use Rattle.sig_types.specs.Counts.{Counts}
use Rattle.sig_types.specs.FirstRefused.{refused_to}
use Rattle.sig_types.proofs.Refusals.{accepted_more, refused_here}
use Rattle.sig_types.proofs.Options.{cond_none}
use Rattle.det_stream.specs.declared.refusal.StreamWhy.{StreamWhy}
use Rattle.det_stream.specs.Entries.{Numbers, entries_of, entries_reason, entry_end, first_entry, frame_of, judge_entry, last_detector, numbers_of, numbers_why}
use Rattle.det_stream.specs.Totals.{counts_at, with_counts, HasAtMost, IsSum, RearsWithinFronts}
use Rattle.det_stream.proofs.EntryLemmas.{entries_frame, frame_pushed, frame_whole, last_pushed, nothing, small_put, some_entries, zero_counts}
use Rattle.det_stream.proofs.Steps.{HeadAt, head_at}
use Rattle.det_stream.proofs.TotalLemmas.{silent_sum}

abbrev at_space : ℕ → Bool
at_space c = c == 32

pub end_inside : (text : List ℕ) → entry_end text ≤ length text
end_inside text = prefix_len-le-length (λ b. not (at_space b)) text

found_is : (b : Bool) (k n : ℕ) → cond b (Some k) None ≡ Some n → n ≡ k
found_is true k n some = cc
found_is false k n some = cc

pub end_found : (text : List ℕ) (n : ℕ) → position at_space text ≡ Some n → n ≡ entry_end text
end_found text n found = found_is _ (entry_end text) n found

pub end_missing : (text : List ℕ) → position at_space text ≡ None → length text ≡ entry_end text
end_missing text missing = omega (arith, end_inside text, ltb-false (entry_end text) (length text) (cond_none _ (entry_end text) missing))

-- the first n entries of a line were read and accepted, and this text is left of it
pub record HasEntries (line rest : List ℕ) (last : ℕ) (frame : Counts) (n : ℕ) : Type 0 where
  pub left : drop n (entries_of line) ≡ slice_split at_space rest
  pub last_is : last ≡ last_detector (take n (entries_of line))
  pub accepted : refused_to judge_entry (entries_of line) [] n ≡ None
  pub frame_is : frame ≡ entries_frame (take n (entries_of line))

pub no_entries : (line : List ℕ) → (length line == 0) ≡ false → HasEntries line line 0 (replicate 64 (0, 0)) 0
unfolding refused_to numbers_of
no_entries line some = record { left = some_entries line some; last_is = refl; accepted = refl; frame_is = refl }

split_last : (rest : List ℕ) → entry_end rest ≡ length rest → slice_split at_space rest ≡ first_entry rest ∷ []
split_last rest end = slice_split_none at_space rest
    (All-from_get_or (λ b. at_space b ≡ false) rest 0 (λ i lt. fails_before_first at_space rest i 0 (omega (arith, end))))
    ∙ ap (λ (l : List ℕ). l ∷ []) (sym (take_all (entry_end rest) rest (omega (arith, end))))

split_more : (rest : List ℕ) → entry_end rest < length rest →
    slice_split at_space rest ≡ first_entry rest ∷ slice_split at_space (drop (entry_end rest + 1) rest)
split_more rest inside = slice_split_first at_space rest 0 inside

-- the parts of a text behind its first entry
parted : (rest : List ℕ) → (more : List (List ℕ)) × (slice_split at_space rest ≡ first_entry rest ∷ more)
parted rest = elim (cases_lt (entry_end rest) (length rest)) [
  | inl inside ↦ (slice_split at_space (drop (entry_end rest + 1) rest), split_more rest inside)
  | inr outside ↦ ([], split_last rest (omega (arith, outside, end_inside rest)))
]

here : (line rest : List ℕ) (last : ℕ) (frame : Counts) (n : ℕ) → (read : HasEntries line rest last frame n) →
    HeadAt (entries_of line) n (first_entry rest) (parted rest).0
here line rest last frame n read = head_at (entries_of line) n (first_entry rest) (parted rest).0 (read.left ∙ (parted rest).1)

judged_here : (line rest : List ℕ) (last : ℕ) (frame : Counts) (n : ℕ) → HasEntries line rest last frame n →
    judge_entry (take n (entries_of line)) (get_or (entries_of line) n []) ≡ numbers_why last (numbers_of (first_entry rest))
judged_here line rest last frame n read =
    ap (λ (e : List ℕ). numbers_why (last_detector (take n (entries_of line))) (numbers_of e)) (here line rest last frame n read).here
    ∙ ap (λ (l : ℕ). numbers_why l (numbers_of (first_entry rest))) (sym read.last_is)

pub wrong_entry : (line rest : List ℕ) (last : ℕ) (frame : Counts) (why : StreamWhy) → (n : ℕ) × HasEntries line rest last frame n →
    numbers_why last (numbers_of (first_entry rest)) ≡ Some why → entries_reason line ≡ Some why
wrong_entry line rest last frame why read wrong =
    refused_here judge_entry (entries_of line) [] why read.0 read.1.accepted
    (here line rest last frame read.0 read.1).inside (judged_here line rest last frame read.0 read.1 ∙ wrong)

-- the first n + 1 entries were accepted too, and have this frame
record IsRight (line : List ℕ) (last : ℕ) (frame : Counts) (n : ℕ) : Type 0 where
  last_is : last ≡ last_detector (take (n + 1) (entries_of line))
  accepted : refused_to judge_entry (entries_of line) [] (n + 1) ≡ None
  frame_is : frame ≡ entries_frame (take (n + 1) (entries_of line))

right : (line rest : List ℕ) (last : ℕ) (frame : Counts) (n : ℕ) (e : Numbers) → HasEntries line rest last frame n →
    numbers_why last (numbers_of (first_entry rest)) ≡ None → numbers_of (first_entry rest) ≡ Some e → IsRight line e.0 (slice_set frame (e.0 - 1) (e.1, e.2)) n
right line rest last frame n e read accepted is =
    let head = here line rest last frame n read in
    let taken : take (n + 1) (entries_of line) ≡ take n (entries_of line) ++ first_entry rest ∷ [] =
    take_more (entries_of line) n [] head.inside ∙ ap (λ (x : List ℕ). take n (entries_of line) ++ x ∷ []) head.here in
    record {
      last_is = sym (ap last_detector taken ∙ last_pushed (take n (entries_of line)) (first_entry rest) e is);
      accepted = accepted_more judge_entry (entries_of line) [] n read.accepted (judged_here line rest last frame n read ∙ accepted);
      frame_is = frame_pushed (take n (entries_of line)) (first_entry rest) e frame read.frame_is is ∙ sym (ap entries_frame taken);
    }

-- more entries follow
pub entry_read : (line rest : List ℕ) (last : ℕ) (frame : Counts) (e : Numbers) → (n : ℕ) × HasEntries line rest last frame n →
    numbers_why last (numbers_of (first_entry rest)) ≡ None → numbers_of (first_entry rest) ≡ Some e → entry_end rest < length rest →
    (n : ℕ) × HasEntries line (drop (entry_end rest + 1) rest) e.0 (slice_set frame (e.0 - 1) (e.1, e.2)) n
entry_read line rest last frame e read accepted is inside =
    let next = right line rest last frame read.0 e read.1 accepted is in
    let head = head_at (entries_of line) read.0 (first_entry rest) (slice_split at_space (drop (entry_end rest + 1) rest))
    (read.1.left ∙ split_more rest inside) in
    (read.0 + 1, record { left = head.after; last_is = next.last_is; accepted = next.accepted; frame_is = next.frame_is })

-- the last entry of the line
pub last_read : (line rest : List ℕ) (last : ℕ) (frame : Counts) (e : Numbers) → (n : ℕ) × HasEntries line rest last frame n →
    numbers_why last (numbers_of (first_entry rest)) ≡ None → numbers_of (first_entry rest) ≡ Some e → entry_end rest ≡ length rest →
    (entries_reason line ≡ None) × (slice_set frame (e.0 - 1) (e.1, e.2) ≡ frame_of line)
last_read line rest last frame e read accepted is end =
    let next = right line rest last frame read.0 e read.1 accepted is in
    let head = head_at (entries_of line) read.0 (first_entry rest) [] (read.1.left ∙ split_last rest end) in
    let whole : read.0 + 1 ≡ length (entries_of line) = omega (arith, head.inside, length-drop (read.0 + 1) (entries_of line), ap length head.after) in (
      rw whole at next.accepted,
      next.frame_is ∙ ap entries_frame (take_all (read.0 + 1) (entries_of line) (omega (arith, whole))) ∙ frame_whole line,
    )

-- the counts so far with those of a frame that has counts of no detector after the last
pub record HasSums (old totals frame : Counts) (last : ℕ) : Type 0 where
  pub sum : IsSum old frame totals
  pub none_after : (k : ℕ) → last ≤ k → k < 64 → counts_at frame k ≡ (0, 0)
  pub small : HasAtMost 99 frame
  pub size : length frame ≡ 64

zero_at : (k : ℕ) → k < 64 → counts_at (replicate 64 (0, 0)) k ≡ (0, 0)
zero_at k lt = get_or-replicate 64 k nothing nothing lt

pub no_sums : (old : Counts) → HasSums old old (replicate 64 (0, 0)) 0
no_sums old = record {
  sum = record {
    fronts_are = λ p lt. (silent_sum old (replicate 64 (0, 0)) p (zero_at p lt)).0;
    rears_are = λ p lt. (silent_sum old (replicate 64 (0, 0)) p (zero_at p lt)).1;
  };
  none_after = λ k le lt. zero_at k lt;
  small = zero_counts 99;
  size = refl;
}

-- no entry before this place has its detector
pub so_far_is : (old totals frame : Counts) (last d : ℕ) → HasSums old totals frame last → last < d → d ≤ 64 →
    ((counts_at totals (d - 1)).0 ≡ (counts_at old (d - 1)).0) × ((counts_at totals (d - 1)).1 ≡ (counts_at old (d - 1)).1)
so_far_is old totals frame last d sums rises most =
    let none = sums.none_after (d - 1) (omega arith) (omega arith) in
    let f : (counts_at frame (d - 1)).0 ≡ 0 = ap (λ (x : ℕ × ℕ). x.0) none in
    let r : (counts_at frame (d - 1)).1 ≡ 0 = ap (λ (x : ℕ × ℕ). x.1) none in
    (omega (arith, sums.sum.fronts_are (d - 1) (omega arith), f), omega (arith, sums.sum.rears_are (d - 1) (omega arith), r))

put_here : (counts : Counts) (place p : ℕ) (item : ℕ × ℕ) → length counts ≡ 64 → place < 64 → p ≡ place → counts_at (slice_set counts place item) p ≡ item
put_here counts place p item size lt same = get_or-set_at counts place p item nothing same (omega (arith, size))

pub sums_more : (old totals frame : Counts) (last d f r : ℕ) → HasSums old totals frame last → length totals ≡ 64 → last < d → d ≤ 64 →
    f ≤ 99 → r ≤ 99 → HasSums old (with_counts totals (d - 1) (f, r)) (slice_set frame (d - 1) (f, r)) d
sums_more old totals frame last d f r sums size rises most few more = record {
  sum = record {
    fronts_are = λ p lt. elim (cases_eq p (d - 1)) [
      | inl same ↦ rw (
        put_here totals (d - 1) p added size (omega arith) same,
        put_here frame (d - 1) p item sums.size (omega arith) same,
        same,
      ) (omega (arith, before.0))
      | inr other ↦ rw (get_or-set_other totals (d - 1) p added nothing other, get_or-set_other frame (d - 1) p item nothing other) (sums.sum.fronts_are p lt)
    ];
    rears_are = λ p lt. elim (cases_eq p (d - 1)) [
      | inl same ↦ rw (
        put_here totals (d - 1) p added size (omega arith) same,
        put_here frame (d - 1) p item sums.size (omega arith) same,
        same,
      ) (omega (arith, before.1))
      | inr other ↦ rw (get_or-set_other totals (d - 1) p added nothing other, get_or-set_other frame (d - 1) p item nothing other) (sums.sum.rears_are p lt)
    ];
  };
  none_after = λ k le lt. get_or-set_other frame (d - 1) k item nothing (λ e. omega (arith, e)) ∙ sums.none_after k (omega arith) lt;
  small = small_put frame d f r sums.small sums.size (omega arith) most few more;
  size = length-set frame (d - 1) item ∙ sums.size;
}
  where
    item : ℕ × ℕ
    item = (f, r)

    added : ℕ × ℕ
    added = ((counts_at totals (d - 1)).0 + f, (counts_at totals (d - 1)).1 + r)

    before : ((counts_at totals (d - 1)).0 ≡ (counts_at old (d - 1)).0) × ((counts_at totals (d - 1)).1 ≡ (counts_at old (d - 1)).1)
    before = so_far_is old totals frame last d sums rises most

-- no detector has more rears than fronts, where this one hasn't
pub within_more : (totals : Counts) (place f r : ℕ) → RearsWithinFronts totals → length totals ≡ 64 → place < 64 →
    (counts_at totals place).1 + r ≤ (counts_at totals place).0 + f → RearsWithinFronts (with_counts totals place (f, r))
within_more totals place f r within size lt fits p inside = elim (cases_eq p place) [
  | inl same ↦ rw (put_here totals place p added size lt same) fits
  | inr other ↦ rw (get_or-set_other totals place p added nothing other) (within p inside)
]
  where
    added : ℕ × ℕ
    added = ((counts_at totals place).0 + f, (counts_at totals place).1 + r)
