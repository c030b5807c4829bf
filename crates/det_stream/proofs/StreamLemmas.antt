-- The lines of a file, judged one after the other.
use Rattle.std.proofs.Common.{◌≡◌, ℕ, ◌<◌, ◌≤◌, List, [], ◌∷◌, ◌++◌, length, map, Option, Some, None, refl}
use Rattle.std.proofs.lemmas.List.{map-append}
use Rattle.std.proofs.lemmas.Bool.{lt-ltb, le-ltb, le-leb, lt-leb}
use Rattle.sig_types.specs.Counts.{Counts}
use Rattle.sig_types.specs.FirstRefused.{first_refused, or_next}
use Rattle.det_stream.specs.declared.refusal.StreamWhy.{StreamWhy}
use Rattle.det_stream.specs.declared.refusal.StreamWhy.TheVariants as why
use Rattle.det_stream.specs.Entries.{judge_entry, entries_of, frame_of}
use Rattle.det_stream.specs.Stream.{judge_line, least_ahead, ahead_reason}
use Rattle.det_stream.specs.Totals.{AreTotals, IsSum, least_ahead_in}
use Rattle.det_stream.proofs.TotalLemmas.{ahead_is, totals_more}

pub judge_many : (before : List (List ℕ)) (line : List ℕ) → 604800 ≤ length before → judge_line before line ≡ Some why.TooManySeconds
unfolding judge_line
judge_many before line many = rw (le-leb 604800 (length before) many) refl

pub judge_long : (before : List (List ℕ)) (line : List ℕ) → length before < 604800 → 1024 < length line → judge_line before line ≡ Some why.LineTooLong
unfolding judge_line
judge_long before line few long = rw (lt-leb 604800 (length before) few, lt-ltb 1024 (length line) long) refl

pub judge_wrong : (before : List (List ℕ)) (line : List ℕ) (reason : StreamWhy) → length before < 604800 → length line ≤ 1024 →
    first_refused judge_entry (entries_of line) [] ≡ Some reason →
    judge_line before line ≡ Some reason
unfolding judge_line
judge_wrong before line reason few short wrong = rw (lt-leb 604800 (length before) few, le-ltb 1024 (length line) short, wrong) refl

last_reason : (o : Option StreamWhy) → or_next o None ≡ o
last_reason None = refl
last_reason (Some reason) = refl

pub judge_right : (before : List (List ℕ)) (line : List ℕ) (old new : Counts) → length before < 604800 → length line ≤ 1024 →
    first_refused judge_entry (entries_of line) [] ≡ None →
    AreTotals old (map frame_of before) → IsSum old (frame_of line) new → judge_line before line ≡ ahead_reason (least_ahead_in new)
unfolding judge_line
judge_right before line old new few short right are sum =
    let all : AreTotals new (map frame_of (before ++ line ∷ [])) =
    rw (map-append frame_of before (line ∷ [])) (totals_more old (frame_of line) new (map frame_of before) are sum) in
    let last : least_ahead (map frame_of (before ++ line ∷ [])) ≡ least_ahead_in new = ahead_is new (map frame_of (before ++ line ∷ [])) all in
    rw (lt-leb 604800 (length before) few, le-ltb 1024 (length line) short, right, last) (last_reason (ahead_reason (least_ahead_in new)))
