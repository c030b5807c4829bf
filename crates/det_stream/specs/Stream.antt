-- A detector file as frames.
use Rattle.std.specs.Prelude.{◌≡◌, ℕ, ◌+◌, ◌-◌, ◌<◌, ◌≤◌, List, [], ◌∷◌, ◌++◌, length, map, take, sum_by, Option, Some, None, Result, nat_le, nat_lt}
use Rattle.std.specs.Str.Lines.{lines}
use Rattle.sig_types.specs.Counts.{Counts, fronts, rears, count_in}
use Rattle.sig_types.specs.FirstRefused.{first_reason, first_refused, when, with_line}
use Rattle.sig_types.specs.Words.{least_below}
use Rattle.det_stream.specs.declared.refusal.StreamWhy.{StreamWhy}
use Rattle.det_stream.specs.declared.refusal.StreamWhy.TheVariants as why
use Rattle.det_stream.specs.Entries.{IsJudged, entries_reason, frame_of}
use Rattle.det_stream.specs.Totals.{AreTotals}

-- the least detector, by its place, of which these frames have more rears than fronts
unfoldable pub least_ahead : List Counts → Option ℕ
least_ahead frames =
    least_below (λ p. nat_lt (sum_by (count_in fronts (p + 1)) frames) (sum_by (count_in rears (p + 1)) frames)) 64

-- the reason, by that place
abbrev pub ahead_reason : Option ℕ → Option StreamWhy
ahead_reason None = None
ahead_reason (Some p) = Some (why.RearsAhead (record { 0 = p + 1 }))

-- the first reason to refuse a line after these lines
unfoldable pub judge_line : List (List ℕ) → List ℕ → Option StreamWhy
judge_line before line = first_reason (
    when (nat_le 604800 (length before)) why.TooManySeconds
    ∷ when (nat_lt 1024 (length line)) why.LineTooLong
    ∷ entries_reason line
    ∷ ahead_reason (least_ahead (map frame_of (before ++ line ∷ [])))
    ∷ [])

-- a longer line is refused for this reason after that many lines
abbrev pub IsTooLong : ℕ → StreamWhy → Type 0
IsTooLong second reason =
    (before : List (List ℕ)) → length before ≡ second → (line : List ℕ) → 1024 < length line →
    judge_line before line ≡ Some reason

-- a line of at most 1,024 bytes is judged after that many lines, which have these counts so far
abbrev pub LineIsJudged : {A : Type 0} → ℕ → Counts → List ℕ → Result A StreamWhy → Type 0
LineIsJudged second totals line result =
    (before : List (List ℕ)) → length before ≡ second → length line ≤ 1024 → AreTotals totals (map frame_of before) →
    IsJudged (judge_line before line) result

-- the first reason to refuse a line after these lines, with the line's number
abbrev pub judge : List (List ℕ) → List ℕ → Option (ℕ × StreamWhy)
judge before line = with_line (length before + 1) (judge_line before line)

-- the frames before the first refused line, and that line with its reason
pub record Stream : Type 0 where
  pub frames : List Counts
  pub refusal : Option (ℕ × StreamWhy)

-- the lines before the refused one
abbrev pub before_refused : {A : Type 0} → Option (ℕ × StreamWhy) → List A → List A
before_refused None xs = xs
before_refused (Some at) xs = take (at.0 - 1) xs

-- what a file with these bytes tells
unfoldable pub stream_of : List ℕ → Stream
stream_of bytes =
    let refusal = first_refused judge (lines bytes) [] in
    record { frames = map frame_of (before_refused refusal (lines bytes)); refusal = refusal }
