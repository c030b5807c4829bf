-- The text of a diagram of characters.
use Rattle.std.specs.Prelude.{ℕ, zero, suc, ◌+◌, ◌-◌, ◌*◌, ◌/◌, ◌%◌, ◌≤◌, ◌==◌, max, min, nat_lt, nat_le}
use Rattle.std.specs.Prelude.{Bool, ◌||◌, ◌&&◌, if◌then◌else◌, Option, Some, None}
use Rattle.std.specs.Prelude.{List, [], ◌++◌, codes, length, replicate, take, slice_index_or, slice_set}
use Rattle.std.specs.List.{flat_map, fold}
use Rattle.std.specs.Fmt.{decimal}
use Rattle.sig_types.specs.declared.aspect.Aspect.{Aspect}
use Rattle.sig_types.specs.declared.aspect.Aspect.TheVariants.{Red, RedAmber, Green, Amber}
use Rattle.sig_types.specs.declared.numbers.GroupNo.{GroupNo}
use Rattle.sig_types.specs.declared.numbers.StagePlace.{StagePlace}
use Rattle.sig_types.specs.declared.numbers.StagePlace.TheVariants.{NoPlan, Stage, Inter}
use Rattle.log_chart.specs.declared.span.Span.{Span}
use Rattle.log_chart.specs.Stays.{Stay}
use Rattle.log_svg.specs.declared.fronts.FrontMark.{FrontMark}
use Rattle.log_svg.specs.declared.marks.FaultMark.{FaultMark}
use Rattle.log_svg.specs.declared.marks.RefusalMark.{RefusalMark}
use Rattle.log_svg.specs.Band.{place_name}
use Rattle.log_svg.specs.Covers.{spans_of}
use Rattle.log_svg.specs.Marks.{is_of, rule_letter, rule_of}
use Rattle.log_svg.specs.Diagram.{Shown}
use Rattle.report_seen.specs.declared.letters.Block.{Block}
use Rattle.report_seen.specs.declared.letters.MarkRow.{MarkRow}

-- ---- blocks

-- a block of 1 to 60 seconds, of a size that any sum of its numbers fits
pub record IsBlock (b : Block) : Type 0 where
  pub some : 1 ≤ b.count
  pub few : b.count ≤ 60
  pub last : b.first + b.count ≤ 1000000
  pub margin : b.margin ≤ 40

-- a name and as many spaces as the margin has columns more
abbrev pub name_text : ℕ → List ℕ → List ℕ
name_text margin name = name ++ replicate (margin - length name) 32

-- how many of the seconds from a to b are in the block
abbrev pub seconds_in : Block → ℕ → ℕ → ℕ
seconds_in block a b = min (block.first + block.count - 1) b + 1 - max block.first a

-- ---- the numbers and the ticks of the seconds

-- the number of a second stands above it: it is a tenth one, or the first of the block with room before the next tenth
abbrev pub is_numbered : ℕ → ℕ → Bool
is_numbered first t = (t % 10 == 0) || ((t == first) && nat_lt (t % 10 + length (decimal t)) 10)

-- what stands above a second, where nothing stands yet from second `free` on
abbrev pub number_cell : ℕ → ℕ → ℕ → List ℕ
number_cell first free t = if nat_lt t free then [] else (if is_numbered first t then decimal t else codes " ")

-- the first second above which nothing stands after it
abbrev pub free_after : ℕ → ℕ → ℕ → ℕ
free_after first free t = if nat_lt t free then free else (if is_numbered first t then t + length (decimal t) else t + 1)

-- the first second above which nothing stands behind n seconds
unfoldable pub free_to : ℕ → ℕ → ℕ
free_to first zero = first
free_to first (suc n) = free_after first (free_to first n) (first + n)

-- the numbers above n seconds
unfoldable pub numbers_to : ℕ → ℕ → List ℕ
numbers_to first zero = []
numbers_to first (suc n) = numbers_to first n ++ number_cell first (free_to first n) (first + n)

-- the row of the numbers, above those of a block's seconds that are numbered
unfoldable pub numbers_row : Block → List ℕ
numbers_row block = name_text block.margin [] ++ numbers_to block.first block.count ++ codes "\n"

-- the tick of a second
abbrev pub tick_of : ℕ → List ℕ
tick_of t = if t % 10 == 0 then codes "|" else (if t % 5 == 0 then codes "+" else codes ".")

-- the ticks of n seconds
unfoldable pub ticks_to : ℕ → ℕ → List ℕ
ticks_to first zero = []
ticks_to first (suc n) = ticks_to first n ++ tick_of (first + n)

-- the row of the ticks of a block's seconds
unfoldable pub ticks_row : Block → List ℕ
ticks_row block = name_text block.margin [] ++ ticks_to block.first block.count ++ codes "\n"

-- ---- the band of stages and interstages

-- what fills the seconds of a stage or an interstage behind its name
abbrev pub filler_of : StagePlace → ℕ
filler_of NoPlan = 46
filler_of (Stage s) = 46
filler_of (Inter a b t) = 62

-- how many letters the name has
abbrev pub letters_in : StagePlace → ℕ
letters_in NoPlan = 1
letters_in (Stage s) = 1 + length (decimal s.0)
letters_in (Inter a b t) = 1 + length (decimal a.0) + length (decimal b.0)

-- so many seconds of a stage or an interstage, with its name where it has room
abbrev pub stay_cells : StagePlace → ℕ → List ℕ
stay_cells place seconds =
    if nat_lt seconds (letters_in place) then replicate seconds (filler_of place)
    else place_name place ++ replicate (seconds - letters_in place) (filler_of place)

-- the seconds of a stay that are in the block
unfoldable pub stay_text : Block → Stay → List ℕ
stay_text block s =
    if seconds_in block s.first.0 s.last.0 == 0 then [] else stay_cells s.shown (seconds_in block s.first.0 s.last.0)

-- the row of the stages and interstages of a block's seconds
unfoldable pub band_row : Block → List Stay → List ℕ
band_row block stays = name_text block.margin (codes "stage") ++ flat_map (stay_text block) stays ++ codes "\n"

-- ---- the rows of the groups

-- the character of an aspect
abbrev pub letter_of : Aspect → ℕ
letter_of Red = 45
letter_of RedAmber = 47
letter_of Green = 35
letter_of Amber = 92

-- the seconds of a span that are in the block
abbrev pub span_text : Block → Span Aspect → List ℕ
span_text block s = replicate (seconds_in block s.first.0 s.last.0) (letter_of s.shown)

-- the row of a group: its name and what it shows in a block's seconds
unfoldable pub group_row : Block → List ℕ → List (Span Aspect) → List ℕ
group_row block name spans = name_text block.margin name ++ flat_map (span_text block) spans ++ codes "\n"

-- ---- the rows of marks

-- a row of spaces
abbrev pub empty_row : MarkRow
empty_row = record { cells = replicate 60 32; end = 0 }

-- the row with a letter in second t, if that is in the block; the row ends behind its last letter
abbrev pub with_letter : Block → MarkRow → ℕ → ℕ → MarkRow
with_letter block row t letter =
    if nat_lt t block.first || nat_le (block.first + block.count) t then row
    else record { cells = slice_set row.cells (t - block.first) letter; end = max row.end (t - block.first + 1) }

-- a row with its name, where it has a letter
unfoldable pub marks_text : Block → List ℕ → MarkRow → List ℕ
marks_text block name row = if row.end == 0 then [] else name_text block.margin name ++ take row.end row.cells ++ codes "\n"

-- the row with a letter in second t, if that is in the block, and nothing stands there yet
abbrev pub with_first : Block → MarkRow → ℕ → ℕ → MarkRow
with_first block row t letter =
    if nat_lt t block.first || nat_le (block.first + block.count) t then row
    else (if slice_index_or row.cells (t - block.first) 32 == 32 then with_letter block row t letter else row)

-- the row with the letter of the rule of a refusal, where it is one that the row shows, and the first one of its second
abbrev pub with_refusal : Block → Option GroupNo → MarkRow → RefusalMark → MarkRow
with_refusal block group row m = if is_of group m.refused then with_first block row m.second (rule_letter (rule_of m.refused)) else row

-- the row of refused stage commands, or of the refused turns of a group
unfoldable pub refusals_row : Block → List RefusalMark → Option GroupNo → List ℕ
refusals_row block marks group = marks_text block (codes " refused") (fold (with_refusal block group) empty_row marks)

-- the row with the sign of a fault
abbrev pub with_fault : Block → MarkRow → FaultMark → MarkRow
with_fault block row m = with_letter block row m.second 88

-- the row of faults
unfoldable pub faults_row : Block → List FaultMark → List ℕ
faults_row block marks = marks_text block (codes "fault") (fold (with_fault block) empty_row marks)

-- the digit of some fronts; a star stands for ten or more
abbrev pub front_letter : ℕ → ℕ
front_letter fronts = if nat_lt fronts 10 then 48 + fronts else 42

-- the row with the fronts of a detector, where the row is the detector's
abbrev pub with_front : Block → ℕ → MarkRow → FrontMark → MarkRow
with_front block d row m = if m.detector.0 == d then with_letter block row m.second (front_letter m.fronts) else row

-- the name of a detector's row
abbrev pub detector_word : ℕ → List ℕ
detector_word d = codes "D" ++ decimal d ++ (if nat_lt d 10 then codes " " else [])

-- the row with the sign of a covered detector in the first n seconds from second t on
unfoldable pub covered_to : Block → MarkRow → ℕ → ℕ → MarkRow
covered_to block row t zero = row
covered_to block row t (suc n) = with_letter block (covered_to block row t n) (t + n) 61

-- the row with the seconds of a span, where the detector is covered in them
abbrev pub with_cover : Block → MarkRow → Span Bool → MarkRow
with_cover block row s = if s.shown then covered_to block row (max block.first s.first.0) (seconds_in block s.first.0 s.last.0) else row

-- the row of a detector: its fronts, and where there are none, that it is covered
unfoldable pub detector_row : Block → List FrontMark → List (Span Bool) → ℕ → List ℕ
detector_row block marks spans d =
    marks_text block (detector_word d) (fold (with_front block d) (fold (with_cover block) empty_row spans) marks)

-- the rows of the first k detectors
unfoldable pub detector_rows : Block → List FrontMark → List (List (Span Bool)) → ℕ → List ℕ
detector_rows block marks covers zero = []
detector_rows block marks covers (suc k) =
    detector_rows block marks covers k ++ detector_row block marks (spans_of covers (k + 1)) (k + 1)

-- ---- the whole

-- a group of the diagram, and its refused turns
unfoldable pub group_rows : Block → Shown → ℕ → List ℕ
group_rows block s g =
    group_row block (slice_index_or s.names g []) (slice_index_or s.rows g [])
    ++ refusals_row block s.refusals (Some (record { 0 = g }))

-- the first k groups
unfoldable pub groups_rows : Block → Shown → ℕ → List ℕ
groups_rows block s zero = []
groups_rows block s (suc k) = groups_rows block s k ++ group_rows block s k

-- the columns before the seconds: those of the longest name and a space, and at least 9
abbrev pub margin_of : List (List ℕ) → ℕ
margin_of names = fold (λ most name. max most (length name + 1)) 9 names

-- the seconds, the stages and the refused stage commands of a block
unfoldable pub block_head : Block → Shown → List ℕ
block_head block s =
    codes "\n" ++ numbers_row block ++ ticks_row block ++ band_row block s.stays ++ refusals_row block s.refusals None

-- the groups, the faults and the detectors of a block
unfoldable pub block_rows : Block → Shown → List ℕ
block_rows block s = groups_rows block s (length s.names) ++ faults_row block s.faults ++ detector_rows block s.fronts s.covers 64

-- the rows of a block
unfoldable pub block_text : Block → Shown → List ℕ
block_text block s = block_head block s ++ block_rows block s

-- block k: 60 seconds, and in the last one as many as there are
abbrev pub block_at : Shown → ℕ → Block
block_at s k = record {
  first = s.from + 60 * k;
  count = min 60 (s.to + 1 - (s.from + 60 * k));
  margin = margin_of s.names;
}

-- the first k blocks
unfoldable pub blocks_to : Shown → ℕ → List ℕ
blocks_to s zero = []
blocks_to s (suc k) = blocks_to s k ++ block_text (block_at s k) s

-- what the characters mean
unfoldable pub key_text : List ℕ
key_text =
    codes "- red  / red-amber  # green  \\ amber  X fault  1 to 9, * fronts  = covered\n"
    ++ codes "refused: G minimum green  R minimum red  C conflict  I intergreen  S sequence  r interstage runs  w wrong stage  n no interstage\n"

-- the whole text
unfoldable pub letters_text : Shown → List ℕ
letters_text s = key_text ++ blocks_to s ((s.to - s.from) / 60 + 1)
