-- The text of sums, line by line.
use Rattle.std.specs.Prelude.{ℕ, ◌+◌, ◌-◌, ◌*◌, ◌/◌, ◌%◌, ◌<◌, ◌≤◌, ◌==◌, max, Bool, not, ◌||◌, List, [], ◌∷◌, ◌++◌, All, codes, slice_index_or, Some, if◌then◌else◌}
use Rattle.std.specs.List.{flat_map}
use Rattle.std.specs.Fmt.{decimal}
use Rattle.sig_types.specs.declared.numbers.StagePlace.{StagePlace}
use Rattle.sig_types.specs.declared.numbers.StagePlace.TheVariants.{NoPlan, Stage, Inter}
use Rattle.sig_types.specs.declared.refused.Fault.{Fault}
use Rattle.sig_types.specs.declared.refused.StageRefusal.{StageRefusal}
use Rattle.sig_types.specs.declared.refused.TurnRefusal.{TurnRefusal}
use Rattle.signal_log.specs.Log.{fault_text, name_of, stage_refusal_text, turn_text}
use Rattle.log_sums.specs.declared.detector.DetectorSums.{DetectorSums}
use Rattle.log_sums.specs.declared.figures.Figures.{Figures}
use Rattle.log_sums.specs.declared.group.GroupSums.{GroupSums}
use Rattle.log_sums.specs.declared.long_figures.LongFigures.{LongFigures}
use Rattle.log_sums.specs.declared.serve_sums.ServeSums.{ServeSums}
use Rattle.log_sums.specs.declared.spells.Spells.{Spells}
use Rattle.log_sums.specs.declared.tally.Counts.{Counts}
use Rattle.log_sums.specs.declared.tally.Tally.{Tally}
use Rattle.log_sums.specs.declared.serves.Serve.{Serve}
use Rattle.log_sums.specs.declared.serves.Served.{Served}
use Rattle.log_sums.specs.declared.sums.LogSums.{LogSums}

-- a number behind its word
abbrev pub pair_text : List ℕ → ℕ → List ℕ
pair_text word n = word ++ decimal n

-- tenths, with a point before the last one
abbrev pub tenths_text : ℕ → List ℕ
tenths_text tenths = decimal (tenths / 10) ++ codes "." ++ decimal (tenths % 10)

-- the mean of figures in tenths, rounded down
abbrev pub mean_of : Figures → ℕ
mean_of x = x.sum * 10 / x.count

-- the shortest, the mean and the longest, behind these words; nothing where there is none
unfoldable pub lengths_text : List ℕ → List ℕ → List ℕ → Figures → List ℕ
lengths_text shortest mean longest x =
    if x.count == 0 then []
    else pair_text shortest x.least ++ mean ++ tenths_text (mean_of x) ++ pair_text longest x.most

-- how many seconds the longest spell has; one that runs when the log ends counts too
abbrev pub longest_of : Bool → Spells → ℕ
longest_of goes_on x = if goes_on then x.over.most else max x.over.most x.run

-- the first second of the first one that is as long
abbrev pub longest_from : Bool → ℕ → Spells → ℕ
longest_from goes_on seconds x = if longest_of goes_on x == x.over.most then x.over.at - x.over.most else seconds + 1 - x.run

-- a number behind its word, and nothing for 0
unfoldable pub some_text : List ℕ → ℕ → List ℕ
some_text word n = if n == 0 then [] else pair_text word n

-- sums of seconds that fit
abbrev pub IsSmall : GroupSums → Type 0
IsSmall x = (x.greens.over.sum < 1152921504606846976) × (x.reds.over.sum < 1152921504606846976) × (x.cycles.gaps.sum < 1152921504606846976)

-- the greens of a group
unfoldable pub greens_text : GroupSums → List ℕ
greens_text x =
    pair_text (codes " greens:") x.greens.begun.count ++ pair_text (codes " ended:") x.greens.over.count
    ++ lengths_text (codes " shortest:") (codes " mean:") (codes " longest:") x.greens.over

-- its longest red
unfoldable pub longest_text : Bool → ℕ → Spells → List ℕ
longest_text goes_on seconds x =
    pair_text (codes " longest_red:") (longest_of goes_on x) ++ some_text (codes " longest_red_from:") (if longest_of goes_on x == 0 then 0 else longest_from goes_on seconds x)

-- its share of green in these seconds, and its first green
unfoldable pub share_text : ℕ → Spells → List ℕ
share_text counted x =
    pair_text (codes " seconds:") x.held.count ++ codes " share:" ++ tenths_text (x.held.count * 1000 / counted) ++ some_text (codes " first_green:") x.begun.at

-- its reds
unfoldable pub reds_text : Spells → List ℕ
reds_text x =
    pair_text (codes " reds:") x.begun.count ++ pair_text (codes " reds_ended:") x.over.count
    ++ lengths_text (codes " shortest_red:") (codes " mean_red:") (codes " longest_ended_red:") x.over

-- its cycles
unfoldable pub cycles_text : Figures → List ℕ
cycles_text x = pair_text (codes " cycles:") x.count ++ lengths_text (codes " shortest_cycle:") (codes " mean_cycle:") (codes " longest_cycle:") x

-- the line of a group
unfoldable pub group_text : List ℕ → Bool → ℕ → ℕ → GroupSums → List ℕ
group_text name goes_on seconds counted x =
    codes "GROUP " ++ name ++ greens_text x ++ longest_text goes_on seconds x.reds ++ share_text counted x.greens
    ++ reds_text x.reds ++ cycles_text x.cycles.gaps ++ codes "\n"

-- the lines of groups with these names and sums
unfoldable pub groups_text : Bool → ℕ → ℕ → List (List ℕ) → List GroupSums → List ℕ
groups_text goes_on seconds counted [] sums = []
groups_text goes_on seconds counted (name ∷ names) [] = []
groups_text goes_on seconds counted (name ∷ names) (x ∷ sums) =
    group_text name goes_on seconds counted x ++ groups_text goes_on seconds counted names sums

-- the name of a stage or an interstage
abbrev pub place_name : StagePlace → List ℕ
place_name NoPlan = codes "NO_STAGE"
place_name (Stage s) = pair_text (codes "STAGE ") s.0
place_name (Inter a b t) = pair_text (codes "INTERSTAGE ") a.0 ++ pair_text (codes "-") b.0

-- the line of a stage or an interstage that there was in these seconds
unfoldable pub place_text : Tally StagePlace → List ℕ
place_text x =
    if x.counts.times.count == 0 then []
    else place_name x.key ++ pair_text (codes " times:") x.counts.begun.count ++ pair_text (codes " seconds:") x.counts.times.count ++ codes "\n"

-- how often something came, in how many seconds, and its longest run of seconds
unfoldable pub counts_text : Counts → List ℕ
counts_text x =
    pair_text (codes " times:") x.times.sum ++ pair_text (codes " seconds:") x.times.count ++ pair_text (codes " longest_run:") x.runs.most
    ++ pair_text (codes " longest_run_from:") (x.runs.at - (x.runs.most - 1)) ++ codes "\n"

-- the line of what came so often, behind these words
abbrev pub came_text : List ℕ → List ℕ → Counts → List ℕ
came_text word name x = if x.times.count == 0 then [] else word ++ name ++ counts_text x

-- the line of a refused stage command
unfoldable pub command_text : Tally StageRefusal → List ℕ
command_text x = came_text (codes "REFUSED ") (stage_refusal_text x.key) x.counts

-- the line of a refused turn, behind this word
unfoldable pub refusal_text : List ℕ → List (List ℕ) → Tally TurnRefusal → List ℕ
refusal_text word names x = came_text word (turn_text names x.key) x.counts

-- the line of a fault
unfoldable pub fault_line : Tally Fault → List ℕ
fault_line x = came_text (codes "FAULT ") (fault_text (Some x.key)) x.counts

-- the largest headway, and the second with a detection behind which it is
unfoldable pub headway_text : Figures → List ℕ
headway_text x =
    if x.count == 0 then []
    else pair_text (codes " largest_headway:") (x.most - 1) ++ pair_text (codes " headway_after:") (x.at - (x.most - 1))

-- a detector had a front or a rear so far
abbrev pub is_named : DetectorSums → Bool
is_named x = not (x.fronts_so_far == 0) || not (x.rears_so_far == 0)

-- the line of a detector, where it is named
unfoldable pub detector_text : ℕ → Bool → DetectorSums → List ℕ
detector_text number named x =
    if named then pair_text (codes "DETECTOR ") number ++ pair_text (codes " vehicles:") x.fronts.sum
    ++ pair_text (codes " occupied:") x.occupied.held.count ++ headway_text x.detected.ages ++ codes "\n"
    else []

-- the lines of detectors, of which the first one has this number; a detector is named where it is in the first ones of these sums
unfoldable pub detectors_text : ℕ → List DetectorSums → List DetectorSums → List ℕ
detectors_text number [] xs = []
detectors_text number (y ∷ named) [] = []
detectors_text number (y ∷ named) (x ∷ xs) = detector_text number (is_named y) x ++ detectors_text (number + 1) named xs

-- the numbers of the chosen detectors, each behind a colon, where the first one of these has this number
unfoldable pub detectors_of : ℕ → List Bool → List ℕ
detectors_of number [] = []
detectors_of number (b ∷ bs) = (if b then codes ":" ++ decimal number else []) ++ detectors_of (number + 1) bs

-- the group and the detectors that serve it
unfoldable pub serve_name : List (List ℕ) → Serve → List ℕ
serve_name names x = name_of names x.group ++ detectors_of 1 x.detectors

-- the mean of the fronts of a green in tenths, rounded down; each counts one more than it has
abbrev pub mean_served : LongFigures → ℕ
mean_served x = (x.sum - x.count) * 10 / x.count

-- the fewest fronts of a green, their mean and the most; nothing where no green is over
unfoldable pub per_green_text : LongFigures → List ℕ
per_green_text x =
    if x.count == 0 then []
    else pair_text (codes " fewest:") (x.least - 1) ++ codes " mean:" ++ tenths_text (mean_served x) ++ pair_text (codes " most:") (x.most - 1)

-- what detectors saw that serve a group
unfoldable pub seen_text : ServeSums → List ℕ
seen_text x =
    pair_text (codes " in_green:") x.in_green ++ pair_text (codes " not_in_green:") x.not_in_green ++ pair_text (codes " ended:") x.per_green.count
    ++ per_green_text x.per_green ++ pair_text (codes " waits:") x.waits.count
    ++ lengths_text (codes " shortest_wait:") (codes " mean_wait:") (codes " longest_wait:") x.waits

-- the line of detectors that serve a group
unfoldable pub serve_text : List (List ℕ) → Served → List ℕ
serve_text names x = codes "SERVES " ++ serve_name names x.serve ++ seen_text x.sums ++ codes "\n"

-- how many seconds count
abbrev pub counted_in : LogSums → ℕ
counted_in x = x.seconds - (x.from - 1)

-- the line of the seconds, and those of the groups where one counts
unfoldable pub shown_text : List (List ℕ) → LogSums → List ℕ
shown_text names x =
    pair_text (codes "SECONDS ") (counted_in x) ++ codes "\n"
    ++ (if counted_in x == 0 then [] else groups_text x.goes_on x.seconds (counted_in x) names x.groups)

-- the lines of what was refused: stage commands, turns, turns by group and rule, and those before the first green of their group
unfoldable pub refused_text : List (List ℕ) → LogSums → List ℕ
refused_text names x =
    flat_map command_text x.commands.items ++ flat_map (refusal_text (codes "REFUSED ") names) x.turns.items
    ++ flat_map (refusal_text (codes "RULE ") names) x.rules.items ++ flat_map (refusal_text (codes "BEFORE_GREEN ") names) x.early.items

-- the lines of sums, with those of the detectors that are named in these, and of those that serve a group
unfoldable pub lines_text : List (List ℕ) → List DetectorSums → LogSums → List ℕ
lines_text names named x =
    shown_text names x ++ flat_map place_text x.places.items ++ refused_text names x ++ flat_map fault_line x.faults.items
    ++ detectors_text 1 named x.detectors ++ flat_map (serve_text names) x.serves.items

-- the text of sums
abbrev pub sums_text : List (List ℕ) → LogSums → List ℕ
sums_text names x = lines_text names x.detectors x

-- sums of fronts and of seconds that fit
abbrev pub IsServeSmall : ServeSums → Type 0
IsServeSmall x = (x.per_green.sum < 1152921504606846976) × (x.waits.sum < 1152921504606846976)

-- sums of so many groups that a text can be made of them
pub record AreTextual (groups : ℕ) (x : LogSums) : Type 0 where
  pub few : groups ≤ 64
  pub seconds : x.seconds < 2147483648
  pub small : (g : ℕ) (d : GroupSums) → g < groups → IsSmall (slice_index_or x.groups g d)
  pub serves : All (λ s. IsServeSmall s.sums) x.serves.items
