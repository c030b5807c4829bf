-- The table of sums: a row for each number of their text, in the same order. A row tells the first and the last second that count, the
-- word and the name of the line in which the number stands, its key, and the number.
use Rattle.std.specs.Prelude.{ℕ, ◌+◌, ◌-◌, ◌*◌, ◌/◌, ◌==◌, max, Bool, List, [], ◌∷◌, ◌++◌, codes, Some, if◌then◌else◌}
use Rattle.std.specs.List.{flat_map}
use Rattle.std.specs.Fmt.{decimal}
use Rattle.sig_types.specs.declared.numbers.StagePlace.{StagePlace}
use Rattle.sig_types.specs.declared.numbers.StagePlace.TheVariants.{NoPlan, Stage, Inter}
use Rattle.sig_types.specs.declared.refused.Fault.{Fault}
use Rattle.sig_types.specs.declared.refused.StageRefusal.{StageRefusal}
use Rattle.sig_types.specs.declared.refused.TurnRefusal.{TurnRefusal}
use Rattle.signal_log.specs.Log.{fault_text, stage_refusal_text, turn_text}
use Rattle.log_sums.specs.declared.detector.DetectorSums.{DetectorSums}
use Rattle.log_sums.specs.declared.figures.Figures.{Figures}
use Rattle.log_sums.specs.declared.group.GroupSums.{GroupSums}
use Rattle.log_sums.specs.declared.long_figures.LongFigures.{LongFigures}
use Rattle.log_sums.specs.declared.serve_sums.ServeSums.{ServeSums}
use Rattle.log_sums.specs.declared.spells.Spells.{Spells}
use Rattle.log_sums.specs.declared.tally.Counts.{Counts}
use Rattle.log_sums.specs.declared.tally.Tally.{Tally}
use Rattle.log_sums.specs.declared.serves.Served.{Served}
use Rattle.log_sums.specs.declared.sums.LogSums.{LogSums}
use Rattle.sums_text.specs.declared.cells.Item.{Item}
use Rattle.sums_text.specs.declared.cells.Item.TheVariants as item
use Rattle.sums_text.specs.declared.cells.Lead.{Lead}
use Rattle.sums_text.specs.Words.{counted_in, is_named, longest_from, longest_of, mean_of, mean_served, pair_text, serve_name, tenths_text}

-- the names of the columns
abbrev pub head_text : List ℕ
head_text = codes "from,to,line,name,key,value\n"

-- the first and the last second that count
abbrev pub span_text : ℕ → ℕ → List ℕ
span_text from to = decimal from ++ codes "," ++ decimal to ++ codes ","

-- the row of a number: what it is of, its key between commas, and the number
abbrev pub row_text : List ℕ → List ℕ → ℕ → List ℕ
row_text lead key n = lead ++ key ++ decimal n ++ codes "\n"

-- the row of a number of tenths
abbrev pub tenths_row : List ℕ → List ℕ → ℕ → List ℕ
tenths_row lead key tenths = lead ++ key ++ tenths_text tenths ++ codes "\n"

-- the row of a number, and none for 0
unfoldable pub some_row : List ℕ → List ℕ → ℕ → List ℕ
some_row lead key n = if n == 0 then [] else row_text lead key n

-- the shortest, the mean and the longest, by these keys
abbrev pub some_lengths : List ℕ → List ℕ → List ℕ → List ℕ → Figures → List ℕ
some_lengths lead shortest mean longest x = row_text lead shortest x.least ++ tenths_row lead mean (mean_of x) ++ row_text lead longest x.most

-- the same; no row where there is none
unfoldable pub lengths_rows : List ℕ → List ℕ → List ℕ → List ℕ → Figures → List ℕ
lengths_rows lead shortest mean longest x = if x.count == 0 then [] else some_lengths lead shortest mean longest x

-- the greens of a group
unfoldable pub greens_rows : List ℕ → GroupSums → List ℕ
greens_rows lead x =
    row_text lead (codes ",greens,") x.greens.begun.count ++ row_text lead (codes ",ended,") x.greens.over.count
    ++ lengths_rows lead (codes ",shortest,") (codes ",mean,") (codes ",longest,") x.greens.over

-- its longest red
unfoldable pub longest_rows : List ℕ → Bool → ℕ → Spells → List ℕ
longest_rows lead goes_on seconds x =
    row_text lead (codes ",longest_red,") (longest_of goes_on x)
    ++ some_row lead (codes ",longest_red_from,") (if longest_of goes_on x == 0 then 0 else longest_from goes_on seconds x)

-- its share of green in these seconds, and its first green
unfoldable pub share_rows : List ℕ → ℕ → Spells → List ℕ
share_rows lead counted x =
    row_text lead (codes ",seconds,") x.held.count ++ tenths_row lead (codes ",share,") (x.held.count * 1000 / counted)
    ++ some_row lead (codes ",first_green,") x.begun.at

-- its reds
unfoldable pub reds_rows : List ℕ → Spells → List ℕ
reds_rows lead x =
    row_text lead (codes ",reds,") x.begun.count ++ row_text lead (codes ",reds_ended,") x.over.count
    ++ lengths_rows lead (codes ",shortest_red,") (codes ",mean_red,") (codes ",longest_ended_red,") x.over

-- its cycles
unfoldable pub cycles_rows : List ℕ → Figures → List ℕ
cycles_rows lead x =
    row_text lead (codes ",cycles,") x.count ++ lengths_rows lead (codes ",shortest_cycle,") (codes ",mean_cycle,") (codes ",longest_cycle,") x

-- the rows of a group
unfoldable pub group_rows : List ℕ → Bool → ℕ → ℕ → GroupSums → List ℕ
group_rows lead goes_on seconds counted x =
    greens_rows lead x ++ longest_rows lead goes_on seconds x.reds ++ share_rows lead counted x.greens ++ reds_rows lead x.reds
    ++ cycles_rows lead x.cycles.gaps

-- the rows of groups with these names and sums, behind the cells of the seconds
unfoldable pub groups_rows : List ℕ → Bool → ℕ → ℕ → List (List ℕ) → List GroupSums → List ℕ
groups_rows span goes_on seconds counted [] sums = []
groups_rows span goes_on seconds counted (name ∷ names) [] = []
groups_rows span goes_on seconds counted (name ∷ names) (x ∷ sums) =
    group_rows (span ++ (codes "GROUP," ++ name)) goes_on seconds counted x ++ groups_rows span goes_on seconds counted names sums

-- the word and the name of a stage or an interstage
abbrev pub place_cells : StagePlace → List ℕ
place_cells NoPlan = codes "NO_STAGE,"
place_cells (Stage s) = pair_text (codes "STAGE,") s.0
place_cells (Inter a b t) = pair_text (codes "INTERSTAGE,") a.0 ++ pair_text (codes "-") b.0

-- the rows of a stage or an interstage that there was in these seconds
unfoldable pub place_rows : List ℕ → Tally StagePlace → List ℕ
place_rows span x =
    if x.counts.times.count == 0 then []
    else row_text (span ++ place_cells x.key) (codes ",times,") x.counts.begun.count
    ++ row_text (span ++ place_cells x.key) (codes ",seconds,") x.counts.times.count

-- how often something came, in how many seconds, and its longest run of seconds
abbrev pub came_rows : List ℕ → Counts → List ℕ
came_rows lead x =
    row_text lead (codes ",times,") x.times.sum ++ row_text lead (codes ",seconds,") x.times.count
    ++ row_text lead (codes ",longest_run,") x.runs.most ++ row_text lead (codes ",longest_run_from,") (x.runs.at - (x.runs.most - 1))

-- the same; no row where it didn't come
unfoldable pub counts_rows : List ℕ → Counts → List ℕ
counts_rows lead x = if x.times.count == 0 then [] else came_rows lead x

-- the rows of a refused stage command
unfoldable pub command_rows : List ℕ → Tally StageRefusal → List ℕ
command_rows span x = counts_rows (span ++ (codes "REFUSED," ++ stage_refusal_text x.key)) x.counts

-- the rows of a refused turn
unfoldable pub turn_rows : List ℕ → List (List ℕ) → Tally TurnRefusal → List ℕ
turn_rows span names x = counts_rows (span ++ (codes "REFUSED," ++ turn_text names x.key)) x.counts

-- the rows of the turns of a group that a rule refused
unfoldable pub rule_rows : List ℕ → List (List ℕ) → Tally TurnRefusal → List ℕ
rule_rows span names x = counts_rows (span ++ (codes "RULE," ++ turn_text names x.key)) x.counts

-- the rows of those before the group's first green
unfoldable pub early_rows : List ℕ → List (List ℕ) → Tally TurnRefusal → List ℕ
early_rows span names x = counts_rows (span ++ (codes "BEFORE_GREEN," ++ turn_text names x.key)) x.counts

-- the rows of a fault
unfoldable pub fault_rows : List ℕ → Tally Fault → List ℕ
fault_rows span x = counts_rows (span ++ (codes "FAULT," ++ fault_text (Some x.key))) x.counts

-- the largest headway, and the second with a detection behind which it is
unfoldable pub headway_rows : List ℕ → Figures → List ℕ
headway_rows lead x =
    if x.count == 0 then []
    else row_text lead (codes ",largest_headway,") (x.most - 1) ++ row_text lead (codes ",headway_after,") (x.at - (x.most - 1))

-- the rows of a detector, where it is named
unfoldable pub detector_rows : List ℕ → Bool → DetectorSums → List ℕ
detector_rows lead named x =
    if named then row_text lead (codes ",vehicles,") x.fronts.sum ++ row_text lead (codes ",occupied,") x.occupied.held.count
    ++ headway_rows lead x.detected.ages
    else []

-- the rows of detectors, of which the first one has this number; a detector is named where it is in the first ones of these sums
unfoldable pub detectors_rows : List ℕ → ℕ → List DetectorSums → List DetectorSums → List ℕ
detectors_rows span number [] xs = []
detectors_rows span number (y ∷ named) [] = []
detectors_rows span number (y ∷ named) (x ∷ xs) =
    detector_rows (span ++ (codes "DETECTOR," ++ decimal number)) (is_named y) x ++ detectors_rows span (number + 1) named xs

-- the rows of the fewest fronts of a green, their mean and the most
abbrev pub some_per_green : List ℕ → LongFigures → List ℕ
some_per_green lead x =
    row_text lead (codes ",fewest,") (x.least - 1) ++ tenths_row lead (codes ",mean,") (mean_served x) ++ row_text lead (codes ",most,") (x.most - 1)

-- the same; no row where no green is over
unfoldable pub per_green_rows : List ℕ → LongFigures → List ℕ
per_green_rows lead x = if x.count == 0 then [] else some_per_green lead x

-- the rows of what detectors saw that serve a group
unfoldable pub seen_rows : List ℕ → ServeSums → List ℕ
seen_rows lead x =
    row_text lead (codes ",in_green,") x.in_green ++ row_text lead (codes ",not_in_green,") x.not_in_green
    ++ row_text lead (codes ",ended,") x.per_green.count ++ per_green_rows lead x.per_green ++ row_text lead (codes ",waits,") x.waits.count
    ++ lengths_rows lead (codes ",shortest_wait,") (codes ",mean_wait,") (codes ",longest_wait,") x.waits

-- the rows of detectors that serve a group, behind the cells of the seconds
unfoldable pub serve_rows : List ℕ → List (List ℕ) → Served → List ℕ
serve_rows span names x = seen_rows (span ++ (codes "SERVES," ++ serve_name names x.serve)) x.sums

-- the last second that counts; where none does, the one before the first
abbrev pub last_in : LogSums → ℕ
last_in x = max x.seconds (x.from - 1)

-- the cells of the seconds that count
abbrev pub span_of : LogSums → List ℕ
span_of x = span_text x.from (last_in x)

-- the row of the seconds, and those of the groups where one counts
unfoldable pub shown_rows : List (List ℕ) → LogSums → List ℕ
shown_rows names x =
    row_text (span_of x ++ codes "SECONDS,") (codes ",seconds,") (counted_in x)
    ++ (if counted_in x == 0 then [] else groups_rows (span_of x) x.goes_on x.seconds (counted_in x) names x.groups)

-- the rows of what was refused: stage commands, turns, turns by group and rule, and those before the first green of their group
unfoldable pub refused_rows : List (List ℕ) → LogSums → List ℕ
refused_rows names x =
    flat_map (command_rows (span_of x)) x.commands.items ++ flat_map (turn_rows (span_of x) names) x.turns.items
    ++ flat_map (rule_rows (span_of x) names) x.rules.items ++ flat_map (early_rows (span_of x) names) x.early.items

-- the rows of sums, with those of the detectors that are named in these, and of those that serve a group
unfoldable pub sums_rows : List (List ℕ) → List DetectorSums → LogSums → List ℕ
sums_rows names named x =
    shown_rows names x ++ flat_map (place_rows (span_of x)) x.places.items ++ refused_rows names x
    ++ flat_map (fault_rows (span_of x)) x.faults.items ++ detectors_rows (span_of x) 1 named x.detectors
    ++ flat_map (serve_rows (span_of x) names) x.serves.items

-- the table of sums
unfoldable pub table_text : List (List ℕ) → LogSums → List ℕ
table_text names x = head_text ++ sums_rows names x.detectors x

-- what a row is of, as the program holds it
abbrev pub item_text : Item → List ℕ
item_text item.Seconds = codes "SECONDS,"
item_text (item.Group name) = codes "GROUP," ++ name.now
item_text (item.Place place) = place_cells place
item_text (item.Command refusal) = codes "REFUSED," ++ stage_refusal_text refusal
item_text (item.Turn names turn) = codes "REFUSED," ++ turn_text names.now turn
item_text (item.Rule names turn) = codes "RULE," ++ turn_text names.now turn
item_text (item.Early names turn) = codes "BEFORE_GREEN," ++ turn_text names.now turn
item_text (item.Fault fault) = codes "FAULT," ++ fault_text (Some fault)
item_text (item.Detector number) = codes "DETECTOR," ++ decimal number
item_text (item.Serve names serve) = codes "SERVES," ++ serve_name names.now serve

-- the cells before the key
abbrev pub lead_text : Lead → List ℕ
lead_text lead = span_text lead.from lead.to ++ item_text lead.item
