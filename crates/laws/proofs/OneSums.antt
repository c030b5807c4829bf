-- What the seconds of a log add up to is one thing, and so is its text.
use Rattle.std.proofs.Common.{◌≡◌, ◌∙◌, ℕ, zero, suc, ◌+◌, ◌-◌, ◌*◌, ◌<◌, ◌≤◌, ◌==◌, true, false, Bool, List, [], ◌∷◌, ◌++◌, length, map, take, Option, None, Some, Result, Ok, Err, refl, sym, ap, arith, subst, inl, inr}
use Rattle.std.proofs.lemmas.Bool.{cases_lt}
use Rattle.std.proofs.lemmas.List.{length-take}
use Rattle.std.specs.Io.KnownBytes.{append_known}
use Rattle.std.specs.List.{flat_map}
use Rattle.std.specs.Prelude.{All, MatchOption, codes, if◌then◌else◌, max, min, slice_index_or}
use Rattle.sig_io.specs.Outside.{Contents}
use Rattle.sig_types.specs.declared.aspect.Aspect.{Aspect}
use Rattle.sig_types.specs.declared.aspect.Aspect.TheVariants.{Red}
use Rattle.sig_types.specs.declared.record.Record.{Record}
use Rattle.log_read.specs.declared.begin.Begin.TheVariants.{AtOne}
use Rattle.log_read.specs.declared.refusal.LogWhy.{LogWhy}
use Rattle.log_read.specs.declared.refusal.LogWhy.TheVariants as why
use Rattle.log_read.specs.Laws.{OneFound, OneHeader}
use Rattle.log_read.specs.Log.{line_at, line_reason}
use Rattle.log_read.specs.Readings.{IsRecords, records_by}
use Rattle.log_read.specs.Watchers.{told_lines}
use Rattle.log_read.proofs.LogLemmas.{too_many}
use Rattle.log_sums.specs.declared.detector.DetectorSums.{DetectorSums}
use Rattle.log_sums.specs.declared.figures.Figures.{Figures}
use Rattle.log_sums.specs.declared.gaps.Gaps.{Gaps}
use Rattle.log_sums.specs.declared.group.GroupSums.{GroupSums}
use Rattle.log_sums.specs.declared.long_figures.LongFigures.{LongFigures}
use Rattle.log_sums.specs.declared.serve_sums.ServeSums.{ServeSums}
use Rattle.log_sums.specs.declared.serves.Serve.{Serve}
use Rattle.log_sums.specs.declared.serves.Served.{Served}
use Rattle.log_sums.specs.declared.spells.Spells.{Spells}
use Rattle.log_sums.specs.declared.sums.LogSums.{LogSums}
use Rattle.log_sums.specs.declared.tally.Counts.{Counts}
use Rattle.log_sums.specs.declared.tally.Tally.{Tally}
use Rattle.log_sums.specs.Detectors.{AreDetectorSums}
use Rattle.log_sums.specs.Groups.{AreGroupSums}
use Rattle.log_sums.specs.Parts.{AreParts, begin_of, end_of}
use Rattle.log_sums.specs.Series.{AreFigures, AreLongFigures}
use Rattle.log_sums.specs.ServeSums.{AreServeSums}
use Rattle.log_sums.specs.Serves.{AreServed, fronts_of, serves_of}
use Rattle.log_sums.specs.Spells.{AreGaps, AreSpells}
use Rattle.log_sums.specs.Summed.{AreSums, AreSumsOf}
use Rattle.log_sums.specs.Tallies.{AreCounts, AreTallies, times_of}
use Rattle.log_sums.specs.Told.{shown_by, told}
use Rattle.sums_text.specs.Parts.{named_in, part_text, parts_rows, parts_table, parts_text}
use Rattle.sums_text.specs.Table.{command_rows, detectors_rows, early_rows, fault_rows, group_rows, groups_rows, head_text, last_in, place_rows, refused_rows, row_text, rule_rows, serve_rows, shown_rows, span_of, span_text, sums_rows, table_text, turn_rows}
use Rattle.sums_text.specs.Words.{command_text, counted_in, detectors_text, fault_line, group_text, groups_text, lines_text, pair_text, place_text, refusal_text, refused_text, serve_text, shown_text, sums_text}

-- ---- what counts add up to

figures_once : (f : ℕ → ℕ) (n : ℕ) (x y : Figures) → AreFigures f n x → AreFigures f n y → x ≡ y
figures_once f n x y a b = λ i. record {
  count = (a.count ∙ sym b.count) i;
  sum = (a.sum ∙ sym b.sum) i;
  least = (a.least ∙ sym b.least) i;
  most = (a.most ∙ sym b.most) i;
  at = (a.at ∙ sym b.at) i;
}

long_once : (f : ℕ → ℕ) (n : ℕ) (x y : LongFigures) → AreLongFigures f n x → AreLongFigures f n y → x ≡ y
long_once f n x y a b = λ i. record {
  count = (a.count ∙ sym b.count) i;
  sum = (a.sum ∙ sym b.sum) i;
  least = (a.least ∙ sym b.least) i;
  most = (a.most ∙ sym b.most) i;
}

spells_once : (h : ℕ → Bool) (from n : ℕ) (x y : Spells) → AreSpells h from n x → AreSpells h from n y → x ≡ y
spells_once h from n x y a b = λ i. record {
  run = (a.run_is ∙ sym b.run_is) i;
  held = figures_once _ n x.held y.held a.held_are b.held_are i;
  begun = figures_once _ n x.begun y.begun a.begun_are b.begun_are i;
  over = figures_once _ n x.over y.over a.over_are b.over_are i;
}

gaps_once : (h : ℕ → Bool) (from n : ℕ) (x y : Gaps) → AreGaps h from n x → AreGaps h from n y → x ≡ y
gaps_once h from n x y a b = λ i. record {
  last = (a.last_is ∙ sym b.last_is) i;
  gaps = figures_once _ n x.gaps y.gaps a.gaps_are b.gaps_are i;
  ages = figures_once _ n x.ages y.ages a.ages_are b.ages_are i;
}

group_once : (a : ℕ → Aspect) (from n : ℕ) (x y : GroupSums) → AreGroupSums a from n x → AreGroupSums a from n y → x ≡ y
group_once a from n x y p q = λ i. record {
  greens = spells_once _ from n x.greens y.greens p.greens_are q.greens_are i;
  reds = spells_once _ from n x.reds y.reds p.reds_are q.reds_are i;
  cycles = gaps_once _ from n x.cycles y.cycles p.cycles_are q.cycles_are i;
}

detector_once : (fronts rears : ℕ → ℕ) (from n : ℕ) (x y : DetectorSums) → AreDetectorSums fronts rears from n x →
    AreDetectorSums fronts rears from n y → x ≡ y
detector_once fronts rears from n x y p q = λ i. record {
  fronts = figures_once _ n x.fronts y.fronts p.fronts_are q.fronts_are i;
  fronts_so_far = (p.fronts_so_far ∙ sym q.fronts_so_far) i;
  rears_so_far = (p.rears_so_far ∙ sym q.rears_so_far) i;
  occupied = spells_once _ from n x.occupied y.occupied p.occupied_are q.occupied_are i;
  detected = gaps_once _ from n x.detected y.detected p.detected_are q.detected_are i;
}

counts_once : (c : ℕ → ℕ) (from n : ℕ) (x y : Counts) → AreCounts c from n x → AreCounts c from n y → x ≡ y
counts_once c from n x y p q = λ i. record {
  times = figures_once _ n x.times y.times p.times_are q.times_are i;
  run = (p.run_is ∙ sym q.run_is) i;
  begun = figures_once _ n x.begun y.begun p.begun_are q.begun_are i;
  runs = figures_once _ n x.runs y.runs p.runs_are q.runs_are i;
}

seen_once : (a : ℕ → Aspect) (f : ℕ → ℕ) (from n : ℕ) (x y : ServeSums) → AreServeSums a f from n x → AreServeSums a f from n y → x ≡ y
seen_once a f from n x y p q = λ i. record {
  run = (p.run_is ∙ sym q.run_is) i;
  served = (p.served_is ∙ sym q.served_is) i;
  waiting = (p.waiting_is ∙ sym q.waiting_is) i;
  in_green = (p.in_green_is ∙ sym q.in_green_is) i;
  not_in_green = (p.not_in_green_is ∙ sym q.not_in_green_is) i;
  per_green = long_once _ n x.per_green y.per_green p.per_green_are q.per_green_are i;
  waits = figures_once _ n x.waits y.waits p.waits_are q.waits_are i;
}

-- the first element, and those behind it
abbrev first_or : {A : Type 0} → A → List A → A
first_or d [] = d
first_or d (x ∷ xs) = x

abbrev behind : {A : Type 0} → List A → List A
behind [] = []
behind (x ∷ xs) = xs

no_nil : {A : Type 0} (x : A) (xs : List A) → [] ≡ x ∷ xs → ⊥
no_nil x xs same = let size = ap length same in omega (arith, size)

-- tallies of the same things are one list
module _ {K : Type 0} (code : K → ℕ) (items : ℕ → List K) (from n : ℕ) where
  pub counted_once : (xs ys : List (Tally K)) → map (λ x. x.key) xs ≡ map (λ x. x.key) ys →
      All (λ x. AreCounts (times_of code items (code x.key)) from n x.counts) xs →
      All (λ x. AreCounts (times_of code items (code x.key)) from n x.counts) ys → xs ≡ ys
  counted_once [] [] keys p q = refl
  counted_once [] (y ∷ ys) keys p q = absurd (no_nil y.key (map (λ x. x.key) ys) keys)
  counted_once (x ∷ xs) [] keys p q = absurd (no_nil x.key (map (λ x. x.key) xs) (sym keys))
  counted_once (x ∷ xs) (y ∷ ys) keys p q =
      let key : x.key ≡ y.key = ap (first_or x.key) keys in
      let counts : x.counts ≡ y.counts = counts_once (times_of code items (code y.key)) from n x.counts y.counts
      (subst (λ k. AreCounts (times_of code items (code k)) from n x.counts) key (p 0 x (omega arith))) (q 0 y (omega arith)) in
      let rest : xs ≡ ys = counted_once xs ys (ap behind keys) (λ k d lt. p (suc k) d (omega arith)) (λ k d lt. q (suc k) d (omega arith)) in
      λ i. record { key = key i; counts = counts i } ∷ rest i

  pub tallies_once : (xs ys : List (Tally K)) → AreTallies code items from n xs → AreTallies code items from n ys → xs ≡ ys
  tallies_once xs ys p q = counted_once xs ys (p.keys_are ∙ sym q.keys_are) p.each q.each

-- what detectors saw that serve the same groups is one list
served_once : (from : ℕ) (records : List Record) (xs ys : List Served) → serves_of xs ≡ serves_of ys → AreServed from records xs →
    AreServed from records ys → xs ≡ ys
served_once from records [] [] serves p q = refl
served_once from records [] (y ∷ ys) serves p q = absurd (no_nil y.serve (serves_of ys) serves)
served_once from records (x ∷ xs) [] serves p q = absurd (no_nil x.serve (serves_of xs) (sym serves))
served_once from records (x ∷ xs) (y ∷ ys) serves p q =
    let serve : x.serve ≡ y.serve = ap (first_or x.serve) serves in
    let of : Serve → Type 0 = λ s. AreServeSums (told (shown_by s.group.0) Red records) (told (fronts_of s.detectors) 0 records) from (length records) x.sums in
    let sums : x.sums ≡ y.sums = seen_once (told (shown_by y.serve.group.0) Red records) (told (fronts_of y.serve.detectors) 0 records) from
    (length records) x.sums y.sums (subst of serve (p 0 x (omega arith))) (q 0 y (omega arith)) in
    let rest : xs ≡ ys = served_once from records xs ys (ap behind serves) (λ k d lt. p (suc k) d (omega arith)) (λ k d lt. q (suc k) d (omega arith)) in
    λ i. record { serve = serve i; sums = sums i } ∷ rest i

-- lists of detectors that agree in each place are one
same_detectors : (xs ys : List DetectorSums) → length xs ≡ length ys →
    ((p : ℕ) (d : DetectorSums) → p < length xs → slice_index_or xs p d ≡ slice_index_or ys p d) → xs ≡ ys
same_detectors [] [] size each = refl
same_detectors [] (y ∷ ys) size each = absurd (omega (arith, size))
same_detectors (x ∷ xs) [] size each = absurd (omega (arith, size))
same_detectors (x ∷ xs) (y ∷ ys) size each =
    ap (λ v. v ∷ xs) (each 0 x (omega arith))
    ∙ ap (λ vs. y ∷ vs) (same_detectors xs ys (omega (arith, size)) (λ p d lt. each (suc p) d (omega arith)))

-- ---- sums that are told alike

-- the first groups are the same
abbrev pub Agree : ℕ → List GroupSums → List GroupSums → Type 0
Agree n xs ys = (g : ℕ) (d : GroupSums) → g < n → slice_index_or xs g d ≡ slice_index_or ys g d

-- sums of so many groups of which the same is told
pub record AreAlike (groups : ℕ) (x y : LogSums) : Type 0 where
  pub from : x.from ≡ y.from
  pub seconds : x.seconds ≡ y.seconds
  pub goes_on : x.goes_on ≡ y.goes_on
  pub groups_are : Agree groups x.groups y.groups
  pub detectors : x.detectors ≡ y.detectors
  pub places : x.places.items ≡ y.places.items
  pub commands : x.commands.items ≡ y.commands.items
  pub turns : x.turns.items ≡ y.turns.items
  pub rules : x.rules.items ≡ y.rules.items
  pub early : x.early.items ≡ y.early.items
  pub faults : x.faults.items ≡ y.faults.items
  pub serves : x.serves.items ≡ y.serves.items

-- the seconds of a log have one sum
pub sums_once : (groups from to : ℕ) (records : List Record) (x y : LogSums) → length records ≤ 604801 →
    serves_of x.serves.items ≡ serves_of y.serves.items → AreSumsOf groups from to records x → AreSumsOf groups from to records y → AreAlike groups x y
sums_once groups from to records x y few serves p q =
    let rs = take to records in
    let short : length rs < 1048576 = omega (arith, length-take to records, few) in
    record {
      from = p.from_is ∙ sym q.from_is;
      seconds = p.sums.seconds_are ∙ sym q.sums.seconds_are;
      goes_on = p.goes_on ∙ sym q.goes_on;
      groups_are = λ g d lt. group_once (told (shown_by g) Red rs) from (length rs) (slice_index_or x.groups g d) (slice_index_or y.groups g d)
          (p.sums.groups_are g d lt) (q.sums.groups_are g d lt);
      detectors = same_detectors x.detectors y.detectors (p.sums.size ∙ sym q.sums.size) (λ k d lt.
          detector_once _ _ from (length rs) (slice_index_or x.detectors k d) (slice_index_or y.detectors k d)
          (p.sums.detectors_are k d (omega (arith, lt, p.sums.size))) (q.sums.detectors_are k d (omega (arith, lt, p.sums.size))));
      places = tallies_once _ _ from (length rs) x.places.items y.places.items p.sums.places_are q.sums.places_are;
      commands = tallies_once _ _ from (length rs) x.commands.items y.commands.items p.sums.commands_are q.sums.commands_are;
      turns = tallies_once _ _ from (length rs) x.turns.items y.turns.items p.sums.turns_are q.sums.turns_are;
      rules = tallies_once _ _ from (length rs) x.rules.items y.rules.items p.sums.rules_are q.sums.rules_are;
      early = tallies_once _ _ from (length rs) x.early.items y.early.items p.sums.early_are q.sums.early_are;
      faults = tallies_once _ _ from (length rs) x.faults.items y.faults.items p.sums.faults_are q.sums.faults_are;
      serves = served_once from rs x.serves.items y.serves.items serves (p.sums.serves_are short) (q.sums.serves_are short);
    }

-- ---- the texts of groups

zeros : Figures
zeros = record { count = 0; sum = 0; least = 0; most = 0; at = 0 }

-- a group whose counts are these
abbrev group_of : ℕ → GroupSums
group_of n = record {
  greens = record { run = n; held = zeros; begun = zeros; over = zeros };
  reds = record { run = 0; held = zeros; begun = zeros; over = zeros };
  cycles = record { last = 0; gaps = zeros; ages = zeros };
}

-- no group is each group
not_each : (y : GroupSums) → ((d : GroupSums) → d ≡ y) → ⊥
not_each y each = let same : 0 ≡ 1 = ap (λ d. d.greens.run) (each (group_of 0) ∙ sym (each (group_of 1))) in omega (arith, same)

groups_told : (goes_on : Bool) (seconds counted : ℕ) (names : List (List ℕ)) (xs ys : List GroupSums) → Agree (length names) xs ys →
    groups_text goes_on seconds counted names xs ≡ groups_text goes_on seconds counted names ys
unfolding groups_text
groups_told goes_on seconds counted [] xs ys agree = refl
groups_told goes_on seconds counted (name ∷ names) [] [] agree = refl
groups_told goes_on seconds counted (name ∷ names) [] (y ∷ ys) agree = absurd (not_each y (λ d. agree 0 d (omega arith)))
groups_told goes_on seconds counted (name ∷ names) (x ∷ xs) [] agree = absurd (not_each x (λ d. sym (agree 0 d (omega arith))))
groups_told goes_on seconds counted (name ∷ names) (x ∷ xs) (y ∷ ys) agree =
    let first : x ≡ y = agree 0 x (omega arith) in
    let rest = groups_told goes_on seconds counted names xs ys (λ g d lt. agree (suc g) d (omega (arith, lt))) in
    λ i. group_text name goes_on seconds counted (first i) ++ rest i

groups_rowed : (span : List ℕ) (goes_on : Bool) (seconds counted : ℕ) (names : List (List ℕ)) (xs ys : List GroupSums) → Agree (length names) xs ys →
    groups_rows span goes_on seconds counted names xs ≡ groups_rows span goes_on seconds counted names ys
unfolding groups_rows
groups_rowed span goes_on seconds counted [] xs ys agree = refl
groups_rowed span goes_on seconds counted (name ∷ names) [] [] agree = refl
groups_rowed span goes_on seconds counted (name ∷ names) [] (y ∷ ys) agree = absurd (not_each y (λ d. agree 0 d (omega arith)))
groups_rowed span goes_on seconds counted (name ∷ names) (x ∷ xs) [] agree = absurd (not_each x (λ d. sym (agree 0 d (omega arith))))
groups_rowed span goes_on seconds counted (name ∷ names) (x ∷ xs) (y ∷ ys) agree =
    let first : x ≡ y = agree 0 x (omega arith) in
    let rest = groups_rowed span goes_on seconds counted names xs ys (λ g d lt. agree (suc g) d (omega (arith, lt))) in
    λ i. group_rows (span ++ (codes "GROUP," ++ name)) goes_on seconds counted (first i) ++ rest i

-- ---- the texts of sums

module _ (names : List (List ℕ)) (x y : LogSums) (alike : AreAlike (length names) x y) where
  -- how many seconds count
  counted : counted_in x ≡ counted_in y
  counted i = alike.seconds i - (alike.from i - 1)

  -- the cells of the seconds that count
  span : span_of x ≡ span_of y
  span i = span_text (alike.from i) (max (alike.seconds i) (alike.from i - 1))

  shown_alike : shown_text names x ≡ shown_text names y
  unfolding shown_text
  shown_alike =
      let groups = groups_told y.goes_on y.seconds (counted_in y) names x.groups y.groups alike.groups_are in
      (λ i. pair_text (codes "SECONDS ") (counted i) ++ codes "\n"
      ++ (if counted i == 0 then [] else groups_text (alike.goes_on i) (alike.seconds i) (counted i) names x.groups))
      ∙ ap (λ t. pair_text (codes "SECONDS ") (counted_in y) ++ codes "\n" ++ (if counted_in y == 0 then [] else t)) groups

  refused_alike : refused_text names x ≡ refused_text names y
  unfolding refused_text
  refused_alike i =
      flat_map command_text (alike.commands i) ++ flat_map (refusal_text (codes "REFUSED ") names) (alike.turns i)
      ++ flat_map (refusal_text (codes "RULE ") names) (alike.rules i) ++ flat_map (refusal_text (codes "BEFORE_GREEN ") names) (alike.early i)

  pub lines_alike : (named other : List DetectorSums) → named ≡ other → lines_text names named x ≡ lines_text names other y
  unfolding lines_text
  lines_alike named other same i =
      shown_alike i ++ flat_map place_text (alike.places i) ++ refused_alike i ++ flat_map fault_line (alike.faults i)
      ++ detectors_text 1 (same i) (alike.detectors i) ++ flat_map (serve_text names) (alike.serves i)

  shown_rowed : shown_rows names x ≡ shown_rows names y
  unfolding shown_rows
  shown_rowed =
      let groups = groups_rowed (span_of y) y.goes_on y.seconds (counted_in y) names x.groups y.groups alike.groups_are in
      (λ i. row_text (span i ++ codes "SECONDS,") (codes ",seconds,") (counted i)
      ++ (if counted i == 0 then [] else groups_rows (span i) (alike.goes_on i) (alike.seconds i) (counted i) names x.groups))
      ∙ ap (λ t. row_text (span_of y ++ codes "SECONDS,") (codes ",seconds,") (counted_in y) ++ (if counted_in y == 0 then [] else t)) groups

  refused_rowed : refused_rows names x ≡ refused_rows names y
  unfolding refused_rows
  refused_rowed i =
      flat_map (command_rows (span i)) (alike.commands i) ++ flat_map (turn_rows (span i) names) (alike.turns i)
      ++ flat_map (rule_rows (span i) names) (alike.rules i) ++ flat_map (early_rows (span i) names) (alike.early i)

  pub rows_alike : (named other : List DetectorSums) → named ≡ other → sums_rows names named x ≡ sums_rows names other y
  unfolding sums_rows
  rows_alike named other same i =
      shown_rowed i ++ flat_map (place_rows (span i)) (alike.places i) ++ refused_rowed i ++ flat_map (fault_rows (span i)) (alike.faults i)
      ++ detectors_rows (span i) 1 (same i) (alike.detectors i) ++ flat_map (serve_rows (span i) names) (alike.serves i)

  pub table_alike : table_text names x ≡ table_text names y
  unfolding table_text
  table_alike i = head_text ++ rows_alike x.detectors y.detectors alike.detectors i

  part_alike : (named other : List DetectorSums) → named ≡ other → part_text names named x ≡ part_text names other y
  unfolding part_text
  part_alike named other same i =
      pair_text (codes "PART ") (alike.from i) ++ pair_text (codes "-") (max (alike.seconds i) (alike.from i - 1)) ++ codes "\n"
      ++ lines_alike named other same i

-- ---- parts

-- parts that are told alike, one after another
abbrev pub AreAllAlike : ℕ → List LogSums → List LogSums → Type 0
AreAllAlike groups [] [] = Unit {0}
AreAllAlike groups [] (y ∷ ys) = ⊥
AreAllAlike groups (x ∷ xs) [] = ⊥
AreAllAlike groups (x ∷ xs) (y ∷ ys) = AreAlike groups x y × AreAllAlike groups xs ys

named_alike : (groups : ℕ) (xs ys : List LogSums) → AreAllAlike groups xs ys → named_in xs ≡ named_in ys
named_alike groups [] [] alike = refl
named_alike groups [] (y ∷ ys) alike = absurd alike
named_alike groups (x ∷ xs) [] alike = absurd alike
named_alike groups (x ∷ []) (y ∷ []) alike = alike.0.detectors
named_alike groups (x ∷ []) (y ∷ z ∷ zs) alike = absurd alike.1
named_alike groups (x ∷ w ∷ ws) (y ∷ []) alike = absurd alike.1
named_alike groups (x ∷ w ∷ ws) (y ∷ z ∷ zs) alike = named_alike groups (w ∷ ws) (z ∷ zs) alike.1

parts_told : (names : List (List ℕ)) (named other : List DetectorSums) → named ≡ other → (xs ys : List LogSums) → AreAllAlike (length names) xs ys →
    flat_map (part_text names named) xs ≡ flat_map (part_text names other) ys
parts_told names named other same [] [] alike = refl
parts_told names named other same [] (y ∷ ys) alike = absurd alike
parts_told names named other same (x ∷ xs) [] alike = absurd alike
parts_told names named other same (x ∷ xs) (y ∷ ys) alike =
    let rest = parts_told names named other same xs ys alike.1 in λ i. part_alike names x y alike.0 named other same i ++ rest i

parts_rowed : (names : List (List ℕ)) (named other : List DetectorSums) → named ≡ other → (xs ys : List LogSums) → AreAllAlike (length names) xs ys →
    flat_map (sums_rows names named) xs ≡ flat_map (sums_rows names other) ys
parts_rowed names named other same [] [] alike = refl
parts_rowed names named other same [] (y ∷ ys) alike = absurd alike
parts_rowed names named other same (x ∷ xs) [] alike = absurd alike
parts_rowed names named other same (x ∷ xs) (y ∷ ys) alike =
    let rest = parts_rowed names named other same xs ys alike.1 in λ i. rows_alike names x y alike.0 named other same i ++ rest i

pub parts_alike : (names : List (List ℕ)) (xs ys : List LogSums) → AreAllAlike (length names) xs ys → parts_text names xs ≡ parts_text names ys
parts_alike names xs ys alike = parts_told names (named_in xs) (named_in ys) (named_alike (length names) xs ys alike) xs ys alike

pub parts_table_alike : (names : List (List ℕ)) (xs ys : List LogSums) → AreAllAlike (length names) xs ys → parts_table names xs ≡ parts_table names ys
unfolding parts_table
parts_table_alike names xs ys alike =
    let rows = parts_rowed names (named_in xs) (named_in ys) (named_alike (length names) xs ys alike) xs ys alike in λ i. head_text ++ rows i

-- parts of one number that are alike in each place
all_alike : (groups : ℕ) (xs ys : List LogSums) → length xs ≡ length ys →
    ((i : ℕ) (d e : LogSums) → i < length xs → AreAlike groups (slice_index_or xs i d) (slice_index_or ys i e)) → AreAllAlike groups xs ys
all_alike groups [] [] size each = tt
all_alike groups [] (y ∷ ys) size each = omega (arith, size)
all_alike groups (x ∷ xs) [] size each = omega (arith, size)
all_alike groups (x ∷ xs) (y ∷ ys) size each =
    (each 0 x y (omega arith), all_alike groups xs ys (omega (arith, size)) (λ i d e lt. each (suc i) d e (omega arith)))

-- there are not more parts than there are
not_more : (groups from each to : ℕ) (serves : List Serve) (records : List Record) (xs ys : List LogSums) → AreParts groups from each to serves records xs →
    AreParts groups from each to serves records ys → length xs < length ys → ⊥
not_more groups from each to serves records xs ys p q less =
    let begun = q.begun (length xs) p.some less in omega (arith, begun, p.all)

pub parts_once : (groups from each to : ℕ) (serves : List Serve) (records : List Record) (xs ys : List LogSums) → length records ≤ 604801 →
    AreParts groups from each to serves records xs → AreParts groups from each to serves records ys → AreAllAlike groups xs ys
parts_once groups from each to serves records xs ys few p q =
    let size : length xs ≡ length ys = elim (cases_lt (length xs) (length ys)) [
      | inl less ↦ absurd (not_more groups from each to serves records xs ys p q less)
      | inr ge ↦ elim (cases_lt (length ys) (length xs)) [
        | inl less ↦ absurd (not_more groups from each to serves records ys xs q p less)
        | inr le ↦ omega (arith, ge, le)
      ]
    ] in
    all_alike groups xs ys size (λ i d e lt.
    sums_once groups (begin_of from each i) (end_of from each to i) records (slice_index_or xs i d) (slice_index_or ys i e) few
    (p.serves_are i d lt ∙ sym (q.serves_are i e (omega (arith, lt, size)))) (p.sums i d lt) (q.sums i e (omega (arith, lt, size))))

-- ---- how many records a log has

no_refusal : (w : LogWhy) → None ≡ Some w → ⊥
no_refusal w same = cc

-- a log that is accepted has at most 604,801 records
pub few_records : (names : List (List ℕ)) (bytes : List ℕ) (records : List Record) → IsRecords false AtOne names bytes records None →
    length records ≤ 604801
few_records names bytes records log = elim (cases_lt 604801 (length records)) [
  | inl many ↦
      let entries = log.0 in
      let last : ℕ = 604802 in
      let inside : last < length (told_lines bytes) = omega (arith, many, entries.count) in
      absurd (no_refusal why.TooManySeconds (sym (entries.accepted last inside) ∙ too_many (records_by false names) 1 last (line_at (told_lines bytes) last)
      (omega arith)))
  | inr le ↦ omega (arith, le)
]
