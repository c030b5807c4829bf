-- The rules of a site's files are a site's.
use Rattle.std.proofs.Common.{◌≡◌, ℕ, zero, suc, ◌≤◌, ◌==◌, Bool, true, false, if◌then◌else◌, List, [], ◌∷◌, ◌++◌, length, Option, None, Some, Result, Ok, Err, ap, subst, arith, inl, inr}
use Rattle.std.proofs.lemmas.Bool.{cases_lt, le-leb, lt-leb}
use Rattle.sig_io.specs.Outside.{Contents}
use Rattle.sig_types.specs.Text.{number_of, within}
use Rattle.pua_model.specs.Plan.{PlanOf, groups_in}
use Rattle.sig_tables.specs.declared.times.TimesRow.{TimesRow}
use Rattle.sig_tables.specs.SiteRules.{rules_by}
use Rattle.sig_tables.specs.Records.{Row, field}
use Rattle.sig_tables.specs.TimesTable.{listed_times, min_red_in, no_times, row_of, times_below, times_in, times_of, times_or, times_with}
use Rattle.controller.specs.Past.{Site}
use Rattle.sig_response.specs.Laws.{ShowsWhatIsWished}
use Rattle.junction_run.specs.Form.{SiteWords}
use Rattle.junction_run.specs.Loading.{◌>>=◌, Unloaded, intergreens_at, plan_at, site_of, times_at}
use Rattle.junction_run.proofs.LoadedRuns.{judged_right, site_sound, steps}
use Rattle.laws.specs.WorstCases.{FilesGiveSites, WorstCaseIsShown}

-- ---- a row

-- its minimum green and its minimum red are a second at least
record IsWhole (row : TimesRow) : Type 0 where
  pub green : 1 ≤ row.min
  pub red : 1 ≤ row.min_red

-- a number, where there is one, is 1 at least
abbrev AtLeastOne : Option ℕ → Type 0
AtLeastOne None = Unit {0}
AtLeastOne (Some n) = 1 ≤ n

number_low : (n : ℕ) → AtLeastOne (within 1 255 (Some n))
number_low n = elim (cases_lt n 1) [
  | inl low ↦ rw (lt-leb 1 n low) tt
  | inr from ↦ elim (cases_lt 255 n) [
    | inl high ↦ rw (le-leb 1 n from, lt-leb n 255 high) tt
    | inr to ↦ rw (le-leb 1 n from, le-leb n 255 to) from
  ]
]

within_low : (o : Option ℕ) → AtLeastOne (within 1 255 o)
within_low None = tt
within_low (Some n) = number_low n

one_or : (c : Bool) (o : Option ℕ) → AtLeastOne o → AtLeastOne (if c then Some 1 else o)
one_or true o low = omega arith
one_or false o low = low

none_whole : IsWhole no_times
none_whole = record { green = omega arith; red = omega arith }

with_whole : (a b c d : Option ℕ) → AtLeastOne a → AtLeastOne d → IsWhole (times_or (times_with a b c d))
with_whole None b c d green red = none_whole
with_whole (Some a) None c d green red = none_whole
with_whole (Some a) (Some b) None d green red = none_whole
with_whole (Some a) (Some b) (Some c) None green red = none_whole
with_whole (Some a) (Some b) (Some c) (Some d) green red = record { green = green; red = red }

row_whole : (row : Row) → IsWhole (times_or (times_in row))
unfolding times_in
row_whole row =
    with_whole (within 1 255 (number_of (field row 1))) (within 0 9 (number_of (field row 2))) (within 0 9 (number_of (field row 3)))
    (min_red_in row) (within_low (number_of (field row 1)))
    (one_or (length row == 4) (within 1 255 (number_of (field row 4))) (within_low (number_of (field row 4))))

listed_or : (c : Bool) (x : TimesRow) (o : Option TimesRow) → IsWhole x → IsWhole (times_or o) → IsWhole (times_or (if c then Some x else o))
listed_or true x o here there = here
listed_or false x o here there = there

listed_whole : (plan : PlanOf) (rows : List Row) (g : ℕ) → IsWhole (times_or (listed_times plan rows g))
unfolding listed_times
listed_whole plan [] g = none_whole
listed_whole plan (row ∷ rows) g =
    listed_or _ (times_or (times_in row)) (listed_times plan rows g) (row_whole row) (listed_whole plan rows g)

-- ---- a table

abbrev AllWhole : List TimesRow → Type 0
AllWhole [] = Unit {0}
AllWhole (x ∷ xs) = IsWhole x × AllWhole xs

whole_more : (xs : List TimesRow) (x : TimesRow) → AllWhole xs → IsWhole x → AllWhole (xs ++ x ∷ [])
whole_more [] x all is = (is, tt)
whole_more (y ∷ ys) x all is = (all.0, whole_more ys x all.1 is)

whole_at : (xs : List TimesRow) (g : ℕ) → AllWhole xs → IsWhole (row_of xs g)
whole_at [] g all = none_whole
whole_at (x ∷ xs) zero all = all.0
whole_at (x ∷ xs) (suc g) all = whole_at xs g all.1

below_whole : (plan : PlanOf) (rows : List Row) (n : ℕ) → AllWhole (times_below plan rows n)
unfolding times_below
below_whole plan rows zero = tt
below_whole plan rows (suc n) =
    whole_more (times_below plan rows n) (times_or (listed_times plan rows n)) (below_whole plan rows n) (listed_whole plan rows n)

table_whole : (plan : PlanOf) (text : List ℕ) → AllWhole (times_of plan text)
unfolding times_of
table_whole plan text = below_whole plan _ (groups_in plan)

-- ---- a site

-- whose minimum greens and minimum reds are those of a table
abbrev HasLow : Site → Type 0
HasLow site = ((g : ℕ) → 1 ≤ site.rules.minimum_green g) × ((g : ℕ) → 1 ≤ site.rules.minimum_red g)

low_by : (plan : PlanOf) (rows : List TimesRow) (between : ℕ → ℕ → Option ℕ) → AllWhole rows →
    HasLow (record { plan = plan; rules = rules_by rows between })
low_by plan rows between all = (λ g. (whole_at rows g all).green, λ g. (whole_at rows g all).red)

abbrev site_or : Site → Result Site Unloaded → Site
site_or other (Ok site) = site
site_or other (Err u) = other

site_low : (words : SiteWords) (file : Contents) (site : Site) → site_of words file ≡ Ok site → HasLow site
site_low words file site is =
    let one = steps (plan_at file words.plan)
    (λ plan. times_at file words.times plan >>= λ times. intergreens_at file words.intergreens plan >>= λ between. Ok
    (record { plan = plan; rules = rules_by times between })) site is in
    let plan : PlanOf = one.value in
    let two = steps (times_at file words.times plan)
    (λ times. intergreens_at file words.intergreens plan >>= λ between. Ok (record { plan = plan; rules = rules_by times between })) site one.rest in
    let three = steps (intergreens_at file words.intergreens plan) (λ between. Ok (record { plan = plan; rules = rules_by two.value between })) site two.rest in
    let times = judged_right words.times (file words.times) _ (times_of plan (file words.times)) two.value two.first in
    let all : AllWhole two.value = subst AllWhole times.1 (table_whole plan (file words.times)) in
    subst HasLow (ap (site_or site) three.rest) (low_by plan two.value three.value all)

pub files_give_sites : FilesGiveSites
files_give_sites words file site is =
    let low = site_low words file site is in
    record { two_way = (site_sound words file site is).two; green = λ g lt. low.0 g; red = λ g lt. low.1 g }

pub worst_case_is_shown : ShowsWhatIsWished → WorstCaseIsShown
worst_case_is_shown shown words file site worst history wishes seconds site_is is past safe apart enough =
    shown site.rules history wishes seconds (files_give_sites words file site site_is) past safe apart
    (subst (λ n. n ≤ seconds) is.seconds enough)
