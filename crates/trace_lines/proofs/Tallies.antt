-- What one second more adds to a tally.
use Rattle.std.proofs.Common.{◌≡◌, ◌∙◌, ℕ, zero, suc, ◌+◌, ◌<◌, Bool, true, false, List, [], ◌∷◌, ◌++◌, length, map, get_or, refl, sym, ap, subst, arith}
use Rattle.std.specs.Prelude.{All, ◌||◌, cond, count_by, min, nat_lt}
use Rattle.std.proofs.lemmas.Bool.Decides.{nat_tests}
use Rattle.std.proofs.lemmas.List.{append-nil, get_or-map, same_lists, length-map}
use Rattle.std.proofs.lemmas.List.Concat.{flat_map-append}
use Rattle.std.proofs.lemmas.List.Elements.{All-head, All-tail}
use Rattle.std.proofs.lemmas.List.Sums.{sum_by-append, sum_by_push}
use Rattle.sig_types.specs.Counts.{Counts as Frame}
use Rattle.vap_code.specs.declared.Instr.{Instr}
use Rattle.vap_code.specs.Codes.{CodeOf}
use Rattle.vap_code.specs.Machine.{machine}
use Rattle.vap_code.specs.Sights.{Sight}
use Rattle.controller.specs.Past.{Site, Past}
use Rattle.controller.specs.Second.{past_after_second, past_of}
use Rattle.controller.specs.Seen.{sights_in}
use Rattle.trace_watch.specs.declared.counts.Counts.{Counts}
use Rattle.trace_watch.specs.Counted.{HasCounted, HasPlaces, begins, most_counted}
use Rattle.trace_lines.specs.Lines.{LineOf, all_sights, answers_at, capped, line_of, lines_counted, ran, seconds_with, times_at}
use Rattle.trace_lines.specs.Rows.{IsRowWithin, RowOf}
use Rattle.trace_lines.specs.Seconds.{sights_by}
use Rattle.trace_lines.specs.Tallied.{IsTallied, answers_in, any_begun, begun_in, line_by, no_row, row_at, with_second}

-- what is seen in one second more
pub sights_by-more : (code : CodeOf) (site : Site) (past : Past) (fs : List Frame) (f : Frame) →
    sights_by code site past (fs ++ f ∷ []) ≡ sights_by code site past fs ++ sights_in code site (past_of (machine code) site past fs) f ∷ []
sights_by-more code site past [] f = refl
sights_by-more code site past (g ∷ fs) f =
    ap (λ seconds. sights_in code site past g ∷ seconds) (sights_by-more code site (past_after_second (machine code) site past g) fs f)

-- and in all of them
pub all_sights-more : (seconds : List (List Sight)) (sights : List Sight) → all_sights (seconds ++ sights ∷ []) ≡ all_sights seconds ++ sights
all_sights-more seconds sights =
    flat_map-append (λ (s : List Sight). s) seconds (sights ∷ []) ∙ ap (λ s. all_sights seconds ++ s) (append-nil sights)

some_counted : (n : ℕ) → nat_lt 0 (min most_counted n) ≡ nat_lt 0 n
some_counted zero = refl
some_counted (suc n) = grind (arith, nat_tests)

-- a row runs in a second where one of its statements was counted
pub any_is_ran : (c : Counts) (places : ℕ) (sights : List Sight) (row : List ℕ) → HasCounted c sights → HasPlaces c places →
    All (λ p. p < places) row → any_begun c.begun.items row ≡ ran row sights
any_is_ran c places sights [] counted has all = refl
any_is_ran c places sights (p ∷ ps) counted has all =
    let below : p < places = All-head (λ p. p < places) p ps all in
    let here : get_or c.begun.items p 0 ≡ min most_counted (count_by (begins p) sights) = counted.begun p (omega (arith, below, has.begun)) in
    let one : nat_lt 0 (get_or c.begun.items p 0) ≡ nat_lt 0 (count_by (begins p) sights)
    = ap (λ n. nat_lt 0 n) here ∙ some_counted (count_by (begins p) sights) in
    let rest = any_is_ran c places sights ps counted has (All-tail (λ p. p < places) p ps all) in
    λ j. one j || rest j

one_second : (n : ℕ) (b : Bool) → with_second (capped n) b ≡ capped (n + cond b 1 0)
one_second n true = omega arith
one_second n false = omega arith

-- the seconds of a row, and one more
pub seconds-more : (row : List ℕ) (seconds : List (List Sight)) (sights : List Sight) →
    with_second (seconds_with seconds row) (ran row sights) ≡ seconds_with (seconds ++ sights ∷ []) row
seconds-more row seconds sights =
    one_second (count_by (ran row) seconds) (ran row sights)
    ∙ ap (λ n. capped n) (sym (sum_by_push (λ s. cond (ran row s) 1 0) seconds sights))

-- maps that agree at each element
map_agree : {A B : Type 0} (P : A → Type 0) (f g : A → B) (xs : List A) → ((x : A) → P x → f x ≡ g x) → All P xs → map f xs ≡ map g xs
map_agree P f g [] same all = refl
map_agree P f g (x ∷ xs) same all = λ j. same x (All-head P x xs all) j ∷ map_agree P f g xs same (All-tail P x xs all) j

-- what was counted of a row
pub line_is : (c : Counts) (places seconds : ℕ) (row : RowOf) (all : List (List Sight)) → HasCounted c (all_sights all) → HasPlaces c places →
    IsRowWithin places row → seconds ≡ seconds_with all row.statements → line_by c seconds row ≡ line_of all row
line_is c places seconds row all counted has within ran =
    let statements = map_agree (λ p. p < places) (begun_in c) (times_at (all_sights all)) row.statements
    (λ p below. counted.begun p (omega (arith, below, has.begun))) within.statements in
    let tests = map_agree (λ p. p < places) (answers_in c) (answers_at (all_sights all)) row.tests
    (λ p below. let yes = counted.yes p (omega (arith, below, has.yes)) in let no = counted.no p (omega (arith, below, has.no)) in
    λ j. record { yes = yes j; no = no j }) within.tests in
    λ j. record { number = row.line; seconds = ran j; statements = statements j; tests = tests j }

-- lines that are each as they were counted
pub lines_are : (rows : List RowOf) (ran : List ℕ) (c : Counts) (instrs : List Instr) (all : List (List Sight)) (lines : List LineOf) →
    IsTallied rows ran c instrs all → length lines ≡ length rows →
    ((r : ℕ) (d : LineOf) → r < length rows → get_or lines r d ≡ line_by c (get_or ran r 0) (row_at rows r)) → lines ≡ lines_counted instrs all
unfolding lines_counted
lines_are rows ran c instrs all lines t long each =
    same_lists lines (map (line_of all) rows) (long ∙ sym (length-map rows (line_of all)))
    (λ k d below. let here : k < length rows = omega (arith, below, long) in
    each k d here
    ∙ line_is c (length instrs) (get_or ran k 0) (row_at rows k) all t.counted t.has_places (t.within k no_row here) (t.with_statement k here)
    ∙ sym (get_or-map (line_of all) rows k no_row d here))
    ∙ ap (λ rs. map (line_of all) rs) t.rows_are

-- a tally of one second more
pub tallied_more : (rows : List RowOf) (ran_then ran_now : List ℕ) (all now second : Counts) (instrs : List Instr)
    (seconds : List (List Sight)) (sights : List Sight) → IsTallied rows ran_then all instrs seconds → HasPlaces now (length instrs) →
    HasPlaces second (length instrs) → HasCounted now (all_sights seconds ++ sights) → HasCounted second sights → length ran_now ≡ length ran_then →
    ((r : ℕ) → r < length rows → r < length ran_then → get_or ran_now r 0
    ≡ with_second (get_or ran_then r 0) (any_begun second.begun.items (row_at rows r).statements)) →
    IsTallied rows ran_now now instrs (seconds ++ sights ∷ [])
tallied_more rows ran_then ran_now all now second instrs seconds sights t now_places second_places counted seen long added = record {
  rows_are = t.rows_are;
  within = t.within;
  has_places = now_places;
  counted = subst (λ s. HasCounted now s) (sym (all_sights-more seconds sights)) counted;
  long = long ∙ t.long;
  with_statement = λ r below.
      let row = row_at rows r in
      let any : any_begun second.begun.items row.statements ≡ ran row.statements sights =
      any_is_ran second (length instrs) sights row.statements seen second_places (t.within r no_row below).statements in
      added r below (omega (arith, below, t.long)) ∙ (λ j. with_second (t.with_statement r below j) (any j)) ∙ seconds-more row.statements seconds sights;
}

both_capped : (a b : ℕ) → capped (capped a + capped b) ≡ capped (a + b)
both_capped a b = omega arith

-- the seconds of a row in two runs
pub seconds-both : (row : List ℕ) (seconds more : List (List Sight)) →
    capped (seconds_with seconds row + seconds_with more row) ≡ seconds_with (seconds ++ more) row
seconds-both row seconds more =
    both_capped (count_by (ran row) seconds) (count_by (ran row) more)
    ∙ ap (λ n. capped n) (sym (sum_by-append (λ s. cond (ran row s) 1 0) seconds more))

-- a tally of two runs
pub tallied_both : (rows others : List RowOf) (ran_first ran_second ran_now : List ℕ) (first second now : Counts) (instrs : List Instr)
    (seconds more : List (List Sight)) → IsTallied rows ran_first first instrs seconds → IsTallied others ran_second second instrs more →
    HasPlaces now (length instrs) → HasCounted now (all_sights seconds ++ all_sights more) → length ran_now ≡ length ran_first →
    ((r : ℕ) → r < length ran_first → get_or ran_now r 0 ≡ capped (get_or ran_first r 0 + get_or ran_second r 0)) →
    IsTallied rows ran_now now instrs (seconds ++ more)
tallied_both rows others ran_first ran_second ran_now first second now instrs seconds more t u now_places counted long added = record {
  rows_are = t.rows_are;
  within = t.within;
  has_places = now_places;
  counted = subst (λ s. HasCounted now s) (sym (flat_map-append (λ (s : List Sight). s) seconds more)) counted;
  long = long ∙ t.long;
  with_statement = λ r below.
      let same : others ≡ rows = u.rows_are ∙ sym t.rows_are in
      let other : get_or ran_second r 0 ≡ seconds_with more (row_at rows r).statements =
      subst (λ rs. get_or ran_second r 0 ≡ seconds_with more (row_at rs r).statements) same
      (u.with_statement r (subst (λ (rs : List RowOf). r < length rs) (sym same) below)) in
      added r (omega (arith, below, t.long))
      ∙ (λ j. capped (t.with_statement r below j + other j))
      ∙ seconds-both (row_at rows r).statements seconds more;
}
