-- The text of a live run with watchers is read as its log.
use Rattle.std.proofs.Common.{◌≡◌, ◌∙◌, ℕ, zero, suc, ◌+◌, ◌<◌, ◌≤◌, ◌==◌, true, false, List, [], ◌∷◌, ◌++◌, codes, length, map, All, Some, None, refl, sym, ap, subst, arith, append_assoc, length-append}
use Rattle.std.specs.Fmt.{decimal}
use Rattle.std.specs.Prelude.{replicate, slice_get}
use Rattle.std.proofs.lemmas.Bool.{le-leb, ne_eqb}
use Rattle.std.proofs.lemmas.Fmt.{length-decimal-le}
use Rattle.std.proofs.lemmas.List.{append-nil, length-map, length-replicate}
use Rattle.std.proofs.lemmas.List.Elements.{All-cons, All-nil}
use Rattle.std.proofs.lemmas.Option.{slice_get_within}
use Rattle.sig_types.specs.declared.aspect.Aspect.{Aspect}
use Rattle.sig_types.specs.declared.aspect.Aspect.TheVariants.{Red}
use Rattle.sig_types.specs.declared.record.Record.{Record}
use Rattle.sig_types.specs.LogForm.{letter}
use Rattle.sig_types.specs.Turns.{History}
use Rattle.sig_types.specs.Counts.{Counts}
use Rattle.signal_log.specs.Log.{log_text}
use Rattle.signal_log.proofs.FieldTexts.{letters_plain}
use Rattle.signal_log.proofs.Plain.{Plain, decimal_plain, plain-append, plain_by_test}
use Rattle.controller.specs.Guarded.{pictures_of}
use Rattle.controller.specs.Second.{picture_of, record_pictures}
use Rattle.junction_run.specs.Loading.{Playing}
use Rattle.junction_run.specs.Records.{log_of, records_of}
use Rattle.junction_live.specs.Answer.{IsWholeText}
use Rattle.junction_live.specs.Sights.{IsSight, Sight, watches_from}
use Rattle.log_read.specs.declared.begin.Begin.TheVariants.{AtOne}
use Rattle.log_read.specs.Log.{Tells}
use Rattle.log_read.specs.Readings.{records_by}
use Rattle.log_read.specs.Watchers.{is_watch, told_lines}
use Rattle.report_seen.specs.WrittenLogs.{AreOfRun, IsLoggedRun}
use Rattle.report_seen.proofs.LogsBack.{watcher_is_behind_log}
use Rattle.laws.specs.RunLogs.{IsReadWhole}

-- ---- a watcher's line

-- the line of a watcher, without its line feed
abbrev watch_line : ℕ → Sight → List ℕ
watch_line number sight = codes "WATCH " ++ decimal number ++ codes " " ++ decimal sight.0 ++ codes " " ++ map letter sight.1

-- it has no line feed
plain_unfed : (xs : List ℕ) → Plain xs → All (λ b. (b == 10) ≡ false) xs
plain_unfed [] plain = All-nil (λ (b : ℕ). (b == 10) ≡ false)
plain_unfed (x ∷ xs) plain =
    All-cons (λ (b : ℕ). (b == 10) ≡ false) x xs (ne_eqb x 10 (λ e. omega (arith, e, plain.0.0))) (plain_unfed xs plain.1)

space_plain : Plain (codes " ")
space_plain = plain_by_test (codes " ") refl

line_plain : (number : ℕ) (sight : Sight) → Plain (watch_line number sight)
line_plain number sight =
    let n = decimal number in
    let s = decimal sight.0 in
    let l = map letter sight.1 in
    plain-append (codes "WATCH " ++ n ++ codes " " ++ s ++ codes " ") l
    (plain-append (codes "WATCH " ++ n ++ codes " " ++ s) (codes " ")
    (plain-append (codes "WATCH " ++ n ++ codes " ") s
    (plain-append (codes "WATCH " ++ n) (codes " ")
    (plain-append (codes "WATCH ") n (plain_by_test (codes "WATCH ") refl) (decimal_plain number))
    space_plain)
    (decimal_plain sight.0))
    space_plain)
    (letters_plain sight.1)

-- how long it is
longer : (xs ys : List ℕ) (m n : ℕ) → length xs ≤ m → length ys ≤ n → length (xs ++ ys) ≤ m + n
longer xs ys m n p q = omega (arith, length-append xs ys, p, q)

line_length : (number : ℕ) (sight : Sight) → length (decimal number) ≤ 64 → length (decimal sight.0) ≤ 64 → length sight.1 ≤ 64 →
    length (watch_line number sight) ≤ 262144
line_length number sight first second third =
    let n = decimal number in
    let s = decimal sight.0 in
    let l = map letter sight.1 in
    let letters : length l ≤ 64 = omega (arith, length-map sight.1 letter, third) in
    let whole = longer (codes "WATCH " ++ n ++ codes " " ++ s ++ codes " ") l 136 64
    (longer (codes "WATCH " ++ n ++ codes " " ++ s) (codes " ") 135 1
    (longer (codes "WATCH " ++ n ++ codes " ") s 71 64
    (longer (codes "WATCH " ++ n) (codes " ") 70 1 (longer (codes "WATCH ") n 6 64 (omega arith) first) (omega arith)) second)
    (omega arith)) letters in
    omega (arith, whole)

line_watches : (number : ℕ) (sight : Sight) → length (watch_line number sight) ≤ 262144 → is_watch (watch_line number sight) ≡ true
unfolding is_watch
line_watches number sight short = le-leb (length (watch_line number sight)) 262144 short

-- ---- what a watcher saw

-- pictures of so many groups
abbrev AreOf : ℕ → History → Type 0
AreOf groups h = (i : ℕ) (p : List Aspect) → slice_get h i ≡ Some p → length p ≡ groups

some_is : (p q : List Aspect) → Some p ≡ Some q → p ≡ q
some_is p q e = cc

never : (p : List Aspect) → None ≡ Some p → ⊥
never p e = cc

records_of_groups : (groups k : ℕ) (rs : List Record) → AreOfRun groups k rs → AreOf groups (record_pictures rs)
records_of_groups groups k [] are i p is = absurd (never p is)
records_of_groups groups k (r ∷ rs) are zero p is = ap length (sym (some_is r.picture p is)) ∙ are.0.parts.picture
records_of_groups groups k (r ∷ rs) are (suc i) p is = records_of_groups groups (k + 1) rs are.1 i p is

history_of_groups : (groups : ℕ) (first : List Aspect) (h : History) → length first ≡ groups → AreOf groups h → AreOf groups (first ∷ h)
history_of_groups groups first h size are zero p is = ap length (sym (some_is first p is)) ∙ size
history_of_groups groups first h size are (suc i) p is = are i p is

-- ---- the text

behind : (names : List (List ℕ)) (rs : List Record) (sights : List Sight) →
    ((sight : Sight) (more : List Sight) → sights ≡ sight ∷ more → length (watch_line 1 sight) ≤ 262144) →
    told_lines (log_text names rs ++ watches_from 1 sights) ≡ told_lines (log_text names rs)
behind names rs [] short = ap told_lines (append-nil (log_text names rs))
behind names rs (sight ∷ more) short =
    let line = watch_line 1 sight in
    let rest = watches_from 2 more in
    ap (λ (l : List ℕ). told_lines (log_text names rs ++ l)) (append_assoc line (codes "\n") rest)
    ∙ watcher_is_behind_log names rs line rest (plain_unfed line (line_plain 1 sight)) (line_watches 1 sight (short sight more refl))

module _ (watchers : ℕ) (playing : Playing) (frames : List Counts) (text : List ℕ) (whole : IsWholeText watchers playing frames text)
    (run : IsLoggedRun playing.site.plan.names (records_of playing whole.whole.made)) where
  abbrev names : List (List ℕ)
  names = playing.site.plan.names

  abbrev records : List Record
  records = records_of playing whole.whole.made

  abbrev pictures : History
  pictures = pictures_of playing.site records

  first_is_short : (sight : Sight) (more : List Sight) → whole.sights ≡ sight ∷ more → length (watch_line 1 sight) ≤ 262144
  first_is_short sight more e =
      let seen : All (IsSight pictures) (sight ∷ more) = subst (All (IsSight pictures)) e whole.seen.each in
      let first : slice_get pictures sight.0 ≡ Some sight.1 = seen 0 sight (omega arith) in
      let within = slice_get_within pictures sight.0 sight.1 first in
      let second : sight.0 < 604803 = omega (arith, within, length-map records picture_of, run.few) in
      let size = history_of_groups (length names) (replicate (length names) Red) (record_pictures records) (length-replicate (length names) Red)
      (records_of_groups (length names) 1 records run.records_are) sight.0 sight.1 first in
      line_length 1 sight (omega (arith, length-decimal-le 7 1 (omega arith) (omega arith) (omega arith)))
      (omega (arith, length-decimal-le 7 sight.0 (omega arith) (omega (arith, second)) (omega (arith, second))))
      (omega (arith, size, run.groups.few))

  -- the whole text is told by the lines of its log
  pub whole_told : told_lines text ≡ told_lines whole.log
  unfolding log_of
  whole_told =
      ap told_lines whole.text_is
      ∙ ap (λ (l : List ℕ). told_lines (l ++ watches_from 1 whole.sights)) whole.whole.text_is
      ∙ behind names records whole.sights first_is_short
      ∙ ap told_lines (sym whole.whole.text_is)

-- what is told by the lines of a log is read as that log
pub read_as : (playing : Playing) (frames : List Counts) (log text : List ℕ) → told_lines text ≡ told_lines log → IsReadWhole playing frames log →
    IsReadWhole playing frames text
read_as playing frames log text same is = record {
  is_log = subst (λ (lines : List (List ℕ)). Tells (records_by false playing.site.plan.names) AtOne lines (records_of playing frames) None) (sym same) is.is_log;
  alone = λ names read refused said.
      is.alone names read refused (subst (λ (lines : List (List ℕ)). Tells (records_by false names) AtOne lines read refused) same said);
}
