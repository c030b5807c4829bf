-- The first refused line of a list, and the lines of one without.
use Rattle.std.proofs.Common.{◌≡◌, ◌∙◌, ℕ, zero, suc, ◌+◌, ◌<◌, ◌≤◌, ◌⊎◌, inl, inr, Bool, true, false, List, [], ◌∷◌, ◌++◌, length, map, take, get_or, refl, sym, ap, subst, arith, Option, Some, None, nat_le}
use Rattle.std.specs.Option.{option_or}
use Rattle.std.specs.Prelude.{is_none}
use Rattle.std.specs.List.{AllByRecursion}
use Rattle.std.proofs.lemmas.Bool.{leb-true, leb-false, cases_eq}
use Rattle.std.proofs.lemmas.List.{length-take-le, length-map}
use Rattle.sig_types.specs.FirstRefused.{refused_to, first_refused, first_reason, when, with_line}
use Rattle.junction_net.specs.declared.rows.ListWhy.{ListWhy}
use Rattle.junction_net.specs.declared.rows.ListWhy.TheVariants.{Row, Limit}
use Rattle.sig_types.specs.Text.{fed_lines}
use Rattle.junction_net.specs.List.{JobWords, are_file_names, names_of, words_of, judge, lines_refusal, list_refusal, jobs_of}
use Rattle.junction_net.specs.Written.{line_of, written, IsWritten, HaveNames, IsFirstRefused}
use Rattle.junction_net.proofs.Reading.{judge_none, words_are}
use Rattle.junction_net.proofs.Written.{names_written, line_written, IsLineText, line_is_text, fed_joined, fed_ended, text_ends}

-- the two reasons, by their tests
abbrev pub reason_by : ℕ → Bool → Option JobWords → Option (ℕ × ListWhy)
reason_by n b o = with_line (n + 1) (first_reason (when b Limit ∷ when (is_none o) Row ∷ []))

abbrev pub Why : ℕ → Bool → Option JobWords → ℕ × ListWhy → Type 0
Why n b o w = ((b ≡ true) × (w ≡ (n + 1, Limit))) ⊎ ((b ≡ false) × (o ≡ None) × (w ≡ (n + 1, Row)))

why_by : (n : ℕ) (b : Bool) (o : Option JobWords) (w : ℕ × ListWhy) → reason_by n b o ≡ Some w → Why n b o w
why_by n true o w e = inl (refl, cc)
why_by n false None w e = inr (refl, refl, cc)
why_by n false (Some job) w e = absurd cc

none_by : (n : ℕ) (b : Bool) (o : Option JobWords) → reason_by n b o ≡ None → (job : JobWords) × (b ≡ false) × (o ≡ Some job)
none_by n true o e = absurd cc
none_by n false None e = absurd cc
none_by n false (Some job) e = (job, refl, refl)

-- the first n lines are accepted: they have names, and there are at most 16
module _ (lines : List (List ℕ)) where
  abbrev pub at_place : ℕ → Option (ℕ × ListWhy)
  at_place k = judge (take k lines) (get_or lines k [])

  parts_none : (a b : Option (ℕ × ListWhy)) → option_or a b ≡ None → (a ≡ None) × (b ≡ None)
  parts_none None b e = (refl, e)
  parts_none (Some x) b e = absurd cc

  pub each_none : (n : ℕ) → refused_to judge lines [] n ≡ None → (k : ℕ) → k < n → at_place k ≡ None
  unfolding refused_to
  each_none zero none k lt = absurd (omega arith)
  each_none (suc n) none k lt =
      let both = parts_none (refused_to judge lines [] n) (at_place n) none in
      elim (cases_eq k n) [
        | inl same ↦ rw same both.1
        | inr other ↦ each_none n both.0 k (omega arith)
      ]

  pub record Named (k : ℕ) : Type 0 where
    pub few : k < 16
    pub job : JobWords
    pub named : names_of (get_or lines k []) ≡ Some job

  pub named_at : (k : ℕ) → k < length lines → at_place k ≡ None → Named k
  named_at k lt none =
      let size : length (take k lines) ≡ k = length-take-le k lines (omega arith) in
      let found = none_by (length (take k lines)) (nat_le 16 (length (take k lines))) (names_of (get_or lines k [])) none in
      let few : length (take k lines) < 16 = leb-false 16 (length (take k lines)) found.1 in
      record { few = omega (arith, size, few); job = found.0; named = found.2 }

  abbrev pub FirstAt : ℕ → ℕ × ListWhy → Type 0
  FirstAt n w = (k : ℕ) × (k < n) × (refused_to judge lines [] k ≡ None) × (at_place k ≡ Some w)

  first_by : (n : ℕ) (w : ℕ × ListWhy) (o : Option (ℕ × ListWhy)) → refused_to judge lines [] n ≡ o → (refused_to judge lines [] n ≡ Some w → FirstAt n w) →
      option_or o (at_place n) ≡ Some w → FirstAt (suc n) w
  first_by n w None is before here = (n, omega arith, is, here)
  first_by n w (Some v) is before same = let found = before (is ∙ same) in (found.0, omega (arith, found.1), found.2, found.3)

  first_at : (n : ℕ) (w : ℕ × ListWhy) → refused_to judge lines [] n ≡ Some w → FirstAt n w
  unfolding refused_to
  first_at zero w e = absurd cc
  first_at (suc n) w e = first_by n w (refused_to judge lines [] n) refl (first_at n w) e

  names_before : (n : ℕ) → n ≤ length lines → refused_to judge lines [] n ≡ None → HaveNames lines n
  names_before n le none k lt =
      let named = named_at k (omega arith) (each_none n none k lt) in (named.job, named.named)

  by_why : (k : ℕ) (line : ℕ) (why : ListWhy) → k < length lines → refused_to judge lines [] k ≡ None →
      Why k (nat_le 16 k) (names_of (get_or lines k [])) (line, why) → IsFirstRefused lines line why
  by_why k line why lt none (inr is) =
      let few : k < 16 = leb-false 16 k is.0 in
      let at : line ≡ k + 1 = ap (λ (p : ℕ × ListWhy). p.0) is.2 in
      let row : why ≡ Row = ap (λ (p : ℕ × ListWhy). p.1) is.2 in
      rw (at, row) (IsFirstRefused.row k lt few (names_before k (omega arith) none) is.1)
  by_why k line why lt none (inl is) =
      let many : 16 ≤ k = leb-true 16 k is.0 in
      let most : k ≤ 16 = elim (cases_eq k 16) [
        | inl same ↦ omega arith
        | inr other ↦ (let named = named_at 16 (omega arith) (each_none k none 16 (omega arith)) in absurd (omega (arith, named.few)))
      ] in
      let place : k ≡ 16 = omega arith in
      let at : line ≡ 17 = (let e : line ≡ k + 1 = ap (λ (p : ℕ × ListWhy). p.0) is.1 in omega (arith, e, place)) in
      let limit : why ≡ Limit = ap (λ (p : ℕ × ListWhy). p.1) is.1 in
      rw (at, limit) (IsFirstRefused.limit (omega arith) (names_before 16 (omega arith) (rw place at none)))

  pub refused_first : (line : ℕ) (why : ListWhy) → first_refused judge lines [] ≡ Some (line, why) → IsFirstRefused lines line why
  refused_first line why e =
      let found = first_at (length lines) (line, why) e in
      let size : length (take found.0 lines) ≡ found.0 = length-take-le found.0 lines (omega (arith, found.1)) in
      let which = why_by (length (take found.0 lines)) (nat_le 16 (length (take found.0 lines))) (names_of (get_or lines found.0 [])) (line, why) found.3 in
      by_why found.0 line why found.1 found.2 (subst (λ (n : ℕ). Why n (nat_le 16 n) (names_of (get_or lines found.0 [])) (line, why)) size which)

no_line_first : (o : Option (ℕ × ListWhy)) (line : ℕ) (why : ListWhy) → o ≡ Some (0, Row) → o ≡ Some (line, why) → IsFirstRefused [] line why
no_line_first None line why e h = absurd cc
no_line_first (Some p) line why e h =
    let same : p ≡ (0, Row) = cc in
    let found : p ≡ (line, why) = cc in
    let at : line ≡ 0 = ap (λ (p : ℕ × ListWhy). p.0) (sym found ∙ same) in
    let row : why ≡ Row = ap (λ (p : ℕ × ListWhy). p.1) (sym found ∙ same) in
    rw (at, row) (IsFirstRefused.no_line refl)

lines_first : (lines : List (List ℕ)) (line : ℕ) (why : ListWhy) → lines_refusal lines ≡ Some (line, why) → IsFirstRefused lines line why
lines_first [] line why e = no_line_first (Some (0, Row)) line why refl e
lines_first (l ∷ ls) line why e = refused_first (l ∷ ls) line why e

pub refusal_first : (text : List ℕ) (line : ℕ) (why : ListWhy) → list_refusal text ≡ Some (line, why) → IsFirstRefused (fed_lines text) line why
unfolding list_refusal
refusal_first text line why e = lines_first (fed_lines text) line why e

-- ---- accepted texts

-- the lines of an accepted text are those of its junctions
lines_are : (ls : List (List ℕ)) → ((k : ℕ) → k < length ls → (job : JobWords) × (names_of (get_or ls k []) ≡ Some job)) →
    (map line_of (map words_of ls) ≡ ls) × AllByRecursion (λ job. are_file_names job ≡ true) (map words_of ls)
lines_are [] each = (refl, tt)
lines_are (l ∷ ls) each =
    let here = each 0 (omega arith) in
    let line = line_written l here.0 here.1 in
    let same : words_of l ≡ here.0 = words_are l here.0 here.1 in
    let rest = lines_are ls (λ k lt. each (suc k) (omega arith)) in
    let text : line_of (words_of l) ≡ l = ap line_of same ∙ sym line.text in
    (ap (λ (x : List ℕ). x ∷ map line_of (map words_of ls)) text ∙ ap (λ (xs : List (List ℕ)). l ∷ xs) rest.0, (ap are_file_names same ∙ line.names, rest.1))

-- lines without a refusal: 1 to 16, each with names
record Accepted (lines : List (List ℕ)) : Type 0 where
  pub some : 1 ≤ length lines
  pub few : length lines ≤ 16
  pub named : HaveNames lines (length lines)

accepted_lines : (lines : List (List ℕ)) → lines_refusal lines ≡ None → Accepted lines
accepted_lines [] e = absurd cc
accepted_lines (l ∷ ls) e =
    let last = named_at (l ∷ ls) (length ls) (omega arith) (each_none (l ∷ ls) (length (l ∷ ls)) e (length ls) (omega arith)) in
    record {
      some = omega arith;
      few = omega (arith, last.few);
      named = λ k lt. (let named = named_at (l ∷ ls) k lt (each_none (l ∷ ls) (length (l ∷ ls)) e k lt) in (named.job, named.named));
    }

pub accepted_written : (text : List ℕ) (jobs : List JobWords) → list_refusal text ≡ None → jobs ≡ jobs_of text → IsWritten jobs text
unfolding list_refusal jobs_of
accepted_written text jobs none are =
    let accepted = accepted_lines (fed_lines text) none in
    let lines = lines_are (fed_lines text) accepted.named in
    let size : length (map words_of (fed_lines text)) ≡ length (fed_lines text) = length-map (fed_lines text) words_of in
    rw are (record {
      some = omega (arith, size, accepted.some);
      few = omega (arith, size, accepted.few);
      names = lines.1;
      ends = rw lines.0 (text_ends text accepted.some);
    })

-- ---- written texts

texts_of : (jobs : List JobWords) → AllByRecursion (λ job. are_file_names job ≡ true) jobs → AllByRecursion IsLineText (map line_of jobs)
texts_of [] all = tt
texts_of (j ∷ js) all = (line_is_text j all.0, texts_of js all.1)

named_all : (jobs : List JobWords) (k : ℕ) → AllByRecursion (λ job. are_file_names job ≡ true) jobs → k < length jobs →
    (job : JobWords) × (names_of (get_or (map line_of jobs) k []) ≡ Some job)
named_all [] k all lt = absurd (omega arith)
named_all (j ∷ js) zero all lt = (j, names_written j all.0)
named_all (j ∷ js) (suc k) all lt = named_all js k all.1 (omega arith)

words_again : (jobs : List JobWords) → AllByRecursion (λ job. are_file_names job ≡ true) jobs → map words_of (map line_of jobs) ≡ jobs
words_again [] all = refl
words_again (j ∷ js) all =
    ap (λ (x : JobWords). x ∷ map words_of (map line_of js)) (words_are (line_of j) j (names_written j all.0)) ∙
    ap (λ (xs : List JobWords). j ∷ xs) (words_again js all.1)

none_to : (lines : List (List ℕ)) (n : ℕ) → n ≤ length lines → n ≤ 16 → ((k : ℕ) → k < n → (job : JobWords) × (names_of (get_or lines k []) ≡ Some job)) →
    refused_to judge lines [] n ≡ None
unfolding refused_to
none_to lines zero le few each = refl
none_to lines (suc n) le few each =
    let before = none_to lines n (omega arith) (omega arith) (λ k lt. each k (omega arith)) in
    let here = each n (omega arith) in
    let size : length (take n lines) ≡ n = length-take-le n lines (omega arith) in
    rw (before) (judge_none (take n lines) (get_or lines n []) here.0 (omega (arith, size)) here.1)

some_lines : (lines : List (List ℕ)) → 1 ≤ length lines → first_refused judge lines [] ≡ None → lines_refusal lines ≡ None
some_lines [] some e = absurd (omega arith)
some_lines (l ∷ ls) some e = e

fed_written : (text : List ℕ) (jobs : List JobWords) → IsWritten jobs text → fed_lines text ≡ map line_of jobs
fed_written text jobs is = by_end is.ends
  where
    size : length (map line_of jobs) ≡ length jobs
    size = length-map jobs line_of

    by_end : (text ≡ written jobs) ⊎ (text ≡ written jobs ++ 10 ∷ []) → fed_lines text ≡ map line_of jobs
    by_end (inl e) = ap fed_lines e ∙ fed_joined (map line_of jobs) (texts_of jobs is.names)
    by_end (inr e) = ap fed_lines e ∙ fed_ended (map line_of jobs) (let some = is.some in omega (arith, size, some)) (texts_of jobs is.names)

pub written_accepted : (text : List ℕ) (jobs : List JobWords) → IsWritten jobs text → (list_refusal text ≡ None) × (jobs ≡ jobs_of text)
unfolding list_refusal jobs_of
written_accepted text jobs is =
    let lines = fed_written text jobs is in
    let size : length (map line_of jobs) ≡ length jobs = length-map jobs line_of in
    let some = is.some in
    let few = is.few in
    let none : first_refused judge (map line_of jobs) [] ≡ None =
    none_to (map line_of jobs) (length (map line_of jobs)) (omega arith) (omega (arith, size)) (λ k lt. named_all jobs k is.names (omega (arith, size))) in
    (ap lines_refusal lines ∙ some_lines (map line_of jobs) (omega (arith, size)) none, sym (ap (map words_of) lines ∙ words_again jobs is.names))
