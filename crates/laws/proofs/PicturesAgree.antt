-- The readings agree on whole logs.
use Rattle.std.proofs.Common.{◌≡◌, ◌∙◌, ℕ, zero, suc, ◌+◌, ◌<◌, ◌≤◌, Bool, true, false, not, List, [], ◌∷◌, length, None, Option, Some, is_none, inl, inr, sym, ap, subst, arith, get_or}
use Rattle.std.specs.Option.{option_and_then}
use Rattle.std.proofs.lemmas.Bool.{cases_lt, le-leb, lt-leb}
use Rattle.std.proofs.lemmas.List.{get_or-map, length-map}
use Rattle.sig_types.specs.FirstRefused.{when}
use Rattle.sig_types.specs.declared.record.Record.{Record}
use Rattle.sig_types.specs.Text.{cut_at, number_of, within}
use Rattle.sig_types.specs.Turns.{Picture}
use Rattle.log_read.specs.declared.begin.Begin.{Begin}
use Rattle.log_read.specs.declared.begin.Begin.TheVariants.{AtOne, Anywhere}
use Rattle.log_read.specs.declared.refusal.LogWhy.TheVariants as why
use Rattle.log_read.specs.Form.{is_header, picture_in}
use Rattle.log_read.specs.Log.{HasEntries, Tells, begins, form_reason, line_at, line_reason}
use Rattle.log_read.specs.Readings.{Heads, pictures_by, records_by}
use Rattle.log_read.specs.Seconds.{first_told, or_one}
use Rattle.log_read.specs.Watchers.{told_lines}
use Rattle.log_read.proofs.LogLaws.{some_lines}
use Rattle.log_read.proofs.LogLemmas.{by_form, ended, too_long, too_many}
use Rattle.log_read.proofs.WatcherLemmas.{unwatched_told}
use Rattle.laws.specs.PicturesOfRecords.{FirstPicturesAgree, PicturesAgree, UnwatchedPicturesAgree, pictures_of}
use Rattle.laws.proofs.HeadersAgree.{header_same}
use Rattle.laws.proofs.LinesAgree.{picture_same}

-- a record, where there is one
some_record : (rs : List Record) (k : ℕ) → k < length rs → Record
some_record [] k lt = absurd (omega (arith, lt))
some_record (r ∷ rs) k lt = r

-- a header by its groups
header_of : (given : Bool) (names : List (List ℕ)) (line : List ℕ) → Heads given names line → is_header names line ≡ true
header_of true names line is = is
header_of false names line is = header_same names line is

module _ (given : Bool) (first : ℕ) (names lines : List (List ℕ)) (n : ℕ) (records : List Record) (small : first ≤ 999999999)
    (read : HasEntries (records_by given names) first lines n records) where
  few_lines : (k : ℕ) (line : List ℕ) → line_reason (records_by given names) first k line ≡ None → k < 604802
  few_lines k line e = elim (cases_lt k 604802) [
    | inl few ↦ few
    | inr many ↦ let why = too_many (records_by given names) first k line many in absurd cc
  ]

  short_line : (k : ℕ) (line : List ℕ) → line_reason (records_by given names) first k line ≡ None → length line ≤ 262144
  short_line k line e = elim (cases_lt 262144 (length line)) [
    | inl long ↦ let why = too_long (records_by given names) first k line (few_lines k line e) long in absurd cc
    | inr short ↦ short
  ]

  picture_at : (k : ℕ) → k < length records → (d : Record) → picture_in (length names) (first + k) (line_at lines (k + 1)) ≡ Some (get_or records k d).picture
  picture_at k lt d =
      let few = few_lines (k + 1) (line_at lines (k + 1)) (read.accepted (k + 1) (omega (arith, lt, read.count))) in
      picture_same names (first + k) (line_at lines (k + 1)) (get_or records k d) (omega (arith, few, small)) (read.entries_are k d lt)

  -- a line that no limit refuses is judged by its form
  formed : (k : ℕ) → k < n → form_reason (pictures_by names) first k (line_at lines k) ≡ None →
      line_reason (pictures_by names) first k (line_at lines k) ≡ None
  formed k lt right =
      let here = read.accepted k lt in
      by_form (pictures_by names) first k (line_at lines k) (few_lines k (line_at lines k) here) (short_line k (line_at lines k) here) ∙ right

  accepted_at : (k : ℕ) → k < n → line_reason (pictures_by names) first k (line_at lines k) ≡ None
  accepted_at zero lt =
      formed zero lt (ap (λ b. when (not b) why.Header) (header_of given names (line_at lines 0) (read.headed (omega (arith, lt)))))
  accepted_at (suc k) lt =
      let inside : k < length records = omega (arith, lt, read.count) in
      let next : k + 1 ≡ suc k = omega arith in
      formed (suc k) lt (ap (λ (o : Option Picture). when (is_none o) why.Line)
      (rw next at (picture_at k inside (some_record records k inside))))

  shown_at : (k : ℕ) (d : Picture) → k < length (pictures_of records) →
      picture_in (length names) (first + k) (line_at lines (k + 1)) ≡ Some (get_or (pictures_of records) k d)
  shown_at k d lt =
      let inside : k < length records = omega (arith, lt, length-map records (λ (r : Record). r.picture)) in
      let r = some_record records k inside in
      picture_at k inside r ∙ ap (λ (p : Picture). Some p) (sym (get_or-map (λ (r : Record). r.picture) records k r d inside))

pub first_agree : FirstPicturesAgree
first_agree given first names lines n records small read = record {
  inside = read.inside;
  headed = λ some. header_of given names (line_at lines 0) (read.headed some);
  accepted = accepted_at given first names lines n records small read;
  count = length-map records (λ (r : Record). r.picture) ∙ read.count;
  entries_are = shown_at given first names lines n records small read;
}

-- ---- to the end

-- a first second is of nine digits
range_by : (n : ℕ) → or_one (within 1 999999999 (Some n)) ≤ 999999999
range_by n = elim (cases_lt n 1) [
  | inl low ↦ rw (lt-leb 1 n low) (omega arith)
  | inr from ↦ elim (cases_lt 999999999 n) [
    | inl high ↦ rw (le-leb 1 n from, lt-leb n 999999999 high) (omega arith)
    | inr to ↦ rw (le-leb 1 n from, le-leb n 999999999 to) to
  ]
]

number_small : (o : Option ℕ) → or_one (within 1 999999999 o) ≤ 999999999
number_small None = omega arith
number_small (Some n) = range_by n

told_small : (o : Option (List ℕ × List ℕ)) → or_one (option_and_then (λ p. within 1 999999999 (number_of p.0)) o) ≤ 999999999
told_small None = omega arith
told_small (Some p) = number_small (number_of p.0)

begins_small : (begin : Begin) (lines : List (List ℕ)) → begins begin lines ≤ 999999999
unfolding first_told
begins_small AtOne lines = omega arith
begins_small Anywhere lines = told_small (cut_at 124 (line_at lines 1))

pub agree : PicturesAgree
agree given begin names bytes records told =
    let lines = told_lines bytes in
    let first = begins begin lines in
    ended (pictures_by names) first lines (length lines) (pictures_of records)
    (first_agree given first names lines (length lines) records (begins_small begin lines) told.0) (omega arith)
    (some_lines (records_by given names) first lines told.1)

pub unwatched_agree : UnwatchedPicturesAgree
unwatched_agree given begin names bytes records each told =
    subst (λ (lines : List (List ℕ)). Tells (pictures_by names) begin lines (pictures_of records) None) (unwatched_told bytes each)
    (agree given begin names bytes records told)
