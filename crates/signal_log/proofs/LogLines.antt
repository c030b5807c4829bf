-- A log line by line.
use Rattle.std.proofs.Common.{◌≡◌, ◌∙◌, ℕ, ◌<◌, ◌==◌, true, false, List, [], ◌∷◌, ◌++◌, length, map, codes, refl, ap, arith, append_assoc}
use Rattle.std.specs.Fmt.{decimal}
use Rattle.std.specs.List.{flat_map, slice_split}
use Rattle.std.proofs.lemmas.Bool.{ne_eqb}
use Rattle.std.proofs.lemmas.List.Elements.{All-cons, All-nil}
use Rattle.std.proofs.lemmas.List.Splits.{slice_split_at, length-slice_split}
use Rattle.pua_model.specs.Plan.{are_names}
use Rattle.sig_types.specs.LogForm.{header_line, letter, spaced}
use Rattle.sig_types.specs.Text.{fed_lines, lines_of_parts}
use Rattle.sig_types.specs.declared.record.Record.{Record}
use Rattle.signal_log.specs.Laws.{Lacks, LinesBegin, LinesHaveNoFeed, LogHasLines}
use Rattle.signal_log.specs.Log.{place_text, or_dash, count_text, counted_from, refused_texts, fault_text, header_text, record_line, record_text, records_text, log_text}
use Rattle.signal_log.proofs.FieldTexts.{letters_plain, place_plain, or_dash_plain, counts_plain, refused_plain, fault_plain, spaced_plain}
use Rattle.signal_log.proofs.Plain.{Plain, plain_without, no_bar, no_feed, decimal_plain}
use Rattle.signal_log.proofs.Without.{Without, without-append, without_by_test}

without_lacks : (b : ℕ) (xs : List ℕ) → Without b xs → Lacks b xs
without_lacks b [] w = All-nil (λ (c : ℕ). (c == b) ≡ false)
without_lacks b (x ∷ xs) w = All-cons (λ (c : ℕ). (c == b) ≡ false) x xs (ne_eqb x b w.0) (without_lacks b xs w.1)

unfed : (xs : List ℕ) → Plain xs → Without 10 xs
unfed xs p = plain_without 10 xs no_feed p

bar : Without 10 (codes "|")
bar = without_by_test 10 (codes "|") refl

-- a line has no line feed
line_lacks : (names : List (List ℕ)) (r : Record) → are_names names ≡ true → Lacks 10 (record_line names r)
line_lacks names r named =
    let d = decimal r.second.0 in
    let p = place_text r.place in
    let l = map letter r.picture in
    let c = or_dash (map count_text (counted_from 1 r.frame)) in
    let u = or_dash (refused_texts names r.stages r.turns) in
    let f = fault_text r.fault in
    without_lacks 10 (record_line names r)
    (without-append 10 (d ++ codes "|" ++ p ++ codes "|" ++ l ++ codes "|" ++ c ++ codes "|" ++ u ++ codes "|") f
    (without-append 10 (d ++ codes "|" ++ p ++ codes "|" ++ l ++ codes "|" ++ c ++ codes "|" ++ u) (codes "|")
    (without-append 10 (d ++ codes "|" ++ p ++ codes "|" ++ l ++ codes "|" ++ c ++ codes "|") u
    (without-append 10 (d ++ codes "|" ++ p ++ codes "|" ++ l ++ codes "|" ++ c) (codes "|")
    (without-append 10 (d ++ codes "|" ++ p ++ codes "|" ++ l ++ codes "|") c
    (without-append 10 (d ++ codes "|" ++ p ++ codes "|" ++ l) (codes "|")
    (without-append 10 (d ++ codes "|" ++ p ++ codes "|") l
    (without-append 10 (d ++ codes "|" ++ p) (codes "|")
    (without-append 10 (d ++ codes "|") p
    (without-append 10 d (codes "|") (unfed d (decimal_plain r.second.0)) bar)
    (unfed p (place_plain r.place)))
    bar)
    (unfed l (letters_plain r.picture)))
    bar)
    (unfed c (or_dash_plain (map count_text (counted_from 1 r.frame)) (counts_plain (counted_from 1 r.frame)))))
    bar)
    (unfed u (refused_plain names r named)))
    bar)
    (unfed f (fault_plain r.fault)))

header_lacks : (names : List (List ℕ)) → are_names names ≡ true → Lacks 10 (header_line names)
unfolding header_line
header_lacks names named =
    without_lacks 10 (header_line names)
    (without-append 10 (codes "VAPLOG 1") (flat_map spaced names) (without_by_test 10 (codes "VAPLOG 1") refl)
    (unfed (flat_map spaced names) (spaced_plain names named)))

pub lines_have_no_feed : LinesHaveNoFeed
lines_have_no_feed names named = (header_lacks names named, λ r. line_lacks names r named)

-- one line, and those after it
parts_more : (x : List ℕ) (parts : List (List ℕ)) → 0 < length parts → lines_of_parts (x ∷ parts) ≡ x ∷ lines_of_parts parts
parts_more x [] lt = absurd (omega (arith, lt))
parts_more x (y ∷ more) lt = refl

fed_next : (line rest : List ℕ) → Lacks 10 line → fed_lines (line ++ 10 ∷ rest) ≡ line ∷ fed_lines rest
unfolding fed_lines
fed_next line rest none =
    rw (slice_split_at (λ b. b == 10) line 10 rest none refl)
    (parts_more line (slice_split (λ b. b == 10) rest) (omega (arith, length-slice_split (λ b. b == 10) rest)))

records_lines : (names : List (List ℕ)) (rs : List Record) → are_names names ≡ true → fed_lines (records_text names rs) ≡ map (record_line names) rs
unfolding records_text record_text fed_lines
records_lines names [] named = refl
records_lines names (r ∷ rs) named =
    ap fed_lines (append_assoc (record_line names r) (10 ∷ []) (records_text names rs))
    ∙ fed_next (record_line names r) (records_text names rs) (line_lacks names r named)
    ∙ ap (λ l. record_line names r ∷ l) (records_lines names rs named)

pub log_has_lines : LogHasLines
unfolding log_text header_text
log_has_lines names rs named =
    ap fed_lines (append_assoc (header_line names) (10 ∷ []) (records_text names rs))
    ∙ fed_next (header_line names) (records_text names rs) (header_lacks names named)
    ∙ ap (λ l. header_line names ∷ l) (records_lines names rs named)

-- five pieces after others
after : (h a b c d e : List ℕ) → ((((h ++ a) ++ b) ++ c) ++ d) ++ e ≡ h ++ ((((a ++ b) ++ c) ++ d) ++ e)
after h a b c d e = simp append_assoc

pub lines_begin : LinesBegin
lines_begin names r = record {
  rest = or_dash (map count_text (counted_from 1 r.frame)) ++ codes "|" ++ or_dash (refused_texts names r.stages r.turns) ++ codes "|" ++ fault_text r.fault;
  no_bar = without_lacks 124 (place_text r.place) (plain_without 124 (place_text r.place) no_bar (place_plain r.place));
  text = after (decimal r.second.0 ++ codes "|" ++ place_text r.place ++ codes "|" ++ map letter r.picture ++ codes "|")
      (or_dash (map count_text (counted_from 1 r.frame))) (codes "|") (or_dash (refused_texts names r.stages r.turns)) (codes "|") (fault_text r.fault);
}
