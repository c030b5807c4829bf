-- How long the line of a record can be.
use Rattle.std.proofs.Common.{◌≡◌, ℕ, zero, suc, ◌+◌, ◌*◌, ◌<◌, ◌≤◌, ◌/◌, ◌%◌, Bool, true, false, List, [], ◌∷◌, ◌++◌, length, map, codes, if◌then◌else◌, ◌==◌, ◌&&◌, nat_le, All, Option, Some, None, arith, length-append}
use Rattle.std.specs.Prelude.{slice_index_or}
use Rattle.std.specs.List.{flat_map}
use Rattle.std.specs.Fmt.{decimal, digits, digits_onto, digit_glyph}
use Rattle.std.proofs.lemmas.Fmt.{length-decimal-le}
use Rattle.std.proofs.lemmas.List.{length-map}
use Rattle.std.proofs.lemmas.Bool.{and_parts, leb-true}
use Rattle.pua_model.specs.Plan.{are_names}
use Rattle.sig_types.specs.Text.{is_name, is_word, is_letter}
use Rattle.sig_types.specs.LogForm.{header_line, letter, spaced}
use Rattle.sig_types.specs.declared.aspect.Rule.{Rule}
use Rattle.sig_types.specs.declared.aspect.Rule.TheVariants.{Sequence, MinGreen, MinRed, Conflict, Intergreen, Running, WrongStage, NoInterstage}
use Rattle.sig_types.specs.declared.kinds.FaultKind.{FaultKind}
use Rattle.sig_types.specs.declared.kinds.FaultKind.TheVariants.{Budget, Overflow, ZeroDivisor, Index, Number}
use Rattle.sig_types.specs.declared.refused.TurnRefusal.{TurnRefusal}
use Rattle.sig_types.specs.declared.refused.StageRefusal.{StageRefusal}
use Rattle.sig_types.specs.declared.record.Record.{Record}
use Rattle.sig_types.specs.Recorded.{IsRecord}
use Rattle.sig_types.specs.declared.numbers.GroupNo.{GroupNo}
use Rattle.sig_types.specs.declared.refused.Fault.{Fault}
use Rattle.sig_types.specs.declared.numbers.StagePlace.{StagePlace}
use Rattle.sig_types.specs.declared.numbers.StagePlace.TheVariants.{NoPlan, Stage, Inter}
use Rattle.signal_log.specs.Log.{rule_name, fault_name, place_text, name_of, stage_refusal_text, other_text, other_of, turn_text, refused_texts, fault_text, gap, spaced_items, or_dash, count_text, count_entry, counted_from, record_line, record_text, header_text}
use Rattle.signal_log.specs.Laws.{HeaderIsShort, LinesAreShort}

-- ---- numbers

either_short : (t : Bool) (xs ys : List ℕ) (m : ℕ) → length xs ≤ m → length ys ≤ m → length (if t then xs else ys) ≤ m
either_short true xs ys m p q = p
either_short false xs ys m p q = q

digits_onto_short : (k n : ℕ) (text : List ℕ) → length (digits_onto k 10 false n text) ≤ k + length text
digits_onto_short zero n text = omega arith
digits_onto_short (suc k) n text =
    let more = digit_glyph false (n % 10) ∷ text in
    either_short (n / 10 == 0) more (digits_onto k 10 false (n / 10) more) (suc k + length text) (omega arith)
    (omega (arith, digits_onto_short k (n / 10) more))

-- no number is written with more than 64 digits
decimal_short : (n : ℕ) → length (decimal n) ≤ 64
unfolding digits
decimal_short n = digits_onto_short 64 n []

small_short : (n : ℕ) → n < 1000 → length (decimal n) ≤ 3
small_short n few = length-decimal-le 3 n (omega arith) (omega (arith, few)) (omega (arith, few))

-- ---- the fields but for lists

two : (xs ys : List ℕ) (a b : ℕ) → length xs ≤ a → length ys ≤ b → length (xs ++ ys) ≤ a + b
two xs ys a b p q = omega (arith, length-append xs ys, p, q)

rule_short : (r : Rule) → length (rule_name r) ≤ 12
rule_short Sequence = omega arith
rule_short MinGreen = omega arith
rule_short MinRed = omega arith
rule_short Conflict = omega arith
rule_short Intergreen = omega arith
rule_short Running = omega arith
rule_short WrongStage = omega arith
rule_short NoInterstage = omega arith

kind_short : (k : FaultKind) → length (fault_name k) ≤ 12
kind_short Budget = omega arith
kind_short Overflow = omega arith
kind_short ZeroDivisor = omega arith
kind_short Index = omega arith
kind_short Number = omega arith

place_short : (p : StagePlace) → length (place_text p) ≤ 195
place_short NoPlan = omega arith
place_short (Stage s) = omega (arith, two (codes "S") (decimal s.0) 1 64 (omega arith) (decimal_short s.0))
place_short (Inter from to t) =
    two (codes "I" ++ decimal from.0 ++ codes "-" ++ decimal to.0 ++ codes "+") (decimal t) 131 64
    (two (codes "I" ++ decimal from.0 ++ codes "-" ++ decimal to.0) (codes "+") 130 1
    (two (codes "I" ++ decimal from.0 ++ codes "-") (decimal to.0) 66 64
    (two (codes "I" ++ decimal from.0) (codes "-") 65 1
    (two (codes "I") (decimal from.0) 1 64 (omega arith) (decimal_short from.0))
    (omega arith))
    (decimal_short to.0))
    (omega arith))
    (decimal_short t)

fault_short : (f : Option Fault) → length (fault_text f) ≤ 77
fault_short None = omega arith
fault_short (Some f) =
    two (fault_name f.kind ++ codes "@") (decimal f.line) 13 64 (two (fault_name f.kind) (codes "@") 12 1 (kind_short f.kind) (omega arith))
    (decimal_short f.line)

-- ---- lists of items

-- the bytes of items, with one more for each
abbrev total : List (List ℕ) → ℕ
total [] = 0
total (x ∷ xs) = length x + 1 + total xs

total-append : (xs ys : List (List ℕ)) → total (xs ++ ys) ≡ total xs + total ys
total-append [] ys = omega arith
total-append (x ∷ xs) ys = omega (arith, total-append xs ys)

gap_short : (more : Bool) → length (gap more) ≤ 1
gap_short true = omega arith
gap_short false = omega arith

spaced_items_short : (more : Bool) (xs : List (List ℕ)) → length (spaced_items more xs) ≤ total xs
spaced_items_short more [] = omega arith
spaced_items_short more (x ∷ xs) =
    omega (arith, length-append (gap more ++ x) (spaced_items true xs), length-append (gap more) x, gap_short more, spaced_items_short true xs)

or_dash_short : (xs : List (List ℕ)) → length (or_dash xs) ≤ total xs + 1
or_dash_short [] = omega arith
or_dash_short (x ∷ xs) = omega (arith, spaced_items_short false (x ∷ xs))

either_few : {A : Type 0} (t : Bool) (x : A) → length (if t then [] else x ∷ []) ≤ 1
either_few true x = omega arith
either_few false x = omega arith

counted_few : (d : ℕ) (cs : List (ℕ × ℕ)) → length (counted_from d cs) ≤ length cs
counted_few d [] = omega arith
counted_few d (c ∷ cs) =
    omega (
      arith,
      length-append (count_entry d c) (counted_from (d + 1) cs),
      either_few {A = ℕ × ℕ × ℕ} ((c.0 == 0) && (c.1 == 0)) (d, c.0, c.1),
      counted_few (d + 1) cs,
    )

count_short : (c : ℕ × ℕ × ℕ) → length (count_text c) ≤ 194
count_short c =
    two (decimal c.0 ++ codes ":" ++ decimal c.1 ++ codes ":") (decimal c.2) 130 64
    (two (decimal c.0 ++ codes ":" ++ decimal c.1) (codes ":") 129 1
    (two (decimal c.0 ++ codes ":") (decimal c.1) 65 64
    (two (decimal c.0) (codes ":") 64 1 (decimal_short c.0) (omega arith))
    (decimal_short c.1))
    (omega arith))
    (decimal_short c.2)

counts_short : (cs : List (ℕ × ℕ × ℕ)) → total (map count_text cs) ≤ 195 * length cs
counts_short [] = omega arith
counts_short (c ∷ cs) = omega (arith, count_short c, counts_short cs)

stages_short : (rs : List StageRefusal) → All (λ s. (s.from.0 < 1000) × (s.to.0 < 1000)) rs → total (map stage_refusal_text rs) ≤ 21 * length rs
stages_short [] few = omega arith
stages_short (r ∷ rs) few =
    let here = few 0 r (omega arith) in
    let text = two (decimal r.from.0 ++ codes "-" ++ decimal r.to.0 ++ codes ":") (rule_name r.rule) 8 12
    (two (decimal r.from.0 ++ codes "-" ++ decimal r.to.0) (codes ":") 7 1
    (two (decimal r.from.0 ++ codes "-") (decimal r.to.0) 4 3
    (two (decimal r.from.0) (codes "-") 3 1 (small_short r.from.0 here.0) (omega arith))
    (small_short r.to.0 here.1))
    (omega arith))
    (rule_short r.rule) in
    omega (arith, text, stages_short rs (λ k d lt. few (suc k) d (omega (arith, lt))))

name_short : (bs : List ℕ) → is_name bs ≡ true → length bs ≤ 32
name_short [] t = omega arith
name_short (b ∷ bs) t = omega (arith, leb-true (length bs) 31 (and_parts (is_letter b && is_word bs) (nat_le (length bs) 31) t).1)

named_short : (names : List (List ℕ)) (g : ℕ) → are_names names ≡ true → length (slice_index_or names g []) ≤ 32
named_short [] g t = omega arith
named_short (n ∷ ns) zero t = name_short n (and_parts (is_name n) (are_names ns) t).0
named_short (n ∷ ns) (suc g) t = named_short ns g (and_parts (is_name n) (are_names ns) t).1

other_short : (names : List (List ℕ)) (o : Option GroupNo) → are_names names ≡ true → length (other_text names o) ≤ 33
other_short names None t = omega arith
other_short names (Some g) t = two (codes ":") (name_of names g) 1 32 (omega arith) (named_short names g.0 t)

turns_short : (names : List (List ℕ)) (turns : List TurnRefusal) → are_names names ≡ true → total (map (turn_text names) turns) ≤ 79 * length turns
turns_short names [] t = omega arith
turns_short names (turn ∷ turns) t =
    let text = two (name_of names turn.group ++ codes ":" ++ rule_name turn.rule) (other_text names (other_of turn.rule turn.other)) 45 33
    (two (name_of names turn.group ++ codes ":") (rule_name turn.rule) 33 12
    (two (name_of names turn.group) (codes ":") 32 1 (named_short names turn.group.0 t) (omega arith))
    (rule_short turn.rule))
    (other_short names (other_of turn.rule turn.other) t) in
    omega (arith, text, turns_short names turns t)

-- ---- the header

spaced_short : (names : List (List ℕ)) → are_names names ≡ true → length (flat_map spaced names) ≤ 33 * length names
spaced_short [] named = omega arith
spaced_short (n ∷ ns) named =
    let both = and_parts (is_name n) (are_names ns) named in
    omega (arith, length-append (spaced n) (flat_map spaced ns), name_short n both.0, spaced_short ns both.1)

pub header_is_short : HeaderIsShort
unfolding header_line
header_is_short names named groups =
    omega (arith, length-append (codes "VAPLOG 1") (flat_map spaced names), spaced_short names named, groups)

-- ---- the line

-- a line of which what was refused has at most m bytes
line_short : (names : List (List ℕ)) (r : Record) (m : ℕ) → length names ≤ 64 → IsRecord (length names) r →
    length (or_dash (refused_texts names r.stages r.turns)) ≤ m → length (record_line names r) ≤ 12886 + m
line_short names r m groups is refused =
    let d = decimal r.second.0 in
    let p = place_text r.place in
    let l = map letter r.picture in
    let c = or_dash (map count_text (counted_from 1 r.frame)) in
    let u = or_dash (refused_texts names r.stages r.turns) in
    let f = fault_text r.fault in
    let counts : length c ≤ 12481 = omega (
      arith,
      or_dash_short (map count_text (counted_from 1 r.frame)),
      counts_short (counted_from 1 r.frame),
      counted_few 1 r.frame,
      is.frame,
    ) in
    let letters : length l ≤ 64 = omega (arith, length-map r.picture letter, is.picture, groups) in
    omega (
      arith,
      two (d ++ codes "|" ++ p ++ codes "|" ++ l ++ codes "|" ++ c ++ codes "|" ++ u ++ codes "|") f (12808 + m + 1) 77
          (two (d ++ codes "|" ++ p ++ codes "|" ++ l ++ codes "|" ++ c ++ codes "|" ++ u) (codes "|") (12808 + m) 1
          (two (d ++ codes "|" ++ p ++ codes "|" ++ l ++ codes "|" ++ c ++ codes "|") u 12808 m
          (two (d ++ codes "|" ++ p ++ codes "|" ++ l ++ codes "|" ++ c) (codes "|") 12807 1
          (two (d ++ codes "|" ++ p ++ codes "|" ++ l ++ codes "|") c 326 12481
          (two (d ++ codes "|" ++ p ++ codes "|" ++ l) (codes "|") 325 1
          (two (d ++ codes "|" ++ p ++ codes "|") l 261 64
          (two (d ++ codes "|" ++ p) (codes "|") 260 1
          (two (d ++ codes "|") p 65 195
          (two d (codes "|") 64 1 (decimal_short r.second.0) (omega arith))
          (place_short r.place))
          (omega arith))
          letters)
          (omega arith))
          counts)
          (omega arith))
          refused)
          (omega arith))
          (fault_short r.fault),
    )

pub lines_are_short : LinesAreShort
lines_are_short names r named groups is few =
    let refused : length (or_dash (refused_texts names r.stages r.turns)) ≤ 215057 = omega (
      arith,
      or_dash_short (refused_texts names r.stages r.turns),
      total-append (map stage_refusal_text r.stages) (map (turn_text names) r.turns),
      stages_short r.stages few.stages,
      turns_short names r.turns named,
      few.commands,
      few.turns,
    ) in
    omega (arith, line_short names r 215057 groups is refused)

-- whichever stages were refused
stages_any : (rs : List StageRefusal) → total (map stage_refusal_text rs) ≤ 143 * length rs
stages_any [] = omega arith
stages_any (r ∷ rs) =
    let text = two (decimal r.from.0 ++ codes "-" ++ decimal r.to.0 ++ codes ":") (rule_name r.rule) 130 12
    (two (decimal r.from.0 ++ codes "-" ++ decimal r.to.0) (codes ":") 129 1
    (two (decimal r.from.0 ++ codes "-") (decimal r.to.0) 65 64
    (two (decimal r.from.0) (codes "-") 64 1 (decimal_short r.from.0) (omega arith))
    (decimal_short r.to.0))
    (omega arith))
    (rule_short r.rule) in
    omega (arith, text, stages_any rs)

pub header_any : (names : List (List ℕ)) → are_names names ≡ true → length names ≤ 64 → length (header_text names) ≤ 2097152
unfolding header_text
header_any names named groups = omega (arith, length-append (header_line names) (10 ∷ []), header_is_short names named groups)

pub record_any : (names : List (List ℕ)) (r : Record) → are_names names ≡ true → length names ≤ 64 → IsRecord (length names) r →
    length r.stages ≤ 10000 → length r.turns ≤ 64 → length (record_text names r) ≤ 2097152
unfolding record_text
record_any names r named groups is stages turns =
    let refused : length (or_dash (refused_texts names r.stages r.turns)) ≤ 1500000 = omega (
      arith,
      or_dash_short (refused_texts names r.stages r.turns),
      total-append (map stage_refusal_text r.stages) (map (turn_text names) r.turns),
      stages_any r.stages,
      turns_short names r.turns named,
      stages,
      turns,
    ) in
    omega (arith, line_short names r 1500000 groups is refused, length-append (record_line names r) (codes "\n"))
