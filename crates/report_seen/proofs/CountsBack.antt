-- The field of the counts: what is written of a frame is read as that frame.
use Rattle.std.proofs.Common.{◌≡◌, ◌∙◌, ℕ, ◌+◌, ◌-◌, ◌^◌, ◌<◌, ◌≤◌, Bool, true, false, List, [], ◌∷◌, ◌++◌, codes, length, map, replicate, Option, Some, refl, sym, ap, subst, arith, append_assoc}
use Rattle.std.specs.Prelude.{if◌then◌else◌, ◌==◌, ◌&&◌, fold, nat_lt}
use Rattle.std.specs.Fmt.{decimal}
use Rattle.std.specs.List.{All}
use Rattle.std.specs.Option.{option_map}
use Rattle.std.proofs.lemmas.Bool.{and_parts, eqb-true, lt-ltb}
use Rattle.std.proofs.lemmas.List.{length_push, set_at}
use Rattle.std.proofs.lemmas.List.Elements.{All-head, All-tail}
use Rattle.sig_types.specs.Counts.{Counts}
use Rattle.signal_log.specs.Log.{count_text, counted_from, or_dash}
use Rattle.signal_log.proofs.CountTexts.{count_text_without}
use Rattle.signal_log.proofs.Without.{decimal_without}
use Rattle.log_read.specs.Fields.{count_in, counted_items, frame_in, with_count}
use Rattle.report_seen.proofs.CutTexts.{AreItems, IsParted, colon_no_digit, cut_again, parted_items, space_no_digit}
use Rattle.report_seen.proofs.NumberTexts.{number_within}

-- counts of 32 bits
abbrev pub IsCount : ℕ × ℕ → Type 0
IsCount c = (c.0 < 2 ^ 32) × (c.1 < 2 ^ 32)

by_colons : (a b c : List ℕ) → (((a ++ codes ":") ++ b) ++ codes ":") ++ c ≡ a ++ 58 ∷ (b ++ 58 ∷ c)
by_colons a b c =
    append_assoc ((a ++ codes ":") ++ b) (codes ":") c
    ∙ append_assoc (a ++ codes ":") b (58 ∷ c)
    ∙ append_assoc a (codes ":") (b ++ 58 ∷ c)

-- the item of a detector that has a front or a rear
count_again : (d a b : ℕ) → 1 ≤ d → d ≤ 64 → a < 2 ^ 32 → b < 2 ^ 32 → ((a == 0) && (b == 0)) ≡ false →
    count_in (count_text (d, a, b)) ≡ Some (d, a, b)
unfolding count_in
count_again d a b some few front rear other =
    rw (
      by_colons (decimal d) (decimal a) (decimal b),
      cut_again 58 (decimal d) (decimal a ++ 58 ∷ decimal b) (decimal_without 58 d colon_no_digit),
      cut_again 58 (decimal a) (decimal b) (decimal_without 58 a colon_no_digit),
      number_within 1 64 d (omega arith) some few,
      number_within 0 4294967295 a (omega arith) (omega arith) (omega arith),
      number_within 0 4294967295 b (omega arith) (omega arith) (omega arith),
      other,
    ) refl

-- what was read up to detector `last`
abbrev read : ℕ → Counts → Option (ℕ × Counts)
read last frame = Some (last, frame)

-- the counts that were read
abbrev frame_of : Option (ℕ × Counts) → Option Counts
frame_of o = option_map (λ p. p.1) o

abbrev no_counts : ℕ × ℕ
no_counts = (0, 0)

-- one detector more, whose counts are read in their place
one_count : (last d a b : ℕ) (front rest : Counts) → last < d → d ≤ 64 → length front + 1 ≡ d → a < 2 ^ 32 → b < 2 ^ 32 →
    ((a == 0) && (b == 0)) ≡ false →
    with_count (read last (front ++ no_counts ∷ rest)) (count_text (d, a, b)) ≡ read d (front ++ (a, b) ∷ rest)
one_count last d a b front rest later few place fits fits' other =
    let above : nat_lt last d ≡ true = lt-ltb last d later in
    let at : length front ≡ d - 1 = omega arith in
    rw (count_again d a b (omega arith) few fits fits' other, above, set_at front no_counts rest (a, b) (d - 1) at) refl

-- the items of the detectors from d on are read, where those before them were read up to detector `last`
abbrev ReadsOn : ℕ → ℕ → Counts → Counts → Type 0
ReadsOn d last front frame =
    frame_of (fold with_count (read last (front ++ replicate (length frame) no_counts)) (map count_text (counted_from d frame)))
    ≡ Some (front ++ frame)

one_more : (d last : ℕ) (front : Counts) (c : ℕ × ℕ) (cs : Counts) → last < d → length front + 1 ≡ d →
    length front + length (c ∷ cs) ≤ 64 → IsCount c →
    ((l : ℕ) (f : Counts) → l < d + 1 → length f + 1 ≡ d + 1 → length f + length cs ≤ 64 → ReadsOn (d + 1) l f cs) →
    ReadsOn d last front (c ∷ cs)
one_more d last front c cs later place few here goes_on = by_test ((c.0 == 0) && (c.1 == 0)) refl
  where
    next : (l : ℕ) (x : ℕ × ℕ) → l < d + 1 →
        frame_of (fold with_count (read l (front ++ x ∷ replicate (length cs) no_counts)) (map count_text (counted_from (d + 1) cs)))
        ≡ Some (front ++ x ∷ cs)
    next l x before =
        let grown : length (front ++ x ∷ []) ≡ length front + 1 = length_push front x in
        subst (λ (f : Counts). frame_of (fold with_count (read l f) (map count_text (counted_from (d + 1) cs))) ≡ Some (front ++ x ∷ cs))
        (append_assoc front (x ∷ []) (replicate (length cs) no_counts))
        (goes_on l (front ++ x ∷ []) before (omega arith) (omega arith) ∙ ap (λ (f : Counts). Some f) (append_assoc front (x ∷ []) cs))

    by_test : (t : Bool) → ((c.0 == 0) && (c.1 == 0)) ≡ t →
        frame_of (fold with_count (read last (front ++ no_counts ∷ replicate (length cs) no_counts))
        (map count_text ((if t then [] else (d, c.0, c.1) ∷ []) ++ counted_from (d + 1) cs))) ≡ Some (front ++ c ∷ cs)
    by_test true none =
        let both = and_parts (c.0 == 0) (c.1 == 0) none in
        let is : no_counts ≡ c = ap (λ (n : ℕ). (n, 0)) (sym (eqb-true c.0 0 both.0))
        ∙ ap (λ (n : ℕ). (c.0, n)) (sym (eqb-true c.1 0 both.1)) in
        next last no_counts (omega arith) ∙ ap (λ (x : ℕ × ℕ). Some (front ++ x ∷ cs)) is
    by_test false some =
        ap (λ o. frame_of (fold with_count o (map count_text (counted_from (d + 1) cs))))
        (one_count last d c.0 c.1 front (replicate (length cs) no_counts) later (omega arith) place here.0 here.1 some)
        ∙ next d c (omega arith)

-- the items of all detectors
items_again : (d last : ℕ) (front frame : Counts) → last < d → length front + 1 ≡ d → length front + length frame ≤ 64 →
    All IsCount frame →
    ReadsOn d last front frame
items_again d last front [] later place few fits = refl
items_again d last front (c ∷ cs) later place few fits =
    one_more d last front c cs later place few (All-head IsCount c cs fits)
    (λ l f before at room. items_again (d + 1) l f cs before at room (All-tail IsCount c cs fits))

counted_again : (frame : Counts) → length frame ≡ 64 → All IsCount frame →
    frame_of (counted_items (map count_text (counted_from 1 frame))) ≡ Some frame
counted_again frame size fits =
    subst (λ (n : ℕ). frame_of (fold with_count (read 0 (replicate n no_counts)) (map count_text (counted_from 1 frame))) ≡ Some frame) size
    (items_again 1 0 [] frame (omega arith) refl (omega (arith, size)) fits)

-- ---- the field

are_items : (cs : List (ℕ × ℕ × ℕ)) → AreItems (map count_text cs)
are_items [] = tt
are_items (c ∷ cs) = (
  record {
    front = decimal c.0;
    rest = decimal c.1 ++ 58 ∷ decimal c.2;
    whole = by_colons (decimal c.0) (decimal c.1) (decimal c.2);
    no_space = count_text_without 32 c space_no_digit (λ e. absurd (omega (arith, e)));
  },
  are_items cs,
)

no_items : frame_in (codes "-") ≡ Some (replicate 64 no_counts)
unfolding frame_in
no_items = refl

some_items : (field : List ℕ) (items : List (List ℕ)) → IsParted field items → frame_in field ≡ frame_of (counted_items items)
unfolding frame_in
some_items field items is = rw (is.other, is.parts) refl

by_items : (cs : List (ℕ × ℕ × ℕ)) (frame : Counts) → frame_of (counted_items (map count_text cs)) ≡ Some frame →
    frame_in (or_dash (map count_text cs)) ≡ Some frame
by_items [] frame is = no_items ∙ is
by_items (c ∷ cs) frame is = some_items _ _ (parted_items (count_text c) (map count_text cs) (are_items (c ∷ cs))) ∙ is

pub frame_again : (frame : Counts) → length frame ≡ 64 → All IsCount frame →
    frame_in (or_dash (map count_text (counted_from 1 frame))) ≡ Some frame
frame_again frame size fits = by_items (counted_from 1 frame) frame (counted_again frame size fits)
