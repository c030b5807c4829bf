-- The fields of a record and the header have plain bytes alone: no bar and no line feed.
use Rattle.std.proofs.Common.{◌≡◌, ℕ, zero, suc, ◌<◌, ◌≤◌, inl, inr, true, List, [], ◌∷◌, ◌++◌, map, length, codes, ◌&&◌, ◌||◌, nat_le, refl, arith}
use Rattle.std.specs.Prelude.{slice_index_or, Option, None, Some}
use Rattle.std.specs.Fmt.{decimal}
use Rattle.std.proofs.lemmas.Bool.{and_parts, cases_Bool}
use Rattle.std.proofs.lemmas.Grind.{common_steps}
use Rattle.std.specs.List.{flat_map}
use Rattle.pua_model.specs.Plan.{are_names}
use Rattle.sig_types.specs.Text.{is_letter, is_digit, is_word, is_name}
use Rattle.sig_types.specs.declared.aspect.Aspect.{Aspect}
use Rattle.sig_types.specs.declared.aspect.Aspect.TheVariants.{Red, RedAmber, Green, Amber}
use Rattle.sig_types.specs.declared.aspect.Rule.{Rule}
use Rattle.sig_types.specs.declared.aspect.Rule.TheVariants.{Sequence, MinGreen, MinRed, Conflict, Intergreen, Running, WrongStage, NoInterstage}
use Rattle.sig_types.specs.declared.kinds.FaultKind.{FaultKind}
use Rattle.sig_types.specs.declared.kinds.FaultKind.TheVariants.{Budget, Overflow, ZeroDivisor, Index, Number}
use Rattle.sig_types.specs.declared.refused.TurnRefusal.{TurnRefusal}
use Rattle.sig_types.specs.declared.refused.StageRefusal.{StageRefusal}
use Rattle.sig_types.specs.declared.numbers.GroupNo.{GroupNo}
use Rattle.sig_types.specs.declared.refused.Fault.{Fault}
use Rattle.sig_types.specs.declared.record.Record.{Record}
use Rattle.sig_types.specs.declared.numbers.StagePlace.{StagePlace}
use Rattle.sig_types.specs.declared.numbers.StagePlace.TheVariants.{NoPlan, Stage, Inter}
use Rattle.sig_types.specs.LogForm.{letter, spaced}
use Rattle.signal_log.specs.Log.{rule_name, fault_name, place_text, name_of, stage_refusal_text, other_text, other_of, turn_text, fault_text, gap, spaced_items, or_dash, count_text, refused_texts}
use Rattle.signal_log.proofs.Plain.{Plain, plain-append, decimal_plain, plain_by_test}

rule_plain : (r : Rule) → Plain (rule_name r)
rule_plain Sequence = plain_by_test (codes "Sequence") refl
rule_plain MinGreen = plain_by_test (codes "MinGreen") refl
rule_plain MinRed = plain_by_test (codes "MinRed") refl
rule_plain Conflict = plain_by_test (codes "Conflict") refl
rule_plain Intergreen = plain_by_test (codes "Intergreen") refl
rule_plain Running = plain_by_test (codes "Running") refl
rule_plain WrongStage = plain_by_test (codes "WrongStage") refl
rule_plain NoInterstage = plain_by_test (codes "NoInterstage") refl

kind_plain : (k : FaultKind) → Plain (fault_name k)
kind_plain Budget = plain_by_test (codes "Budget") refl
kind_plain Overflow = plain_by_test (codes "Overflow") refl
kind_plain ZeroDivisor = plain_by_test (codes "ZeroDivisor") refl
kind_plain Index = plain_by_test (codes "Index") refl
kind_plain Number = plain_by_test (codes "Number") refl

letter_plain : (a : Aspect) → (32 ≤ letter a) × (letter a < 124)
letter_plain Red = (omega arith, omega arith)
letter_plain RedAmber = (omega arith, omega arith)
letter_plain Green = (omega arith, omega arith)
letter_plain Amber = (omega arith, omega arith)

pub letters_plain : (picture : List Aspect) → Plain (map letter picture)
letters_plain [] = tt
letters_plain (a ∷ picture) = (letter_plain a, letters_plain picture)

pub place_plain : (p : StagePlace) → Plain (place_text p)
place_plain NoPlan = plain_by_test (codes "-") refl
place_plain (Stage s) = plain-append (codes "S") (decimal s.0) (plain_by_test (codes "S") refl) (decimal_plain s.0)
place_plain (Inter from to t) =
    plain-append (codes "I" ++ decimal from.0 ++ codes "-" ++ decimal to.0 ++ codes "+") (decimal t)
    (plain-append (codes "I" ++ decimal from.0 ++ codes "-" ++ decimal to.0) (codes "+")
    (plain-append (codes "I" ++ decimal from.0 ++ codes "-") (decimal to.0)
    (plain-append (codes "I" ++ decimal from.0) (codes "-")
    (plain-append (codes "I") (decimal from.0) (plain_by_test (codes "I") refl) (decimal_plain from.0))
    (plain_by_test (codes "-") refl))
    (decimal_plain to.0))
    (plain_by_test (codes "+") refl))
    (decimal_plain t)

-- items of plain bytes
abbrev pub AllPlain : List (List ℕ) → Type 0
AllPlain [] = Unit {0}
AllPlain (x ∷ xs) = Plain x × AllPlain xs

pub all_plain-append : (xs ys : List (List ℕ)) → AllPlain xs → AllPlain ys → AllPlain (xs ++ ys)
all_plain-append [] ys p q = q
all_plain-append (x ∷ xs) ys p q = (p.0, all_plain-append xs ys p.1 q)

spaced_items_plain : (xs : List (List ℕ)) → AllPlain xs → Plain (spaced_items true xs)
spaced_items_plain [] p = tt
spaced_items_plain (x ∷ xs) p =
    plain-append (gap true ++ x) (spaced_items true xs) (plain-append (gap true) x (plain_by_test (gap true) refl) p.0) (spaced_items_plain xs p.1)

pub or_dash_plain : (xs : List (List ℕ)) → AllPlain xs → Plain (or_dash xs)
or_dash_plain [] p = plain_by_test (codes "-") refl
or_dash_plain (x ∷ xs) p = plain-append x (spaced_items true xs) p.0 (spaced_items_plain xs p.1)

count_plain : (c : ℕ × ℕ × ℕ) → Plain (count_text c)
count_plain c =
    plain-append (decimal c.0 ++ codes ":" ++ decimal c.1 ++ codes ":") (decimal c.2)
    (plain-append (decimal c.0 ++ codes ":" ++ decimal c.1) (codes ":")
    (plain-append (decimal c.0 ++ codes ":") (decimal c.1)
    (plain-append (decimal c.0) (codes ":") (decimal_plain c.0) (plain_by_test (codes ":") refl))
    (decimal_plain c.1))
    (plain_by_test (codes ":") refl))
    (decimal_plain c.2)

pub counts_plain : (cs : List (ℕ × ℕ × ℕ)) → AllPlain (map count_text cs)
counts_plain [] = tt
counts_plain (c ∷ cs) = (count_plain c, counts_plain cs)

-- names have letters, digits and underlines
letter_byte : (b : ℕ) → is_letter b ≡ true → (32 ≤ b) × (b < 124)
letter_byte b h = (grind (arith, common_steps), grind (arith, common_steps))

digit_byte : (b : ℕ) → is_digit b ≡ true → (32 ≤ b) × (b < 124)
digit_byte b h = (grind (arith, common_steps), grind (arith, common_steps))

word_byte : (b : ℕ) → (is_letter b || is_digit b) ≡ true → (32 ≤ b) × (b < 124)
word_byte b h = elim (cases_Bool (is_letter b)) [ inl here ↦ letter_byte b here | inr other ↦ digit_byte b (rw other at h) ]

word_plain : (bs : List ℕ) → is_word bs ≡ true → Plain bs
word_plain [] t = tt
word_plain (b ∷ bs) t = (
  word_byte b (and_parts (is_letter b || is_digit b) (is_word bs) t).0,
  word_plain bs (and_parts (is_letter b || is_digit b) (is_word bs) t).1,
)

name_plain : (bs : List ℕ) → is_name bs ≡ true → Plain bs
name_plain [] t = tt
name_plain (b ∷ bs) t =
    let front = (and_parts (is_letter b && is_word bs) (nat_le (length bs) 31) t).0 in
    (letter_byte b (and_parts (is_letter b) (is_word bs) front).0, word_plain bs (and_parts (is_letter b) (is_word bs) front).1)

named_plain : (names : List (List ℕ)) (g : ℕ) → are_names names ≡ true → Plain (slice_index_or names g [])
named_plain [] g t = tt
named_plain (n ∷ ns) zero t = name_plain n (and_parts (is_name n) (are_names ns) t).0
named_plain (n ∷ ns) (suc g) t = named_plain ns g (and_parts (is_name n) (are_names ns) t).1

pub stages_plain : (rs : List StageRefusal) → AllPlain (map stage_refusal_text rs)
stages_plain [] = tt
stages_plain (r ∷ rs) = (
  plain-append (decimal r.from.0 ++ codes "-" ++ decimal r.to.0 ++ codes ":") (rule_name r.rule)
      (plain-append (decimal r.from.0 ++ codes "-" ++ decimal r.to.0) (codes ":")
      (plain-append (decimal r.from.0 ++ codes "-") (decimal r.to.0)
      (plain-append (decimal r.from.0) (codes "-") (decimal_plain r.from.0) (plain_by_test (codes "-") refl))
      (decimal_plain r.to.0))
      (plain_by_test (codes ":") refl))
      (rule_plain r.rule),
  stages_plain rs,
)

other_plain : (names : List (List ℕ)) (o : Option GroupNo) → are_names names ≡ true → Plain (other_text names o)
other_plain names None t = tt
other_plain names (Some g) t = plain-append (codes ":") (name_of names g) (plain_by_test (codes ":") refl) (named_plain names g.0 t)

turn_plain : (names : List (List ℕ)) (turn : TurnRefusal) → are_names names ≡ true → Plain (turn_text names turn)
turn_plain names turn t =
    plain-append (name_of names turn.group ++ codes ":" ++ rule_name turn.rule) (other_text names (other_of turn.rule turn.other))
    (plain-append (name_of names turn.group ++ codes ":") (rule_name turn.rule)
    (plain-append (name_of names turn.group) (codes ":") (named_plain names turn.group.0 t) (plain_by_test (codes ":") refl))
    (rule_plain turn.rule))
    (other_plain names (other_of turn.rule turn.other) t)

pub turns_plain : (names : List (List ℕ)) (turns : List TurnRefusal) → are_names names ≡ true → AllPlain (map (turn_text names) turns)
turns_plain names [] t = tt
turns_plain names (turn ∷ turns) t = (turn_plain names turn t, turns_plain names turns t)

pub fault_plain : (f : Option Fault) → Plain (fault_text f)
fault_plain None = plain_by_test (codes "-") refl
fault_plain (Some f) =
    plain-append (fault_name f.kind ++ codes "@") (decimal f.line)
    (plain-append (fault_name f.kind) (codes "@") (kind_plain f.kind) (plain_by_test (codes "@") refl)) (decimal_plain f.line)

-- the names after their spaces
pub spaced_plain : (names : List (List ℕ)) → are_names names ≡ true → Plain (flat_map spaced names)
spaced_plain [] t = tt
spaced_plain (n ∷ ns) t =
    let both = and_parts (is_name n) (are_names ns) t in
    plain-append (spaced n) (flat_map spaced ns) ((omega arith, omega arith), name_plain n both.0) (spaced_plain ns both.1)

pub refused_plain : (names : List (List ℕ)) (r : Record) → are_names names ≡ true → Plain (or_dash (refused_texts names r.stages r.turns))
refused_plain names r named =
    or_dash_plain (refused_texts names r.stages r.turns)
    (all_plain-append (map stage_refusal_text r.stages) (map (turn_text names) r.turns) (stages_plain r.stages) (turns_plain names r.turns named))
