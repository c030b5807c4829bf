-- What a reader of records has read, and the records of the whole text.
use Rattle.std.proofs.Common.{◌≡◌, ◌∙◌, ℕ, zero, suc, ◌+◌, ◌-◌, ◌<◌, ◌≤◌, Bool, true, false, List, [], ◌∷◌, ◌++◌, length, Some, None, refl, sym, ap, arith, inl, inr, append-nil}
use Rattle.std.specs.Prelude.{if◌then◌else◌, ◌==◌, ◌&&◌}
use Rattle.std.proofs.lemmas.Bool.{cases_Bool, false≢true}
use Rattle.std.proofs.lemmas.Option.{same_Some, none-some}
use Rattle.csv.specs.Machine.{Read, next_record, step, in_field, start_field, start_record, is_end, ends_at_end, ends_with, after_end, fields_after, field_after}
use Rattle.csv.specs.Records.{field_at}
use Rattle.csv.specs.Reading.{records_from, Reached, default_config, strip_bom}
use Rattle.csv.specs.declared.parser.State.{State}
use Rattle.csv.specs.declared.parser.State.TheVariants as st
use Rattle.csv.specs.declared.parser.Action.{Action}
use Rattle.csv.specs.declared.parser.Action.TheVariants as act
use Rattle.sig_tables.specs.declared.records.Records.{Records}
use Rattle.sig_tables.specs.Records.{Row, table_rows, field, HasRead}

pub field_of_row : (row : Row) (k : ℕ) → k < length row → field_at row k ≡ Some (field row k)
unfolding field_at
field_of_row [] k lt = absurd (omega arith)
field_of_row (f ∷ fs) zero lt = refl
field_of_row (f ∷ fs) (suc k) lt = field_of_row fs k (omega arith)

-- a record ends where the next one may begin
abbrev BeginsNext : State × Action → Type 0
BeginsNext p = is_end p.1 ≡ true → ends_at_end p.0 ≡ false

either : (b : Bool) (x y : State × Action) → BeginsNext x → BeginsNext y → BeginsNext (if b then x else y)
either true x y hx hy = hx
either false x y hx hy = hy

goes_on : (s : State) (a : Action) → is_end a ≡ false → BeginsNext (s, a)
goes_on s a not_end is = absurd (false≢true (sym not_end ∙ is))

after_terminator : (b : Bool) → BeginsNext ((if b then st.AfterCr else st.StartRecord), act.EndRecord)
after_terminator true is = refl
after_terminator false is = refl

after_field : (c : ℕ) → BeginsNext (in_field default_config c)
after_field c =
    either (c == 44) (st.StartField, act.EndField) _ (goes_on st.StartField act.EndField refl)
    (either (ends_with default_config.terminator c) (after_end default_config.terminator c, act.EndRecord) (st.InField, act.Copy) (after_terminator (c == 13)) (goes_on st.InField act.Copy refl))

after_start : (c : ℕ) → BeginsNext (start_field default_config c)
after_start c = either (default_config.quoting && (c == 34)) (st.InQuoted, act.Skip) (in_field default_config c) (goes_on st.InQuoted act.Skip refl) (after_field c)

after_record : (c : ℕ) → BeginsNext (start_record default_config c)
after_record c = either (ends_with default_config.terminator c) (st.StartRecord, act.Skip) (start_field default_config c) (goes_on st.StartRecord act.Skip refl) (after_start c)

ends_after : (s : State) (c : ℕ) → BeginsNext (step default_config s c)
ends_after st.StartRecord c = after_record c
ends_after st.StartField c = after_start c
ends_after st.InField c = after_field c
ends_after st.InQuoted c = either (c == 34) (st.AfterQuote, act.Skip) (st.InQuoted, act.Copy) (goes_on st.AfterQuote act.Skip refl) (goes_on st.InQuoted act.Copy refl)
ends_after st.InEscape c = goes_on st.InQuoted act.Copy refl
ends_after st.AfterQuote c = either (c == 34) (st.InQuoted, act.Copy) (in_field default_config c) (goes_on st.InQuoted act.Copy refl) (after_field c)
ends_after st.InComment c = either (c == 10) (st.StartRecord, act.Skip) (st.InComment, act.Skip) (goes_on st.StartRecord act.Skip refl) (goes_on st.InComment act.Skip refl)
ends_after st.AfterCr c = either (c == 10) (st.StartRecord, act.Skip) (start_record default_config c) (goes_on st.StartRecord act.Skip refl) (after_record c)

-- a record that is read leaves a shorter text, and a state in which the next one may begin
abbrev Leaves : List ℕ → Read → Type 0
Leaves xs p = (length p.2 ≤ length xs) × (ends_at_end p.1 ≡ false)

leaves_same : (xs : List ℕ) (p q : Read) → Leaves xs q → Some q ≡ Some p → Leaves xs p
leaves_same xs p q holds is = rw (sym (same_Some q p is)) holds

leaves_longer : (c : ℕ) (xs : List ℕ) (p : Read) → Leaves xs p → Leaves (c ∷ xs) p
leaves_longer c xs p holds = (omega (arith, holds.0), holds.1)

at_end : (b : Bool) (p q : Read) → Leaves [] q → (if b then Some q else None) ≡ Some p → Leaves [] p
at_end true p q holds is = leaves_same [] p q holds is
at_end false p q holds is = absurd (none-some p is)

pub leaves : (s : State) (fs : List (List ℕ)) (f xs : List ℕ) (p : Read) → next_record default_config s fs f xs ≡ Some p → Leaves xs p
unfolding next_record
leaves s fs f [] p is = at_end (ends_at_end s) p (fs ++ (f ∷ []), st.StartRecord, []) (omega arith, refl) is
leaves s fs f (c ∷ rest) p is = elim (cases_Bool (is_end (step default_config s c).1)) [
  | inl ends ↦ (let now : Leaves (c ∷ rest) (fields_after (step default_config s c).1 fs f, (step default_config s c).0, rest) = (omega arith, ends_after s c ends) in
      leaves_same (c ∷ rest) p _ now (rw ends at is))
  | inr goes ↦ leaves_longer c rest p (leaves (step default_config s c).0 (fields_after (step default_config s c).1 fs f) (field_after (step default_config s c).1 c f) rest p (rw goes at is))
]

-- from a state in which a record may begin, each record takes a byte
pub shorter : (s : State) (xs : List ℕ) (p : Read) → ends_at_end s ≡ false → next_record default_config s [] [] xs ≡ Some p → (length p.2 < length xs) × (ends_at_end p.1 ≡ false)
unfolding next_record
shorter s [] p begins is = absurd (none-some p (rw begins at is))
shorter s (c ∷ rest) p begins is = elim (cases_Bool (is_end (step default_config s c).1)) [
  | inl ends ↦ (let now : Leaves rest (fields_after (step default_config s c).1 [] [], (step default_config s c).0, rest) = (omega arith, ends_after s c ends) in
      let l : Leaves rest p = leaves_same rest p _ now (rw ends at is) in (omega (arith, l.0), l.1))
  | inr goes ↦ (let l : Leaves rest p = leaves (step default_config s c).0 (fields_after (step default_config s c).1 [] []) (field_after (step default_config s c).1 c []) rest p (rw goes at is) in (omega (arith, l.0), l.1))
]

-- a reader of the records reaches what is read of the whole text
reached_of : (s s2 : State) (xs ys : List ℕ) (rows : List Row) (k n : ℕ) → Reached default_config s xs rows s2 ys → k ≡ length rows + n →
    records_from default_config k s xs ≡ rows ++ records_from default_config n s2 ys
unfolding Reached records_from
reached_of s s2 xs ys [] k n r is = let e : k ≡ n = omega arith in rw (e, r.0, r.1) refl
reached_of s s2 xs ys (row ∷ rows) k n r is =
    let e : k ≡ suc (length rows + n) = omega arith in
    rw (e, r.1, r.2) (ap (λ (l : List Row). r.0.0 ∷ l) (reached_of r.0.1 s2 r.0.2 ys rows (length rows + n) n r.3 refl))

few_rows : (s s2 : State) (xs ys : List ℕ) (rows : List Row) → ends_at_end s ≡ false → Reached default_config s xs rows s2 ys → (length rows + length ys ≤ length xs) × (ends_at_end s2 ≡ false)
unfolding Reached
few_rows s s2 xs ys [] begins r = (omega (arith, ap length r.1), ap ends_at_end (sym r.0) ∙ begins)
few_rows s s2 xs ys (row ∷ rows) begins r =
    let one = shorter s xs r.0 begins r.1 in
    let more = few_rows r.0.1 s2 r.0.2 ys rows one.1 r.3 in
    (omega (arith, one.0, more.0), more.1)

-- a text begins with the records that were read
pub begins_with : (text : List ℕ) (rows : List Row) (s : State) (rest : List ℕ) → Reached default_config st.StartRecord (strip_bom text) rows s rest →
    table_rows text ≡ rows ++ records_from default_config (length (strip_bom text) + 1 - length rows) s rest
unfolding table_rows
begins_with text rows s rest r =
    let few = few_rows st.StartRecord s (strip_bom text) rest rows refl r in
    reached_of st.StartRecord s (strip_bom text) rest rows (length (strip_bom text) + 1) (length (strip_bom text) + 1 - length rows) r (omega (arith, few.0))

no_more : (n : ℕ) (s : State) (rest : List ℕ) → next_record default_config s [] [] rest ≡ None → records_from default_config n s rest ≡ []
unfolding records_from
no_more zero s rest none = refl
no_more (suc n) s rest none = rw none refl

-- and has no others, where no more can be read
pub are_all : (text : List ℕ) (rows : List Row) (s : State) (rest : List ℕ) → Reached default_config st.StartRecord (strip_bom text) rows s rest →
    next_record default_config s [] [] rest ≡ None → table_rows text ≡ rows
are_all text rows s rest r none =
    begins_with text rows s rest r ∙ ap (λ (l : List Row). rows ++ l) (no_more _ s rest none) ∙ append-nil rows

-- the records that were read, and those that were not
pub text_begins : (r : Records) (text : List ℕ) (rows : List Row) → HasRead r text rows → (more : List Row) × (table_rows text ≡ rows ++ more)
text_begins r text rows has = (_, begins_with text rows r.reader.state has.rest has.reached)
