-- The refused records of the records that were read.
use Rattle.std.proofs.Common.{◌≡◌, ◌∙◌, ℕ, ◌+◌, ◌≤◌, Bool, true, false, List, [], ◌∷◌, ◌++◌, length, take, cond, Option, refl, sym, ap, arith, append_assoc, append-nil, length-append}
use Rattle.std.proofs.Math.Seq.{take-append_seam}
use Rattle.std.specs.Prelude.{zero, suc}
use Rattle.sig_types.specs.FirstRefused.{with_line}
use Rattle.pua_model.specs.Plan.{PlanOf}
use Rattle.table_check.specs.declared.table.Table.{Table}
use Rattle.sig_tables.specs.declared.refusal.TableWhy.{TableWhy}
use Rattle.sig_tables.specs.declared.refusal.TableWhy.TheVariants as why
use Rattle.sig_tables.specs.Records.{Row, is_header, table_rows}
use Rattle.sig_tables.specs.Refusals.{Refusal, numbered}
use Rattle.sig_tables.proofs.Rows.{begins_with}
use Rattle.table_check.specs.declared.rows.Rows.{Rows}
use Rattle.table_check.specs.Passed.{HasPassed}
use Rattle.table_check.specs.Read.{HasRead}
use Rattle.table_check.specs.Refused.{headers_in, record_reason, refused_each, refused_records, refused_rows, told}
use Rattle.table_check.specs.Seen.{HasSeenBy}

-- the refused ones among some records and one more
pub each_pushed : (judge : List Row → Row → Option Refusal) (before rows : List Row) (row : Row) →
    refused_each judge before (rows ++ row ∷ []) ≡ refused_each judge before rows ++ told (judge (before ++ rows) row)
each_pushed judge before [] row =
    append-nil (told (judge before row)) ∙ ap (λ b. told (judge b row)) (sym (append-nil before))
each_pushed judge before (r ∷ rows) row =
    ap (λ l. told (judge before r) ++ l) (each_pushed judge (before ++ r ∷ []) rows row)
    ∙ ap (λ b. told (judge before r) ++ (refused_each judge (before ++ r ∷ []) rows ++ told (judge b row))) (append_assoc before (r ∷ []) rows)
    ∙ sym (append_assoc (told (judge before r)) (refused_each judge (before ++ r ∷ []) rows) (told (judge (before ++ r ∷ rows) row)))

-- the records that were read, and those that were not
pub text_begins : (r : Rows) (text : List ℕ) (rows : List Row) → HasRead r text rows → (more : List Row) × (table_rows text ≡ rows ++ more)
text_begins r text rows has = (_, begins_with text rows r.reader.state has.rest has.reached)

-- the header was read
pub begun : (plan : Option PlanOf) (table : Table) (text : List ℕ) (r : Rows) (fields : ℕ) (seen : List Bool) (header : Row)
    (refused : List Refusal) → HasRead r text (header ∷ []) → is_header (headers_in table) header ≡ true → length header ≡ fields →
    HasSeenBy plan table [] seen → length seen ≡ 4096 → refused ≡ [] → HasPassed plan table text r fields 2 seen refused
begun plan table text r fields seen header refused read right fields_are sees size none = record {
  header = header;
  before = [];
  read = read;
  right = right;
  fields_are = fields_are;
  number = refl;
  sees = sees;
  size = size;
  refused_are = none;
}

-- one record more was judged
pub passed_more : (plan : Option PlanOf) (table : Table) (text : List ℕ) (old new : Rows) (fields n : ℕ) (seen now : List Bool)
    (refused more : List Refusal) (row : Row) (why : Option TableWhy) (p : HasPassed plan table text old fields n seen refused) →
    HasRead new text ((p.header ∷ p.before) ++ row ∷ []) → why ≡ record_reason plan table fields p.before row →
    HasSeenBy plan table (p.before ++ row ∷ []) now → length now ≡ 4096 → more ≡ refused ++ told (with_line n why) →
    HasPassed plan table text new fields (n + 1) now more
unfolding numbered
passed_more plan table text old new fields n seen now refused more row why p has is sees size put = record {
  header = p.header;
  before = p.before ++ row ∷ [];
  read = has;
  right = p.right;
  fields_are = p.fields_are;
  number = omega (arith, p.number, length-append p.before (row ∷ []));
  sees = sees;
  size = size;
  refused_are =
      put ∙ (ap (λ l. l ++ told (with_line n why)) p.refused_are
      ∙ (ap (λ m. refused_each (numbered (record_reason plan table fields)) [] p.before ++ told m)
      (ap (λ k. with_line k why) p.number ∙ ap (with_line (length p.before + 2)) is)
      ∙ sym (each_pushed (numbered (record_reason plan table fields)) [] p.before row)));
}

-- the table with these records has these refused ones
these : (plan : Option PlanOf) (table : Table) (text : List ℕ) (r : Rows) (fields n : ℕ) (seen : List Bool) (refused : List Refusal)
    (p : HasPassed plan table text r fields n seen refused) → take 5000 (table_rows text) ≡ p.header ∷ p.before →
    refused ≡ refused_records table plan text
unfolding refused_records
these plan table text r fields n seen refused p all =
    p.refused_are
    ∙ (ap (λ k. refused_each (numbered (record_reason plan table k)) [] p.before) (sym p.fields_are)
    ∙ (sym (ap (λ b. cond b (refused_each (numbered (record_reason plan table (length p.header))) [] p.before) ((1, why.Header) ∷ [])) p.right)
    ∙ sym (ap (refused_rows table plan) all)))

take-nil : {A : Type 0} (n : ℕ) → ◌≡◌ {A = List A} (take n []) []
take-nil zero = refl
take-nil (suc n) = refl

few : {A : Type 0} (n : ℕ) (xs : List A) → length xs ≤ n → take n xs ≡ xs
few n [] h = take-nil n
few zero (x ∷ xs) h = absurd (omega (arith, h))
few (suc n) (x ∷ xs) h = ap (λ l. x ∷ l) (few n xs (omega (arith, h)))

-- there is no further record
pub passed_all : (plan : Option PlanOf) (table : Table) (text : List ℕ) (r : Rows) (fields n : ℕ) (seen : List Bool) (refused : List Refusal)
    (p : HasPassed plan table text r fields n seen refused) → n ≤ 5000 → table_rows text ≡ p.header ∷ p.before →
    refused ≡ refused_records table plan text
passed_all plan table text r fields n seen refused p h all =
    these plan table text r fields n seen refused p
    (ap (take 5000) all ∙ few 5000 (p.header ∷ p.before) (omega (arith, h, p.number)))

-- as many as are looked at were read
pub passed_many : (plan : Option PlanOf) (table : Table) (text : List ℕ) (r : Rows) (fields n : ℕ) (seen : List Bool) (refused : List Refusal)
    (p : HasPassed plan table text r fields n seen refused) → n ≡ 5001 → refused ≡ refused_records table plan text
passed_many plan table text r fields n seen refused p h =
    let begins = text_begins r text (p.header ∷ p.before) p.read in
    let many : length (p.header ∷ p.before) ≡ 5000 = omega (arith, h, p.number) in
    these plan table text r fields n seen refused p
    (ap (take 5000) begins.1 ∙ (ap (λ k. take k ((p.header ∷ p.before) ++ begins.0)) (sym many) ∙ take-append_seam (p.header ∷ p.before) begins.0))

-- a header is wanted, and record 1 is none
pub no_header : (plan : Option PlanOf) (table : Table) (text : List ℕ) (r : Rows) (row : Row) → HasRead r text (row ∷ []) →
    is_header (headers_in table) row ≡ false → (1, why.Header) ∷ [] ≡ refused_records table plan text
unfolding refused_records
no_header plan table text r row read wrong =
    let begins = text_begins r text (row ∷ []) read in
    sym (ap (λ l. refused_rows table plan (take 5000 l)) begins.1
    ∙ ap (λ b. cond b (refused_each (numbered (record_reason plan table (length row))) [] (take 4999 begins.0)) ((1, why.Header) ∷ [])) wrong)

-- or there is no record
pub no_record : (plan : Option PlanOf) (table : Table) (text : List ℕ) → table_rows text ≡ [] →
    (1, why.Header) ∷ [] ≡ refused_records table plan text
unfolding refused_records
no_record plan table text none = sym (ap (λ l. refused_rows table plan (take 5000 l)) none)
