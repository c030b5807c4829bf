-- The table of times, as it is read.
use Rattle.std.proofs.Common.{◌≡◌, ◌∙◌, ℕ, zero, suc, ◌+◌, ◌<◌, ◌≤◌, true, false, List, [], ◌∷◌, ◌++◌, length, get_or, Some, None, Option, refl, sym, ap, arith, replicate, append_assoc, length-append}
use Rattle.std.proofs.lemmas.List.{length-replicate}
use Rattle.std.specs.Prelude.{drop, is_none}
use Rattle.sig_types.specs.FirstRefused.{refused_to, first_refused, with_line}
use Rattle.pua_model.specs.Plan.{PlanOf, groups_in}
use Rattle.sig_tables.specs.declared.refusal.TableWhy.{TableWhy}
use Rattle.sig_tables.specs.declared.refusal.TableWhy.TheVariants as why
use Rattle.sig_tables.specs.declared.refusal.TableRefusal.{TableRefusal}
use Rattle.sig_tables.specs.declared.refusal.TableRefusal.TheVariants.{Memory, At}
use Rattle.sig_tables.specs.declared.records.Records.{Records}
use Rattle.sig_tables.specs.declared.header.Table.TheVariants.{Times}
use Rattle.sig_tables.specs.declared.times.TimesRow.{TimesRow}
use Rattle.sig_tables.specs.Records.{Row, table_rows, HasRead, is_header}
use Rattle.sig_tables.specs.Refusals.{Refusal, IsRefusal, numbered, header_refusal}
use Rattle.sig_tables.specs.Headers.{headers_of}
use Rattle.sig_tables.specs.TimesTable.{times_or}
use Rattle.tenth_tables.specs.Times.{listed_times, times_reason, missing_times, times_refused, times_below}
use Rattle.sig_tables.specs.Held.{empties}
use Rattle.tenth_tables.specs.Held.{HasTimes, HoldsTimes, ReadsTimes}
use Rattle.sig_types.proofs.Refusals.{accepted_pushed}
use Rattle.sig_tables.proofs.Rows.{text_begins}
use Rattle.sig_tables.proofs.Places.{all_empty, none_held}
use Rattle.sig_tables.proofs.Judged.{or_none, refused_row}
use Rattle.sig_types.proofs.LastBelow.{least_below-at, least_below-never}

pub refused_header : (plan : PlanOf) (rows : List Row) (e : TableRefusal) → IsRefusal (header_refusal (headers_of Times) rows) e → IsRefusal (times_refused plan rows) e
unfolding times_refused
refused_header plan rows Memory is = tt
refused_header plan rows (At line why) is = rw is refl

pub refused_record : (plan : PlanOf) (header : Row) (rows : List Row) (w : Refusal) → is_header (headers_of Times) header ≡ true →
    first_refused (numbered (times_reason plan (length header))) rows [] ≡ Some w → times_refused plan (header ∷ rows) ≡ Some w
unfolding times_refused
refused_record plan header rows w right is = rw (right, is) refl

pub refused_end : (plan : PlanOf) (header : Row) (rows : List Row) → is_header (headers_of Times) header ≡ true →
    first_refused (numbered (times_reason plan (length header))) rows [] ≡ None → times_refused plan (header ∷ rows) ≡ missing_times plan rows
unfolding times_refused
refused_end plan header rows right is = rw (right, is) (or_none (missing_times plan rows))

-- the least group without times
pub missing_at : (plan : PlanOf) (rows : List Row) (held : List (Option TimesRow)) (g : ℕ) → HoldsTimes plan rows held → g < groups_in plan → get_or held g None ≡ None →
    ((j : ℕ) → j < g → is_none (get_or held j None) ≡ false) → missing_times plan rows ≡ Some (0, why.Missing (record { 0 = g }))
unfolding missing_times
missing_at plan rows held g holds lt none before =
    let here : is_none (listed_times plan rows g) ≡ true = ap is_none (sym (holds.times g lt) ∙ none) in
    rw (least_below-at (λ k. is_none (listed_times plan rows k)) (groups_in plan) g here lt (λ j below. ap is_none (sym (holds.times j (omega arith))) ∙ before j below)) refl

pub none_missing : (plan : PlanOf) (rows : List Row) (held : List (Option TimesRow)) → HoldsTimes plan rows held →
    ((j : ℕ) → j < groups_in plan → is_none (get_or held j None) ≡ false) → missing_times plan rows ≡ None
unfolding missing_times
none_missing plan rows held holds full =
    rw (least_below-never (λ k. is_none (listed_times plan rows k)) (groups_in plan) (λ j below. ap is_none (sym (holds.times j below)) ∙ full j below)) refl

-- the times of one group more
pub times_more : (plan : PlanOf) (rows : List Row) (held : List (Option TimesRow)) (g : ℕ) (times : TimesRow) → HoldsTimes plan rows held → g < groups_in plan →
    get_or held g None ≡ Some times → times_below plan rows (g + 1) ≡ times_below plan rows g ++ times ∷ []
unfolding times_below
times_more plan rows held g times holds lt is =
    let e : g + 1 ≡ suc g = omega arith in
    rw (e, sym (holds.times g lt), is) refl

pub times_counted : (plan : PlanOf) (rows : List Row) (n : ℕ) → length (times_below plan rows n) ≡ n
unfolding times_below
times_counted plan rows zero = refl
times_counted plan rows (suc n) = omega (arith, length-append (times_below plan rows n) (times_or (listed_times plan rows n) ∷ []), times_counted plan rows n)

pub holds_none : (plan : PlanOf) → HoldsTimes plan [] (replicate (groups_in plan) None)
unfolding listed_times
holds_none plan = record {
  size = length-replicate (groups_in plan) None;
  times = λ g lt. none_held TimesRow (groups_in plan) g;
  range = λ g lt. rw (none_held TimesRow (groups_in plan) g) tt;
}

-- the same places hold the same
pub moved : (plan : PlanOf) (rows : List Row) (held more : List (Option TimesRow)) → held ≡ more → HoldsTimes plan rows more → HoldsTimes plan rows held
moved plan rows held more same holds = rw same holds

pub begun : (plan : PlanOf) (fields : ℕ) (text : List ℕ) (records : Records) (held : List (Option TimesRow)) (header : Row) → HasRead records text (header ∷ []) →
    is_header (headers_of Times) header ≡ true → length header ≡ fields → held ≡ replicate (groups_in plan) None → 1 ≤ groups_in plan → groups_in plan ≤ 64 → ReadsTimes plan fields text records held
unfolding refused_to
begun plan fields text records held header read right fields_are none some few = record {
  header = header;
  rows = [];
  read = read;
  right = right;
  fields_are = fields_are;
  accepted = refl;
  holds = rw none (holds_none plan);
  at_most = few;
  at_least = some;
  count = rw none (omega (arith, read.number, all_empty (Option TimesRow) (groups_in plan), all_empty TimesRow (groups_in plan)));
}

-- the record after those that were read is refused
pub refused_next : (plan : PlanOf) (fields : ℕ) (text : List ℕ) (old new : Records) (held : List (Option TimesRow)) (row : Row) (why : TableWhy) (reads : ReadsTimes plan fields text old held) →
    HasRead new text ((reads.header ∷ reads.rows) ++ row ∷ []) → times_reason plan fields reads.rows row ≡ Some why → times_refused plan (table_rows text) ≡ Some (new.number, why)
refused_next plan fields text old new held row why reads has is =
    let begins = text_begins new text _ has in
    let all : table_rows text ≡ reads.header ∷ (reads.rows ++ row ∷ begins.0) = begins.1 ∙ ap (λ (l : List Row). reads.header ∷ l) (append_assoc reads.rows (row ∷ []) begins.0) in
    let number : new.number ≡ length reads.rows + 2 = omega (arith, has.number, length-append reads.rows (row ∷ [])) in
    ap (λ (l : List Row). times_refused plan l) all ∙ refused_record plan reads.header (reads.rows ++ row ∷ begins.0) (length reads.rows + 2, why) reads.right
    (refused_row (times_reason plan (length reads.header)) reads.rows begins.0 row why reads.accepted (rw reads.fields_are is))
    ∙ ap (λ (n : ℕ). Some (n, why)) (sym number)

-- and is accepted
pub accepted_next : (plan : PlanOf) (fields : ℕ) (text : List ℕ) (old new : Records) (held more : List (Option TimesRow)) (row : Row) (reads : ReadsTimes plan fields text old held) →
    HasRead new text ((reads.header ∷ reads.rows) ++ row ∷ []) → times_reason plan fields reads.rows row ≡ None → HoldsTimes plan (reads.rows ++ row ∷ []) more →
    empties more + 1 ≡ empties held → ReadsTimes plan fields text new more
unfolding numbered
accepted_next plan fields text old new held more row reads has is holds fills =
    let next : times_reason plan (length reads.header) reads.rows row ≡ None = rw reads.fields_are is in record {
      header = reads.header;
      rows = reads.rows ++ row ∷ [];
      read = has;
      right = reads.right;
      fields_are = reads.fields_are;
      accepted = accepted_pushed (numbered (times_reason plan (length reads.header))) reads.rows row [] reads.accepted
          (ap (with_line (length reads.rows + 2)) next);
      holds = holds;
      at_most = reads.at_most;
      at_least = reads.at_least;
      count = omega (arith, reads.count, fills, reads.read.number, has.number, length-append reads.rows (row ∷ []));
    }

-- there is no further record
pub refused_last : (plan : PlanOf) (fields : ℕ) (text : List ℕ) (records : Records) (held : List (Option TimesRow)) (reads : ReadsTimes plan fields text records held) →
    table_rows text ≡ reads.header ∷ reads.rows → times_refused plan (table_rows text) ≡ missing_times plan reads.rows
refused_last plan fields text records held reads all = rw all (refused_end plan reads.header reads.rows reads.right reads.accepted)

pub times_last : (plan : PlanOf) (text : List ℕ) (held : List (Option TimesRow)) (has : HasTimes plan text held) →
    times_below plan (drop 1 (table_rows text)) (groups_in plan) ≡ times_below plan has.rows (groups_in plan)
times_last plan text held has = rw has.all refl
