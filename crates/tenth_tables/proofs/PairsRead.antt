-- The table of intergreens, as it is read.
use Rattle.std.proofs.Common.{◌≡◌, ◌≢◌, ◌∙◌, ℕ, ◌+◌, ◌*◌, ◌<◌, ◌≤◌, true, List, [], ◌∷◌, ◌++◌, length, get_or, Some, None, Option, refl, sym, ap, arith, inl, inr, append_assoc, length-append, slice_set}
use Rattle.std.specs.Prelude.{is_some, Result, Ok, Err, IfOk}
use Rattle.std.proofs.lemmas.Bool.{cases_lt}
use Rattle.std.proofs.lemmas.List.{get_or_append_left}
use Rattle.std.proofs.Math.Seq.{get_or-append_seam}
use Rattle.sig_types.specs.declared.numbers.GroupNo.{GroupNo}
use Rattle.sig_types.specs.FirstRefused.{refused_to, first_refused, with_line}
use Rattle.sig_types.proofs.Refusals.{accepted_pushed}
use Rattle.pua_model.specs.Plan.{PlanOf, groups_in}
use Rattle.sig_tables.specs.declared.refusal.TableWhy.{TableWhy}
use Rattle.sig_tables.specs.declared.refusal.TableRefusal.{TableRefusal}
use Rattle.sig_tables.specs.declared.refusal.TableRefusal.TheVariants.{Memory, At}
use Rattle.sig_tables.specs.declared.records.Records.{Records}
use Rattle.sig_tables.specs.declared.header.Table.TheVariants.{Intergreens}
use Rattle.sig_tables.specs.Records.{Row, table_rows, HasRead, is_header}
use Rattle.sig_tables.specs.Refusals.{Refusal, IsRefusal, numbered, header_refusal}
use Rattle.sig_tables.specs.Headers.{headers_of}
use Rattle.sig_tables.specs.Pairs.{cell_of}
use Rattle.sig_tables.specs.IntergreenTable.{pair_in}
use Rattle.tenth_tables.specs.Intergreens.{tenths_in, intergreen_reason, one_way_reason, intergreens_refused}
use Rattle.sig_tables.specs.Held.{no_pair, empties}
use Rattle.tenth_tables.specs.Held.{HasPairs, HoldsNothing, ReadsPairs}
use Rattle.sig_tables.proofs.Rows.{text_begins}
use Rattle.sig_tables.proofs.Judged.{or_none, refused_row}
use Rattle.sig_tables.proofs.Places.{empties_filled}
use Rattle.tenth_tables.proofs.PairLists.{held_more, held_nothing}

pub refused_header : (plan : PlanOf) (rows : List Row) (e : TableRefusal) → IsRefusal (header_refusal (headers_of Intergreens) rows) e → IsRefusal (intergreens_refused plan rows) e
unfolding intergreens_refused
refused_header plan rows Memory is = tt
refused_header plan rows (At line why) is = rw is refl

refused_record : (plan : PlanOf) (header : Row) (rows : List Row) (w : Refusal) → is_header (headers_of Intergreens) header ≡ true →
    first_refused (numbered (intergreen_reason plan)) rows [] ≡ Some w → intergreens_refused plan (header ∷ rows) ≡ Some w
unfolding intergreens_refused
refused_record plan header rows w right is = rw (right, is) refl

refused_end : (plan : PlanOf) (header : Row) (rows : List Row) → is_header (headers_of Intergreens) header ≡ true →
    first_refused (numbered (intergreen_reason plan)) rows [] ≡ None → intergreens_refused plan (header ∷ rows) ≡ first_refused (numbered (one_way_reason plan rows)) rows []
unfolding intergreens_refused
refused_end plan header rows right is = rw (right, is) (or_none (first_refused (numbered (one_way_reason plan rows)) rows []))

pub begun : (plan : PlanOf) (text : List ℕ) (records : Records) (cells : List (Option ℕ)) (pairs : List (GroupNo × GroupNo)) (header : Row) → HasRead records text (header ∷ []) →
    is_header (headers_of Intergreens) header ≡ true → HoldsNothing cells pairs → ReadsPairs plan text records cells pairs
unfolding refused_to
begun plan text records cells pairs header read right nothing = record {
  header = header;
  rows = [];
  read = read;
  right = right;
  accepted = refl;
  holds = rw nothing.none (held_nothing plan cells nothing.size nothing.empty);
  inside = rw nothing.none (λ k lt. absurd (omega arith));
  count = omega (arith, read.number, nothing.free);
}

-- the record after those that were read is refused
pub refused_next : (plan : PlanOf) (text : List ℕ) (old new : Records) (cells : List (Option ℕ)) (pairs : List (GroupNo × GroupNo)) (row : Row) (why : TableWhy) (reads : ReadsPairs plan text old cells pairs) →
    HasRead new text ((reads.header ∷ reads.rows) ++ row ∷ []) → intergreen_reason plan reads.rows row ≡ Some why → intergreens_refused plan (table_rows text) ≡ Some (new.number, why)
refused_next plan text old new cells pairs row why reads has is =
    let begins = text_begins new text _ has in
    let all : table_rows text ≡ reads.header ∷ (reads.rows ++ row ∷ begins.0) = begins.1 ∙ ap (λ (l : List Row). reads.header ∷ l) (append_assoc reads.rows (row ∷ []) begins.0) in
    let number : new.number ≡ length reads.rows + 2 = omega (arith, has.number, length-append reads.rows (row ∷ [])) in
    ap (λ (l : List Row). intergreens_refused plan l) all
    ∙ refused_record plan reads.header (reads.rows ++ row ∷ begins.0) (length reads.rows + 2, why) reads.right (refused_row (intergreen_reason plan) reads.rows begins.0 row why reads.accepted is)
    ∙ ap (λ (n : ℕ). Some (n, why)) (sym number)

-- what is known of a record that is accepted
pub record IsAccepted (plan : PlanOf) (cells : List (Option ℕ)) (row : Row) (from to : GroupNo) (z : ℕ) : Type 0 where
  pub at_most : groups_in plan ≤ 64
  pub pair : pair_in plan row ≡ Some (from.0, to.0)
  pub first : from.0 < groups_in plan
  pub second : to.0 < groups_in plan
  pub other : from.0 ≢ to.0
  pub free : get_or cells (64 * from.0 + to.0) None ≡ None
  pub seconds : tenths_in row ≡ Some z
  pub range : z ≤ 990

pub accepted_next : (plan : PlanOf) (text : List ℕ) (old new : Records) (cells more : List (Option ℕ)) (pairs listed : List (GroupNo × GroupNo)) (row : Row) (from to : GroupNo) (z : ℕ)
    (reads : ReadsPairs plan text old cells pairs) → HasRead new text ((reads.header ∷ reads.rows) ++ row ∷ []) → intergreen_reason plan reads.rows row ≡ None → IsAccepted plan cells row from to z →
    more ≡ slice_set cells (64 * from.0 + to.0) (Some z) → listed ≡ pairs ++ (from, to) ∷ [] → (ReadsPairs plan text new more listed) × (empties more + 1 ≡ empties cells)
unfolding numbered
accepted_next plan text old new cells more pairs listed row from to z reads has is e cut put =
    let fills : empties (slice_set cells (64 * from.0 + to.0) (Some z)) + 1 ≡ empties cells = empties_filled cells (64 * from.0 + to.0) z (omega (arith, e.at_most, e.first, e.second, reads.holds.size)) e.free in (
      rw (cut, put) (record {
        header = reads.header;
        rows = reads.rows ++ row ∷ [];
        read = has;
        right = reads.right;
        accepted = accepted_pushed (numbered (intergreen_reason plan)) reads.rows row [] reads.accepted (ap (with_line (length reads.rows + 2)) is);
        holds = held_more plan reads.rows cells pairs row from to z reads.holds e.at_most e.first e.second e.other e.pair e.free e.seconds e.range;
        inside = λ k lt. elim (cases_lt k (length pairs)) [
          | inl before ↦ rw (get_or_append_left pairs ((from, to) ∷ []) no_pair k before) (reads.inside k before)
          | inr last ↦ (let p : k ≡ length pairs = omega (arith, length-append pairs ((from, to) ∷ [])) in
              rw (ap (λ (n : ℕ). get_or (pairs ++ (from, to) ∷ []) n no_pair) p ∙ get_or-append_seam pairs (from, to) [] no_pair) (omega (arith, e.at_most, e.first), omega (arith, e.at_most, e.second)))
        ];
        count = omega (arith, reads.count, fills, reads.read.number, has.number, length-append reads.rows (row ∷ []));
      }),
      rw cut fills,
    )

-- there is no further record
pub refused_last : (plan : PlanOf) (text : List ℕ) (records : Records) (cells : List (Option ℕ)) (pairs : List (GroupNo × GroupNo)) (reads : ReadsPairs plan text records cells pairs) →
    table_rows text ≡ reads.header ∷ reads.rows → intergreens_refused plan (table_rows text) ≡ first_refused (numbered (one_way_reason plan reads.rows)) reads.rows []
refused_last plan text records cells pairs reads all = ap (λ (l : List Row). intergreens_refused plan l) all ∙ refused_end plan reads.header reads.rows reads.right reads.accepted

-- and all of them were read
pub has_pairs : (plan : PlanOf) (text : List ℕ) (records : Records) (cells : List (Option ℕ)) (pairs : List (GroupNo × GroupNo))
    (reads : ReadsPairs plan text records cells pairs) → table_rows text ≡ reads.header ∷ reads.rows → 1 ≤ groups_in plan → groups_in plan ≤ 64 →
    first_refused (numbered (one_way_reason plan reads.rows)) reads.rows [] ≡ None →
    ((i g z : ℕ) → cell_of cells i g ≡ Some z → is_some (cell_of cells g i) ≡ true) → HasPairs plan text cells
has_pairs plan text records cells pairs reads all some few none both = record {
  accepted = refused_last plan text records cells pairs reads all ∙ none;
  seconds = λ i g. reads.holds.seconds i g ∙ rw all refl;
  pairs = record {
    at_least = some;
    at_most = few;
    size = reads.holds.size;
    inside = reads.holds.inside;
    range = reads.holds.range;
    both = both;
    other = reads.holds.other;
  };
}

-- what follows from two things that are so where a result is there
pub both_ok : {A E : Type 0} (r : Result A E) (P Q R : A → Type 0) → ((x : A) → P x → Q x → R x) → IfOk r P → IfOk r Q → IfOk r R
both_ok (Ok x) P Q R from p q = from x p q
both_ok (Err e) P Q R from p q = tt
