-- The line of a record has the record's picture.
use Rattle.std.proofs.Common.{◌≡◌, ◌∙◌, ℕ, ◌&&◌, ◌<◌, ◌^◌, Bool, true, false, List, ◌∷◌, ◌++◌, length, Option, None, Some, sym, ap, codes, nat_le, append_assoc}
use Rattle.std.specs.Prelude.{if◌then◌else◌}
use Rattle.std.specs.Option.{option_and_then, option_map}
use Rattle.std.specs.Fmt.{decimal}
use Rattle.sig_types.specs.declared.record.Record.{Record}
use Rattle.sig_types.specs.Text.{cut_at, number_of, strip, within}
use Rattle.sig_types.proofs.Fronts.{strip_again}
use Rattle.code_file.proofs.Numerals.{number_found}
use Rattle.log_read.specs.Form.{after_bar, before_bar, picture_in, picture_of}
use Rattle.log_read.proofs.RecordForms.{cut_is}
use Rattle.log_read.specs.Records.{IsEntry}
use Rattle.log_read.proofs.Cuts.{is_cut}

-- ---- the number

due_by : (b : Bool) (n k : ℕ) → (if b then Some n else None) ≡ Some k → Some n ≡ Some k
due_by true n k e = e
due_by false n k e = absurd cc

number_due : (k : ℕ) (o : Option ℕ) → within k k o ≡ Some k → o ≡ Some k
number_due k None e = absurd cc
number_due k (Some n) e = due_by (nat_le k n && nat_le n k) n k e

-- behind the number and a bar stand the places
behind_number : (k : ℕ) (line second places : List ℕ) → cut_at 124 line ≡ Some (second, places) → within k k (number_of second) ≡ Some k →
    k < 2 ^ 64 → strip (decimal k ++ codes "|") line ≡ Some places
behind_number k line second places cut due small =
    let number = number_found second k (number_due k (number_of second) due) small in
    let text = (cut_is 124 line second places cut).whole ∙ ap (λ x. x ++ 124 ∷ places) number
    ∙ sym (append_assoc (decimal k) (codes "|") places) in
    ap (λ x. strip (decimal k ++ codes "|") x) text ∙ strip_again (decimal k ++ codes "|") places

-- ---- the picture

-- the line of a record has the record's picture
pub picture_same : (names : List (List ℕ)) (k : ℕ) (line : List ℕ) (r : Record) → k < 2 ^ 64 → IsEntry names k line r →
    picture_in (length names) k line ≡ Some r.picture
unfolding picture_in
picture_same names k line r small entry =
    let cut = is_cut line entry.fields entry.cut in
    let groups = length names in
    ap (λ o. option_and_then (picture_of groups) (option_and_then before_bar (option_and_then after_bar o)))
    (behind_number k line entry.fields.second cut.places cut.first entry.due small)
    ∙ ap (λ o. option_and_then (picture_of groups) (option_and_then before_bar (option_map (λ p. p.1) o))) cut.second
    ∙ ap (λ o. option_and_then (picture_of groups) (option_map (λ p. p.0) o)) cut.third
    ∙ entry.picture
