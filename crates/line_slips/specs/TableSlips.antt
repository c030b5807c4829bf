-- Slips in a table.
use Rattle.std.specs.Prelude.{ℕ, ◌+◌, ◌==◌, nat_le, Bool, false, not, ◌&&◌, if◌then◌else◌}
use Rattle.std.specs.Prelude.{List, [], ◌∷◌, codes, length, take, slice_index, Option, Some, None, is_some}
use Rattle.std.specs.List.{list_any, slice_get, slice_split}
use Rattle.sig_types.specs.Text.{is_digit, number_of, within}
use Rattle.line_slips.specs.declared.slip.TableSlip.{TableSlip}
use Rattle.line_slips.specs.declared.slip.TableSlip.TheVariants.{Semicolons, Matrix, PairsAsTimes, TimesAsPairs, OtherWords}
use Rattle.line_slips.specs.declared.slip.TableSlip.TheVariants.{BlankInRecord, NoSuchGroup, MinimumGreen, RedAmber, Amber}
use Rattle.line_slips.specs.declared.slip.TableSlip.TheVariants.{MinimumRed, Intergreen}
use Rattle.line_slips.specs.declared.tables.Table.{Table}
use Rattle.line_slips.specs.declared.tables.Table.TheVariants.{Times, Intergreens}
use Rattle.line_slips.specs.Bytes.{begins, has_blank}

-- of a first record that isn't the header, by the words that it begins with
abbrev pub columns_slip : Table → List ℕ → TableSlip
columns_slip Times record' = if begins record' (codes "from,to") then PairsAsTimes else OtherWords
columns_slip Intergreens record' = if begins record' (codes "group,") then TimesAsPairs else OtherWords

-- of a first record that isn't the header of its table
unfoldable pub header_slip : Table → List ℕ → TableSlip
header_slip table record' =
    if list_any (λ b. b == 59) record' then Semicolons
    else (if begins record' (codes ",") then Matrix else columns_slip table record')

-- of a record with a name that is no group's
abbrev pub name_slip : List ℕ → TableSlip
name_slip record' = if has_blank record' then BlankInRecord else NoSuchGroup

-- there is a field, and it is no number from the least to the most
abbrev pub is_off : ℕ → ℕ → Option (List ℕ) → Bool
is_off least most None = false
is_off least most (Some field) = not (is_some (within least most (number_of field)))

-- the field with this number is off, counted from 0
abbrev pub is_off_at : List ℕ → ℕ → ℕ → ℕ → Bool
is_off_at record' place least most = is_off least most (slice_get (slice_split (λ b. b == 44) record') place)

-- of a record of times: its first number that has another form or is out of range; of one with a quotation mark nothing is said, since
-- its fields need not end at each comma
unfoldable pub times_slip : List ℕ → Option TableSlip
times_slip record' =
    if list_any (λ b. b == 34) record' then None
    else (if is_off_at record' 1 1 255 then Some MinimumGreen
    else (if is_off_at record' 2 0 9 then Some RedAmber
    else (if is_off_at record' 3 0 9 then Some Amber
    else (if is_off_at record' 4 1 255 then Some MinimumRed else None))))

-- of a record with a number that has another form or is out of range
abbrev pub number_slip : Table → List ℕ → Option TableSlip
number_slip Times record' = times_slip record'
number_slip Intergreens record' = Some Intergreen

-- a text begins with a comma and a digit
unfoldable pub begins_with_number : List ℕ → Bool
begins_with_number text = nat_le 2 (length text) && ((slice_index text 0 == 44) && is_digit (slice_index text 1))

-- how many bytes stand before the first comma that a digit follows
abbrev pub names_len : List ℕ → ℕ
names_len [] = 0
names_len (b ∷ bs) = if begins_with_number (b ∷ bs) then 0 else 1 + names_len bs

-- the names that a record begins with
unfoldable pub names_in : List ℕ → List ℕ
names_in record' = take (names_len record') record'
