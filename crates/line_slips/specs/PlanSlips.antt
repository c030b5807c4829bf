-- Slips in a PUA file.
use Rattle.std.specs.Prelude.{ℕ, ◌==◌, Bool, not, ◌&&◌, ◌||◌, if◌then◌else◌, List, codes, length, Option, Some, None}
use Rattle.sig_types.specs.Text.{is_digit}
use Rattle.line_slips.specs.declared.slip.PlanSlip.{PlanSlip}
use Rattle.line_slips.specs.declared.slip.PlanSlip.TheVariants.{ProgramAsPlan, TableAsPlan, CommentSign, DecimalSeconds, SecondKey}
use Rattle.line_slips.specs.declared.slip.PlanSlip.TheVariants.{RedRow, OneNumber, LoneStage, GroupAgain}
use Rattle.line_slips.specs.Bytes.{begins, behind_word, has_blank, has_decimal, last_byte, trimmed}

-- of a line that is no section and no row of one: the first line of a program or of a table
unfoldable pub section_slip : List ℕ → Option PlanSlip
section_slip line =
    if begins (trimmed line) (codes "PROGRAM") || begins (trimmed line) (codes "/*") then Some ProgramAsPlan
    else (if begins (trimmed line) (codes "group,") || begins (trimmed line) (codes "from,") then Some TableAsPlan else None)

-- a line begins as a comment of another language
unfoldable pub is_comment : List ℕ → Bool
is_comment line =
    begins line (codes "//") || (begins line (codes "/*") || (begins line (codes "--")
    || (begins line (codes "#") || begins line (codes ";"))))

-- a line begins as one of the first three rows of an interstage
unfoldable pub is_key : List ℕ → Bool
is_key line = begins line (codes "length") || (begins line (codes "from") || begins line (codes "to "))

-- a line is one word
unfoldable pub is_one_word : List ℕ → Bool
is_one_word line = not (length line == 0) && not (has_blank line)

-- a line is a word, blanks, and a word
unfoldable pub is_two_words : List ℕ → Bool
is_two_words line = is_one_word (trimmed (behind_word line))

-- of a row without a form of its section, without the blanks around it
unfoldable pub bare_row_slip : List ℕ → Option PlanSlip
bare_row_slip line =
    if is_comment line then Some CommentSign
    else (if has_decimal line then Some DecimalSeconds
    else (if is_key line then Some SecondKey
    else (if begins line (codes "red ") then Some RedRow
    else (if is_two_words line && is_digit (last_byte line) then Some OneNumber else None))))

-- of a row without a form of its section
abbrev pub row_slip : List ℕ → Option PlanSlip
row_slip line = bare_row_slip (trimmed line)

-- of a row with a name or a number that stands above, without the blanks around it
unfoldable pub bare_again_slip : List ℕ → Option PlanSlip
bare_again_slip line =
    if is_one_word line then Some LoneStage else (if is_digit (last_byte line) then Some GroupAgain else None)

-- of a row with a name or a number that stands above
abbrev pub again_slip : List ℕ → Option PlanSlip
again_slip line = bare_again_slip (trimmed line)
