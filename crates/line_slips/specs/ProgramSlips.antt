-- Slips in the text of a program.
use Rattle.std.specs.Prelude.{ℕ, ◌==◌, nat_lt, not, ◌&&◌, ◌||◌, if◌then◌else◌, List, [], ◌∷◌, Option, Some, None}
use Rattle.std.specs.Char.{is_ascii_control, is_ascii_whitespace}
use Rattle.line_slips.specs.declared.comments.Reading.{Reading}
use Rattle.line_slips.specs.declared.slip.ByteSlip.{ByteSlip}
use Rattle.line_slips.specs.declared.slip.ByteSlip.TheVariants.{PlanAsProgram, NotEqual, Braces, Quotes, AndOr, BeyondAscii, ControlByte}
use Rattle.line_slips.specs.Comments.{after, is_inside, line_start}

-- of a byte that begins no token
abbrev pub of_byte : ℕ → Option ByteSlip
of_byte b =
    if b == 33 then Some NotEqual
    else (if (b == 123) || (b == 125) then Some Braces
    else (if (b == 34) || (b == 39) then Some Quotes
    else (if (b == 38) || (b == 124) then Some AndOr
    else (if b == 36 then Some PlanAsProgram
    else (if nat_lt 127 b then Some BeyondAscii
    else (if is_ascii_control b && not (is_ascii_whitespace b) then Some ControlByte else None))))))

-- the slip of a byte outside comments; none of one in a comment
unfoldable pub of_read_byte : Reading → ℕ → Option ByteSlip
of_read_byte at b = if is_inside at then None else of_byte b

-- the slip that is there, or else another one
abbrev pub or_else : {A : Type 0} → Option A → Option A → Option A
or_else (Some a) other = Some a
or_else None other = other

-- the first slip of a byte outside comments
abbrev pub first_slip : Reading → List ℕ → Option ByteSlip
first_slip at [] = None
first_slip at (b ∷ bs) = or_else (of_read_byte at b) (first_slip (after at b) bs)

-- of a line with a byte that begins no token
unfoldable pub byte_slip : List ℕ → Option ByteSlip
byte_slip line = first_slip (line_start line) line
