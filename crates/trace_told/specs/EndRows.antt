-- What is written of the ends of stages.
use Rattle.std.specs.Prelude.{ℕ, ◌-◌, Bool, if◌then◌else◌, List, [], ◌++◌, Option, None, Some, codes}
use Rattle.std.specs.Fmt.{decimal}
use Rattle.sig_types.specs.declared.numbers.Command.{Command}
use Rattle.sig_types.specs.declared.numbers.Command.TheVariants.{Interstage, SgGreen, SgRed, ClearFronts, ClearRears, SetCycle}
use Rattle.sig_types.specs.Counts.{Counts}
use Rattle.stage_machine.specs.Orders.{since_at}
use Rattle.vap_code.specs.Codes.{CodeOf}
use Rattle.controller.specs.Past.{Site, Past, next_second}
use Rattle.trace_told.specs.Ended.{Given, ending_in}

-- the row above those of a table
unfoldable pub csv_header : List ℕ
csv_header = codes "second,stage,lasted,to,line\n"

-- the row above those of the ends, where they are a table
abbrev pub header_text : Bool → List ℕ
header_text csv = if csv then csv_header else []

-- the row of a table: a stage that ended in this second, after so many seconds, with the stage that comes and the line of the command
unfoldable pub csv_text : (second stage lasted to line : ℕ) → List ℕ
csv_text second stage lasted to line =
    decimal second ++ (codes "," ++ (decimal stage ++ (codes "," ++ (decimal lasted ++ (codes "," ++ (decimal to ++ (codes ","
    ++ (decimal line ++ codes "\n"))))))))

-- the same in words
unfoldable pub words_text : (second stage lasted to line : ℕ) → List ℕ
words_text second stage lasted to line =
    codes "second " ++ (decimal second ++ (codes ": stage " ++ (decimal stage ++ (codes " ended after " ++ (decimal lasted
    ++ (codes " s, then stage " ++ (decimal to ++ (codes ", line " ++ (decimal line ++ codes "\n")))))))))

-- the row in a table or in words
abbrev pub row_text : Bool → (second stage lasted to line : ℕ) → List ℕ
row_text csv second stage lasted to line = if csv then csv_text second stage lasted to line else words_text second stage lasted to line

-- the row of a command of this line that ended a stage, which was active since then
abbrev pub row_by : Bool → (second since line : ℕ) → Command → List ℕ
row_by csv second since line (Interstage a b) = row_text csv second a.0 (second - since) b.0 line
row_by csv second since line (SgGreen g) = []
row_by csv second since line (SgRed g) = []
row_by csv second since line (ClearFronts d) = []
row_by csv second since line (ClearRears d) = []
row_by csv second since line (SetCycle n) = []

-- the row of a command that ended a stage, if there is one
abbrev pub row_of : Bool → (second since : ℕ) → Option Given → List ℕ
row_of csv second since None = []
row_of csv second since (Some g) = row_by csv second since g.line g.command

-- What is told of the second after a past with this frame, of a code at a site: the stage that ends in it, if one does, for how
-- many seconds it was active, the stage that comes, and the line of the command.
abbrev pub end_told : Bool → CodeOf → Site → Past → Counts → List ℕ
end_told csv code site past frame =
    row_of csv (next_second past) (since_at site.plan past.orders (next_second past)) (ending_in code site past frame)
