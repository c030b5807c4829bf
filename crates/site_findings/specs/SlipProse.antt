-- What is told of each slip that a line shows: what it is, what it most often comes from, and what to do.
use Rattle.std.specs.Prelude.{[], ◌++◌, codes}
use Rattle.line_slips.specs.declared.slip.PlanSlip.{PlanSlip}
use Rattle.line_slips.specs.declared.slip.PlanSlip.TheVariants as plan
use Rattle.line_slips.specs.declared.slip.TableSlip.{TableSlip}
use Rattle.line_slips.specs.declared.slip.TableSlip.TheVariants as table
use Rattle.line_slips.specs.declared.slip.ByteSlip.{ByteSlip}
use Rattle.line_slips.specs.declared.slip.ByteSlip.TheVariants as byte
use Rattle.line_slips.specs.declared.slip.EntrySlip.{EntrySlip}
use Rattle.line_slips.specs.declared.slip.EntrySlip.TheVariants as entry
use Rattle.site_findings.specs.Prose.{Prose}

-- of a slip in the PUA file
abbrev pub plan_slip_prose : PlanSlip → Prose
plan_slip_prose plan.ProgramAsPlan = record {
  means = codes "a program stands in the place of the PUA file";
  often = [];
  cure = codes "`junction_check PROGRAM PUA TIMES INTERGREENS [DETECTORS]`";
}
plan_slip_prose plan.TableAsPlan = record {
  means = codes "a table stands in the place of the PUA file";
  often = [];
  cure = codes "`junction_check PROGRAM PUA TIMES INTERGREENS [DETECTORS]`";
}
plan_slip_prose plan.CommentSign = record {
  means = codes "no row of its section; a comment of a PUA file begins with `$`, and with no other sign";
  often = [];
  cure = codes "begin it with `$` and a blank";
}
plan_slip_prose plan.DecimalSeconds = record {
  means = codes "a decimal; the seconds of a PUA file are whole numbers";
  often = [];
  cure = codes "the next whole second";
}
plan_slip_prose plan.SecondKey = record {
  means =
      codes "a second `length`, `from` or `to`, so the `$INTERSTAGE` above is missing or misspelt and is a comment; or no whole number behind "
      ++ codes "it";
  often = [];
  cure = codes "`$INTERSTAGE2` above; `length: 6`, `from stage: 1`, `to stage: 2`";
}
plan_slip_prose plan.RedRow = record {
  means = codes "a `red` row names a group that is green in the stage above, or follows no row of a stage";
  often = [];
  cure = codes "the groups that are red in the stage, below its row";
}
plan_slip_prose plan.OneNumber = record {
  means = codes "the row of this group has one number, and it needs two numbers: the seconds R and E in which its red and its green end";
  often = [];
  cure = codes "ending group `-127 E`, starting group `R 127`";
}
plan_slip_prose plan.LoneStage = record {
  means = codes "the name stands above already, and it stands alone: the `$STARTING_STAGE` above is missing or misspelt and is a comment";
  often = [];
  cure = codes "look at the `$` line above";
}
plan_slip_prose plan.GroupAgain = record {
  means = codes "has a name or a number twice, or one that stands above already";
  often = [];
  cure = codes "each group has a name and a number of its own";
}

-- of a slip in a table
abbrev pub table_slip_prose : TableSlip → Prose
table_slip_prose table.Semicolons = record {
  means = codes "the fields are parted by `;`, and have to be by `,`";
  often = codes "a table program with a German setting saved it";
  cure = codes "save it with `,`, or exchange each `;`";
}
table_slip_prose table.Matrix = record {
  means = codes "a matrix, where a list of pairs has to stand: one record `from,to,seconds` for each two groups, both ways";
  often = [];
  cure = codes "`tools/intergreens_from_matrix.py` makes the list";
}
table_slip_prose table.PairsAsTimes = record {
  means = codes "the table of intergreens stands in the place of the table of times";
  often = [];
  cure = codes "`junction_check PROGRAM PUA TIMES INTERGREENS [DETECTORS]`";
}
table_slip_prose table.TimesAsPairs = record {
  means = codes "the table of times stands in the place of the table of intergreens";
  often = [];
  cure = codes "`junction_check PROGRAM PUA TIMES INTERGREENS [DETECTORS]`";
}
table_slip_prose table.OtherWords = record {
  means = codes "the first record isn't the header, word for word: other columns or another language";
  often = codes "blanks after the commas, columns in another order, UTF-16, an empty file";
  cure = codes "`group,min_green,red_amber,amber`, with `,min_red` or without; `from,to,seconds`";
}
table_slip_prose table.BlankInRecord = record {
  means = codes "a group that the PUA file doesn't have";
  often = codes "a blank in the field";
  cure = codes "names as in `$SIGNAL_GROUPS`, without blanks around them";
}
table_slip_prose table.NoSuchGroup = record {
  means = codes "names a group that the PUA file doesn't have";
  often = [];
  cure = codes "names as in `$SIGNAL_GROUPS`, in upper and lower case too";
}
table_slip_prose table.MinimumGreen = record {
  means = codes "where the minimum green has to be a whole number, 1 to 255";
  often = codes "`05`, a decimal, a blank, 0";
  cure = codes "the second field: 1 to 255";
}
table_slip_prose table.RedAmber = record {
  means = codes "where the red-amber has to be a whole number, 0 to 9";
  often = codes "a decimal; the columns exchanged";
  cure = codes "the third field: 0 to 9";
}
table_slip_prose table.Amber = record {
  means = codes "where the amber has to be a whole number, 0 to 9";
  often = codes "a decimal; the columns exchanged";
  cure = codes "the fourth field: 0 to 9";
}
table_slip_prose table.MinimumRed = record {
  means = codes "where the minimum red has to be a whole number, 1 to 255";
  often = codes "`05`, a decimal, a blank, 0";
  cure = codes "the fifth field: 1 to 255";
}
table_slip_prose table.Intergreen = record {
  means = codes "where the intergreen has to be a whole number, 0 to 99";
  often = codes "a decimal, a blank, `05`";
  cure = codes "the third field: 0 to 99";
}

-- of a byte that begins no token
abbrev pub byte_slip_prose : ByteSlip → Prose
byte_slip_prose byte.PlanAsProgram = record {
  means = codes "`$` begins no token; a PUA file stands in the place of the program";
  often = [];
  cure = codes "`junction_check PROGRAM PUA TIMES INTERGREENS [DETECTORS]`";
}
byte_slip_prose byte.NotEqual = record {
  means = codes "`!` begins no token; what differs is written `<>`";
  often = [];
  cure = codes "`<>`";
}
byte_slip_prose byte.Braces = record {
  means = codes "a brace begins no token; a comment is written `/* .. */`";
  often = [];
  cure = codes "`/* .. */`";
}
byte_slip_prose byte.Quotes = record {
  means = codes "a quote begins no token; the language has no texts";
  often = [];
  cure = codes "numbers: groups and stages go by theirs";
}
byte_slip_prose byte.AndOr = record {
  means = codes "`&` and `|` begin no token; they are written `AND` and `OR`";
  often = [];
  cure = codes "`AND`, `OR`";
}
byte_slip_prose byte.BeyondAscii = record {
  means = codes "a letter or a sign beyond ASCII, outside a comment";
  often = codes "an umlaut, a long dash, a blank that can't be broken";
  cure = codes "names of the letters A to Z, digits and `_`";
}
byte_slip_prose byte.ControlByte = record {
  means = codes "a control byte, as a byte 0, stands in the line";
  often = codes "a file in UTF-16; a broken copy";
  cure = codes "save it as ASCII or UTF-8";
}

-- of a slip in the detector file
abbrev pub entry_slip_prose : EntrySlip → Prose
entry_slip_prose entry.TwoBlanks = record {
  means = codes "two spaces part the entries, where one has to";
  often = [];
  cure = codes "one space between entries";
}
entry_slip_prose entry.BlankAtEnd = record {
  means = codes "a space stands at the end of the line";
  often = [];
  cure = codes "no space at the end of a line";
}
entry_slip_prose entry.Commas = record {
  means = codes "the three numbers of an entry are parted by `,`, and have to be by `:`";
  often = [];
  cure = codes "`detector:fronts:rears`";
}
entry_slip_prose entry.TwoNumbers = record {
  means = codes "an entry has two numbers, and needs three: the rears are missing";
  often = [];
  cure = codes "`detector:fronts:rears`";
}
entry_slip_prose entry.Headings = record {
  means = codes "the line has words; the file has no row of headings and no comments";
  often = [];
  cure = codes "take it out: the first line is second 1";
}
