-- What is told of each reason to refuse a file: what it means, what it most often is, and what to do.
use Rattle.std.specs.Prelude.{[], ◌++◌, codes}
use Rattle.pua_reader.specs.declared.refusal.PuaWhy.{PuaWhy}
use Rattle.pua_reader.specs.declared.refusal.PuaWhy.TheVariants as pua
use Rattle.sig_tables.specs.declared.refusal.TableWhy.{TableWhy}
use Rattle.sig_tables.specs.declared.refusal.TableWhy.TheVariants as table
use Rattle.vap_lex.specs.declared.piece.LexWhy.{LexWhy}
use Rattle.vap_lex.specs.declared.piece.LexWhy.TheVariants as lex
use Rattle.vap_parse.specs.declared.program.ParseWhy.{ParseWhy}
use Rattle.vap_parse.specs.declared.program.ParseWhy.TheVariants as parse
use Rattle.vap_check.specs.declared.refusal.CheckWhy.{CheckWhy}
use Rattle.vap_check.specs.declared.refusal.CheckWhy.TheVariants as check
use Rattle.det_stream.specs.declared.refusal.StreamWhy.{StreamWhy}
use Rattle.det_stream.specs.declared.refusal.StreamWhy.TheVariants as stream
use Rattle.site_findings.specs.declared.finding.Refusal.{Refusal}
use Rattle.site_findings.specs.declared.finding.Refusal.TheVariants.{Pua, Table, Lex, Parse, Check, Stream, Mark, TooLong}
use Rattle.site_findings.specs.Prose.{Prose}

-- of a reason of the PUA file
abbrev pub pua_prose : PuaWhy → Prose
pua_prose pua.NotText = record {
  means = codes "a byte that is no printable ASCII, outside comments";
  often = codes "a letter beyond ASCII in a name; a CR alone; UTF-16";
  cure = codes "names of letters, digits and `_`; comments begin with `$`";
}
pua_prose pua.Section = record {
  means = codes "a section out of order, or a row before the first one; the order is `$SIGNAL_GROUPS`, `$STAGES`, `$STARTING_STAGE`, `$INTERSTAGE`";
  often = codes "the program or a table in the place of the PUA file; with line 0: `$SIGNAL_GROUPS` or `$STAGES` is missing, misspelt or empty";
  cure = codes "`run PROGRAM PUA TIMES ..`; groups, stages, starting stage, interstages, in this order";
}
pua_prose pua.Row = record {
  means = codes "a row has no form of its section";
  often =
      codes "at `length`: a decimal, or a group called `length`; at the second interstage: its `$INTERSTAGE` is misspelt; a comment that "
      ++ codes "doesn't begin with `$`; from, to or length missing (at the `$INTERSTAGE`)";
  cure = codes "the forms stand in formats.md";
}
pua_prose pua.NameTwice = record {
  means = codes "a name or number of a group, or a name of a stage, again; a group twice in a row or interstage";
  often = [];
  cure = codes "one name for one thing; at a row that is to be the starting stage look at the `$` line above";
}
pua_prose pua.UnknownName = record {
  means = codes "a group or a stage that isn't there, or stands below";
  often = codes "a misspelt name; a stage by a number beyond the last";
  cure = codes "names as in the sections above";
}
pua_prose pua.Range = record {
  means = codes "a number outside its range; an interstage from a stage to itself (at its `$INTERSTAGE`)";
  often = codes "length 0 or above 126; R or E beyond 127; group 0";
  cure = codes "length 1 to 126, ends -127 to 127, groups 1 to 255";
}
pua_prose pua.NoStart = record {
  means = codes "there is no starting stage; line 0";
  often = codes "a file that ends after the stages";
  cure = codes "`$STARTING_STAGE` and a row";
}
pua_prose pua.PairTwice = record {
  means = codes "a second interstage for the same two stages, at its `$INTERSTAGE`";
  often = codes "a section copied";
  cure = codes "from and to";
}
pua_prose (pua.Inconsistent inter group name) = record {
  means =
      codes "interstage n doesn't agree with its stages for group G: one that is green in the from-stage alone has to end, one that is green "
      ++ codes "in the to-stage alone to begin; the line is that of its `$INTERSTAGE`";
  often = codes "no row for G although it changes; R and E swapped; stages swapped";
  cure = codes "ending group `-127 E`, starting group `R 127`; from and to as the stages say";
}
pua_prose pua.Limit = record {
  means = codes "the 65th group, 33rd stage or 257th interstage";
  often = [];
  cure = codes "a smaller plan";
}

-- of a reason of a table
abbrev pub table_prose : TableWhy → Prose
table_prose table.Header = record {
  means = codes "the first record isn't the header";
  often = codes "`;` for `,`, blanks after the commas, another language, a matrix, UTF-16, an empty file";
  cure = codes "`group,min_green,red_amber,amber`, with `,min_red` or without; `from,to,seconds`; a matrix: tools";
}
table_prose table.Fields = record {
  means = codes "the record has another number of fields";
  often = codes "a comment line; a minimum red in some records alone; a comma too many";
  cure = codes "as many fields in each record as in the header; no comments";
}
table_prose table.Number = record {
  means = codes "a number has another form or is out of range";
  often = codes "a decimal, a blank before it, `05`, minimum green 0";
  cure = codes "minimum green and minimum red 1 to 255; red-amber and amber 0 to 9; intergreens 0 to 99";
}
table_prose table.UnknownName = record {
  means = codes "a group that the PUA file doesn't have";
  often = codes "a blank in the field";
  cure = codes "names as in `$SIGNAL_GROUPS`";
}
table_prose table.Twice = record {
  means = codes "a group, or an ordered pair, again";
  often = [];
  cure = codes "keep one";
}
table_prose (table.Missing group) = record {
  means = codes "group G has no record; line 0";
  often = codes "a new group";
  cure = codes "a record for each group of the PUA file";
}
table_prose (table.OneWay a b) = record {
  means = codes "the pair A, B is listed, and B, A isn't";
  often = [];
  cure = codes "both ways, with 0 where nothing has to pass";
}
table_prose table.SelfConflict = record {
  means = codes "a pair of a group with itself";
  often = codes "the diagonal of a matrix";
  cure = codes "leave it out";
}

-- of a reason of a text without tokens
abbrev pub lex_prose : LexWhy → Prose
lex_prose lex.Byte = record {
  means = codes "a byte begins no token";
  often = codes "`!=`, `{`, `\"`, a letter beyond ASCII outside a comment";
  cure = codes "`<>`; comments are `/* .. */`; there are no texts in quotes";
}
lex_prose lex.OpenComment = record {
  means = codes "a `/*` without `*/`; the line is that of its beginning";
  often = [];
  cure = codes "close it; comments don't nest";
}
lex_prose lex.Decimal = record {
  means = codes "a number with a decimal point";
  often = codes "`2.5` seconds";
  cure = codes "whole seconds; or tenths, compared with ten times the reading";
}
lex_prose lex.NumberRange = record {
  means = codes "a number above 2,147,483,647";
  often = [];
  cure = codes "a smaller one";
}

-- of a reason of tokens without a tree
abbrev pub parse_prose : ParseWhy → Prose
parse_prose (parse.Unexpected place) = record {
  means = codes "with this token the text can't be a program";
  often =
      codes "`=` for `:=`, `==`, `//`, `ENDIF`, `THEN` missing, `2,5`; a name that is a reserved word; at `PROG_ENDE`: an `END` is missing "
      ++ codes "somewhere above";
  cure = codes "look at the line, then at the end of the one before; count `IF` and `END`";
}
parse_prose parse.Frequency = record {
  means = codes "the number after `VAP_FREQUENCY` isn't 1";
  often = codes "a program for two passes a second";
  cure = codes "rewrite it for one pass a second, and then write 1";
}
parse_prose parse.TooDeep = record {
  means = codes "more than 32 levels of brackets, `NOT` and minus, more than 100 levels of `IF`, or more than 900 operators in a statement";
  often = codes "an `IF` whose `END` is missing, again and again";
  cure = codes "a variable for a part; count `IF` and `END`";
}

-- of a reason of the checks of a program
abbrev pub check_prose : CheckWhy → Prose
check_prose check.ConstTwice = record {
  means = codes "a constant is declared again";
  often = [];
  cure = codes "keep one";
}
check_prose check.NameKind = record {
  means = codes "a name is used as two kinds of things";
  often = codes "a timer that is assigned; an array without an index; a name of a constant in `Start(..)`";
  cure = codes "one name for one thing; `Reset(t)` sets a timer to 0";
}
check_prose check.LabelTwice = record {
  means = codes "a label stands twice in its routine";
  often = codes "lines copied";
  cure = codes "give it another name";
}
check_prose check.NoLabel = record {
  means = codes "a `GOTO` leads to no label of its routine";
  often = codes "a label of another routine; a misspelt one";
  cure = codes "labels belong to their subroutine or to the main program";
}
check_prose check.SubTwice = record {
  means = codes "a subroutine is declared again";
  often = [];
  cure = codes "give it another name";
}
check_prose check.NoSub = record {
  means = codes "a `GOSUB` names no subroutine above it";
  often = codes "a subroutine that stands below, or calls itself";
  cure = codes "put it above the one that calls it";
}
check_prose check.ArraySize = record {
  means = codes "the size isn't 1 to 1,024, or not the number of values";
  often = codes "a value added without a new size";
  cure = codes "`ARRAY a[3] = [1, 2, 3]`";
}
check_prose check.AssignConst = record {
  means = codes "a constant is assigned";
  often = codes "a constant that should be a variable";
  cure = codes "give it another name, or take it out of `CONST`";
}
check_prose check.Arity = record {
  means = codes "a command or a reading has the wrong number of arguments";
  often = codes "`Interstage(2)`, `Detection(1, 2)`";
  cure = codes "`Interstage` and `Interstage_active` take two, all others one";
}
check_prose (check.Limit which) = record {
  means = codes "more than 256 `Variables`, 64 `Timers`, 32 `Arrays`, 4,096 `Cells`, 64 `Subroutines` or 4,096 `Labels`; W says which";
  often = [];
  cure = codes "a smaller program";
}
check_prose check.StatementTooLong = record {
  means = codes "a statement of more than 900 instructions";
  often = codes "a very long condition";
  cure = codes "two statements, with a variable between";
}
check_prose check.ProgramTooLong = record {
  means = codes "more than 65,535 instructions; line 0";
  often = [];
  cure = codes "a smaller program; subroutines for what repeats";
}

-- of a reason of the detector file
abbrev pub stream_prose : StreamWhy → Prose
stream_prose stream.Entry = record {
  means = codes "an entry isn't three numbers parted by `:`";
  often = codes "a tab, two spaces, a space at the end, `01`, a comment, a header, an invisible byte order mark";
  cure = codes "`d:f:r`, one space between, nothing else; save without a byte order mark";
}
stream_prose stream.Order = record {
  means = codes "a detector isn't above the one before it in its line";
  often = codes "detectors in another order, or one twice";
  cure = codes "sort the line, and add up what stands twice";
}
stream_prose stream.Range = record {
  means = codes "fronts or rears above 99";
  often = codes "a sum in the place of a second's count";
  cure = codes "counts of one second";
}
stream_prose stream.Unknown = record {
  means = codes "a detector that isn't 1 to 64";
  often = [];
  cure = codes "detectors are numbered 1 to 64";
}
stream_prose (stream.RearsAhead detector) = record {
  means = codes "detector d has more rears than fronts so far";
  often = codes "counts swapped; a recording that began with a vehicle on the loop";
  cure = codes "fronts come second, rears third; add a front at the beginning";
}
stream_prose stream.LineTooLong = record {
  means = codes "more than 1,024 bytes in a line";
  often = codes "a file without line feeds";
  cure = codes "one line a second";
}
stream_prose stream.TooManySeconds = record {
  means = codes "more than 604,800 lines, a week";
  often = [];
  cure = codes "several runs";
}

-- of a detector file that begins with a byte order mark
abbrev pub mark_prose : Prose
mark_prose = record {
  means = codes "the file begins with an invisible byte order mark, so its first entry is none";
  often = codes "an editor saved it as `UTF-8 with BOM`; all other files may have one, a detector file may not";
  cure = codes "save it as UTF-8 without a byte order mark";
}

-- of a file that has more bytes than it may have
abbrev pub too_long_prose : Prose
too_long_prose = record {
  means = codes "the file is larger than it may be: 1,048,576 bytes, a code file 2,097,152";
  often = codes "another file by mistake";
  cure = [];
}

-- of a file that can't be read
abbrev pub unread_prose : Prose
unread_prose = record {
  means = codes "the file can't be read; for the detector file the header is written before";
  often = codes "a misspelt name; a relative path under `rt try`; a folder; no permission";
  cure = codes "the path; your own junction";
}

-- of a refusal
abbrev pub reason_prose : Refusal → Prose
reason_prose (Pua why) = pua_prose why
reason_prose (Table why) = table_prose why
reason_prose (Lex why) = lex_prose why
reason_prose (Parse why) = parse_prose why
reason_prose (Check why) = check_prose why
reason_prose (Stream why) = stream_prose why
reason_prose Mark = mark_prose
reason_prose TooLong = too_long_prose
