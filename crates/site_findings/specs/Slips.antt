-- What is told of a refusal: the slip that its line shows, or else what its reason means.
use Rattle.std.specs.Prelude.{ℕ, ◌==◌, List, [], length, if◌then◌else◌, slice_index_or, Option, Some, None, unwrap_or}
use Rattle.std.specs.List.{slice_split}
use Rattle.std.specs.Option.{option_map}
use Rattle.program_advice.specs.declared.advice.Advice.{Advice}
use Rattle.pua_reader.specs.declared.refusal.PuaWhy.{PuaWhy}
use Rattle.pua_reader.specs.declared.refusal.PuaWhy.TheVariants as pua
use Rattle.sig_tables.specs.declared.refusal.TableWhy.{TableWhy}
use Rattle.sig_tables.specs.declared.refusal.TableWhy.TheVariants as why
use Rattle.vap_lex.specs.declared.piece.LexWhy.{LexWhy}
use Rattle.vap_lex.specs.declared.piece.LexWhy.TheVariants as lex
use Rattle.vap_parse.specs.declared.program.ParseWhy.{ParseWhy}
use Rattle.vap_parse.specs.declared.program.ParseWhy.TheVariants as parse
use Rattle.det_stream.specs.declared.refusal.StreamWhy.{StreamWhy}
use Rattle.det_stream.specs.declared.refusal.StreamWhy.TheVariants as stream
use Rattle.line_slips.specs.declared.slip.PlanSlip.{PlanSlip}
use Rattle.line_slips.specs.declared.slip.PlanSlip.TheVariants as plan
use Rattle.line_slips.specs.declared.slip.TableSlip.{TableSlip}
use Rattle.line_slips.specs.declared.slip.TableSlip.TheVariants as slip
use Rattle.line_slips.specs.declared.tables.Table.{Table}
use Rattle.line_slips.specs.declared.tables.Table.TheVariants as table
use Rattle.line_slips.specs.Bytes.{trimmed}
use Rattle.line_slips.specs.EntrySlips.{entry_slip}
use Rattle.line_slips.specs.PlanSlips.{again_slip, row_slip, section_slip}
use Rattle.line_slips.specs.ProgramSlips.{byte_slip}
use Rattle.line_slips.specs.TableSlips.{header_slip, name_slip, names_in, number_slip}
use Rattle.site_findings.specs.declared.finding.FileKind.{FileKind}
use Rattle.site_findings.specs.declared.finding.FileKind.TheVariants as file
use Rattle.site_findings.specs.declared.finding.Refusal.{Refusal}
use Rattle.site_findings.specs.declared.finding.Refusal.TheVariants as refusal
use Rattle.site_findings.specs.Prose.{Prose, helped_prose, one_sentence, quoted_prose}
use Rattle.site_findings.specs.ReasonProse.{reason_prose}
use Rattle.site_findings.specs.SlipProse.{byte_slip_prose, entry_slip_prose, plan_slip_prose, table_slip_prose}

-- the slip of a line of a PUA file
abbrev pub plan_slip : PuaWhy → List ℕ → Option PlanSlip
plan_slip pua.NotText line = None
plan_slip pua.Section line = section_slip line
plan_slip pua.Row line = row_slip line
plan_slip pua.NameTwice line = again_slip line
plan_slip pua.UnknownName line = None
plan_slip pua.Range line = None
plan_slip pua.NoStart line = None
plan_slip pua.PairTwice line = None
plan_slip (pua.Inconsistent inter group name) line = None
plan_slip pua.Limit line = None

-- what of the line stands before what is told of its slip: a group's row
abbrev pub quoted_row : PlanSlip → List ℕ → List ℕ
quoted_row plan.ProgramAsPlan line = []
quoted_row plan.TableAsPlan line = []
quoted_row plan.CommentSign line = []
quoted_row plan.DecimalSeconds line = []
quoted_row plan.SecondKey line = []
quoted_row plan.RedRow line = []
quoted_row plan.OneNumber line = trimmed line
quoted_row plan.LoneStage line = []
quoted_row plan.GroupAgain line = trimmed line

-- what is told of a slip of a line of a PUA file
abbrev pub told_of_plan : PlanSlip → List ℕ → Prose
told_of_plan slip line = quoted_prose (quoted_row slip line) (plan_slip_prose slip)

-- the table that a file is
abbrev pub table_in : FileKind → Option Table
table_in file.Pua = None
table_in file.Times = Some table.Times
table_in file.Intergreens = Some table.Intergreens
table_in file.Program = None
table_in file.Detectors = None

-- the slip of a record
abbrev pub table_slip : TableWhy → Table → List ℕ → Option TableSlip
table_slip why.Header table record' = Some (header_slip table record')
table_slip why.Fields table record' = None
table_slip why.Number table record' = number_slip table record'
table_slip why.UnknownName table record' = Some (name_slip record')
table_slip why.Twice table record' = None
table_slip (why.Missing group) table record' = None
table_slip (why.OneWay a b) table record' = None
table_slip why.SelfConflict table record' = None

-- the field at a place of a record, from 0, which commas part; no bytes where there is none
abbrev pub field_in : List ℕ → ℕ → List ℕ
field_in record' place = slice_index_or (slice_split (λ b. b == 44) record') place []

-- what of the record stands before what is told of its slip: names that are no groups', or the field that is no number
abbrev pub quoted_names : TableSlip → List ℕ → List ℕ
quoted_names slip.Semicolons record' = []
quoted_names slip.Matrix record' = []
quoted_names slip.PairsAsTimes record' = []
quoted_names slip.TimesAsPairs record' = []
quoted_names slip.OtherWords record' = []
quoted_names slip.BlankInRecord record' = []
quoted_names slip.NoSuchGroup record' = names_in record'
quoted_names slip.MinimumGreen record' = field_in record' 1
quoted_names slip.RedAmber record' = field_in record' 2
quoted_names slip.Amber record' = field_in record' 3
quoted_names slip.MinimumRed record' = field_in record' 4
quoted_names slip.Intergreen record' = field_in record' 2

-- what is told of a slip of a record
abbrev pub told_of_table : TableSlip → List ℕ → Prose
told_of_table slip record' = quoted_prose (quoted_names slip record') (table_slip_prose slip)

-- what is told of a slip of a record of this table
abbrev pub told_of_record : TableWhy → List ℕ → Option Table → Option Prose
told_of_record why record' None = None
told_of_record why record' (Some table) = option_map (λ slip. told_of_table slip record') (table_slip why table record')

-- what is told of a byte that begins no token
abbrev pub told_of_byte : LexWhy → List ℕ → Option Prose
told_of_byte lex.Byte line = option_map byte_slip_prose (byte_slip line)
told_of_byte lex.OpenComment line = None
told_of_byte lex.Decimal line = None
told_of_byte lex.NumberRange line = None

-- what is told of the first refused token
abbrev pub told_of_advice : Option Advice → Option Prose
told_of_advice None = None
told_of_advice (Some a) = if length a.means.items == 0 then None else Some (one_sentence a.means.items)

-- what is told of tokens with which there is no program
abbrev pub told_of_token : ParseWhy → Option Advice → Option Prose
told_of_token (parse.Unexpected place) advice = told_of_advice advice
told_of_token parse.Frequency advice = None
told_of_token parse.TooDeep advice = None

-- what is told of an entry that isn't three numbers
abbrev pub told_of_entry : StreamWhy → List ℕ → Option Prose
told_of_entry stream.Entry line = option_map entry_slip_prose (entry_slip line)
told_of_entry stream.Order line = None
told_of_entry stream.Range line = None
told_of_entry stream.Unknown line = None
told_of_entry (stream.RearsAhead detector) line = None
told_of_entry stream.LineTooLong line = None
told_of_entry stream.TooManySeconds line = None

-- what is told of the slip that a line of a file shows
abbrev pub slip_prose : FileKind → Refusal → Option Advice → List ℕ → Option Prose
slip_prose file (refusal.Pua why) advice line = option_map (λ slip. told_of_plan slip line) (plan_slip why line)
slip_prose file (refusal.Table why) advice line = told_of_record why line (table_in file)
slip_prose file (refusal.Lex why) advice line = told_of_byte why line
slip_prose file (refusal.Parse why) advice line = told_of_token why advice
slip_prose file (refusal.Check why) advice line = None
slip_prose file (refusal.Stream why) advice line = told_of_entry why line
slip_prose file refusal.Mark advice line = None
slip_prose file refusal.TooLong advice line = None

-- what is told of a refusal but for its change: the slip that its line shows, or else what its reason means
abbrev pub refused_prose : FileKind → Refusal → Option Advice → List ℕ → Prose
refused_prose file why advice line = unwrap_or (slip_prose file why advice line) (reason_prose why)

-- the change that is told of a program
abbrev pub help_in : Option Advice → List ℕ
help_in None = []
help_in (Some a) = a.help.items

-- the change that is told of a refusal
abbrev pub help_of : Refusal → Option Advice → List ℕ
help_of (refusal.Pua why) advice = []
help_of (refusal.Table why) advice = []
help_of (refusal.Lex why) advice = help_in advice
help_of (refusal.Parse why) advice = help_in advice
help_of (refusal.Check why) advice = help_in advice
help_of (refusal.Stream why) advice = []
help_of refusal.Mark advice = []
help_of refusal.TooLong advice = []

-- what is told of a refusal
abbrev pub refusal_prose : FileKind → Refusal → Option Advice → List ℕ → Prose
refusal_prose file why advice line = helped_prose (help_of why advice) (refused_prose file why advice line)
