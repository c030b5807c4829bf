-- Why a text is refused, as a note tells it.
use Rattle.std.specs.Prelude.{ℕ, List, ◌++◌, codes}
use Rattle.std.specs.Fmt.{decimal}
use Rattle.vap_lex.specs.declared.piece.LexWhy.{LexWhy}
use Rattle.vap_lex.specs.declared.piece.LexWhy.TheVariants as lex
use Rattle.vap_parse.specs.declared.program.ParseWhy.{ParseWhy}
use Rattle.vap_parse.specs.declared.program.ParseWhy.TheVariants as parse
use Rattle.vap_check.specs.declared.refusal.CheckWhy.{CheckWhy}
use Rattle.vap_check.specs.declared.refusal.CheckWhy.TheVariants as check
use Rattle.vap_check.specs.declared.refusal.Which.{Which}
use Rattle.vap_check.specs.declared.refusal.Which.TheVariants as which
use Rattle.code_file.specs.declared.refusal.CodeWhy.{CodeWhy}
use Rattle.code_file.specs.declared.refusal.CodeWhy.TheVariants as code
use Rattle.vap_code.specs.declared.VerifyWhy.{VerifyWhy}
use Rattle.vap_code.specs.declared.VerifyWhy.TheVariants as verify
use Rattle.det_stream.specs.declared.refusal.StreamWhy.{StreamWhy}
use Rattle.det_stream.specs.declared.refusal.StreamWhy.TheVariants as stream
use Rattle.log_read.specs.Whys.{why_name}
use Rattle.site_load.specs.Reasons as site
-- the text of the pieces of a reason
pub use Rattle.site_load.specs.Reasons.{told_text}
use Rattle.junction_run.specs.declared.stop.LineReason.{LineReason}
use Rattle.junction_run.specs.declared.stop.LineReason.TheVariants.{Frame, Record}
use Rattle.junction_run.specs.declared.stop.Reason.{Reason}
use Rattle.junction_run.specs.declared.stop.Reason.TheVariants.{Site, Lex, Parse, Check, Code, Verify}

-- the reason why a text has no tokens from a place on
abbrev pub lex_reason : LexWhy → List ℕ
lex_reason lex.Byte = codes "Byte"
lex_reason lex.OpenComment = codes "OpenComment"
lex_reason lex.Decimal = codes "Decimal"
lex_reason lex.NumberRange = codes "NumberRange"

-- the reason why tokens are no program
abbrev pub parse_reason : ParseWhy → List ℕ
parse_reason (parse.Unexpected place) = codes "Unexpected"
parse_reason parse.Frequency = codes "Frequency"
parse_reason parse.TooDeep = codes "TooDeep"

-- what a program has too many of
abbrev pub which_name : Which → List ℕ
which_name which.Variables = codes "Variables"
which_name which.Timers = codes "Timers"
which_name which.Arrays = codes "Arrays"
which_name which.Cells = codes "Cells"
which_name which.Subroutines = codes "Subroutines"
which_name which.Labels = codes "Labels"

-- the reason why a program fails its checks
abbrev pub check_reason : CheckWhy → List ℕ
check_reason check.ConstTwice = codes "ConstTwice"
check_reason check.NameKind = codes "NameKind"
check_reason check.LabelTwice = codes "LabelTwice"
check_reason check.NoLabel = codes "NoLabel"
check_reason check.SubTwice = codes "SubTwice"
check_reason check.NoSub = codes "NoSub"
check_reason check.ArraySize = codes "ArraySize"
check_reason check.AssignConst = codes "AssignConst"
check_reason check.Arity = codes "Arity"
check_reason (check.Limit too_many) = codes "Limit " ++ which_name too_many
check_reason check.StatementTooLong = codes "StatementTooLong"
check_reason check.ProgramTooLong = codes "ProgramTooLong"

-- the reason of a text that is no code
abbrev pub code_reason : CodeWhy → List ℕ
code_reason code.Header = codes "Header"
code_reason code.Line = codes "Line"
code_reason code.Range = codes "Range"
code_reason code.MissingEnd = codes "MissingEnd"
code_reason code.Limit = codes "Limit"

-- the reason of a code that is not valid
abbrev pub verify_reason : VerifyWhy → List ℕ
verify_reason verify.JumpOut = codes "JumpOut"
verify_reason verify.BackToNoTick = codes "BackToNoTick"
verify_reason verify.Height = codes "Height"
verify_reason verify.Slot = codes "Slot"
verify_reason verify.CallOrder = codes "CallOrder"
verify_reason verify.EdgeToNoTick = codes "EdgeToNoTick"
verify_reason verify.FallsOff = codes "FallsOff"
verify_reason verify.Stretch = codes "Stretch"
verify_reason verify.Shape = codes "Shape"
verify_reason verify.Commands = codes "Commands"

-- the reason of a refused detector line, with the detector that it speaks of
abbrev pub stream_reason : StreamWhy → List ℕ
stream_reason stream.Entry = codes "Entry"
stream_reason stream.Order = codes "Order"
stream_reason stream.Range = codes "Range"
stream_reason stream.Unknown = codes "Unknown"
stream_reason (stream.RearsAhead detector) = codes "RearsAhead " ++ decimal detector.0
stream_reason stream.LineTooLong = codes "LineTooLong"
stream_reason stream.TooManySeconds = codes "TooManySeconds"

-- the reason of a refused line
abbrev pub line_reason : LineReason → List ℕ
line_reason (Frame why) = stream_reason why
line_reason (Record why) = why_name why

-- the text of a reason
abbrev pub reason_text : Reason → List ℕ
reason_text (Site why) = site.reason_text why
reason_text (Lex why) = lex_reason why
reason_text (Parse why) = parse_reason why
reason_text (Check why) = check_reason why
reason_text (Code why) = code_reason why
reason_text (Verify why) = verify_reason why
