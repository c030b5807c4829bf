-- The kinds of tokens: how each is told, and with which others.
use Rattle.std.specs.Prelude.{ℕ, List, [], codes}
use Rattle.vap_parse.specs.declared.kind.Kind.{Kind}
use Rattle.vap_parse.specs.declared.kind.Kind.TheVariants as k
use Rattle.program_advice.specs.declared.kinds.Class.{Class}
use Rattle.program_advice.specs.declared.kinds.Class.TheVariants as c

-- the class of a kind
abbrev pub class_of : Kind → Class
class_of k.Nothing = c.Alone
class_of k.Name = c.Name
class_of k.Number = c.Operand
class_of k.Program = c.Alone
class_of k.VapFrequency = c.Alone
class_of k.Const = c.Alone
class_of k.Array = c.Alone
class_of k.Subroutine = c.Alone
class_of k.ProgEnde = c.Alone
class_of k.If = c.If
class_of k.Then = c.Alone
class_of k.Else = c.Alone
class_of k.End = c.End
class_of k.Goto = c.Command
class_of k.Gosub = c.Command
class_of k.And = c.Alone
class_of k.Or = c.Alone
class_of k.Not = c.Operand
class_of k.Trace = c.Command
class_of k.Start = c.Command
class_of k.Stop = c.Command
class_of k.Reset = c.Command
class_of k.Interstage = c.Command
class_of k.SgGreen = c.Command
class_of k.SgRed = c.Command
class_of k.ClearFrontEnds = c.Command
class_of k.ClearRearEnds = c.Command
class_of k.CurrentState = c.Reading
class_of k.AnyInterstageActive = c.Reading
class_of k.Detection = c.Reading
class_of k.Occupancy = c.Reading
class_of k.Headway = c.Reading
class_of k.FrontEnds = c.Reading
class_of k.RearEnds = c.Reading
class_of k.TGreen = c.Reading
class_of k.TRed = c.Reading
class_of k.StageActive = c.Reading
class_of k.StageDuration = c.Reading
class_of k.InterstageActive = c.Reading
class_of k.Assign = c.Assign
class_of k.Colon = c.Alone
class_of k.Semi = c.Alone
class_of k.Comma = c.Alone
class_of k.Dot = c.Alone
class_of k.Open = c.Operand
class_of k.Close = c.Alone
class_of k.OpenIndex = c.Alone
class_of k.CloseIndex = c.Alone
class_of k.Eq = c.Equal
class_of k.Ne = c.Comparison
class_of k.Lt = c.Comparison
class_of k.Le = c.Comparison
class_of k.Gt = c.Comparison
class_of k.Ge = c.Comparison
class_of k.Plus = c.Sum
class_of k.Minus = c.Minus
class_of k.Star = c.Factor
class_of k.Slash = c.Factor
class_of k.SetCycle = c.Command

-- the place of a class among the classes
abbrev pub class_place : Class → ℕ
class_place c.Alone = 0
class_place c.Name = 1
class_place c.Operand = 2
class_place c.If = 3
class_place c.End = 4
class_place c.Command = 5
class_place c.Reading = 6
class_place c.Assign = 7
class_place c.Equal = 8
class_place c.Comparison = 9
class_place c.Sum = 10
class_place c.Minus = 11
class_place c.Factor = 12

-- the word or the sign of a kind, as it is told; none of a kind that the word of its class tells
abbrev pub kind_word : Kind → List ℕ
kind_word k.Nothing = codes "the end of the text"
kind_word k.Name = codes "a name"
kind_word k.Number = codes "a number"
kind_word k.Program = codes "`PROGRAM`"
kind_word k.VapFrequency = codes "`VAP_FREQUENCY`"
kind_word k.Const = codes "`CONST`"
kind_word k.Array = codes "`ARRAY`"
kind_word k.Subroutine = codes "`SUBROUTINE`"
kind_word k.ProgEnde = codes "`PROG_ENDE`"
kind_word k.If = codes "`IF`"
kind_word k.Then = codes "`THEN`"
kind_word k.Else = codes "`ELSE`"
kind_word k.End = codes "`END`"
kind_word k.Goto = []
kind_word k.Gosub = []
kind_word k.And = codes "`AND`"
kind_word k.Or = codes "`OR`"
kind_word k.Not = codes "`NOT`"
kind_word k.Trace = []
kind_word k.Start = []
kind_word k.Stop = []
kind_word k.Reset = []
kind_word k.Interstage = []
kind_word k.SgGreen = []
kind_word k.SgRed = []
kind_word k.ClearFrontEnds = []
kind_word k.ClearRearEnds = []
kind_word k.CurrentState = []
kind_word k.AnyInterstageActive = []
kind_word k.Detection = []
kind_word k.Occupancy = []
kind_word k.Headway = []
kind_word k.FrontEnds = []
kind_word k.RearEnds = []
kind_word k.TGreen = []
kind_word k.TRed = []
kind_word k.StageActive = []
kind_word k.StageDuration = []
kind_word k.InterstageActive = []
kind_word k.Assign = codes "`:=`"
kind_word k.Colon = codes "`:`"
kind_word k.Semi = codes "`;`"
kind_word k.Comma = codes "`,`"
kind_word k.Dot = codes "`.`"
kind_word k.Open = codes "`(`"
kind_word k.Close = codes "`)`"
kind_word k.OpenIndex = codes "`[`"
kind_word k.CloseIndex = codes "`]`"
kind_word k.Eq = codes "`=`"
kind_word k.Ne = []
kind_word k.Lt = []
kind_word k.Le = []
kind_word k.Gt = []
kind_word k.Ge = []
kind_word k.Plus = codes "`+`"
kind_word k.Minus = codes "`-`"
kind_word k.Star = []
kind_word k.Slash = []
kind_word k.SetCycle = []
