-- The `IF` that is open behind tokens.
use Rattle.std.specs.Prelude.{ℕ, ◌+◌, ◌-◌, ◌^◌, ◌==◌, min, if◌then◌else◌, List}
use Rattle.std.specs.List.{fold}
use Rattle.vap_lex.specs.declared.token.Token.{Token}
use Rattle.vap_parse.specs.Kinds.{kind_of}
use Rattle.program_advice.specs.declared.kinds.Class.{Class}
use Rattle.program_advice.specs.declared.kinds.Class.TheVariants as c
use Rattle.program_advice.specs.declared.open.Open.{Open}
use Rattle.program_advice.specs.Kinds.{class_of}

-- what is open behind a token of a class in this line: IF opens one more, and END closes the last one
abbrev pub behind_class : Open → Class → ℕ → Open
behind_class opened c.If line =
    record { ifs = min (opened.ifs + 1) (2 ^ 64 - 1); line = if opened.ifs == 0 then line else opened.line }
behind_class opened c.End line = record { ifs = opened.ifs - 1; line = opened.line }
behind_class opened c.Alone line = opened
behind_class opened c.Name line = opened
behind_class opened c.Operand line = opened
behind_class opened c.Command line = opened
behind_class opened c.Reading line = opened
behind_class opened c.Assign line = opened
behind_class opened c.Equal line = opened
behind_class opened c.Comparison line = opened
behind_class opened c.Sum line = opened
behind_class opened c.Minus line = opened
behind_class opened c.Factor line = opened

-- what is open behind one more token
abbrev pub behind : Open → Token → Open
behind opened t = behind_class opened (class_of (kind_of t.kind)) t.line

-- what is open behind tokens
abbrev pub opened_by : List Token → Open
opened_by ts = fold behind (record { ifs = 0; line = 0 }) ts
