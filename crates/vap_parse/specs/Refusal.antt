-- Where the parse ends, and why.
use Rattle.std.specs.Prelude.{◌≡◌, ℕ, ◌+◌, ◌-◌, List, [], ◌∷◌, length, slice_get, Option}
use Rattle.std.specs.Option.{option_map_or}
use Rattle.vap_lex.specs.declared.token.Token.{Token}
use Rattle.vap_parse.specs.declared.kind.Reason.{Reason}
use Rattle.vap_parse.specs.declared.kind.Reason.TheVariants.{Unexpected, Frequency, TooDeep}
use Rattle.vap_parse.specs.declared.program.ParseWhy.{ParseWhy}
use Rattle.vap_parse.specs.declared.program.ParseWhy.TheVariants as why
use Rattle.vap_parse.specs.declared.program.ParseRefusal.{ParseRefusal}
use Rattle.vap_parse.specs.declared.program.ParseRefusal.TheVariants as refusal
use Rattle.vap_parse.specs.Grammar.{Refuses}

-- the last token
abbrev pub last_of : List Token → Option Token
last_of all = slice_get all (length all - 1)

-- the place of the next token, or the one behind the last
abbrev pub place_of : List Token → List Token → ℕ
place_of all (next ∷ rest) = next.place
place_of all [] = option_map_or (λ t. t.place + 1) (last_of all) 0

-- the line of the next token, or that of the last
abbrev pub line_of : List Token → List Token → ℕ
line_of all (next ∷ rest) = next.line
line_of all [] = option_map_or (λ t. t.line) (last_of all) 1

-- the reason that is answered
abbrev pub why_of : List Token → List Token → Reason → ParseWhy
why_of all rest Unexpected = why.Unexpected (place_of all rest)
why_of all rest TooDeep = why.TooDeep
why_of all rest Frequency = why.Frequency

-- the refusal that is answered
abbrev pub refusal_of : List Token → List Token → Reason → ParseRefusal
refusal_of all rest reason = refusal.At (line_of all rest) (why_of all rest reason)

-- the tokens are refused so
abbrev pub IsRefused : List Token → ParseRefusal → Type 0
IsRefused ts refusal.Memory = Unit {0}
IsRefused ts (refusal.At line reason) =
    (rest : List Token) × (why : Reason) × Refuses ts why rest × (refusal.At line reason ≡ refusal_of ts rest why)
