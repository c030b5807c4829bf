-- What could stand behind tokens.
use Rattle.std.specs.Prelude.{List, [], ◌∷◌, ◌++◌, codes, Bool, if◌then◌else◌, ◌↔◌}
use Rattle.std.specs.List.{Contains}
use Rattle.vap_ast.specs.Syntax.{Program}
use Rattle.vap_lex.specs.declared.token.Token.{Token}
use Rattle.vap_lex.specs.declared.token.TokenKind.{TokenKind}
use Rattle.vap_lex.specs.declared.token.TokenKind.TheVariants as t
use Rattle.vap_parse.specs.declared.kind.Kind.{Kind}
use Rattle.vap_parse.specs.declared.kind.Kind.TheVariants as k
use Rattle.vap_parse.specs.Forms.{fines}
use Rattle.vap_parse.specs.Grammar.{Accepts, Begins}
use Rattle.program_advice.specs.Probe.{probe}

-- a token, somewhere
abbrev pub token_of : TokenKind → Token
token_of what = record { place = 0; line = 1; kind = what }

-- behind these tokens such a one can stand: with it they are a beginning of a text, each within the limits
abbrev pub CanStand : List Token → TokenKind → Type 0
CanStand before what = Begins (fines (before ++ token_of what ∷ []))

-- Behind these tokens a token of this kind can stand; of `Nothing`, the text can end.
abbrev pub Stands : List Token → Kind → Type 0
Stands before k.Nothing = (p : Program) × Accepts before p
Stands before kind = CanStand before (probe kind)

-- the name of an aspect
abbrev pub an_aspect : TokenKind
an_aspect = t.Word (codes "red")

-- one kind more, where it is to be told
abbrev pub noted : List Kind → Kind → Bool → List Kind
noted kinds kind can = if can then kinds ++ kind ∷ [] else kinds

-- these kinds are told of those, since they can stand
abbrev pub AreStanding : List Token → List Kind → List Kind → Type 0
AreStanding before kinds told = (kind : Kind) → Contains told kind ↔ (Contains kinds kind × Stands before kind)
