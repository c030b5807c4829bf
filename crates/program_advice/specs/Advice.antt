-- What is told of a program that its reader refuses.
use Rattle.std.specs.Prelude.{◌≡◌, ℕ, ◌+◌, ◌-◌, ◌^◌, ◌<◌, ◌==◌, ◌↔◌, ◌⊎◌, min, Bool, true, false, ◌&&◌, if◌then◌else◌}
use Rattle.std.specs.Prelude.{List, [], drop, take, Option, None, Some, IfSome, IsTrue, MatchOption, slice_get}
use Rattle.std.specs.List.{Contains}
use Rattle.vap_ast.specs.Syntax.{Program}
use Rattle.vap_lex.specs.Refusal as lexed
use Rattle.vap_lex.specs.Tokens.{HasTokens}
use Rattle.vap_lex.specs.declared.scan.LexRefusal.{LexRefusal}
use Rattle.vap_lex.specs.declared.token.Token.{Token}
use Rattle.vap_parse.specs.Grammar.{Accepts, Refuses}
use Rattle.vap_parse.specs.declared.kind.Kind.{Kind}
use Rattle.vap_parse.specs.declared.kind.Reason.{Reason}
use Rattle.vap_parse.specs.declared.kind.Reason.TheVariants.{Unexpected}
use Rattle.program_advice.specs.Stands.{CanStand, Stands, an_aspect}
use Rattle.vap_repair.specs.Repairs.{Helps, IsWithin}
use Rattle.vap_repair.specs.declared.edit.Edit.{Edit}
use Rattle.vap_repair.specs.declared.reader.Answer.{Answer}
use Rattle.vap_repair.specs.declared.reader.Answer.TheVariants as a
use Rattle.vap_repair.specs.declared.repair.Repair.{Repair}
use Rattle.program_advice.specs.declared.advice.Advice.{Advice}
use Rattle.program_advice.specs.declared.advice.Meant.{Meant}
use Rattle.program_advice.specs.Bytes.{blanks_before, blanks_behind, column_of, line_of}
use Rattle.program_advice.specs.Help.{help_text, is_of_line, takes_out}
use Rattle.program_advice.specs.Sentence.{meant_range, sentence_text}
use Rattle.program_advice.specs.Tokens.{token_before}

-- ---- a token

-- Behind the first n of these tokens exactly tokens of these kinds can stand, and the name of an aspect where it is told.
pub record AreWanted (tokens : List Token) (n : ℕ) (kinds : List Kind) (aspect : Bool) : Type 0 where
  pub kinds_are : (kind : Kind) → Contains kinds kind ↔ Stands (take n tokens) kind
  pub aspect_is : IsTrue aspect ↔ CanStand (take n tokens) an_aspect

-- of the token at a place is told what stands there and what can
abbrev pub IsToldAt : List ℕ → List Token → ℕ → Meant → Type 0
IsToldAt text tokens at m =
    (kinds : List Kind) × (aspect : Bool) × AreWanted tokens at kinds aspect
    × (m.means.items ≡ sentence_text text tokens at kinds aspect)
    × (m.range ≡ meant_range text kinds (token_before tokens at) (slice_get tokens at))

-- it is told of the first of these tokens that is refused
abbrev pub IsToldIn : List ℕ → List Token → Meant → Type 0
IsToldIn text tokens m = (at : ℕ) × Refuses tokens Unexpected (drop at tokens) × IsToldAt text tokens at m

-- nothing is told of these tokens: they are a tree, one is refused for another reason, or more than 100,000 stand before it
abbrev pub IsUntoldIn : List Token → Type 0
IsUntoldIn tokens =
    ((p : Program) × Accepts tokens p)
    ⊎ ((why : Reason) × (at : ℕ) × Refuses tokens why (drop at tokens) × (why ≡ Unexpected → 100000 < at))

-- it is told of a text with these tokens
abbrev pub IsToldOf : List ℕ → Meant → Type 0
IsToldOf text m = (tokens : List Token) × HasTokens text tokens × IsToldIn text tokens m

-- nothing is told of a text: a place of it is no token, or nothing is told of its tokens
abbrev pub IsUntold : List ℕ → Type 0
IsUntold text =
    ((e : LexRefusal) × lexed.IsRefused text e) ⊎ ((tokens : List Token) × HasTokens text tokens × IsUntoldIn tokens)

-- ---- a change

-- with a change the text is a program
abbrev pub is_of_program : Answer → Bool
is_of_program a.Program = true
is_of_program a.Tree = false
is_of_program (a.Unexpected place) = false
is_of_program a.Other = false

-- one byte of a text
abbrev pub range_of_byte : ℕ → ℕ × ℕ
range_of_byte place = (place, min (place + 1) (2 ^ 64 - 1))

-- the byte behind what stands before a place in its line; the one at the place, where nothing does
abbrev pub range_of_gap : List ℕ → ℕ → ℕ × ℕ
range_of_gap text place =
    if blanks_before text place == column_of text place then range_of_byte place else range_of_byte (place - blanks_before text place)

-- a change takes out what stands before these bytes, with blanks between
abbrev pub is_out_before : List ℕ → ℕ × ℕ → Edit → Bool
is_out_before text range e = takes_out e && (min (e.to + blanks_behind text e.to) (2 ^ 64 - 1) == range.0)

-- the bytes that a change is of, where these are meant of a token: of one that puts in the byte behind what stands before it in its
-- line, and of one that takes out what stands before the token both
abbrev pub range_of_edit : List ℕ → ℕ × ℕ → Edit → ℕ × ℕ
range_of_edit text meant e =
    if e.from == e.to then range_of_gap text e.from
    else (if is_out_before text meant e then (e.from, meant.1) else (e.from, e.to))

-- the bytes that are meant of a token
abbrev pub range_of_meant : Option Meant → ℕ × ℕ
range_of_meant None = (0, 0)
range_of_meant (Some m) = m.range

-- the bytes that are meant: those of a change of one line that makes a program of the text, or else of a token
abbrev pub range_told : List ℕ → Option Meant → Option Repair → ℕ × ℕ
range_told text m None = range_of_meant m
range_told text m (Some r) = if is_of_line text r.edit && is_of_program r.then then range_of_edit text (range_of_meant m) r.edit else range_of_meant m

-- what is told of a change; nothing of one of several lines
abbrev pub help_told : List ℕ → Option Repair → List ℕ
help_told text None = []
help_told text (Some r) = if is_of_line text r.edit then help_text text r else []

-- ---- both

-- what is told of a token
abbrev pub means_told : Option Meant → List ℕ
means_told None = []
means_told (Some m) = m.means.items

-- this is the line of the bytes that are meant, from 1, and the part of it; 0 where there are none
abbrev pub IsPlace : List ℕ → ℕ × ℕ → ℕ → ℕ → ℕ → Type 0
IsPlace text range line from to =
    (line ≡ (if range.0 == range.1 then 0 else line_of text range.0))
    × (from ≡ (if range.0 == range.1 then 0 else column_of text range.0))
    × (to ≡ (if range.0 == range.1 then 0 else min (column_of text range.0 + (range.1 - range.0)) (2 ^ 64 - 1)))

-- this is told of a token and a change
pub record IsAdviceOf (text : List ℕ) (m : Option Meant) (r : Option Repair) (advice : Advice) : Type 0 where
  pub means_are : advice.means.items ≡ means_told m
  pub help_is : advice.help.items ≡ help_told text r
  pub place_is : IsPlace text (range_told text m r) advice.line advice.from advice.to

-- This is told of a refused program: of its first refused token what stands there and what can, and a change with which the reader
-- takes it, gives it a tree, or refuses it later.
abbrev pub IsAdvice : List ℕ → Advice → Type 0
IsAdvice text advice =
    (m : Option Meant) × (r : Option Repair) × (place : ℕ) × MatchOption m (IsUntold text) (IsToldOf text)
    × IfSome r (λ r. IsWithin text r.edit × Helps text place r.edit r.then) × IsAdviceOf text m r advice
