-- Tokens that are alike to the grammar.
use Rattle.std.specs.Prelude.{◌≡◌, Option, Some}
use Rattle.vap_lex.specs.declared.token.Token.{Token}
use Rattle.vap_parse.specs.Kinds.{kind_of}
use Rattle.vap_parse.specs.Input.{name_in, number_in, aspect_in, is_one}

-- a value is there, if one is there for the other
abbrev pub AsWell : {A : Type 0} → Option A → Option A → Type 0
AsWell {A} a b = (x : A) → a ≡ Some x → (y : A) × (b ≡ Some y)

-- what the grammar sees of two tokens is the same
pub record Same (t u : Token) : Type 0 where
  pub kind : kind_of t.kind ≡ kind_of u.kind
  pub name : AsWell (name_in t.kind) (name_in u.kind)
  pub number : AsWell (number_in t.kind) (number_in u.kind)
  pub one : is_one (number_in t.kind) ≡ is_one (number_in u.kind)
  pub aspect : AsWell (aspect_in t.kind) (aspect_in u.kind)
