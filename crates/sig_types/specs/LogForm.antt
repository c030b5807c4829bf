-- The words of a log's text that its writer and its readers share: the header and the letters of the aspects.
use Rattle.std.specs.Prelude.{ℕ, List, ◌∷◌, ◌++◌, codes}
use Rattle.std.specs.List.{flat_map}
use Rattle.sig_types.specs.declared.aspect.Aspect.{Aspect}
use Rattle.sig_types.specs.declared.aspect.Aspect.TheVariants.{Red, RedAmber, Green, Amber}

-- a name after a space
abbrev pub spaced : List ℕ → List ℕ
spaced name = 32 ∷ name

-- the header without its line feed: the kind of the text, its version, and the names of the groups in the order of the plan
unfoldable pub header_line : List (List ℕ) → List ℕ
header_line names = codes "VAPLOG 1" ++ flat_map spaced names

-- the letter of an aspect: R, U, G, A
abbrev pub letter : Aspect → ℕ
letter Red = 82
letter RedAmber = 85
letter Green = 71
letter Amber = 65
