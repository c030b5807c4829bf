-- Which version the programs are.
use Rattle.std.specs.Prelude.{ℕ, List, ◌++◌, codes}

-- the version of all programs
abbrev pub version : List ℕ
version = codes "0.1.0"

-- the line that tells which version the program of this name is
abbrev pub version_line : List ℕ → List ℕ
version_line name = name ++ codes " " ++ version ++ codes "\n"
