-- The files of the cases.
use Rattle.std.specs.Prelude.{ℕ, List, [], ◌∷◌, Option, None, Some, String, Vec, codes, string_bytes}
use Rattle.std.specs.declared.alloc.Global.{Global}

-- a file's name and its bytes
abbrev pub named : String Global × Vec ℕ Global → List ℕ × List ℕ
named file = (string_bytes file.0, file.1.items)

-- the first file by its name, if it has one, before the others
abbrev pub with_first : Option (List ℕ) → List ℕ → List (List ℕ × List ℕ) → List (List ℕ × List ℕ)
with_first None bytes rest = rest
with_first (Some name) bytes rest = (name, bytes) ∷ rest

-- the files of the site and the detectors
abbrev pub site_files : (plan times intergreens detectors : List ℕ) → List (List ℕ × List ℕ)
site_files plan times intergreens detectors =
    (codes "p.pua", plan) ∷ (codes "t.csv", times) ∷ (codes "g.csv", intergreens) ∷ (codes "d.txt", detectors) ∷ []
