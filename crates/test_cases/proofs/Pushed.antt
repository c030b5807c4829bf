-- Files put behind others.
use Rattle.std.proofs.Common.{◌≡◌, ◌∙◌, refl, ℕ, List, [], ◌∷◌, ◌++◌, map, String, Vec, ap}
use Rattle.std.specs.declared.alloc.Global.{Global}
use Rattle.test_cases.specs.Files.{named}

-- a file put behind others
push_named : (files : List (String Global × Vec ℕ Global)) (file : String Global × Vec ℕ Global) →
    map named (files ++ file ∷ []) ≡ map named files ++ named file ∷ []
push_named [] file = refl
push_named (first ∷ files) file = ap (λ rest. named first ∷ rest) (push_named files file)

-- the same, where the names and the bytes are known
pub pushed : (files : List (String Global × Vec ℕ Global)) (file : String Global × Vec ℕ Global)
    {all : List (String Global × Vec ℕ Global)} {made : List (List ℕ × List ℕ)} {one : List ℕ × List ℕ} →
    all ≡ files ++ file ∷ [] → map named files ≡ made → named file ≡ one → map named all ≡ made ++ one ∷ []
pushed files file {made = made} {one = one} is before last =
    ap (map named) is ∙ push_named files file ∙ ap (λ front. front ++ named file ∷ []) before ∙ ap (λ x. made ++ x ∷ []) last
