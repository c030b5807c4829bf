-- Findings one after the other.
use Rattle.std.proofs.Common.{◌≡◌, List, [], ◌∷◌, ◌++◌, Option, refl, sym, ap, ◌∙◌}
use Rattle.vap_check.specs.declared.finding.Finding.{Finding}
use Rattle.vap_check.specs.FirstFinding.{first_of_all, sooner}

pub findings_on : (a b : List Finding) (f : Option Finding) → first_of_all f (a ++ b) ≡ first_of_all (first_of_all f a) b
findings_on [] b f = refl
findings_on (x ∷ a) b f = findings_on a b (sooner f x)

-- findings of three kinds, and then the others
pub rest_on : (a b c others : List Finding) (f g h j : Option Finding) → g ≡ first_of_all f a → h ≡ first_of_all g b → j ≡ first_of_all h c
    → first_of_all j others ≡ first_of_all f (a ++ (b ++ (c ++ others)))
rest_on a b c others f g h j eg eh ej =
    ap (λ o. first_of_all o others) (ej ∙ ap (λ o. first_of_all o c) (eh ∙ ap (λ o. first_of_all o b) eg))
    ∙ sym (findings_on c others (first_of_all (first_of_all f a) b)) ∙ sym (findings_on b (c ++ others) (first_of_all f a))
    ∙ sym (findings_on a (b ++ (c ++ others)) f)
