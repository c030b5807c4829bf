-- Labels one after another.
use Rattle.std.proofs.Common.{◌≡◌, ℕ, List, [], ◌∷◌, ◌++◌, map, Option, refl, sym, ap, ◌∙◌}
use Rattle.vap_check.specs.declared.finding.Finding.{Finding}
use Rattle.vap_check.specs.FirstFinding.{first_of_all, when}
use Rattle.vap_check.specs.Names.{with_name, with_names, Labelled, among}
use Rattle.vap_check.specs.Findings.{label_findings}
use Rattle.vap_check.proofs.Alike.{names_alike, labels_alike}
use Rattle.vap_check.proofs.Flat.{findings_on}
use Rattle.vap_check.specs.declared.refusal.CheckWhy.TheVariants.{LabelTwice}

pub labels_on : (a b : List Labelled) (names : List (List ℕ)) (f : Option Finding) →
    first_of_all f (label_findings names (a ++ b)) ≡ first_of_all (first_of_all f (label_findings names a))
    (label_findings (with_names names (map (λ l. l.name) a)) b)
labels_on [] b names f = refl
labels_on (x ∷ a) b names f =
    let w = when (among names x.name) x.line LabelTwice in
    let more = with_name names x.name in
    findings_on w (label_findings more (a ++ b)) f ∙ labels_on a b more (first_of_all f w) ∙
    ap (λ g. first_of_all g (label_findings (with_names more (map (λ l. l.name) a)) b)) (sym (findings_on w (label_findings more a) f))

pub names_of_both : (a b : List Labelled) (names : List (List ℕ)) →
    with_names names (map (λ l. l.name) (a ++ b)) ≡ with_names (with_names names (map (λ l. l.name) a)) (map (λ l. l.name) b)
names_of_both [] b names = refl
names_of_both (x ∷ a) b names = names_of_both a b (with_name names x.name)

pub names_on_both : (a b : List Labelled) (names more : List (List ℕ)) → among more ≡ among (with_names names (map (λ l. l.name) a)) →
    among (with_names more (map (λ l. l.name) b)) ≡ among (with_names names (map (λ l. l.name) (a ++ b)))
names_on_both a b names more e = names_alike (map (λ l. l.name) b) more (with_names names (map (λ l. l.name) a)) e ∙ ap among (sym (names_of_both a b names))

pub found_on_both : (a b : List Labelled) (names more : List (List ℕ)) (f g : Option Finding) →
    among more ≡ among (with_names names (map (λ l. l.name) a)) → g ≡ first_of_all f (label_findings names a) →
    first_of_all g (label_findings more b) ≡ first_of_all f (label_findings names (a ++ b))
found_on_both a b names more f g n e =
    ap (first_of_all g) (labels_alike b more (with_names names (map (λ l. l.name) a)) n) ∙
    ap (λ o. first_of_all o (label_findings (with_names names (map (λ l. l.name) a)) b)) e ∙ sym (labels_on a b names f)
