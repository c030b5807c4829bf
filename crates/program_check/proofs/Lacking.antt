-- What is kept of the uses of a program.
use Rattle.std.proofs.Common.{◌≡◌, ℕ, List, [], ◌∷◌, ◌++◌, map, refl, sym, ap, ◌∙◌}
use Rattle.std.proofs.lemmas.Grind.{flat_map-append}
use Rattle.std.specs.Prelude.{filter, flat_map}
use Rattle.vap_ast.specs.declared.name.Entry.{Entry}
use Rattle.vap_ast.specs.Syntax.{Program}
use Rattle.vap_check.specs.Names.{bodies, distinct, with_names}
use Rattle.program_check.specs.Names.{is_lacking, items_names, items_sites, names_used, sites_of}
use Rattle.program_check.specs.declared.uses.NameUse.{NameUse}
use Rattle.program_check.specs.declared.uses.Sort.{Sort}
use Rattle.program_check.specs.declared.uses.Use.{Use}
use Rattle.program_check.proofs.Distinct.{lacking_distinct}
use Rattle.program_check.proofs.Folds.{filter_on, names_on}

append_none : {X : Type 0} (a : List X) → a ++ [] ≡ a
append_none [] = refl
append_none (x ∷ a) = ap (λ rs. x ∷ rs) (append_none a)

-- the uses in the subroutines, and then those in the main routine
pub sites_are : (p : Program) (names : List Entry) (how : Use) (sort : Sort) (others : List (List ℕ)) (none subs all : List NameUse) →
    none ≡ []
    → subs ≡ none ++ filter (is_lacking names sort others) (flat_map (items_sites how) (map (λ r. r.body) p.subs))
    → all ≡ subs ++ filter (is_lacking names sort others) (items_sites how p.main.body)
    → all ≡ filter (is_lacking names sort others) (sites_of how p)
sites_are p names how sort others none subs all at_none at_subs at_all =
    let f = is_lacking names sort others in
    let before = flat_map (items_sites how) (map (λ r. r.body) p.subs) in
    let main = items_sites how p.main.body in
    let split : sites_of how p ≡ before ++ main =
    flat_map-append (items_sites how) (map (λ r. r.body) p.subs) (p.main.body ∷ []) ∙ ap (λ rs. before ++ rs) (append_none main) in
    at_all ∙ ap (λ rs. rs ++ filter f main) (at_subs ∙ ap (λ rs. rs ++ filter f before) at_none) ∙ sym (filter_on f before main)
    ∙ ap (filter f) (sym split)

-- the names in the subroutines, and then those in the main routine
pub names_are : (p : Program) (wanted : Use) (none subs all : List (List ℕ)) → none ≡ []
    → subs ≡ with_names none (flat_map (items_names wanted) (map (λ r. r.body) p.subs))
    → all ≡ with_names subs (items_names wanted p.main.body)
    → all ≡ distinct (names_used wanted p)
names_are p wanted none subs all at_none at_subs at_all =
    let before = flat_map (items_names wanted) (map (λ r. r.body) p.subs) in
    let main = items_names wanted p.main.body in
    let split : names_used wanted p ≡ before ++ main =
    flat_map-append (items_names wanted) (map (λ r. r.body) p.subs) (p.main.body ∷ []) ∙ ap (λ ns. before ++ ns) (append_none main) in
    at_all ∙ ap (λ ns. with_names ns main) (at_subs ∙ ap (λ ns. with_names ns before) at_none) ∙ sym (names_on before main [])
    ∙ ap (with_names []) (sym split)

-- names that are none of those used, each kept once or not
pub same_sites : (names : List Entry) (sort : Sort) (keys used : List (List ℕ)) (sites kept : List NameUse) → keys ≡ distinct used →
    kept ≡ filter (is_lacking names sort keys) sites → kept ≡ filter (is_lacking names sort used) sites
same_sites names sort keys used sites kept is at =
    at ∙ ap (λ xs. filter (is_lacking names sort xs) sites) is ∙ ap (λ f. filter f sites) (lacking_distinct names sort used)
