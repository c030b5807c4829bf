use Rattle.std.proofs.Common.{◌≡◌, ◌∙◌, ◌++◌, ap, map, subst}
use Rattle.std.specs.Prelude.{OnOk}
use Rattle.std.specs.Str.{bytes_eq}
use Rattle.vap_ast.specs.Tree.{program_of}
use Rattle.vap_check.specs.Names.{distinct}
use Rattle.program_check.specs.Firsts.{firsts}
use Rattle.program_check.specs.Lacks.{lacking, lacking_use, sites_lacking}
use Rattle.program_check.specs.Names.{names_used, sites_of}
use Rattle.program_check.proofs.Lacking.{same_sites}
use Rattle.program_check.proofs.lacks.warn_of_lacking.Goals as goal

pub returns : goal.returns
unfolding lacking
returns c =
    let m = c.args.checked.now in
    let wanting = c.args.wanting in
    let p = program_of m.tree in
    let sites : c.in_ok-sites.sites.items ≡ sites_lacking m wanting.has wanting.sort wanting.lacks =
    same_sites m.names wanting.sort c.in_ok-others.others.keys (names_used wanting.lacks p) (sites_of wanting.has p) c.in_ok-sites.sites.items
    (c.in_ok-others.ensures ∙ ap (λ t. distinct (names_used wanting.lacks (program_of t))) c.program.ensures.tree) c.in_ok-sites.ensures in
    subst (λ xs. OnOk c.warn_of_uses.result (c.warn_of_uses.new.warned.items ≡ c.args.warned.now.items
    ++ map (lacking_use wanting.lack) (firsts bytes_eq (λ r. r.name) xs))) (c.deref.ensures.value ∙ sites) c.warn_of_uses.ensures
