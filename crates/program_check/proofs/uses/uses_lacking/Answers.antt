use Rattle.std.proofs.Common.{ap, ◌∙◌, ◌++◌, map}
use Rattle.std.specs.Prelude.{filter, flat_map}
use Rattle.vap_ast.specs.Tree.{items_of, program_of, routine_of}
use Rattle.program_check.specs.Names.{is_lacking, items_sites, sites_of}
use Rattle.program_check.proofs.Lacking.{sites_are}
use Rattle.program_check.proofs.uses.uses_lacking.Goals as goal

pub returns : goal.returns
returns c =
    let others = c.args.others.now.keys in
    let how = c.args.how in
    let f = is_lacking c.args.checked.now.names c.args.sort others in
    let subs = c.note_subs.new.uses.items in
    sites_are (program_of c.program-program.result.now) c.args.checked.now.names how c.args.sort others c.new-uses.result.items subs
    c.note_items.new.uses.items c.new-uses.ensures.items
    (c.in_ok-note_subs.ensures
    ∙ ap (λ rs. c.new-uses.result.items ++ filter f (flat_map (items_sites how) (map (λ r. r.body) (map routine_of rs)))) c.deref.ensures.value)
    (c.in_ok-note_items.ensures ∙ ap (λ is. subs ++ filter f (items_sites how (items_of is))) c.deref-2.ensures.value)
    ∙ ap (λ t. filter f (sites_of how (program_of t))) c.program-program.ensures.tree
