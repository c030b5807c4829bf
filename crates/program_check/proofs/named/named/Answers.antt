use Rattle.std.proofs.Common.{rules, ap, ◌∙◌, map}
use Rattle.std.specs.Prelude.{flat_map}
use Rattle.vap_ast.specs.Tree.{items_of, program_of, routine_of}
use Rattle.vap_check.specs.Names.{with_names}
use Rattle.program_check.specs.Names.{items_names}
use Rattle.program_check.proofs.Lacking.{names_are}
use Rattle.program_check.proofs.named.named.Goals as goal

pub returns : goal.returns
returns c =
    let wanted = c.args.wanted in
    let none = c.new-names.result.keys in
    let subs = c.note_subs.new.names.keys in
    names_are (program_of c.args.program.now) wanted none subs c.note_items.new.names.keys (search (rules, c.new-names.ensures.empty))
    (c.in_ok-note_subs.ensures
    ∙ ap (λ rs. with_names none (flat_map (items_names wanted) (map (λ r. r.body) (map routine_of rs)))) c.deref.ensures.value)
    (c.in_ok-note_items.ensures ∙ ap (λ is. with_names subs (items_names wanted (items_of is))) c.deref-2.ensures.value)
