use Rattle.std.proofs.Common.{rules, true}
use Rattle.std.specs.BTreeSet.{Updates}
use Rattle.std.specs.Cmp.Lexicographic.{slice_cmp}
use Rattle.std.specs.Ordering.{nat_cmp}
use Rattle.vap_check.proofs.Notes.{among_set, among_more, turned_round}
use Rattle.vap_check.proofs.sets.note.Goals as goal

pub returns-clause-names : goal.returns-clause-names
returns-clause-names c =
    let old = c.args.names.now in
    let updates : Updates (slice_cmp nat_cmp) old c.insert.new.self c.args.name.now true = search rules in
    among_more old c.insert.new.self c.args.name.now updates

pub returns-clause-was_there : goal.returns-clause-was_there
returns-clause-was_there c =
    let there = among_set c.args.names.now c.args.name.now in
    search (rules, there, turned_round)
