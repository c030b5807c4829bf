use Rattle.std.proofs.Common.{rules, ◌≡◌, false, None, Some, ap, is_some}
use Rattle.std.specs.BTreeMap.{get, Updates}
use Rattle.std.specs.Cmp.Lexicographic.{slice_cmp}
use Rattle.std.specs.Ordering.{nat_cmp}
use Rattle.vap_check.proofs.Notes.{noted, restored}
use Rattle.vap_check.proofs.kinds.declare_in.Goals as goal

pub returns-in_default-before-clause-noted : goal.returns-in_default-before-clause-noted
returns-in_default-before-clause-noted c =
    let old = c.args.tree.now in
    let name = c.args.name.now in
    let absent : get (slice_cmp nat_cmp) old name ≡ None = search rules in
    let updates : Updates (slice_cmp nat_cmp) old c.insert.new.self name (Some c.args.what) = search rules in
    noted old c.insert.new.self name c.args.what (ap is_some absent) updates

pub returns-clause-noted : goal.returns-clause-noted
returns-clause-noted c =
    let old = c.args.tree.now in
    let name = c.args.name.now in
    let was : get (slice_cmp nat_cmp) old name ≡ Some c.in-Some.first = search rules in
    let one : Updates (slice_cmp nat_cmp) old c.insert.new.self name (Some c.args.what) = search rules in
    let two : Updates (slice_cmp nat_cmp) c.insert.new.self c.insert-2.new.self name (Some c.in-Some.first) = search rules in
    restored old c.insert.new.self c.insert-2.new.self name c.args.what c.in-Some.first was one two
