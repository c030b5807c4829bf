use Rattle.std.proofs.Common.{rules, ◌≡◌, false, Some, is_some}
use Rattle.std.specs.BTreeMap.{get, Updates}
use Rattle.std.specs.Cmp.Lexicographic.{slice_cmp}
use Rattle.std.specs.Ordering.{nat_cmp}
use Rattle.vap_check.proofs.Notes.{noted}
use Rattle.vap_check.proofs.kinds.note_in.Goals as goal

pub returns-clause-noted : goal.returns-clause-noted
returns-clause-noted c =
    let old = c.args.tree.now in
    let name = c.args.name.now in
    let absent : is_some (get (slice_cmp nat_cmp) old name) ≡ false = search rules in
    let updates : Updates (slice_cmp nat_cmp) old c.insert.new.self name (Some c.args.what) = search rules in
    noted old c.insert.new.self name c.args.what absent updates
