use Rattle.std.proofs.Common.{rules, ◌≡◌, Bool, false, Some, is_some}
use Rattle.std.specs.BTreeMap.{is_at, Updates}
use Rattle.std.specs.Cmp.Lexicographic.{slice_cmp}
use Rattle.std.specs.Map.{lookup}
use Rattle.std.specs.Ordering.{nat_cmp}
use Rattle.vap_compile.proofs.LabelTable.{noted}
use Rattle.vap_compile.proofs.labels.note_place.Goals as goal

pub returns : goal.returns
returns c =
    let old = c.args.places.now in
    let name = c.args.name.now in
    let absent : is_some (lookup (is_at (slice_cmp nat_cmp name)) old.entries) ≡ false = search rules in
    let updates : Updates (slice_cmp nat_cmp) old c.insert.new.self name (Some c.args.place) = search rules in
    noted old.entries c.insert.new.self.entries name c.args.place absent updates.0
