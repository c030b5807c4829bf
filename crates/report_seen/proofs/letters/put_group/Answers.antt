use Rattle.std.proofs.Common.{◌≡◌, ◌∙◌, [], get_or}
use Rattle.std.proofs.lemmas.List.{get_or_default}
use Rattle.report_seen.specs.Letters.{group_rows}
use Rattle.sig_io.proofs.Drafts.{then}
use Rattle.report_seen.proofs.letters.put_group.Goals as goal

pub returns : goal.returns
unfolding group_rows
returns g c =
    let names = c.args.diagram.now.names.items in
    let name : c.bytes.result.now ≡ get_or names c.args.place []
    = c.bytes.ensures.bytes ∙ c.index-name.ensures ∙ get_or_default names c.args.place _ [] c.requires.place in
    then (rw (name, c.row.ensures) at c.put_row.ensures) (rw c.deref.ensures.value at c.put_refusals.ensures)
