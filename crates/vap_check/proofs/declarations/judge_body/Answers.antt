use Rattle.std.proofs.Common.{rules}
use Rattle.vap_ast.specs.Tree.{body_of}
use Rattle.vap_check.specs.KeptNames.{kind_in}
use Rattle.vap_check.proofs.Agree.{body_on}
use Rattle.vap_check.proofs.declarations.judge_body.Goals as goal

pub returns : goal.returns
returns c =
    let on = body_on (kind_in c.args.known.now) c.args.above.now.keys c.note_items_labels.new.names.keys (body_of c.args.body.now) c.args.first.now
    c.note_items_labels.new.first in
    search (rules, on)
