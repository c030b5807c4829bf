use Rattle.std.proofs.Common.{ap}
use Rattle.sig_io.proofs.Drafts.{same_put, then}
use Rattle.vap_ast.specs.Tree.{program_of}
use Rattle.trace_told.specs.Printed.{call_text, named_values}
use Rattle.trace_told.proofs.print_lines.put_call.Goals as goal

pub returns : goal.returns
unfolding call_text
returns g c =
    let all = ap (named_values (program_of c.args.checked.now.tree) c.args.sight.now.state.store) c.as_slice.ensures.value in
    then c.put_number.ensures (then c.put.ensures (then c.put_number-2.ensures (then c.put-2.ensures (then (same_put all c.put_all.ensures) c.put-3.ensures))))
