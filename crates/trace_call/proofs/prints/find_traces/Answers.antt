use Rattle.std.proofs.Common.{◌∙◌}
use Rattle.vap_ast.specs.Tree.{program_of}
use Rattle.trace_told.specs.Traces.{traces_of}
use Rattle.trace_call.proofs.prints.find_traces.Goals as goal

pub returns-in-Ok-traces_of : goal.returns-in-Ok-traces_of
returns-in-Ok-traces_of c =
    let checked = c.args.checked.now in
    let columns = c.as_slice.ensures.value ∙ c.in-Ok.ensures.columns in
    let tokens = c.as_slice-2.ensures.items in
    record {
      traces = (
        c.in-Ok-tokens.tokens,
        c.in-Ok-tokens.ensures.tokens,
        c.in-Ok-traces_of.ensures
            ∙ (λ j. traces_of checked.names (program_of checked.tree) (columns j) (tokens j) c.args.instrs.now),
      );
    }
