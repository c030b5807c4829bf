use Rattle.std.proofs.Common.{◌∙◌, Global, string_bytes, sym}
use Rattle.trace_call.proofs.Added.{one_word}
use Rattle.trace_call.proofs.form.are_added.Goals as goal

pub returns-in_default : goal.returns-in_default
returns-in_default c =
    sym (one_word (string_bytes {Z = Global}) c.loop-rest.rest.now c.loop-rest-test.ensures c.in_default.len_below) ∙ c.loop-rest.invariant
