use Rattle.std.proofs.Common.{◌∙◌, Global, List, ℕ, Some, ap, string_bytes, sym}
use Rattle.std.specs.Prelude.{fold}
use Rattle.report_seen.specs.Serves.{with_serve}
use Rattle.report_seen.proofs.SumsAsking.{few_serves, lacks}
use Rattle.report_seen.proofs.serve.serves_for.Goals as goal

pub returns-in_default-serve_for-clause-lacking : goal.returns-in_default-serve_for-clause-lacking
returns-in_default-serve_for-clause-lacking c = λ stop.
    c.loop-rest.invariant ∙ lacks (string_bytes {Z = Global}) c.args.names.now c.loop-rest.serves.items c.loop-rest.rest.now c.word-item.result c.as_bytes.result.now
    c.in-len2-up.len_at_least c.word-item.is c.as_bytes.ensures.value (sym c.in_default-serve_for.ensures)

pub returns-clause-found : goal.returns-clause-found
returns-clause-found c =
    c.loop-rest.invariant ∙ ap (λ (words : List (List ℕ)). fold (with_serve c.args.names.now) (Some c.loop-rest.serves.items) words)
    (few_serves (string_bytes {Z = Global}) c.loop-rest.rest.now c.in_default.len_below)
