use Rattle.std.proofs.Common.{◌∙◌, [], ℕ, List, Option, Some, ap}
use Rattle.std.specs.Io.KnownBytes.{append_known}
use Rattle.sums_text.specs.Table.{table_text}
use Rattle.report_seen.proofs.telling.table_of.Goals as goal

pub returns-in-Ok : goal.returns-in-Ok
returns-in-Ok c =
    let start : Option (List ℕ) = Some c.new-sink.result.bytes.items in
    let text : List ℕ = table_text c.args.names.now c.args.sums.now in
    c.in-Ok.ensures.ok start text (c.put_table.ensures.text start [] (c.new-draft.ensures.text start))
    ∙ ap (λ (o : Option (List ℕ)). append_known o text) c.new-sink.ensures.empty
