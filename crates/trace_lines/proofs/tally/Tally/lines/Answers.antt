use Rattle.std.proofs.Common.{◌≡◌, arith, length, map}
use Rattle.std.proofs.lemmas.List.{length-map}
use Rattle.trace_lines.specs.Lines.{line_in}
use Rattle.trace_lines.specs.Rows.{row_in}
use Rattle.trace_lines.proofs.Tallies.{lines_are}
use Rattle.trace_lines.proofs.tally.Tally.lines.Goals as goal

pub returns : goal.returns
returns c = λ instrs seconds t.
    let self = c.args.self.now in
    let lines = map line_in c.loop-r.lines.items in
    let end : length self.rows.items ≡ c.loop-r.r = omega (arith, self.rows.ok.0) in
    lines_are (map row_in self.rows.items) self.seconds.items self.all instrs seconds lines t.0
    (omega (arith, length-map c.loop-r.lines.items line_in, length-map self.rows.items row_in, c.loop-r.invariant.long, end))
    (λ r d below. c.loop-r.invariant.each r d (omega (arith, below, length-map self.rows.items row_in, end)))
