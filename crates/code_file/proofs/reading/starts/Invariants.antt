use Rattle.std.proofs.Common.{◌≡◌, ◌-◌, ◌+◌}
use Rattle.code_file.specs.Text.{last_after}
use Rattle.code_file.specs.Reading.{many_at, start_in}
use Rattle.code_file.specs.Cursors.{place_of}
use Rattle.code_file.proofs.LoopLines.{with_beginning}
use Rattle.std.specs.Prelude.{None}
use Rattle.code_file.proofs.reading.starts.Given as goal

abbrev pub invariant-loop : goal.invariant-loop
invariant-loop l =
    (with_beginning start_in last_after l.starts.items (many_at start_in last_after (l.count - l.counter) l.last (place_of l.rest)) ≡ many_at
    start_in last_after l.count None (place_of l.cursor))
    × (l.rest.number ≡ l.cursor.number + l.counter)
