use Rattle.std.proofs.Common.{◌≡◌, ◌≤◌, ◌-◌, ◌+◌, map}
use Rattle.sig_types.specs.Limits.{most_cells}
use Rattle.code_file.specs.Text.{room_after}
use Rattle.code_file.specs.Reading.{many_at, array_in}
use Rattle.code_file.specs.Cursors.{place_of}
use Rattle.code_file.proofs.LoopLines.{with_beginning}
use Rattle.code_file.proofs.reading.arrays.Given as goal

abbrev pub invariant-loop : goal.invariant-loop
invariant-loop l =
    (with_beginning array_in room_after (map (λ a. a.items) l.arrays.items)
    (many_at array_in room_after (l.count - l.counter) l.room (place_of l.rest)) ≡ many_at array_in room_after l.count most_cells (place_of l.cursor))
    × (l.rest.number ≡ l.cursor.number + l.counter)
    × (l.room ≤ most_cells)
