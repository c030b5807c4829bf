use Rattle.std.proofs.Common.{length, map}
use Rattle.sig_types.specs.Text.{fed_lines}
use Rattle.junction_net.specs.Rows.{words_in}
use Rattle.junction_net.proofs.Reading.{HasRead}
use Rattle.junction_net.proofs.rows.read_list.Given as goal

abbrev pub invariant-loop-rest : goal.invariant-loop-rest
invariant-loop-rest l = HasRead (fed_lines l.fn.text) (fed_lines l.rest) (map words_in l.rows.items)

abbrev pub decreases-loop-rest : goal.decreases-loop-rest
decreases-loop-rest l = length l.rest
