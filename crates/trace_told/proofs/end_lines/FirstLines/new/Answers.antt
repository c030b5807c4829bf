use Rattle.std.proofs.Common.{◌<◌, None, arith}
use Rattle.std.proofs.lemmas.List.{get_or-replicate}
use Rattle.trace_told.specs.EndLines.{pair_place}
use Rattle.trace_told.proofs.end_lines.FirstLines.new.Goals as goal

pub returns : goal.returns
returns c = λ a b from to. let below : pair_place a b < 1024 = omega arith in get_or-replicate 1024 (pair_place a b) None None below
