use Rattle.std.proofs.Common.{◌≡◌, take}
use Rattle.junction_run.specs.Drawn.{vehicles_at}
use Rattle.junction_run.proofs.draw.draw_frame.Given as goal

abbrev pub invariant-loop-i : goal.invariant-loop-i
invariant-loop-i l = record {
  frame : l.frame ≡ vehicles_at (take l.i l.places);
}
