use Rattle.std.proofs.Common.{ℕ, ◌+◌, ◌<◌, ◌≤◌, length, get_or, take}
use Rattle.refusal_text.specs.declared.refusal.Refusal.{Refusal}
use Rattle.refusal_text.specs.Counted.{AreCounted, Fits}
use Rattle.refusal_text.specs.Waits.{is_refused}
use Rattle.refusal_text.specs.Words.{second_of}
use Rattle.refusal_text.proofs.wait.waits.Given as goal

abbrev pub invariant-loop-refusal : goal.invariant-loop-refusal
invariant-loop-refusal l = record {
  fits : Fits l.count;
  counted : AreCounted (is_refused (take l.refusal-index l.found) l.group l.rule) l.count;
  later : (j : ℕ) (d : Refusal) → l.refusal-index ≤ j → j < length l.found → l.count.next ≤ second_of (get_or l.found j d) + 1;
}
