use Rattle.std.proofs.Common.{◌≡◌, ℕ, ◌<◌, ◌≤◌, List, ◌∷◌, None, length}
use Rattle.std.specs.Prelude.{slice_index_or}
use Rattle.sig_types.specs.declared.record.Record.{Record}
use Rattle.report_seen.specs.Lost.{AreAsked, asked_for}
use Rattle.report_seen.proofs.lost.ask.Given as goal

abbrev pub invariant-loop-group : goal.invariant-loop-group
invariant-loop-group l = record {
  size : length l.asked ≡ 64;
  done : (earlier : List Record) → AreAsked (length l.rec.picture) earlier l.fn.asked → (g : ℕ) → g < l.group →
      slice_index_or l.asked g None ≡ asked_for g (l.rec ∷ earlier);
  left : (g : ℕ) → l.group ≤ g → slice_index_or l.asked g None ≡ slice_index_or l.fn.asked g None;
}
