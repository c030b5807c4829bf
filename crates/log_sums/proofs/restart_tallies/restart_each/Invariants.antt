use Rattle.std.proofs.Common.{◌≡◌, ℕ, ◌+◌, ◌<◌, ◌≤◌, List, get_or, map}
use Rattle.log_sums.specs.declared.tally.Tally.{Tally}
use Rattle.log_sums.specs.Tallies.{AreCounts, AreTallies, times_of}
use Rattle.log_sums.proofs.restart_tallies.restart_each.Given as goal

abbrev pub invariant-loop-tally : goal.invariant-loop-tally
invariant-loop-tally g l = record {
  keys : map (λ (x : Tally g.row.K.Denot). x.key) l.tallies ≡ map (λ (x : Tally g.row.K.Denot). x.key) l.fn.tallies;
  shown : (a : ℕ → List g.row.K.Denot) (from n : ℕ) → AreTallies g.K.Key.code a from n l.fn.tallies → (i : ℕ) (d : Tally g.row.K.Denot) →
      i < l.tally-index → AreCounts (times_of g.K.Key.code a (g.K.Key.code (get_or l.tallies i d).key)) (n + 1) n (get_or l.tallies i d).counts;
  rest : (i : ℕ) (d : Tally g.row.K.Denot) → l.tally-index ≤ i → get_or l.tallies i d ≡ get_or l.fn.tallies i d;
}
