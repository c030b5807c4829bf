use Rattle.std.proofs.Common.{◌≡◌, ◌==◌, not, length, map}
use Rattle.std.specs.List.{filter}
use Rattle.pua_reader.proofs.words.words.Given as goal

abbrev pub invariant-loop-word : goal.invariant-loop-word
invariant-loop-word l = map (λ w. w.now) l.words.items ≡ filter (λ w. not (length w == 0)) (map (λ w. w.now) l.yielded)
