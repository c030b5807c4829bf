use Rattle.std.proofs.Common.{◌≡◌, Some, Global, length, map, string_bytes}
use Rattle.std.specs.Prelude.{fold}
use Rattle.report_seen.specs.Serves.{serve_words, serves_for, with_serve}
use Rattle.report_seen.proofs.serve.serves_for.Given as goal

abbrev pub invariant-loop-rest : goal.invariant-loop-rest
invariant-loop-rest l =
    serves_for l.names (serve_words (map (string_bytes {Z = Global}) l.fn.words))
    ≡ fold (with_serve l.names) (Some l.serves.items) (serve_words (map (string_bytes {Z = Global}) l.rest))

abbrev pub decreases-loop-rest : goal.decreases-loop-rest
decreases-loop-rest l = length l.rest
