use Rattle.std.proofs.Common.{◌≡◌, drop}
use Rattle.std.specs.Prelude.{filter_map}
use Rattle.site_check.specs.Spots.{call_at, call_word, is_longer, rests}
use Rattle.site_check.proofs.spots.long_call.Given as goal

-- no call before these tokens has such an argument
abbrev pub invariant-loop-i : goal.invariant-loop-i
invariant-loop-i l =
    filter_map (call_at l.wanted.line (call_word l.wanted.kind) l.wanted.second is_longer) (rests (drop l.i l.tokens))
    ≡ filter_map (call_at l.wanted.line (call_word l.wanted.kind) l.wanted.second is_longer) (rests l.tokens)
