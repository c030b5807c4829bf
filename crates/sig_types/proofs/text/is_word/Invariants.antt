use Rattle.std.proofs.Common.{◌≡◌, drop}
use Rattle.sig_types.specs.Text.{is_word}
use Rattle.sig_types.proofs.text.is_word.Given as goal

abbrev pub invariant-loop-b : goal.invariant-loop-b
invariant-loop-b l = is_word l.bytes ≡ is_word (drop l.b-index l.bytes)
