use Rattle.std.proofs.Common.{◌≡◌, ℕ, List, ◌+◌, ◌++◌, codes, append_assoc}
use Rattle.sig_io.proofs.Drafts.{same_put, then}
use Rattle.judge_text.specs.Ticks.{ticks_text}
use Rattle.log_protocol.proofs.text.put_together_rest.Goals as goal

parts : (a n b m e : List ℕ) → ((a ++ n) ++ (b ++ m)) ++ e ≡ a ++ n ++ b ++ m ++ e
parts a n b m e = simp append_assoc

pub returns-in-Lines : goal.returns-in-Lines
returns-in-Lines g c =
    rw c.in-Lines.is
    (same_put
    (parts (codes " green together: ") (ticks_text c.args.tick c.args.greens.seconds) (codes " s, first in second ")
    (ticks_text c.args.tick (c.args.first + c.args.greens.first)) (codes "; no intergreen in the table\n"))
    (then (then c.put_length-in-Lines.ensures c.put_second-in-Lines.ensures) c.put-in-Lines.ensures))
