use Rattle.std.proofs.Common.{◌≡◌, ℕ, List, ◌++◌, codes, append_assoc}
use Rattle.sig_io.proofs.Drafts.{same_put, then}
use Rattle.log_protocol.proofs.text.put_change_label.Goals as goal

four : (a b c d : List ℕ) → ((a ++ b) ++ c) ++ d ≡ a ++ b ++ c ++ d
four a b c d = simp append_assoc

three : (a b c : List ℕ) → (a ++ b) ++ c ≡ a ++ b ++ c
three a b c = simp append_assoc

pub returns-in-Table : goal.returns-in-Table
returns-in-Table g c =
    rw c.in-Table.is
    (same_put (four (codes "intergreen,") c.args.to.now (codes ",") c.args.from.now)
    (then (then (then c.put.ensures (rw c.as_bytes.ensures.value at c.put-in-Table.ensures)) c.put-in-Table-2.ensures)
    (rw c.as_bytes-in-Table.ensures.value at c.put-in-Table-3.ensures)))

pub returns-in-Lines : goal.returns-in-Lines
returns-in-Lines g c =
    rw c.in-Lines.is
    (same_put (three c.args.to.now (codes " green after ") c.args.from.now)
    (then (then (rw c.as_bytes-in-Lines.ensures.value at c.put-in-Lines.ensures) c.put-in-Lines-2.ensures)
    (rw c.as_bytes-in-Lines-2.ensures.value at c.put-in-Lines-3.ensures)))
