use Rattle.std.proofs.Common.{◌≡◌, ◌++◌, ℕ, List, codes, append_assoc}
use Rattle.sig_io.proofs.Drafts.{same_put, then}
use Rattle.sums_text.specs.Words.{cycles_text, greens_text, group_text, longest_text, reds_text, share_text}
use Rattle.sums_text.proofs.group.put_group.Goals as goal

parts : (w n g l s r k e : List ℕ) → ((w ++ n) ++ ((((g ++ l) ++ s) ++ r) ++ k)) ++ e ≡ w ++ n ++ g ++ l ++ s ++ r ++ k ++ e
parts w n g l s r k e = simp append_assoc

pub returns : goal.returns
unfolding group_text
returns g c =
    let x = c.args.sums.now in
    rw (← c.bytes.ensures.bytes)
    (same_put
    (parts (codes "GROUP ") c.bytes.result.now (greens_text x) (longest_text c.args.goes_on c.args.seconds x.reds) (share_text c.args.counted x.greens)
    (reds_text x.reds) (cycles_text x.cycles.gaps) (codes "\n"))
    (then (then (then c.put.ensures c.put-2.ensures) c.put_rest.ensures) c.put-3.ensures))
