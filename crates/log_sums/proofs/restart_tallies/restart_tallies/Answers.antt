use Rattle.std.proofs.Common.{◌≡◌, ◌∙◌, ap, length}
use Rattle.log_sums.proofs.Shown.{written_back}
use Rattle.log_sums.proofs.restart_tallies.restart_tallies.Goals as goal

pub returns : goal.returns
returns g c = λ a from n is.
    let shown = c.restart_each.ensures a from n (rw (c.as_mut_slice.ensures.value, c.in_ok-copy.ensures) is) in
    let size : c.in_ok-copy.copy.len ≡ length c.in_ok-copy.copy.items = c.in_ok-copy.copy.ok.0 in
    let same : length c.restart_each.new.tallies ≡ length c.in_ok-copy.copy.items = c.restart_each.auto.tallies ∙ ap length c.as_mut_slice.ensures.value in
    rw (written_back c.restart_each.new.tallies c.in_ok-copy.copy.items c.in_ok-copy.copy.len size same) shown
