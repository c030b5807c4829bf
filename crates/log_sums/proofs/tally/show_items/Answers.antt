use Rattle.std.proofs.Common.{◌≡◌, ◌∙◌, ap, length}
use Rattle.log_sums.proofs.Shown.{written_back}
use Rattle.log_sums.proofs.tally.show_items.Goals as goal

pub returns : goal.returns
returns g c = λ a n next small here is.
    let shown = c.show_each.ensures a n next small here (rw c.as_mut_slice.ensures.value (c.in_ok-add_keys.ensures a c.args.from n is)) in
    let size : c.add_keys.new.tallies.len ≡ length c.add_keys.new.tallies.items = c.add_keys.new.tallies.ok.0 in
    let same : length c.show_each.new.tallies ≡ length c.add_keys.new.tallies.items = c.show_each.auto.tallies ∙ ap length c.as_mut_slice.ensures.value in
    rw (written_back c.show_each.new.tallies c.add_keys.new.tallies.items c.add_keys.new.tallies.len size same) shown
