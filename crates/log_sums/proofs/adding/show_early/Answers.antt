use Rattle.std.proofs.Common.{◌∙◌, sym}
use Rattle.log_sums.proofs.adding.show_early.Goals as goal

pub returns : goal.returns
returns c = λ early a n tells next small here is.
    c.in_ok-show_turns.ensures a n next small (here ∙ sym (c.as_slice.ensures.value ∙ c.in_ok-items.ensures.items early (rw (← c.len.ensures.len) at tells))) is
