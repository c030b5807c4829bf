use Rattle.std.proofs.Common.{◌∙◌, sym, ap}
use Rattle.sig_types.specs.Turns.{is_on}
use Rattle.sig_guard.specs.Stands.{StandsFor, rules}
use Rattle.sig_guard.proofs.GuardWaits.{wait_of_end, wait_of_start, never_starts}
use Rattle.sig_guard.proofs.guard.Guard.turn_wait.Goals as goal

pub returns-then-is_on : goal.returns-then-is_on
unfolding StandsFor rules
returns-then-is_on c = λ h s natural.
    wait_of_end c.args.self.now h c.args.g.0 c.args.natural.now s c.requires.group natural c.turn_from-from.result c.turn_from-from.ensures
    c.seconds_to.result (ap is_on (sym c.get.ensures) ∙ sym c.is_on.ensures ∙ c.if-is_on.true) c.seconds_to.ensures

pub returns-then-is_some : goal.returns-then-is_some
unfolding StandsFor rules
returns-then-is_some c = λ h s natural.
    never_starts c.args.self.now h c.args.g.0 c.args.natural.now s c.requires.group natural c.turn_from-from.result c.turn_from-from.ensures
    c.conflict_with.result (ap is_on (sym c.get.ensures) ∙ sym c.is_on.ensures ∙ c.if-is_on.false) c.conflict_with.ensures.conflict
    (sym c.is_some.ensures ∙ c.if-is_some.true)

pub returns : goal.returns
unfolding StandsFor rules
returns c = λ h s natural.
    wait_of_start c.args.self.now h c.args.g.0 c.args.natural.now s c.requires.group natural c.turn_from-from.result c.turn_from-from.ensures
    c.seconds_to-2.result c.cleared_from.result c.conflict_with.result (ap is_on (sym c.get.ensures) ∙ sym c.is_on.ensures ∙ c.if-is_on.false)
    c.conflict_with.ensures.conflict (sym c.is_some.ensures ∙ c.if-is_some.false) c.cleared_from.ensures.first c.cleared_from.ensures.cleared
    c.cleared_from.ensures.least c.seconds_to-2.ensures
