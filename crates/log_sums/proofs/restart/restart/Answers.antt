use Rattle.std.proofs.Common.{◌∙◌, ap, arith, le-ltb, length, refl, sym}
use Rattle.std.proofs.lemmas.List.{take_all}
use Rattle.log_sums.specs.Early.{early_of}
use Rattle.log_sums.specs.Serves.{serves_of}
use Rattle.log_sums.proofs.Restarted.{restarted}
use Rattle.log_sums.proofs.restart.restart.Goals as goal

pub returns-clause-sums : goal.returns-clause-sums
returns-clause-sums c = λ groups from records few small most is. record {
  from_is = omega (arith, c.saturating_add.ensures, is.seconds_are, small);
  to_is = refl;
  sums = rw (take_all c.args.to records most) record {
    seconds_are = is.seconds_are;
    groups_are = λ g d inside a agrees.
        c.restart_groups.ensures a from (length records) g d (omega (arith, inside, few)) (is.groups_are g d inside a agrees);
    size = c.restart_detectors.ensures.size;
    detectors_are = λ p d inside f r fronts rears.
        c.restart_detectors.ensures.each f r from (length records) p d inside (is.detectors_are p d inside f r fronts rears);
    places_are = λ a agrees. c.in_ok-places.ensures a from (length records) (rw c.deref.ensures.value (is.places_are a agrees));
    commands_are = λ a agrees. c.in_ok-commands.ensures a from (length records) (rw c.deref-2.ensures.value (is.commands_are a agrees));
    turns_are = λ a agrees. c.in_ok-turns.ensures a from (length records) (rw c.deref-3.ensures.value (is.turns_are a agrees));
    rules_are = λ a agrees. c.in_ok-rules.ensures a from (length records) (rw c.deref-4.ensures.value (is.rules_are a agrees));
    faults_are = λ a agrees. c.in_ok-faults.ensures a from (length records) (rw c.deref-5.ensures.value (is.faults_are a agrees));
    early_are = λ shown turns shows refuses.
        c.in_ok-early.ensures (early_of shown turns) from (length records) (rw c.deref-6.ensures.value (is.early_are shown turns shows refuses));
    others_are = is.others_are;
    serves_are = λ early.
        restarted from records c.args.sums.now.serves.items _ (c.in_ok-serves.ensures.serves ∙ ap serves_of c.deref-7.ensures.value)
        (rw c.deref-7.ensures.value at c.in_ok-serves.ensures.sums) (is.serves_are early);
  };
  goes_on = sym (le-ltb c.args.to (length records) most);
}
