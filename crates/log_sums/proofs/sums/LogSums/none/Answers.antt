use Rattle.std.proofs.Common.{[], arith, refl, sym, le-ltb}
use Rattle.log_sums.proofs.Added.{no_tallies, take_none}
use Rattle.log_sums.proofs.sums.LogSums.none.Goals as goal

pub returns-clause-sums : goal.returns-clause-sums
returns-clause-sums c = λ groups few. record {
  from_is = refl;
  to_is = refl;
  sums = rw (take_none c.args.to [] refl) record {
    seconds_are = refl;
    groups_are = λ g d inside a agrees. c.no_groups-groups.ensures g d a c.args.from (omega (arith, inside, few));
    size = c.no_detectors-detectors.ensures.size;
    detectors_are = λ p d inside f r fronts rears. c.no_detectors-detectors.ensures.each p d f r c.args.from inside;
    places_are = λ a agrees. rw c.new-places.ensures.items no_tallies;
    commands_are = λ a agrees. rw c.new-commands.ensures.items no_tallies;
    turns_are = λ a agrees. rw c.new-turns.ensures.items no_tallies;
    rules_are = λ a agrees. rw c.new-rules.ensures.items no_tallies;
    early_are = λ shown turns shows refuses. rw c.new-early.ensures.items no_tallies;
    others_are = λ g behind a agrees. refl;
    faults_are = λ a agrees. rw c.new-faults.ensures.items no_tallies;
    serves_are = λ few. rw c.new-serves.ensures.items (λ i d inside. absurd (omega (arith, inside)));
  };
  goes_on = sym (le-ltb c.args.to 0 (omega arith));
}
