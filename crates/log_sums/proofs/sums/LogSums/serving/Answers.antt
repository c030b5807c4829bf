use Rattle.std.proofs.Common.{[], refl}
use Rattle.log_sums.proofs.Added.{take_none}
use Rattle.log_sums.proofs.sums.LogSums.serving.Goals as goal

pub returns-clause-sums : goal.returns-clause-sums
returns-clause-sums c = λ groups few.
    let none = c.none-sums.ensures.sums groups few in
    let s = rw (take_none c.args.to [] refl) at none.sums in
    record {
      from_is = none.from_is;
      to_is = none.to_is;
      sums = rw (take_none c.args.to [] refl) record {
        seconds_are = s.seconds_are;
        groups_are = s.groups_are;
        size = s.size;
        detectors_are = s.detectors_are;
        places_are = s.places_are;
        commands_are = s.commands_are;
        turns_are = s.turns_are;
        rules_are = s.rules_are;
        early_are = s.early_are;
        others_are = s.others_are;
        faults_are = s.faults_are;
        serves_are = λ early i d inside a f shown fronts. c.in_ok-served.ensures.sums i d inside a f c.args.from;
      };
      goes_on = none.goes_on;
    }
