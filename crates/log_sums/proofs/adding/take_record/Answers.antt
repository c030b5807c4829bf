use Rattle.std.proofs.Common.{◌∙◌, ◌≤◌, ◌<◌, ◌++◌, ◌∷◌, [], arith, length, sym, le-ltb, lt-ltb}
use Rattle.std.proofs.lemmas.List.{take-append-le, take_all}
use Rattle.log_sums.proofs.Added.{size_more}
use Rattle.log_sums.proofs.adding.take_record.Goals as goal

pub returns-then-rec-sums-clause-sums : goal.returns-then-rec-sums-clause-sums
returns-then-rec-sums-clause-sums c = λ groups from to records wide next small is.
    let rec = c.args.rec.now in
    let size = size_more records rec in
    let most : to ≤ length records = omega (arith, is.to_is, next, c.if-rec-sums.true) in
    let past : to < length (records ++ rec ∷ []) = omega (arith, most, size) in
    record {
      from_is = is.from_is;
      to_is = is.to_is;
      sums = rw (take-append-le to records (rec ∷ []) most) record {
        seconds_are = is.sums.seconds_are;
        groups_are = is.sums.groups_are;
        size = is.sums.size;
        detectors_are = is.sums.detectors_are;
        places_are = is.sums.places_are;
        commands_are = is.sums.commands_are;
        turns_are = is.sums.turns_are;
        rules_are = is.sums.rules_are;
        early_are = is.sums.early_are;
        others_are = is.sums.others_are;
        faults_are = is.sums.faults_are;
        serves_are = is.sums.serves_are;
      };
      goes_on = sym (lt-ltb to (length (records ++ rec ∷ [])) past);
    }

pub returns-clause-sums : goal.returns-clause-sums
returns-clause-sums c = λ groups from to records wide next small is.
    let rec = c.args.rec.now in
    let size = size_more records rec in
    let within : length (records ++ rec ∷ []) ≤ to = omega (arith, is.to_is, next, size, c.if-rec-sums.false) in
    let before : length records ≤ to = omega (arith, within, size) in
    let sums = rw (take_all to records before, ← is.from_is) at is.sums in
    record {
      from_is = c.in_ok-take_second.ensures.from ∙ is.from_is;
      to_is = c.in_ok-take_second.ensures.to ∙ is.to_is;
      sums = rw (take_all to (records ++ rec ∷ []) within, ← is.from_is) (c.in_ok-take_second.ensures.adds groups records wide next small sums);
      goes_on = c.in_ok-take_second.ensures.goes_on ∙ is.goes_on ∙ le-ltb to (length records) before ∙ sym (le-ltb to (length (records ++ rec ∷ [])) within);
    }
