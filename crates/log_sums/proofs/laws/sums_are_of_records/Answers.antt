use Rattle.std.proofs.Common.{[], get_or, refl, take}
use Rattle.sig_types.specs.declared.aspect.Aspect.TheVariants.{Red}
use Rattle.log_sums.specs.Serves.{fronts_of}
use Rattle.log_sums.specs.Told.{commands_by, faults_by, fronts_by, places_by, rears_by, rules_by, shown_by, told, turns_by}
use Rattle.log_sums.proofs.laws.sums_are_of_records.Goals as goal

pub returns : goal.returns
returns c = λ groups from to records x is.
    let rs = take to records in
    let s = is.sums in
    record {
      from_is = is.from_is;
      to_is = is.to_is;
      sums = record {
        seconds_are = s.seconds_are;
        groups_are = λ g d inside. s.groups_are g d inside (told (shown_by g) Red rs) (λ t most. refl);
        size = s.size;
        detectors_are = λ p d inside. s.detectors_are p d inside (told (fronts_by p) 0 rs) (told (rears_by p) 0 rs) (λ t most. refl) (λ t most. refl);
        places_are = s.places_are (told places_by [] rs) (λ t most. refl);
        commands_are = s.commands_are (told commands_by [] rs) (λ t most. refl);
        turns_are = s.turns_are (told turns_by [] rs) (λ t most. refl);
        rules_are = s.rules_are (told rules_by [] rs) (λ t most. refl);
        early_are = s.early_are (λ g. told (shown_by g) Red rs) (told turns_by [] rs) (λ g t most. refl) (λ t most. refl);
        faults_are = s.faults_are (told faults_by [] rs) (λ t most. refl);
        serves_are = λ few i d inside.
            s.serves_are few i d inside (told (shown_by (get_or x.serves.items i d).serve.group.0) Red rs)
            (told (fronts_of (get_or x.serves.items i d).serve.detectors) 0 rs) (λ t most. refl) (λ t most. refl);
      };
      goes_on = is.goes_on;
    }
