use Rattle.std.proofs.Common.{◌≡◌, ◌∙◌, ◌++◌, ◌∷◌, [], List, ap, arith, length, map, subst, sym}
use Rattle.std.specs.Prelude.{◌==◌, filter}
use Rattle.std.proofs.lemmas.List.{get_or_past}
use Rattle.sig_types.specs.declared.aspect.Aspect.{Aspect}
use Rattle.sig_types.specs.declared.aspect.Aspect.TheVariants.{Red}
use Rattle.sig_types.specs.declared.numbers.StagePlace.{StagePlace}
use Rattle.sig_types.specs.declared.refused.Fault.{Fault}
use Rattle.sig_types.specs.declared.refused.StageRefusal.{StageRefusal}
use Rattle.sig_types.specs.declared.refused.TurnRefusal.{TurnRefusal}
use Rattle.log_sums.specs.Keys.{command_code, fault_code, place_code, turn_code}
use Rattle.log_sums.specs.declared.serves.Served.{Served}
use Rattle.log_sums.specs.declared.tally.Tally.{Tally}
use Rattle.log_sums.specs.Tallies.{AreTallies}
use Rattle.log_sums.specs.Early.{early_of, is_early}
use Rattle.log_sums.specs.Serves.{AddServes, serves_of}
use Rattle.log_sums.specs.Told.{alone, commands_by, faults_by, fronts_by, places_by, rears_by, rules_by, shown_by, turns_by}
use Rattle.log_sums.proofs.Added.{size_more, tallies_more}
use Rattle.log_sums.proofs.EarlyTurns.{no_green_more}
use Rattle.log_sums.proofs.Serving.{serves_more}
use Rattle.log_sums.proofs.Telling.{agrees_last, agrees_still}
use Rattle.log_sums.proofs.adding.take_second.Goals as goal
use Rattle.std.proofs.Common.{ℕ}

pub returns-clause-adds : goal.returns-clause-adds
returns-clause-adds c = λ groups records wide next small is.
    let rec = c.args.rec.now in
    let old = c.args.sums.now in
    let second = rec.second.0 in
    let refused = c.in_ok-show_refusals.ensures in
    let last : length (records ++ rec ∷ []) ≡ second = size_more records rec ∙ sym next in
    record {
      seconds_are = refused.seconds ∙ sym last;
      groups_are = λ g d inside a agrees.
          rw (last, refused.groups)
          (c.show_groups.ensures a (length records) g d next small (omega (arith, inside, wide)) (agrees_last Aspect (shown_by g) Red records rec a second next agrees)
          (is.groups_are g d inside a (agrees_still Aspect (shown_by g) Red records rec a agrees)));
      size = ap length refused.detectors ∙ c.show_detectors.ensures.size;
      detectors_are = λ p d inside f r fronts rears.
          rw (last, refused.detectors)
          (c.show_detectors.ensures.each f r (length records) p d next small inside (agrees_last ℕ (fronts_by p) 0 records rec f second next fronts)
          (agrees_last ℕ (rears_by p) 0 records rec r second next rears)
          (is.detectors_are p d inside f r (agrees_still ℕ (fronts_by p) 0 records rec f fronts) (agrees_still ℕ (rears_by p) 0 records rec r rears)));
      places_are = rw refused.places (tallies_more StagePlace place_code places_by old.from second records rec old.places.items c.show_items.new.tallies.items next small
          c.in_ok-show_items.ensures is.places_are);
      commands_are = tallies_more StageRefusal command_code commands_by old.from second records rec old.commands.items c.show_refusals.new.sums.commands.items next small
          refused.commands is.commands_are;
      turns_are = tallies_more TurnRefusal turn_code turns_by old.from second records rec old.turns.items c.show_refusals.new.sums.turns.items next small
          refused.turns is.turns_are;
      rules_are = tallies_more TurnRefusal turn_code rules_by old.from second records rec old.rules.items c.show_refusals.new.sums.rules.items next small
          refused.rules is.rules_are;
      faults_are = rw refused.faults (tallies_more Fault fault_code faults_by old.from second records rec old.faults.items c.show_fault.new.tallies.items next small
          c.in_ok-show_fault.ensures is.faults_are);
      early_are = λ shown turns shows refuses.
          let here = agrees_last (List TurnRefusal) turns_by [] records rec turns second next refuses in
          subst (λ (xs : List (Tally TurnRefusal)). AreTallies turn_code (early_of shown turns) old.from (length (records ++ rec ∷ [])) xs) (sym refused.early)
          (rw last (c.in_ok-show_early.ensures (λ g. is_early (shown g) second) (early_of shown turns) (length records)
          (record {
            these = λ g d inside.
                let now = c.show_groups.ensures (shown g) (length records) g d next small inside
                (agrees_last Aspect (shown_by g) Red records rec (shown g) second next (shows g))
                (is.groups_are g d (omega (arith, inside, wide)) (shown g) (agrees_still Aspect (shown_by g) Red records rec (shown g) (shows g))) in
                ap (λ (k : ℕ). k == 0) (sym now.cycles_are.last_is);
            others = λ g behind.
                ap (λ (k : ℕ). k == 0) (no_green_more (shown g) (length records) second next
                (agrees_last Aspect (shown_by g) Red records rec (shown g) second next (shows g) ∙ get_or_past rec.picture g Red behind)
                (is.others_are g (omega (arith, behind, wide)) (shown g) (agrees_still Aspect (shown_by g) Red records rec (shown g) (shows g))));
          })
          next small (ap (λ (ts : List TurnRefusal). map alone (filter (λ (r : TurnRefusal). is_early (shown r.group.0) second) ts)) here)
          (is.early_are shown turns (λ g. agrees_still Aspect (shown_by g) Red records rec (shown g) (shows g))
          (agrees_still (List TurnRefusal) turns_by [] records rec turns refuses))));
      others_are = λ g behind a agrees.
          rw last (no_green_more a (length records) second next
          (agrees_last Aspect (shown_by g) Red records rec a second next agrees ∙ get_or_past rec.picture g Red (omega (arith, behind, wide)))
          (is.others_are g behind a (agrees_still Aspect (shown_by g) Red records rec a agrees)));
      serves_are = λ early.
          subst (λ (xs : List Served). AddServes old.from (records ++ rec ∷ []) xs) (sym refused.serves)
          (serves_more old.from second records rec old.serves.items c.show_serves.new.serves.items next (omega (arith, early, last))
          c.show_serves.ensures.serves c.show_serves.ensures.sums (is.serves_are (omega (arith, early, last, next))));
    }

pub returns-clause-serves : goal.returns-clause-serves
returns-clause-serves c = ap serves_of c.in_ok-show_refusals.ensures.serves ∙ c.show_serves.ensures.serves
