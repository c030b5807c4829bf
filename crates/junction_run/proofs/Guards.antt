-- The log of what is played keeps the guard's rules.
use Rattle.std.proofs.Common.{◌≡◌, ◌∙◌, ℕ, List, length, Option, Result, Ok, Err, sym, ap, arith, take}
use Rattle.std.proofs.lemmas.List.{take_all}
use Rattle.std.specs.Io.KnownBytes.{append_known}
use Rattle.sig_types.specs.Counts.{Counts}
use Rattle.sig_types.specs.Rules.{IsTwoWay}
use Rattle.sig_tables.specs.declared.times.TimesRow.{TimesRow}
use Rattle.sig_tables.specs.Pairs.{Pairs, ArePairs}
use Rattle.sig_tables.specs.SiteRules.{rules_of}
use Rattle.pua_model.specs.Plan.{groups_in}
use Rattle.controller.specs.Guarded.{IsGuardedRun}
use Rattle.controller.proofs.Guarded.{runs_are_guarded}
use Rattle.junction_run.specs.declared.stop.PlayStop.{PlayStop}
use Rattle.junction_run.specs.declared.stop.PlayStop.TheVariants.{ReadFault, WriteFault, RefusedLine}
use Rattle.junction_run.specs.Guarded.{IsGuardedLog, written}
use Rattle.junction_run.specs.Loading.{Playing}
use Rattle.junction_run.specs.Records.{log_of}
use Rattle.junction_run.specs.Played.{IsWritten}

-- tables that were read list conflicts both ways
pub two_way : (times : List TimesRow) (pairs : Pairs) → ArePairs pairs → IsTwoWay (rules_of times pairs)
two_way times pairs are = record { both = λ i g z lt lt' is. are.both i g z is; other = λ g lt. are.other g }

-- a front of a log
front : (p : Playing) (frames : List Counts) (n : ℕ) (old new : Option (List ℕ)) → IsGuardedRun p.logic p.site p.store frames →
    new ≡ append_known old (take n (log_of p frames)) → IsGuardedLog old new
front p frames n old new is gained = written p frames n is gained

whole : (p : Playing) (frames : List Counts) (old new : Option (List ℕ)) → IsGuardedRun p.logic p.site p.store frames →
    new ≡ append_known old (log_of p frames) →
    IsGuardedLog old new
whole p frames old new is gained =
    front p frames (length (log_of p frames)) old new is
    (gained ∙ ap (λ t. append_known old t) (sym (take_all (length (log_of p frames)) (log_of p frames) (omega arith))))

written_guarded : {A : Type 0} (r : Result A PlayStop) (p : Playing) (frames : List Counts) (old new : Option (List ℕ)) →
    IsGuardedRun p.logic p.site p.store frames →
    IsWritten r (log_of p frames) old new → IsGuardedLog old new
written_guarded (Ok x) p frames old new is gained = whole p frames old new is gained
written_guarded (Err (ReadFault w)) p frames old new is gained = whole p frames old new is gained
written_guarded (Err WriteFault) p frames old new is gained = front p frames gained.0 old new is gained.1.taken
written_guarded (Err (RefusedLine w line reason)) p frames old new is gained = whole p frames old new is gained

-- what was written of a log is guarded
pub log_guarded : {A : Type 0} (r : Result A PlayStop) (p : Playing) (frames : List Counts) (old new : Option (List ℕ)) → IsTwoWay p.site.rules →
    p.site.rules.count ≡ groups_in p.site.plan →
    IsWritten r (log_of p frames) old new → IsGuardedLog old new
log_guarded r p frames old new two count gained = written_guarded r p frames old new (runs_are_guarded p.logic p.site p.store frames two count) gained
