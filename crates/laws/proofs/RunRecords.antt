-- The records of a run have values as a log of it has them.
use Rattle.std.proofs.Common.{◌≡◌, ℕ, suc, ◌+◌, ◌<◌, ◌≤◌, List, [], ◌∷◌, All, arith}
use Rattle.std.specs.Option.{ForSome}
use Rattle.sig_types.specs.declared.refused.StageRefusal.{StageRefusal}
use Rattle.sig_types.specs.Counts.{Counts}
use Rattle.sig_types.specs.Limits.{last_line}
use Rattle.sig_types.specs.Pass.{End, Done, Faulted, Stuck, Unfinished, Logic, Store, commands_after, fault_after, unit_limit}
use Rattle.pua_model.specs.Plan.{HasStage, IsPlan, groups_in}
use Rattle.controller.specs.Bounds.{AreBoundedFrom, IsBoundedAt}
use Rattle.controller.specs.Past.{Past, Site, next_second, opening}
use Rattle.controller.specs.Second.{orders_of, past_after, past_after_second, pass_of, record_after, record_of, run_from, wishes_in}
use Rattle.report_seen.specs.WrittenLogs.{AreOfRun, IsOfCommands, IsOfRun, IsRefusedCommand}
use Rattle.laws.specs.RunLogs.{IsLoggable}
use Rattle.laws.proofs.CommandRules.{commands_have_rules}
use Rattle.laws.proofs.FaultLines.{HasLine, HasLines}
use Rattle.laws.proofs.PlanPlaces.{AreOfPlan, low_stage, orders_kept, place_is}
use Rattle.laws.proofs.TurnRules.{turns_have_rules}

fault_lined : (e : End) → HasLine e → ForSome (fault_after e) (λ fault. fault.line ≤ last_line)
fault_lined (Done s) is fault e = cc
fault_lined (Faulted kind line) is fault e = let same : line ≡ fault.line = cc in omega (arith, same, is)
fault_lined Stuck is fault e = cc
fault_lined Unfinished is fault e = cc

module _ (logic : Logic) (site : Site) (plan : IsPlan site.plan) (lines : HasLines logic) where
  -- a refused stage command between stages of the plan
  refused_is : (r : StageRefusal) → HasStage site.plan r.from.0 × HasStage site.plan r.to.0 → IsOfCommands r.rule → IsRefusedCommand r
  refused_is r stages rule =
      record { from = low_stage site.plan plan r.from.0 stages.0; to = low_stage site.plan plan r.to.0 stages.1; rule = rule }

  below_limit : (s : ℕ) → HasStage site.plan s → s < 1000
  below_limit s has = omega (arith, has.1, plan.stages_at_most)

  second_is : (past : Past) (k : ℕ) (f : Counts) → AreOfPlan site.plan past.orders → IsLoggable f →
      IsBoundedAt site k f (record_of logic site past f) →
      IsOfRun (groups_in site.plan) k (record_of logic site past f)
  unfolding record_after unit_limit
  second_is past k f orders frame b =
      let end : End = pass_of logic site past f in
      record {
        second = b.second;
        parts = record { picture = b.picture; frame = frame.size; turns = b.named };
        bounded = record {
          commands = omega (arith, b.commands);
          stages = λ n d lt. (let s = b.stages n d lt in (below_limit _ s.0, below_limit _ s.1));
          turns = omega (arith, b.turns, plan.groups_at_most);
        };
        place = place_is site.plan plan (orders_of site past end) (next_second past)
            (orders_kept site.plan (next_second past) past.orders (commands_after end) orders);
        counts = frame.counts;
        commands = λ n d lt. refused_is _ (b.stages n d lt) (commands_have_rules site.plan (next_second past) past.orders (commands_after end) n d lt);
        turns = turns_have_rules site.rules past.history (wishes_in site past end);
        fault = fault_lined end (lines _ _);
      }

  seconds_are : (past : Past) (k : ℕ) (fs : List Counts) → AreOfPlan site.plan past.orders → All IsLoggable fs →
      AreBoundedFrom site k fs (run_from logic site past fs) → AreOfRun (groups_in site.plan) k (run_from logic site past fs)
  unfolding past_after
  seconds_are past k [] orders frames bounded = tt
  seconds_are past k (f ∷ fs) orders frames bounded = (
    second_is past k f orders (frames 0 f (omega arith)) bounded.0,
    seconds_are (past_after_second logic site past f) (k + 1) fs
        (orders_kept site.plan (next_second past) past.orders (commands_after (pass_of logic site past f)) orders)
        (λ n d lt. frames (suc n) d (omega (arith, lt))) bounded.1,
  )

pub run_is_of_run : (logic : Logic) (site : Site) (store : Store) (frames : List Counts) → IsPlan site.plan → HasLines logic → All IsLoggable frames →
    AreBoundedFrom site 1 frames (run_from logic site (opening site store) frames) →
    AreOfRun (groups_in site.plan) 1 (run_from logic site (opening site store) frames)
run_is_of_run logic site store frames plan lines loggable bounded = seconds_are logic site plan lines (opening site store) 1 frames tt loggable bounded
