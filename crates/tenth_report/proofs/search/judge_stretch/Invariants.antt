use Rattle.std.proofs.Common.{◌≡◌, ◌+◌, ◌++◌, List}
use Rattle.std.specs.Prelude.{replicate}
use Rattle.sig_types.specs.Turns.{History}
use Rattle.log_judge.specs.declared.breach.Breach.{Breach}
use Rattle.log_judge.specs.Stands.{groups_of, seconds_of, terms_of}
use Rattle.tenth_report.specs.Search.{IsJudged, rules_in}
use Rattle.tenth_report.proofs.search.judge_stretch.Given as goal

abbrev pub invariant-tenths : goal.invariant-tenths
invariant-tenths l = record {
  groups : groups_of l.judge ≡ groups_of l.fn.judge;
  terms : terms_of l.judge ≡ terms_of l.fn.judge;
  seconds : seconds_of l.judge ≡ seconds_of l.fn.judge + l.tenth;
  judged : (before : List Breach) (h : History) → IsJudged (rules_in l.limits) (terms_of l.fn.judge) before h l.fn.judge l.fn.out.items →
      IsJudged (rules_in l.limits) (terms_of l.fn.judge) before (h ++ replicate l.tenth l.picture) l.judge l.out.items;
}
