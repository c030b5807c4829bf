use Rattle.std.proofs.Common.{◌≡◌, ◌≤◌, length, arith}
use Rattle.sig_tables.specs.SiteRules.{rules_of}
use Rattle.log_judge.specs.Stands.{terms_of}
use Rattle.log_judge.proofs.AllFound.{all_of}
use Rattle.report_judged.proofs.BreachReading.{end_none, stands_count}
use Rattle.report_judged.proofs.breach_finding.find_end.Goals as goal

pub returns-then-seconds-eq0 : goal.returns-then-seconds-eq0
returns-then-seconds-eq0 c h stands before =
    let none : length h ≡ 0 = omega (arith, stands_count c.args.judge.now h stands, c.seconds.ensures.seconds, c.if-seconds-eq0.true) in
    end_none (rules_of c.args.tables.now.times c.args.tables.now.intergreens) (terms_of c.args.judge.now) h c.args.found.now.items none before

pub returns-in-Ok : goal.returns-in-Ok
returns-in-Ok c h stands before =
    let some : 1 ≤ length h = omega (arith, stands_count c.args.judge.now h stands, c.seconds.ensures.seconds, c.if-seconds-eq0.false) in
    all_of (rules_of c.args.tables.now.times c.args.tables.now.intergreens) (terms_of c.args.judge.now) h c.args.found.now.items c.find_last.new.out.items
    before (rw (c.of-limits.ensures.times, c.of-limits.ensures.pairs) at (c.in-Ok.ensures.found h stands some))
