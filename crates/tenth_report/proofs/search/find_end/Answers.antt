use Rattle.std.proofs.Common.{◌≡◌, ◌≤◌, length, arith}
use Rattle.log_judge.specs.Stands.{terms_of}
use Rattle.tenth_report.specs.Search.{rules_in}
use Rattle.tenth_report.proofs.Judging.{stands_count, with_last, with_none}
use Rattle.tenth_report.proofs.search.find_end.Goals as goal

pub returns-then-seconds-eq0 : goal.returns-then-seconds-eq0
returns-then-seconds-eq0 c before h is =
    let none : length h ≡ 0 = omega (arith, stands_count c.args.judge.now h is.stands, c.seconds.ensures.seconds, c.if-seconds-eq0.true) in
    with_none (rules_in c.args.limits.now) (terms_of c.args.judge.now) before h c.args.out.now.items none is.found_are

pub returns-in-Ok : goal.returns-in-Ok
returns-in-Ok c before h is =
    let some : 1 ≤ length h = omega (arith, stands_count c.args.judge.now h is.stands, c.seconds.ensures.seconds, c.if-seconds-eq0.false) in
    with_last (rules_in c.args.limits.now) (terms_of c.args.judge.now) before h c.args.out.now.items c.find_last.new.out.items is.found_are
    (c.in-Ok.ensures.found h is.stands some)
