use Rattle.std.proofs.Common.{◌≡◌, ◌+◌, arith}
use Rattle.log_compare.proofs.Comparing.{compared_first, compared_next, few_lines, found}
use Rattle.log_compare.proofs.difference.first_difference.Goals as goal

pub seconds-init : goal.seconds-init
seconds-init c = λ rs ss is too.
    compared_first c.args.names.now c.args.one.now c.args.other.now c.behind_header-rest.result.now c.behind_header-other_rest.result.now rs ss
    c.behind_header-rest.ensures c.behind_header-other_rest.ensures is too

pub returns-in-Found : goal.returns-in-Found
returns-in-Found c = λ rs ss is too.
    found c.args.names.now c.args.one.now c.args.other.now c.seconds.rest.now c.seconds.other_rest.now c.seconds.second c.in-Found.difference rs ss
    c.in-Found.ensures is too (c.seconds.invariant rs ss is too)

pub seconds-preserved : goal.seconds-preserved
seconds-preserved c = λ rs ss is too.
    let next = compared_next c.args.names.now c.args.one.now c.args.other.now c.seconds.rest.now c.seconds.other_rest.now c.in-Same.next.now
    c.in-Same.other_next.now c.seconds.second rs ss c.in-Same.ensures is too (c.seconds.invariant rs ss is too) in
    let plus : c.saturating_add-second.result ≡ c.seconds.second + 1 =
    omega (arith, c.saturating_add-second.ensures, next.inside, few_lines c.args.names.now c.args.one.now rs is) in
    rw plus next
