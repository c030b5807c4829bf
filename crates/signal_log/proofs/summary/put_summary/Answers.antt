use Rattle.std.proofs.Common.{◌≡◌, ◌++◌, codes, length, arith}
use Rattle.std.specs.Fmt.{decimal}
use Rattle.sig_io.proofs.Drafts.{same_put, then}
use Rattle.signal_log.specs.Summary.{StandsFor, summary_text, kept_greens, kept_refusals, kept_faults, groups_text, rules_text, kinds_text, greens, refusals_by, faulted}
use Rattle.signal_log.proofs.Tallies.{groups_text-same}
use Rattle.signal_log.proofs.summary.put_summary.Goals as goal

pub returns-clause-puts : goal.returns-clause-puts
unfolding StandsFor summary_text
returns-clause-puts g c = λ rs s.
    let names = c.args.plan.now.names in
    let kept = c.args.summary.now in
    let groups_are : groups_text (kept_greens kept) 0 names ≡ groups_text (greens (length names) rs) 0 names
    = groups_text-same (kept_greens kept) (greens (length names) rs) 0 names (λ k lt. s.greens_are k (omega arith)) in
    let rules_are : rules_text (kept_refusals kept) ≡ rules_text (λ rule. refusals_by rule rs) = λ j. rules_text (λ rule. s.refused_are rule j) in
    let kinds_are : kinds_text (kept_faults kept) ≡ kinds_text (λ kind. faulted kind rs) = λ j. kinds_text (λ kind. s.faults_are kind j) in
    let all = then (then (then (then (then (then (then (then (then (then c.put.ensures c.put_long_number.ensures) c.put-2.ensures) c.put_number.ensures)
    c.put-3.ensures) c.put_groups.ensures) c.put-4.ensures) c.put_rules.ensures) c.put-5.ensures) c.put_kinds.ensures) c.put-6.ensures in
    same_put
    (λ j. (codes "SAMPLE " ++ decimal c.args.seed ++ codes " " ++ decimal c.args.seconds ++ codes "\nGREENS" ++ groups_are j
    ++ codes "\nREFUSED" ++ rules_are j ++ codes "\nFAULTS" ++ kinds_are j ++ codes "\n")) all
