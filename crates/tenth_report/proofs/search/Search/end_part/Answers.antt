use Rattle.std.proofs.Common.{◌≡◌, ◌-◌, refl, length, true, rules, arith}
use Rattle.log_judge.specs.Stands.{groups_of}
use Rattle.tenth_records.specs.Parts.{is_known}
use Rattle.tenth_report.specs.declared.search.JudgedPart.{JudgedPart}
use Rattle.tenth_report.specs.Search.{rules_in}
use Rattle.tenth_report.proofs.Searching.{ended}
use Rattle.tenth_report.proofs.search.Search.end_part.Goals as goal

pub new-self-requires-clause-groups : goal.new-self-requires-clause-groups
unfolding groups_of
new-self-requires-clause-groups c = omega (arith, c.groups.ensures.count, c.requires.tables.pairs, c.args.self.now.judge.groups_at_most)

pub returns-in-Ok-clause-found : goal.returns-in-Ok-clause-found
returns-in-Ok-clause-found c = λ all unknown rest to_come h.
    let part : JudgedPart = record { first = c.args.self.now.first; tenths = c.seconds.result; count = c.saturating_sub.result } in
    let lit : is_known c.args.self.now.shown ≡ true = search rules in
    let over : c.len-count.result ≡ length c.find_end.new.out.items = search rules in
    let count : c.saturating_sub.result ≡ length c.find_end.new.out.items - c.args.self.now.over = omega (arith, c.saturating_sub.ensures, over) in
    ended (rules_in c.args.limits.now) c.args.self.now _ part lit refl refl over c.in-Ok.ensures.items refl c.seconds.ensures.seconds count refl refl
    c.new-self.ensures.stands
    (λ before g is. rw c.requires.tables.terms at (c.in_ok-find_end.ensures before g (rw c.requires.tables.terms is)))
    all unknown rest to_come h
