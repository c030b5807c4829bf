use Rattle.std.proofs.Common.{rules, arith, ◌∷◌}
use Rattle.csv.specs.Records.{fields_of}
use Rattle.table_check.proofs.Passed.{passed_all, passed_many, passed_more}
use Rattle.table_check.proofs.refused.put_each.Goals as goal

pub loop-number-init : goal.loop-number-init
loop-number-init c = λ text begins. begins

pub next-requires : goal.next-requires
next-requires c = let p = c.loop-number.invariant c.requires.0 c.requires.1 in (c.requires.0, p.header ∷ p.before, p.read)

pub returns-then-not-branch : goal.returns-then-not-branch
returns-then-not-branch c = λ text begins.
    let p = c.loop-number.invariant text begins in
    let all = c.in_ok-next.ensures.end (search rules) text (p.header ∷ p.before) p.read in
    passed_all c.args.plan.now c.args.table text c.loop-number.rows c.args.fields c.loop-number.number c.loop-number.seen
    c.loop-number.refused.items p (omega (arith, c.loop-number-test.true)) all

pub record_reason-why-requires : goal.record_reason-why-requires
record_reason-why-requires c = (c.loop-number.invariant c.requires.0 c.requires.1).size

pub loop-number-preserved : goal.loop-number-preserved
loop-number-preserved c = λ text begins.
    let p = c.loop-number.invariant text begins in
    let has = c.in_ok-next.ensures.more (search rules) text (p.header ∷ p.before) p.read in
    passed_more c.args.plan.now c.args.table text c.loop-number.rows c.next.new.self c.args.fields
    c.loop-number.number c.loop-number.seen c.record_reason-why.new.seen c.loop-number.refused.items c.put_refused.new.refused.items
    (fields_of c.next.new.self.row) c.record_reason-why.result p has (c.record_reason-why.ensures.why p.before p.sees)
    (c.record_reason-why.ensures.seen p.before p.sees) c.record_reason-why.ensures.size c.in_ok-put_refused.ensures

pub returns : goal.returns
returns c = λ text begins.
    let p = c.loop-number.invariant text begins in
    passed_many c.args.plan.now c.args.table text c.loop-number.rows c.args.fields c.loop-number.number c.loop-number.seen
    c.loop-number.refused.items p (omega (arith, c.loop-number-test.false, c.loop-number.auto.number))
