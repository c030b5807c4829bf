use Rattle.std.proofs.Common.{rules, ◌≡◌, ◌∙◌, ◌<◌, ◌+◌, ◌*◌, sym, ap, refl, List, Some, None, true, length, get_or, arith}
use Rattle.std.specs.Prelude.{is_none}
use Rattle.sig_types.specs.declared.numbers.GroupNo.{GroupNo}
use Rattle.sig_tables.specs.declared.refusal.TableWhy.TheVariants as why
use Rattle.sig_tables.specs.Held.{no_pair}
use Rattle.tenth_tables.proofs.OneWays.{BothBelow, both_below, one_way_at, both_listed}
use Rattle.tenth_tables.proofs.intergreens_reader.Listed.judge_both_ways.Goals as goal

pub returns-then-is_none-clause-refused : goal.returns-then-is_none-clause-refused
returns-then-is_none-clause-refused c = λ plan rows holds.
    let pairs = c.args.self.now.pairs.items in
    let inside : c.loop-k.k < length pairs = omega (arith, c.loop-k-test.true, ap length c.deref-pair-items.ensures.value) in
    let pair = get_or pairs c.loop-k.k no_pair in
    let none : is_none (get_or c.args.self.now.cells.items (64 * pair.1.0 + pair.0.0) None) ≡ true = search rules in
    let found = one_way_at plan rows c.args.self.now.cells.items pairs c.loop-k.k pair.0 pair.1 holds c.requires.inside inside c.loop-k.invariant refl none in
    found ∙ ap (λ (l : List (GroupNo × GroupNo)). Some (c.loop-k.k + 2, why.OneWay (get_or l c.loop-k.k no_pair).0 (get_or l c.loop-k.k no_pair).1)) (sym c.deref-pair-items.ensures.value)

pub returns-clause-none : goal.returns-clause-none
returns-clause-none c = λ plan rows holds.
    let all : BothBelow c.args.self.now.cells.items c.args.self.now.pairs.items (length rows) =
    λ j lt. c.loop-k.invariant j (omega (arith, lt, holds.count, c.loop-k-test.false, ap length c.deref-pair-items.ensures.value)) in
    both_below plan rows c.args.self.now.cells.items c.args.self.now.pairs.items (length rows) holds c.requires.inside (omega arith) all

pub returns-clause-both : goal.returns-clause-both
returns-clause-both c = λ plan rows holds.
    let all : BothBelow c.args.self.now.cells.items c.args.self.now.pairs.items (length c.args.self.now.pairs.items) =
    λ j lt. c.loop-k.invariant j (omega (arith, lt, c.loop-k-test.false, ap length c.deref-pair-items.ensures.value)) in
    both_listed plan rows c.args.self.now.cells.items c.args.self.now.pairs.items holds c.requires.inside all
