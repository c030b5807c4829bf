use Rattle.std.proofs.Common.{rules, ◌≡◌, ◌∙◌, ◌<◌, ◌++◌, ◌∷◌, sym, ap, [], Some, None, length, get_or, arith, below_more, length-append}
use Rattle.std.specs.Prelude.{is_none}
use Rattle.std.proofs.lemmas.List.Elements.{All-push}
use Rattle.pua_model.specs.Plan.{groups_in}
use Rattle.tenth_tables.specs.Times.{IsRow, times_below}
use Rattle.tenth_tables.proofs.TimesRead.{missing_at, none_missing, times_more}
use Rattle.tenth_tables.proofs.times_reader.complete.Goals as goal

pub loop-g-init : goal.loop-g-init
unfolding times_below
loop-g-init c = record {
  size = ap length c.new-times.ensures.items;
  range = λ plan rows holds. rw c.new-times.ensures.items (λ k d lt. absurd (omega arith));
  same = λ plan rows holds. c.new-times.ensures.items;
  full = λ j lt. absurd (omega arith);
}

pub returns-in_default-clause-missing : goal.returns-in_default-clause-missing
returns-in_default-clause-missing c = λ plan rows holds.
    let lt : c.loop-g.g < groups_in plan = omega (arith, holds.size, c.loop-g-test.true) in
    missing_at plan rows c.args.held.now c.loop-g.g holds lt (search rules) c.loop-g.invariant.full

pub loop-g-preserved : goal.loop-g-preserved
loop-g-preserved c =
    let pushed : c.push.new.self.items ≡ c.loop-g.times.items ++ c.in-Some.row ∷ [] = search rules in
    let here : get_or c.args.held.now c.loop-g.g None ≡ Some c.in-Some.row = search rules in
    record {
      size = rw pushed (omega (arith, c.loop-g.invariant.size, length-append c.loop-g.times.items (c.in-Some.row ∷ [])));
      range = λ plan rows holds.
          let lt : c.loop-g.g < groups_in plan = omega (arith, holds.size, c.loop-g-test.true) in
          rw pushed (All-push IsRow c.loop-g.times.items c.in-Some.row (c.loop-g.invariant.range plan rows holds) (rw here at (holds.range c.loop-g.g lt)));
      same = λ plan rows holds.
          let lt : c.loop-g.g < groups_in plan = omega (arith, holds.size, c.loop-g-test.true) in
          pushed ∙ ap (λ l. l ++ c.in-Some.row ∷ []) (c.loop-g.invariant.same plan rows holds) ∙ sym (times_more plan rows c.args.held.now c.loop-g.g c.in-Some.row holds lt here);
      full = below_more _ _ c.loop-g.invariant.full (ap is_none here);
    }

pub returns-clause-complete : goal.returns-clause-complete
returns-clause-complete c = λ plan rows holds.
    none_missing plan rows c.args.held.now holds (λ j lt. c.loop-g.invariant.full j (omega (arith, holds.size, lt, c.loop-g-test.false)))
