use Rattle.std.proofs.Common.{List, refl, arith, subst}
use Rattle.std.proofs.lemmas.List.{take_all}
use Rattle.refusal_text.specs.declared.refusal.Refusal.{Refusal}
use Rattle.refusal_text.specs.Counted.{AreCounted}
use Rattle.refusal_text.specs.Waits.{after_last, is_refused}
use Rattle.refusal_text.proofs.Counting.{all_longest, all_runs, counted_none}
use Rattle.refusal_text.proofs.Seconds.{counted_step, later_step, refused_before}
use Rattle.refusal_text.proofs.wait.waits.Goals as goal

pub loop-refusal-init : goal.loop-refusal-init
loop-refusal-init c = record {
  fits = record { next = omega arith; length = omega arith; runs = omega arith };
  counted = counted_none _ (λ t. refl);
  later = λ j d le lt. omega arith;
}

pub loop-refusal-preserved : goal.loop-refusal-preserved
loop-refusal-preserved c =
    let i = c.loop-refusal.refusal-index in
    let inside = c.loop-refusal-test.true in
    record {
      fits = c.counted_by-count.ensures.fits;
      counted = counted_step c.args.found.now c.args.group c.args.rule c.loop-refusal.refusal-index _ c.loop-refusal.count _ inside
          c.counted_by-count.ensures.counted (c.loop-refusal.invariant.later i _ (omega arith) inside) c.loop-refusal.invariant.counted;
      later = later_step c.args.found.now c.args.group c.args.rule c.loop-refusal.refusal-index _ c.loop-refusal.count _ c.requires
          c.counted_by-count.ensures.counted c.loop-refusal.invariant.later;
    }

pub returns-clause-runs : goal.returns-clause-runs
returns-clause-runs c =
    all_runs (is_refused c.args.found.now c.args.group c.args.rule) c.loop-refusal.count (after_last c.args.found.now)
    (subst (λ (ys : List Refusal). AreCounted (is_refused ys c.args.group c.args.rule) c.loop-refusal.count)
    (take_all c.loop-refusal.refusal-index c.args.found.now c.loop-refusal-test.false) c.loop-refusal.invariant.counted)
    (λ t le. refused_before c.args.found.now c.args.group c.args.rule t le)

pub returns-clause-longest : goal.returns-clause-longest
returns-clause-longest c =
    all_longest (is_refused c.args.found.now c.args.group c.args.rule) c.loop-refusal.count (after_last c.args.found.now)
    (subst (λ (ys : List Refusal). AreCounted (is_refused ys c.args.group c.args.rule) c.loop-refusal.count)
    (take_all c.loop-refusal.refusal-index c.args.found.now c.loop-refusal-test.false) c.loop-refusal.invariant.counted)
    (λ t le. refused_before c.args.found.now c.args.group c.args.rule t le)
