use Rattle.std.proofs.Common.{ℕ, arith, refl}
use Rattle.std.proofs.lemmas.List.Elements.{All-push}
use Rattle.sig_types.specs.declared.aspect.Aspect.{Aspect}
use Rattle.log_sums.specs.ServeSums.{AreServeSums}
use Rattle.log_sums.specs.declared.serves.Served.{Served}
use Rattle.log_sums.proofs.Serving.{served_more}
use Rattle.log_sums.proofs.serves.none_served.Goals as goal

pub loop-serve-init : goal.loop-serve-init
loop-serve-init c = record {
  serves = rw c.new-served.ensures.items refl;
  sums = rw c.new-served.ensures.items (λ i d inside. absurd (omega (arith, inside)));
}

pub loop-serve-preserved : goal.loop-serve-preserved
loop-serve-preserved c =
    let before = c.loop-serve.invariant in
    let old = c.loop-serve.served.items in
    let x = c.unseen.result in
    record {
      serves = served_more old c.push.new.self.items c.args.serves.now c.loop-serve.serve-index _ x c.loop-serve-test.true c.unseen.ensures.serve
          c.in-Ok.ensures.items before.serves;
      sums = rw c.in-Ok.ensures.items (All-push (λ (y : Served). (a : ℕ → Aspect) (f : ℕ → ℕ) (from : ℕ) → AreServeSums a f from 0 y.sums) old x
          before.sums c.unseen.ensures.sums);
    }
