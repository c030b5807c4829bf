use Rattle.std.proofs.Common.{◌∙◌, ℕ, ◌+◌, [], ◌∷◌, ap, arith, get_or, length, length-append, refl, subst}
use Rattle.std.proofs.lemmas.List.{get_or_default, take_all}
use Rattle.sig_types.specs.declared.aspect.Aspect.{Aspect}
use Rattle.log_sums.specs.ServeSums.{AreServeSums}
use Rattle.log_sums.specs.declared.serves.Served.{Served}
use Rattle.log_sums.specs.Serves.{serves_of}
use Rattle.log_sums.proofs.Over.{each_more}
use Rattle.log_sums.proofs.Restarted.{serve_more}
use Rattle.log_sums.proofs.restart_serves.restart_serves.Goals as goal

pub loop-served-init : goal.loop-served-init
loop-served-init c = record {
  size = rw c.new-copy.ensures.items refl;
  serves = rw c.new-copy.ensures.items refl;
  sums = rw c.new-copy.ensures.items (λ i d e inside. absurd (omega (arith, inside)));
}

pub loop-served-preserved : goal.loop-served-preserved
loop-served-preserved c =
    let before = c.loop-served.invariant in
    let old = c.loop-served.copy.items in
    let x = c.restart_served.result in
    let xs = c.args.serves.now in
    let i = c.loop-served.served-index in
    let items = c.in-Ok.ensures.items in
    record {
      size = omega (arith, ap length items, length-append old (x ∷ []), before.size);
      serves = serve_more old c.push.new.self.items xs i _ x c.loop-served-test.true c.restart_served.ensures.serve items before.serves;
      sums = rw items (λ j d e less.
          each_more (λ k (z : Served). (a : ℕ → Aspect) (f : ℕ → ℕ) (from n : ℕ) → AreServeSums a f from n (get_or xs k e).sums → AreServeSums a f (n + 1) n z.sums)
          old x (λ k g under. before.sums k g e under)
          (λ a f from n is. c.restart_served.ensures.sums a f from n
          (subst (λ (z : Served). AreServeSums a f from n z.sums) (ap (λ (k : ℕ). get_or xs k e) before.size ∙ get_or_default xs i e _ c.loop-served-test.true) is))
          j d less);
    }

pub returns-clause-serves : goal.returns-clause-serves
returns-clause-serves c =
    c.loop-served.invariant.serves ∙ ap serves_of (take_all c.loop-served.served-index c.args.serves.now c.loop-served-test.false)

pub returns-clause-sums : goal.returns-clause-sums
returns-clause-sums c = λ a f from n i d inside is.
    c.loop-served.invariant.sums i d d (omega (arith, inside, c.loop-served.invariant.size, c.loop-served-test.false)) a f from n is
