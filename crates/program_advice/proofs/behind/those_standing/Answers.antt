use Rattle.std.proofs.Common.{◌≡◌, ℕ, length, take, ap, ◌∙◌, arith}
use Rattle.std.proofs.Math.Seq.{take-length}
use Rattle.program_advice.proofs.Standing.{next_told}
use Rattle.program_advice.proofs.behind.those_standing.Goals as goal

pub loop-kind-preserved : goal.loop-kind-preserved
loop-kind-preserved c = record {
  same = c.in_ok-can.ensures.same ∙ c.loop-kind.invariant.same;
  told = rw c.in_ok-note.ensures
      (next_told c.args.tokens.now.items c.args.kinds.now c.loop-kind.told.items c.loop-kind.kind-index _ c.in_ok-can.can c.loop-kind-test.true
      c.loop-kind.invariant.told (rw c.loop-kind.invariant.same at c.in_ok-can.ensures.stands));
}

pub returns-clause-told : goal.returns-clause-told
returns-clause-told c =
    let at_end : c.loop-kind.kind-index ≡ length c.args.kinds.now = omega arith in
    let all : take c.loop-kind.kind-index c.args.kinds.now ≡ c.args.kinds.now =
    ap (λ (n : ℕ). take n c.args.kinds.now) at_end ∙ take-length c.args.kinds.now in
    rw all at c.loop-kind.invariant.told
