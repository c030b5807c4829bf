use Rattle.std.proofs.Common.{◌≡◌, ℕ, ◌*◌, ◌/◌, ◌<◌, refl, sym, ◌∙◌, subst, arith}
use Rattle.det_board.specs.Passes.{Taking}
use Rattle.det_board.proofs.Taking.{next_taken}
use Rattle.det_board.proofs.tick.TickPass.read_rest.Goals as goal

pub loop-place-init : goal.loop-place-init
loop-place-init c = (refl, λ begin t. t)

pub read_one-requires-clause-board : goal.read_one-requires-clause-board
read_one-requires-clause-board c = c.loop-place.invariant.0 ∙ c.requires.board

pub loop-place-preserved : goal.loop-place-preserved
loop-place-preserved c =
    let was = c.loop-place.invariant in
    let low : c.loop-place.place < 64 = let t = c.loop-place-test.true in let r = c.detectors-detectors.ensures.range.1 in omega arith in (
      c.read_one.ensures.1.table ∙ was.0,
      λ begin t. next_taken c.loop-place.place begin c.loop-place.self c.read_one.new.self c.loop-place.frame c.read_one.new.frame
          (was.1 begin t) low c.read_one.ensures,
    )

pub returns : goal.returns
returns c =
    let count = c.detectors-detectors.ensures.count in
    let end : c.loop-place.place ≡ c.detectors-detectors.result = let t = c.loop-place-test.false in let e = c.loop-place.auto.place-end in let p =
    c.loop-place.auto in omega arith in
    λ begin t. subst (λ (k : ℕ). Taking k begin c.loop-place.self c.loop-place.frame) (end ∙ count)
    (c.loop-place.invariant.1 begin (subst (λ (k : ℕ). Taking (4 * (k / 4)) begin c.args.self.now c.args.frame.now) (sym count) t))
