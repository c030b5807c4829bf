use Rattle.program_advice.specs.Advice.{AreWanted}
use Rattle.program_advice.proofs.advice.told_at.Goals as goal

pub returns : goal.returns
returns c =
    let wanted = c.in_ok-wanted.wanted in
    let are : AreWanted c.args.tokens.now c.args.at wanted.kinds.items wanted.aspect = record {
      kinds_are = λ kind. rw c.tokens_before.ensures at c.in_ok-wanted.ensures.kinds kind;
      aspect_is = rw c.tokens_before.ensures at c.in_ok-wanted.ensures.aspect;
    } in (
      wanted.kinds.items,
      wanted.aspect,
      are,
      rw c.deref.ensures.value at c.in_ok-means.ensures,
      rw c.deref-2.ensures.value at c.meant_range-range.ensures,
    )
