use Rattle.std.proofs.Common.{◌∙◌, ap, arith}
use Rattle.trace_told.specs.declared.kept.Kept.{Kept}
use Rattle.trace_told.specs.Listing.{kept_anew}
use Rattle.trace_told.proofs.Keeping.{keep_more}
use Rattle.trace_told.proofs.kept.keep.Goals as goal

pub loop-place-preserved : goal.loop-place-preserved
loop-place-preserved c =
    let i = c.loop-place.invariant in
    keep_more c.args.vm.now.store c.loop-place.kept.items c.args.kept.now.items c.loop-place.place c.kept_of.result c.index.result.now (omega (arith, c.loop-place-test.true, c.len-place-end.ensures, i.0, c.args.kept.now.ok.0)) i.0 i.1 i.2
    (c.kept_of.ensures ∙ ap (λ (k : Kept). kept_anew c.args.vm.now.store k) c.index.ensures)
