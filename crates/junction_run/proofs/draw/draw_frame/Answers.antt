use Rattle.std.proofs.Common.{◌≡◌, ◌∙◌, take, ap, arith}
use Rattle.junction_run.specs.Drawn.{vehicles_at}
use Rattle.junction_run.proofs.Drawing.{vehicles_at-frame}
use Rattle.junction_run.proofs.draw.draw_frame.Goals as goal

pub returns-clause-frame : goal.returns-clause-frame
returns-clause-frame c =
    let drawn = c.draw_places-count in
    let whole : c.loop-i.i ≡ drawn.result.1 = omega arith in
    c.loop-i.invariant.frame ∙ ap (λ n. vehicles_at (take n drawn.result.0)) whole ∙ ap vehicles_at drawn.ensures.places
    ∙ vehicles_at-frame c.args.generator.now
