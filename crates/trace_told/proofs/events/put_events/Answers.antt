use Rattle.std.proofs.Common.{◌+◌, get_or, refl, ap, arith}
use Rattle.sig_io.proofs.Drafts.{then}
use Rattle.vap_ast.specs.Tree.{program_of}
use Rattle.trace_watch.specs.declared.event.Event.TheVariants.{Begins}
use Rattle.trace_told.specs.declared.became.Answered.{Answered}
use Rattle.trace_told.proofs.Listed.{event_more, few_refused, rest_is}
use Rattle.trace_told.proofs.events.put_events.Goals as goal

pub loop-k-preserved : goal.loop-k-preserved
loop-k-preserved g c =
    let i = c.loop-k.invariant in
    let p = program_of c.args.checked.now.tree in (
      _,
      then i.1 c.put_event.ensures,
      event_more c.args.plan.now p c.args.rec.now c.loop-k.done c.behind-done.result c.args.events.now c.loop-k.k _ _ _ i.0 _ c.loop-k-test.true refl (rest_is c.args.events.now (c.loop-k.k + 1))
          c.behind-done.ensures i.2,
      let few = few_refused c.args.rec.now.place c.loop-k.done (get_or c.args.events.now c.loop-k.k (Begins 0)) in
          let step = ap (λ (d : Answered). d.refused) c.behind-done.ensures in
          omega (arith, i.3, few, step),
    )
