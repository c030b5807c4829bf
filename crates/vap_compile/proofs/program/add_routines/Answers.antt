use Rattle.std.proofs.Common.{◌≡◌, ◌+◌, ◌++◌, length, map, drop, subst, ap, ◌∙◌, arith}
use Rattle.vap_ast.specs.Tree.{routine_of, body_of, items_of}
use Rattle.vap_check.specs.Accepted.{bodies_size}
use Rattle.vap_compile.specs.Layout.{routine_code, routines_code, routine_starts}
use Rattle.vap_compile.proofs.AddedRoutines.{added, started, long_more, bodies_at}
use Rattle.vap_compile.proofs.program.add_routines.Goals as goal

pub loop-sub-preserved : goal.loop-sub-preserved
loop-sub-preserved c =
    let names = c.args.checked.now.names in
    let code = c.loop-sub.routines.instrs.items in
    let starts = c.loop-sub.routines.starts.items in
    let more = c.add_routine.new.routines.instrs.items in
    let body = body_of c.sub-item.result.body in
    let rest = map (λ r. r.body) (map routine_of (drop (c.loop-sub.sub-index + 1) c.args.subs.now)) in
    let here =
    bodies_at c.args.subs.now c.loop-sub.sub-index c.sub-item.result c.loop-sub-test.true c.sub-item.is in
    let inv = c.loop-sub.invariant in
    let step =
    c.in_ok-add_routine.ensures.instrs ∙ ap
    (λ l. code ++ routine_code names (length code) (items_of l)) c.deref.ensures.value in
    record {
      instrs =
          added names code more _ body rest step
          (subst (λ bs. code ++ routines_code names (length code) bs
          ≡ c.args.routines.now.instrs.items ++ routines_code names
          (length c.args.routines.now.instrs.items)
          (map (λ r. r.body) (map routine_of c.args.subs.now))) here inv.instrs);
      starts =
          started names code more starts c.add_routine.new.routines.starts.items _ body rest step
          c.in_ok-add_routine.ensures.starts
          (subst (λ bs. starts ++ routine_starts (length code) bs ≡ c.args.routines.now.starts.items
          ++ routine_starts (length c.args.routines.now.instrs.items)
          (map (λ r. r.body) (map routine_of c.args.subs.now))) here inv.starts);
      long = omega (arith, long_more names code more body step, ap bodies_size here, inv.long);
    }
