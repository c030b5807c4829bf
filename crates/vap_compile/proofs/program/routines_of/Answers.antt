use Rattle.std.proofs.Common.{◌++◌, [], ◌∷◌, length, map, ap, ◌∙◌, arith}
use Rattle.vap_ast.specs.Sizes.{items_size}
use Rattle.vap_ast.specs.Tree.{routine_of, program_of, items_of}
use Rattle.vap_check.specs.Accepted.{bodies_size}
use Rattle.vap_compile.specs.Layout.{routine_code, routines_code, routine_starts}
use Rattle.vap_compile.proofs.Lengths.{routines_length}
use Rattle.vap_compile.proofs.AddedRoutines.{size_on, whole_code, whole_starts}
use Rattle.vap_compile.proofs.program.routines_of.Goals as goal

pub add_routines-requires : goal.add_routines-requires
add_routines-requires c =
    let p = program_of c.args.checked.now.tree in
    let subs = map (λ r. r.body) p.subs in
    let e =
    ap (λ l. map (λ r. r.body) (map routine_of l))
    (c.deref.ensures.value ∙ ap (λ t. t.subs.items) c.program-program.ensures.tree) in
    omega (
      arith,
      ap length c.new.ensures.items,
      ap bodies_size e,
      c.program-program.ensures.kept.accepted.short,
      size_on subs (p.main.body ∷ []),
    )

pub add_routine-requires : goal.add_routine-requires
add_routine-requires c =
    let names = c.args.checked.now.names in
    let p = program_of c.args.checked.now.tree in
    let subs = map (λ r. r.body) p.subs in
    let e =
    ap (λ l. map (λ r. r.body) (map routine_of l))
    (c.deref.ensures.value ∙ ap (λ t. t.subs.items) c.program-program.ensures.tree) in
    let x =
    c.in_ok-add_routines.ensures.instrs ∙ ap
    (λ n. n ++ routines_code names (length n)
    (map (λ r. r.body) (map routine_of c.deref.result.now))) c.new.ensures.items ∙ ap
    (routines_code names 0) e in
    let m =
    ap (λ l. items_size (items_of l))
    (c.deref-2.ensures.value ∙ ap (λ t. t.main.body.0.items) c.program-program.ensures.tree) in
    omega (
      arith,
      ap length x,
      routines_length names subs 0,
      m,
      c.program-program.ensures.kept.accepted.short,
      size_on subs (p.main.body ∷ []),
    )

pub returns-clause-instrs : goal.returns-clause-instrs
returns-clause-instrs c =
    let names = c.args.checked.now.names in
    let p = program_of c.args.checked.now.tree in
    let subs = map (λ r. r.body) p.subs in
    let e =
    ap (λ l. map (λ r. r.body) (map routine_of l))
    (c.deref.ensures.value ∙ ap (λ t. t.subs.items) c.program-program.ensures.tree) in
    let x =
    c.in_ok-add_routines.ensures.instrs ∙ ap
    (λ n. n ++ routines_code names (length n)
    (map (λ r. r.body) (map routine_of c.deref.result.now))) c.new.ensures.items ∙ ap
    (routines_code names 0) e in
    let m =
    ap items_of (c.deref-2.ensures.value ∙ ap (λ t. t.main.body.0.items)
    c.program-program.ensures.tree) in
    let code = c.add_routines.new.routines.instrs.items in
    whole_code names subs p.main.body code c.add_routine.new.routines.instrs.items x
    (c.in_ok-add_routine.ensures.instrs ∙ ap (λ b. code ++ routine_code names (length code) b) m)

pub returns-clause-starts : goal.returns-clause-starts
returns-clause-starts c =
    let names = c.args.checked.now.names in
    let p = program_of c.args.checked.now.tree in
    let subs = map (λ r. r.body) p.subs in
    let e =
    ap (λ l. map (λ r. r.body) (map routine_of l))
    (c.deref.ensures.value ∙ ap (λ t. t.subs.items) c.program-program.ensures.tree) in
    let x =
    c.in_ok-add_routines.ensures.instrs ∙ ap
    (λ n. n ++ routines_code names (length n)
    (map (λ r. r.body) (map routine_of c.deref.result.now))) c.new.ensures.items ∙ ap
    (routines_code names 0) e in
    let s =
    c.in_ok-add_routines.ensures.starts ∙ ap
    (λ n. n ++ routine_starts (length c.new.result.items)
    (map (λ r. r.body) (map routine_of c.deref.result.now))) c.new-2.ensures.items ∙ ap
    (λ n. routine_starts (length n) (map (λ r. r.body) (map routine_of c.deref.result.now)))
    c.new.ensures.items ∙ ap (routine_starts 0) e in
    whole_starts names subs p.main.body c.add_routines.new.routines.instrs.items
    c.add_routines.new.routines.starts.items c.add_routine.new.routines.starts.items x s
    c.in_ok-add_routine.ensures.starts
