use Rattle.std.proofs.Common.{rules, subst, drop, ◌≡◌, ◌++◌, ◌+◌, ◌≤◌, length, ap, sym, ◌∙◌, arith, length-append}
use Rattle.vap_code.specs.declared.Instr.TheVariants.{Tick, Jump, JumpZero}
use Rattle.std.proofs.lemmas.Grind.{common_steps}
use Rattle.vap_ast.specs.declared.tree.Item.TheFolds.{the_lemmas}
use Rattle.vap_ast.specs.Tree.{expr_of, item_of, items_of}
use Rattle.vap_ast.specs.Sizes.{expr_size, items_size, stmt_size}
use Rattle.vap_compile.specs.Layout.{expr_code, items_code, stmt_code}
use Rattle.vap_compile.specs.Labels.{place_at}
use Rattle.vap_ast.proofs.Shape.{choice_is, items_at}
use Rattle.vap_compile.proofs.EmittedItems.{emitted, emitted_length, choice_emitted}
use Rattle.vap_compile.proofs.Joined.{length_one_more}
use Rattle.vap_compile.proofs.statements.+routine.Goals as goal
use Rattle.vap_compile.proofs.Lengths.{expr_length, items_length}

pub emit_items-loop-item-preserved : goal.emit_items-loop-item-preserved
emit_items-loop-item-preserved t c =
    let labels = place_at c.args.labels.now in
    let code = c.loop-item.code.items in
    let more = c.emit_item.new.code.items in
    let rest = items_of (drop (c.loop-item.item-index + 1) c.args.items.now) in
    let item = item_of c.item-item.result in
    let here =
    items_at c.args.items.now c.loop-item.item-index c.item-item.result c.loop-item-test.true
    c.item-item.is in
    let inv =
    subst (λ is. (code ++ items_code c.args.checked.now.names labels (length code) is
    ≡ c.args.code.now.items ++ items_code c.args.checked.now.names labels
    (length c.args.code.now.items) (items_of c.args.items.now)) ×
    (length code + items_size is ≡ length c.args.code.now.items + items_size
    (items_of c.args.items.now))) here c.loop-item.invariant in (
      emitted c.args.checked.now.names labels code more _ item rest c.in_ok-emit_item.ensures inv.0,
      emitted_length c.args.checked.now.names labels code more _ item rest c.in_ok-emit_item.ensures
          inv.1,
    )

pub emit_stmt-overflow_cast-at_second : goal.emit_stmt-overflow_cast-at_second
emit_stmt-overflow_cast-at_second t c =
    let shape = ap stmt_size (choice_is c.args.what.now c.in-If.test c.in-If.yes c.in-If.no c.in-If.is) in
    let n = length_one_more c.args.code.now.items (Tick c.args.line) in
    let m = length-append c.put.new.code.items (expr_code c.args.checked.now.names (expr_of c.in-If.test)) in
    omega (
      arith,
      shape,
      c.requires,
      n,
      m,
      ap length c.in_ok-put-in-If.ensures,
      ap length
          c.in_ok-emit_expr-in-If.ensures,
      expr_length c.args.checked.now.names (expr_of c.in-If.test),
      c.len.ensures,
      c.items_size.ensures,
      ap (λ l. items_size (items_of l)) c.deref.ensures.value,
    )

pub emit_stmt-overflow_cast-to_end : goal.emit_stmt-overflow_cast-to_end
emit_stmt-overflow_cast-to_end t c =
    let shape = ap stmt_size (choice_is c.args.what.now c.in-If.test c.in-If.yes c.in-If.no c.in-If.is) in
    let n = length_one_more c.args.code.now.items (Tick c.args.line) in
    let m = length-append c.put.new.code.items (expr_code c.args.checked.now.names (expr_of c.in-If.test)) in
    omega (
      arith,
      shape,
      c.requires,
      n,
      m,
      ap length c.in_ok-put-in-If.ensures,
      ap length
          c.in_ok-emit_expr-in-If.ensures,
      expr_length c.args.checked.now.names (expr_of c.in-If.test),
      c.len.ensures,
      c.items_size.ensures,
      ap (λ l. items_size (items_of l)) c.deref.ensures.value,
      c.items_size-in-If.ensures,
      ap (λ l. items_size (items_of l)) c.deref-in-If.ensures.value,
    )

pub emit_stmt-emit_items-requires : goal.emit_stmt-emit_items-requires
emit_stmt-emit_items-requires t c =
    let shape = ap stmt_size (choice_is c.args.what.now c.in-If.test c.in-If.yes c.in-If.no c.in-If.is) in
    let n = length_one_more c.args.code.now.items (Tick c.args.line) in
    let m = length-append c.put.new.code.items (expr_code c.args.checked.now.names (expr_of c.in-If.test)) in
    let o = length_one_more c.emit_expr.new.code.items (JumpZero (c.len.result + c.items_size.result + 2)) in (
      search (rules, the_lemmas, common_steps),
      omega (
        arith,
        shape,
        c.requires,
        n,
        m,
        o,
        ap length c.in_ok-put-in-If.ensures,
        ap length
            c.in_ok-emit_expr-in-If.ensures,
        ap length c.in_ok-put-in-If-2.ensures,
        expr_length
            c.args.checked.now.names (expr_of c.in-If.test),
        ap (λ l. items_size (items_of l))
            c.deref-in-If-2.ensures.value,
      ),
    )

pub emit_stmt-emit_items-requires-in-If : goal.emit_stmt-emit_items-requires-in-If
emit_stmt-emit_items-requires-in-If t c =
    let shape = ap stmt_size (choice_is c.args.what.now c.in-If.test c.in-If.yes c.in-If.no c.in-If.is) in
    let labels = place_at c.args.labels.now in
    let first = items_of c.deref-in-If-2.result.now in
    let c3 = c.put-in-If.new.code.items in
    let n = length_one_more c.args.code.now.items (Tick c.args.line) in
    let m = length-append c.put.new.code.items (expr_code c.args.checked.now.names (expr_of c.in-If.test)) in
    let o = length_one_more c.emit_expr.new.code.items (JumpZero (c.len.result + c.items_size.result + 2)) in
    let u = length-append c3 (items_code c.args.checked.now.names labels (length c3) first) in
    let v =
    length_one_more c.emit_items.new.code.items
    (Jump (c.len.result + c.items_size.result + 2 + c.items_size-in-If.result)) in (
      search (rules, the_lemmas, common_steps),
      omega (
        arith,
        shape,
        c.requires,
        n,
        m,
        o,
        u,
        v,
        ap length c.in_ok-put-in-If.ensures,
        ap length
            c.in_ok-emit_expr-in-If.ensures,
        ap length c.in_ok-put-in-If-2.ensures,
        ap length
            c.in_ok-emit_items-in-If.ensures,
        ap length c.in_ok-put-in-If-3.ensures,
        expr_length
            c.args.checked.now.names (expr_of c.in-If.test),
        items_length c.args.checked.now.names labels
            (length c3) first,
        ap (λ l. items_size (items_of l)) c.deref-in-If-2.ensures.value,
        ap
            (λ l. items_size (items_of l)) c.deref-in-If-3.ensures.value,
      ),
    )

pub emit_stmt-returns-in_ok-emit_items-in-If-2 : goal.emit_stmt-returns-in_ok-emit_items-in-If-2
emit_stmt-returns-in_ok-emit_items-in-If-2 t c =
    let labels = place_at c.args.labels.now in
    let names = c.args.checked.now.names in
    let code = c.args.code.now.items in
    let first = items_of c.in-If.yes.0.items in
    let second = items_of c.in-If.no.0.items in
    let c2 = c.emit_expr.new.code.items in
    let c3 = c.put-in-If.new.code.items in
    let c5 = c.put-in-If-2.new.code.items in
    let at_second = c.len.result + c.items_size.result + 2 in
    let to_end = at_second + c.items_size-in-If.result in
    let shape = ap stmt_size (choice_is c.args.what.now c.in-If.test c.in-If.yes c.in-If.no c.in-If.is) in
    let fits : expr_size (expr_of c.in-If.test) + 3 + (items_size first + items_size second) ≤ 65535 =
    omega (arith, shape, c.requires) in
    let yes = ap (λ l. items_size (items_of l)) c.deref.ensures.value in
    let no = ap (λ l. items_size (items_of l)) c.deref-in-If.ensures.value in
    let at : at_second ≡ length c2 + items_size first + 2 =
    omega (arith, fits, c.len.ensures, c.items_size.ensures, yes) in
    let to : to_end ≡ at_second + items_size second =
    omega (arith, fits, c.items_size-in-If.ensures, no) in
    choice_emitted names labels c.args.line code c.put.new.code.items c2 c3 c.emit_items.new.code.items
    c5 c.emit_items-in-If.new.code.items (expr_of c.in-If.test) first second at_second to_end
    c.in_ok-put-in-If.ensures c.in_ok-emit_expr-in-If.ensures at to c.in_ok-put-in-If-2.ensures
    (c.in_ok-emit_items-in-If.ensures ∙ ap (λ l. c3 ++ items_code names labels (length c3) (items_of l))
    c.deref-in-If-2.ensures.value)
    c.in_ok-put-in-If-3.ensures
    (c.in_ok-emit_items-in-If-2.ensures ∙ ap
    (λ l. c5 ++ items_code names labels (length c5) (items_of l)) c.deref-in-If-3.ensures.value)
    ∙ ap (λ w. code ++ stmt_code names labels (length code) c.args.line w)
    (sym (choice_is c.args.what.now c.in-If.test c.in-If.yes c.in-If.no c.in-If.is))
