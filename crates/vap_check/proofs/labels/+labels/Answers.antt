use Rattle.std.proofs.Common.{◌≡◌, ◌∙◌, sym, ap, drop, map, ◌+◌}
use Rattle.vap_ast.specs.Tree.{item_of, items_of}
use Rattle.vap_ast.proofs.Shape.{choice_is, items_at}
use Rattle.vap_check.specs.FirstFinding.{first_of_all}
use Rattle.vap_check.specs.Findings.{label_findings}
use Rattle.vap_check.specs.Names.{among, with_names, item_labels, items_labels, stmt_labels}
use Rattle.vap_check.proofs.Labelling.{names_on_both, found_on_both}
use Rattle.vap_check.proofs.labels.+labels.Goals as goal

pub note_items_labels-loop-item-preserved : goal.note_items_labels-loop-item-preserved
note_items_labels-loop-item-preserved t c =
    let here = items_at c.args.items.now c.loop-item.item-index c.item-item.result c.loop-item-test.true c.item-item.is in
    let a = item_labels (item_of c.item-item.result) in
    let b = items_labels (items_of (drop (c.loop-item.item-index + 1) c.args.items.now)) in
    let before = c.loop-item.names.keys in
    record {
      names = names_on_both a b before c.note_item_labels.new.names.keys c.in_ok-note_item_labels.ensures.names ∙
          ap (λ is. among (with_names before (map (λ l. l.name) (items_labels is)))) (sym here) ∙ c.loop-item.invariant.names;
      found = found_on_both a b before c.note_item_labels.new.names.keys c.loop-item.first c.note_item_labels.new.first
          c.in_ok-note_item_labels.ensures.names c.in_ok-note_item_labels.ensures.found
          ∙ ap (λ is. first_of_all c.loop-item.first (label_findings before (items_labels is))) (sym here) ∙ c.loop-item.invariant.found;
    }

pub note_stmt_labels-returns-in_ok-note_items_labels-in-If-2-clause-names :
    goal.note_stmt_labels-returns-in_ok-note_items_labels-in-If-2-clause-names
note_stmt_labels-returns-in_ok-note_items_labels-in-If-2-clause-names t c =
    let names = c.args.names.now.keys in
    let more = c.note_items_labels.new.names.keys in
    let a = items_labels (items_of c.in-If.yes.0.items) in
    let b = items_labels (items_of c.in-If.no.0.items) in
    let one : among more ≡ among (with_names names (map (λ l. l.name) a)) = rw c.deref.ensures.value at c.in_ok-note_items_labels-in-If.ensures.names in
    let two : among c.note_items_labels-in-If.new.names.keys ≡ among (with_names more (map (λ l. l.name) b)) =
    rw c.deref-in-If.ensures.value at c.in_ok-note_items_labels-in-If-2.ensures.names in
    two ∙ names_on_both a b names more one
    ∙ ap (λ s. among (with_names names (map (λ l. l.name) (stmt_labels s)))) (sym (choice_is c.args.what.now c.in-If.test c.in-If.yes c.in-If.no c.in-If.is))

pub note_stmt_labels-returns-in_ok-note_items_labels-in-If-2-clause-found :
    goal.note_stmt_labels-returns-in_ok-note_items_labels-in-If-2-clause-found
note_stmt_labels-returns-in_ok-note_items_labels-in-If-2-clause-found t c =
    let names = c.args.names.now.keys in
    let more = c.note_items_labels.new.names.keys in
    let first = c.args.first.now in
    let a = items_labels (items_of c.in-If.yes.0.items) in
    let b = items_labels (items_of c.in-If.no.0.items) in
    let one : among more ≡ among (with_names names (map (λ l. l.name) a)) = rw c.deref.ensures.value at c.in_ok-note_items_labels-in-If.ensures.names in
    let found : c.note_items_labels.new.first ≡ first_of_all first (label_findings names a) =
    rw c.deref.ensures.value at c.in_ok-note_items_labels-in-If.ensures.found in
    let two : c.note_items_labels-in-If.new.first ≡ first_of_all c.note_items_labels.new.first (label_findings more b) =
    rw c.deref-in-If.ensures.value at c.in_ok-note_items_labels-in-If-2.ensures.found in
    two ∙ found_on_both a b names more first c.note_items_labels.new.first one found
    ∙ ap (λ s. first_of_all first (label_findings names (stmt_labels s))) (sym (choice_is c.args.what.now c.in-If.test c.in-If.yes c.in-If.no c.in-If.is))
