use Rattle.std.proofs.Common.{◌≡◌, drop, map}
use Rattle.vap_ast.specs.Tree.{items_of}
use Rattle.vap_check.specs.FirstFinding.{first_of_all}
use Rattle.vap_check.specs.Names.{among, with_names, items_labels}
use Rattle.vap_check.specs.Findings.{label_findings}
use Rattle.vap_check.proofs.labels.+labels.Given as goal

abbrev pub invariant-note_items_labels-loop-item : goal.invariant-note_items_labels-loop-item
invariant-note_items_labels-loop-item l = record {
  names : among (with_names l.names.keys (map (λ l. l.name) (items_labels (items_of (drop l.item-index l.items))))) ≡ among
      (with_names l.fn.names.keys (map (λ l. l.name) (items_labels (items_of l.items))));
  found : first_of_all l.first (label_findings l.names.keys (items_labels (items_of (drop l.item-index l.items)))) ≡ first_of_all l.fn.first
      (label_findings l.fn.names.keys (items_labels (items_of l.items)));
}
