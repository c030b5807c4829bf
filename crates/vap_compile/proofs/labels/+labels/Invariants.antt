use Rattle.std.specs.Option.{option_or}
use Rattle.std.proofs.Common.{◌≡◌, ◌+◌, ℕ, List, drop}
use Rattle.vap_ast.specs.Sizes.{items_size}
use Rattle.vap_ast.specs.Tree.{items_of}
use Rattle.vap_compile.specs.Labels.{place_among}
use Rattle.vap_compile.specs.Layout.{place_in_items}
use Rattle.vap_compile.proofs.labels.+labels.Given as goal

-- the table and the labels of the rest are those of all, and the rest ends where all ends
abbrev pub invariant-note_items-loop-index : goal.invariant-note_items-loop-index
invariant-note_items-loop-index l = record {
  labels : (label : List ℕ) →
      option_or (place_among l.places.entries label)
      (place_in_items label l.start l.after (items_of (drop l.index l.items)))
      ≡ option_or (place_among l.fn.places.entries label)
      (place_in_items label l.fn.place l.after (items_of l.items));
  sizes : l.start + items_size (items_of (drop l.index l.items)) ≡ l.fn.place + items_size (items_of l.items);
}
