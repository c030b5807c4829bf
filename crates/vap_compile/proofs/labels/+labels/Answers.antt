use Rattle.std.specs.Option.{option_or}
use Rattle.std.proofs.Common.{ap, sym, ◌∙◌, arith}
use Rattle.std.proofs.lemmas.List.{drop_all}
use Rattle.vap_ast.proofs.Shape.{items_at}
use Rattle.vap_ast.specs.Sizes.{items_size}
use Rattle.vap_ast.specs.Tree.{items_of}
use Rattle.vap_compile.specs.Labels.{place_among}
use Rattle.vap_compile.specs.Layout.{place_in_items}
use Rattle.sig_types.proofs.Options.{option_or-none}
use Rattle.vap_compile.proofs.labels.+labels.Goals as goal

pub note_items-item_size-requires : goal.note_items-item_size-requires
note_items-item_size-requires t c =
    let here =
    ap items_size (items_at c.args.items.now c.loop-index.index c.index-items-index.result
    c.loop-index-test.true c.index-items-index.is) in
    omega (arith, here, c.loop-index.invariant.sizes, c.requires.0)

pub note_items-returns : goal.note_items-returns
note_items-returns t c = λ label.
    let none = drop_all c.loop-index.index c.args.items.now c.loop-index-test.false in
    let found = place_among c.loop-index.places.entries label in
    sym (option_or-none found)
    ∙ ap (λ l. option_or found (place_in_items label c.loop-index.start c.args.after (items_of l)))
    (sym none)
    ∙ c.loop-index.invariant.labels label
