use Rattle.std.proofs.Common.{◌≡◌, ◌∙◌, ◌<◌, ◌++◌, [], length, map, take, ap, subst, sym, arith}
use Rattle.std.proofs.lemmas.List.{length-map}
use Rattle.std.specs.Prelude.{slice_index_or, string_bytes}
use Rattle.vap_ast.specs.Tree.{program_of}
use Rattle.trace_told.specs.Columns.{NamesSome, chosen_by, meant_by}
use Rattle.trace_told.proofs.Chosen.{chosen_more, each_more, word_at}
use Rattle.trace_told.proofs.choice.choose.Goals as goal

pub loop-k-preserved : goal.loop-k-preserved
loop-k-preserved c =
    let p = program_of c.args.checked.now.tree in
    let columns = c.args.columns.now in
    let words = map string_bytes c.args.words.now in
    let k = c.loop-k.k in
    let below : k < length words = omega (arith, c.loop-k-test.true, length-map c.args.words.now string_bytes) in
    let word : c.as_bytes.result.now ≡ slice_index_or words k [] =
    c.as_bytes.ensures.value ∙ ap (λ s. string_bytes s) c.index-words-k.is ∙ sym (word_at c.args.words.now k c.index-words-k.result c.loop-k-test.true) in
    record {
      chosen = c.in-Ok-true.ensures.added ∙ ap (λ l. l ++ meant_by p columns c.as_bytes.result.now) c.loop-k.invariant.chosen
          ∙ ap (λ w. chosen_by p columns (take k words) ++ meant_by p columns w) word ∙ sym (chosen_more p columns words k below);
      named = each_more (λ j. NamesSome p columns (slice_index_or words j [])) k c.loop-k.invariant.named
          (subst (λ w. NamesSome p columns w) word (c.in-Ok-true.ensures.some c.in-Ok-true.field-0-test));
    }
