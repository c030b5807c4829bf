use Rattle.std.proofs.Common.{◌≡◌, ◌∙◌, ◌++◌, List, ap, drop, get_or, length, subst, sym, take}
use Rattle.log_sums.specs.ServeSums.{AreServeSums}
use Rattle.log_sums.proofs.Shown.{written_back}
use Rattle.log_sums.specs.declared.serves.Served.{Served}
use Rattle.log_sums.specs.Serves.{serves_of}
use Rattle.log_sums.proofs.serves.show_serves.Goals as goal

-- what is shown is written back whole
back : (xs ys old : List Served) (n : _) → n ≡ length old → ys ≡ old → length xs ≡ length ys → take n (xs ++ drop (length xs) old) ≡ xs
back xs ys old n size same long = written_back xs old n size (long ∙ ap length same)

pub returns-clause-serves : goal.returns-clause-serves
returns-clause-serves c =
    ap serves_of (back c.show_each.new.serves c.as_mut_slice.result.now c.args.serves.now.items c.args.serves.now.len c.args.serves.now.ok.0
    c.as_mut_slice.ensures.value c.show_each.auto.serves)
    ∙ c.show_each.ensures.serves ∙ ap serves_of c.as_mut_slice.ensures.value

pub returns-clause-sums : goal.returns-clause-sums
returns-clause-sums c = λ a f n i d inside next small here there is.
    let shown = rw c.as_mut_slice.ensures.value at c.show_each.ensures.sums in
    subst (λ (xs : List Served). AreServeSums a f c.args.from c.args.second (get_or xs i d).sums)
    (sym (back c.show_each.new.serves c.as_mut_slice.result.now c.args.serves.now.items c.args.serves.now.len c.args.serves.now.ok.0
    c.as_mut_slice.ensures.value c.show_each.auto.serves))
    (shown a f n i d inside next small here there is)
