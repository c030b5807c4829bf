use Rattle.std.proofs.Common.{◌≡◌, true, arith}
use Rattle.std.specs.List.{list_all}
use Rattle.sig_types.specs.Number.{fits}
use Rattle.std.proofs.lemmas.List.Elements.{All-map}
use Rattle.code_file.proofs.ranges.array_ranges.Goals as goal

pub returns : goal.returns
returns c = All-map (λ a. list_all fits a ≡ true) (λ a. a.items) c.args.arrays.now
    (λ k d lt. c.loop-array.invariant k d (omega (arith, lt, c.loop-array-test.false)))
