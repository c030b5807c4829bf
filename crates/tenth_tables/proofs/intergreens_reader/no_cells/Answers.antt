use Rattle.std.proofs.Common.{rules, ◌≡◌, ℕ, Option, None, replicate}
use Rattle.sig_tables.proofs.Places.{all_empty, none_held}
use Rattle.tenth_tables.proofs.intergreens_reader.no_cells.Goals as goal

pub returns-in-Ok-clause-empty : goal.returns-in-Ok-clause-empty
returns-in-Ok-clause-empty c = λ k.
    let is : c.in-Ok.cells.items ≡ replicate {A = Option ℕ} c.args.places None = search rules in
    rw is (none_held ℕ c.args.places k)

pub returns-in-Ok-clause-empties : goal.returns-in-Ok-clause-empties
returns-in-Ok-clause-empties c =
    let is : c.in-Ok.cells.items ≡ replicate {A = Option ℕ} c.args.places None = search rules in
    rw is (all_empty ℕ c.args.places)
