-- The numbers of a site that are asked of pictures, by tables of whole seconds or of tenths.
use Rattle.std.specs.Prelude.{◌≡◌, ℕ, ◌≤◌, List, Some, length, All}
use Rattle.sig_tables.specs.declared.times.TimesRow.{TimesRow}
use Rattle.sig_tables.specs.Pairs.{Pairs, between}

-- the rows of times, and the intergreens
pub record Numbers : Type 0 where
  pub times : List TimesRow
  pub pairs : Pairs

-- no time is above 2,550
pub record IsLow (row : TimesRow) : Type 0 where
  pub min : row.min ≤ 2550
  pub red_amber : row.red_amber ≤ 2550
  pub amber : row.amber ≤ 2550
  pub min_red : row.min_red ≤ 2550

-- as many rows as groups, and no number above 2,550
pub record AreNumbers (n : Numbers) : Type 0 where
  pub at_most : n.pairs.count ≤ 64
  pub rows : length n.times ≡ n.pairs.count
  pub size : length n.pairs.cells ≡ 4096
  pub low : All IsLow n.times
  pub seconds : (i g z : ℕ) → between n.pairs i g ≡ Some z → z ≤ 2550
