-- The numbers of a site's tables.
use Rattle.std.proofs.Common.{ℕ, ◌<◌, List, length}
use Rattle.std.proofs.lemmas.List.Elements.{All-contains, Contains-get_or}
use Rattle.sig_tables.specs.declared.times.TimesRow.{TimesRow}
use Rattle.sig_tables.specs.Pairs.{Pairs, ArePairs}
use Rattle.sig_tables.specs.SiteRules.{rules_of}
use Rattle.sig_tables.specs.TimesTable.{AreTimes, IsRow, row_of, no_times}
use Rattle.sig_guard.proofs.TwoWay.{two_way}
use Rattle.sig_response.specs.Laws.{IsSite}

pub row_is : (times : List TimesRow) (g : ℕ) → AreTimes times → g < length times → IsRow (row_of times g)
row_is times g are lt = All-contains IsRow times (row_of times g) are.range (Contains-get_or times g no_times lt)

pub site_of : (times : List TimesRow) (pairs : Pairs) → AreTimes times → ArePairs pairs → IsSite (rules_of times pairs)
site_of times pairs are are' = record {
  two_way = two_way times pairs are';
  green = λ g lt. (let row = row_is times g are lt in row.min);
  red = λ g lt. (let row = row_is times g are lt in row.min_red);
}
