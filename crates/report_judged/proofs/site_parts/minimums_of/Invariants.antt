use Rattle.std.proofs.Common.{◌≡◌}
use Rattle.sig_tables.specs.TimesTable.{row_of}
use Rattle.report_judged.specs.SiteParts.{minimums_to}
use Rattle.report_judged.proofs.site_parts.minimums_of.Given as goal

abbrev pub invariant-loop-group : goal.invariant-loop-group
invariant-loop-group l = l.minimums.items ≡ minimums_to (λ g. (row_of l.times g).min) l.group
