-- Two logs are told as alike exactly where they are.
use Rattle.std.proofs.Common.{◌≡◌, ℕ, ◌-◌, true, false, List, length, get_or, Option, None, Some, sym, ap, arith}
use Rattle.sig_types.specs.declared.record.Record.{Record}
use Rattle.log_read.specs.declared.begin.Begin.TheVariants.{AtOne}
use Rattle.log_read.proofs.Entries.{no_record}
use Rattle.log_read.proofs.LogLaws.{one_found, one_header}
use Rattle.log_compare.specs.declared.difference.Difference.{Difference}
use Rattle.log_compare.specs.declared.difference.Difference.TheVariants.{Nowhere, OneEnds, OtherEnds, In}
use Rattle.log_compare.specs.Difference.{EndsFirst}
use Rattle.report_seen.specs.CompareLaws.{AlikeIsTold, AreAlike}
use Rattle.report_seen.specs.Told.{IsFound, differs}

true_false : true ≡ false → ⊥
true_false e = cc

false_true : false ≡ true → ⊥
false_true e = cc

-- logs of which one ends before the other are not the same
not_same : (last : ℕ) (rs ss : List Record) → EndsFirst last rs ss → rs ≡ ss → ⊥
not_same last rs ss ends same = omega (arith, ends.count, ends.goes_on, ap length same)

-- what is found tells whether they are alike
by_found : (names others : List (List ℕ)) (bytes other_bytes : List ℕ) (rs ss : List Record) (d : Option Difference) →
    IsFound names others bytes other_bytes rs ss d →
    (differs d ≡ false → AreAlike names others rs ss) × (differs d ≡ true → AreAlike names others rs ss → ⊥)
by_found names others bytes other_bytes rs ss None found = (λ e. absurd (true_false e), λ e alike. found alike.names_are)
by_found names others bytes other_bytes rs ss (Some Nowhere) found =
    (λ e. record { names_are = found.0; records_are = found.1 }, λ e alike. absurd (false_true e))
by_found names others bytes other_bytes rs ss (Some (OneEnds last)) found =
    (λ e. absurd (true_false e), λ e alike. not_same last rs ss found.1 alike.records_are)
by_found names others bytes other_bytes rs ss (Some (OtherEnds last)) found =
    (λ e. absurd (true_false e), λ e alike. not_same last ss rs found.1 (sym alike.records_are))
by_found names others bytes other_bytes rs ss (Some (In second one other)) found = (
  λ e. absurd (true_false e),
  λ e alike. found.1.0.differs no_record (ap (λ (xs : List Record). get_or xs (second - 1) no_record) alike.records_are),
)

pub alike_is_told : AlikeIsTold
alike_is_told asked bytes other_bytes differ text told names others rs ss is too =
    let named = one_header AtOne told.names names bytes told.sums_are.records rs told.sums_are.log is in
    let other_named = one_header AtOne told.others others other_bytes told.other_sums_are.records ss told.other_sums_are.log too in
    let same = (one_found AtOne told.names names bytes told.sums_are.records rs None None told.sums_are.log is).0 in
    let other_same = (one_found AtOne told.others others other_bytes told.other_sums_are.records ss None None told.other_sums_are.log too).0 in
    rw (← named, ← other_named, ← same, ← other_same, told.differ_is)
    (by_found told.names told.others bytes other_bytes told.sums_are.records told.other_sums_are.records told.difference told.found)
