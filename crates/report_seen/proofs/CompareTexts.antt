-- What is told of two logs.
use Rattle.std.proofs.Common.{◌≡◌, ℕ, Bool, List, [], Option, Result, Ok, Err, refl}
use Rattle.std.specs.Prelude.{IfErr, IfOk}
use Rattle.report_words.specs.declared.stop.JudgeStop.{JudgeStop}
use Rattle.report_words.specs.declared.stop.JudgeStop.TheVariants as stop
use Rattle.log_compare.specs.declared.difference.Difference.{Difference}
use Rattle.log_sums.specs.declared.sums.LogSums.{LogSums}
use Rattle.log_sums.specs.Serves.{serves_of}
use Rattle.report_seen.specs.Summed.{AreSumsIn}
use Rattle.report_seen.specs.CompareForm.{Asked}
use Rattle.report_seen.specs.Told.{IsFound, IsOfTelling, IsTextOf, IsTold, IsWritten, differs, told_text}

-- the text of two logs, whose first difference was found
text_of : (asked : Asked) (bytes other_bytes : List ℕ) (names others : List (List ℕ)) (sums other_sums : LogSums)
    (are : AreSumsIn names bytes 1 604801 sums) (other_are : AreSumsIn others other_bytes 1 604801 other_sums) →
    serves_of sums.serves.items ≡ [] → serves_of other_sums.serves.items ≡ [] → (d : Option Difference) →
    IsFound names others bytes other_bytes are.records other_are.records d →
    (differ : Bool) → differ ≡ differs d → IsTextOf asked bytes other_bytes differ (told_text asked names others sums other_sums d)
text_of asked bytes other_bytes names others sums other_sums are other_are none other_none d found differ is = record {
  names = names;
  others = others;
  sums = sums;
  other_sums = other_sums;
  sums_are = are;
  other_sums_are = other_are;
  unserved = none;
  other_unserved = other_none;
  difference = d;
  found = found;
  differ_is = is;
  text_is = refl;
}

-- it is told where it is written
pub told : (asked : Asked) (bytes other_bytes : List ℕ) (names others : List (List ℕ)) (sums other_sums : LogSums)
    (are : AreSumsIn names bytes 1 604801 sums) (other_are : AreSumsIn others other_bytes 1 604801 other_sums) →
    serves_of sums.serves.items ≡ [] → serves_of other_sums.serves.items ≡ [] → (d : Option Difference) →
    IsFound names others bytes other_bytes are.records other_are.records d →
    (given : Result Bool JudgeStop) (old new : Option (List ℕ)) → IfOk given (λ differ. differ ≡ differs d) → IfErr given IsOfTelling →
    IsWritten (told_text asked names others sums other_sums d) given old new → IsTold asked bytes other_bytes given old new
told asked bytes other_bytes names others sums other_sums are other_are none other_none d found (Ok differ) old new is of written = (
  told_text asked names others sums other_sums d,
  (text_of asked bytes other_bytes names others sums other_sums are other_are none other_none d found differ is, written),
)
told asked bytes other_bytes names others sums other_sums are other_are none other_none d found (Err stop.Words) old new is of written = of
told asked bytes other_bytes names others sums other_sums are other_are none other_none d found (Err stop.Memory) old new is of written = absurd (not_write written.0)
  where
    not_write : stop.Memory ≡ stop.WriteFault → ⊥
    not_write e = cc
told asked bytes other_bytes names others sums other_sums are other_are none other_none d found (Err (stop.Site why)) old new is of written = of
told asked bytes other_bytes names others sums other_sums are other_are none other_none d found (Err (stop.ReadFault word)) old new is of written = of
told asked bytes other_bytes names others sums other_sums are other_are none other_none d found (Err (stop.RefusedLine word line why)) old new is of written = of
told asked bytes other_bytes names others sums other_sums are other_are none other_none d found (Err stop.WriteFault) old new is of written = (
  differs d,
  (
    told_text asked names others sums other_sums d,
    (text_of asked bytes other_bytes names others sums other_sums are other_are none other_none d found (differs d) refl, written.1),
  ),
)
