-- Detectors that serve a group, and what they saw.
use Rattle.std.specs.Prelude.{ℕ, ◌-◌, ◌<◌, Bool, false, List, All, length, map, slice_index_or, if◌then◌else◌}
use Rattle.sig_types.specs.declared.aspect.Aspect.{Aspect}
use Rattle.sig_types.specs.declared.aspect.Aspect.TheVariants.{Red}
use Rattle.sig_types.specs.declared.record.Record.{Record}
use Rattle.sig_types.specs.Counts.{Counts, count_in, fronts}
use Rattle.log_sums.specs.ServeSums.{AreServeSums}
use Rattle.log_sums.specs.Series.{sum_to}
use Rattle.log_sums.specs.declared.serves.Serve.{Serve}
use Rattle.log_sums.specs.declared.serves.Served.{Served}
use Rattle.log_sums.specs.Told.{AgreesTo, shown_by, told}

-- the fronts of these detectors in a frame: detector d is one of them where place d - 1 says so
unfoldable pub fronts_at : List Bool → Counts → ℕ
fronts_at detectors frame = sum_to (λ d. if slice_index_or detectors (d - 1) false then count_in fronts d frame else 0) 64

-- their fronts in a record
abbrev pub fronts_of : List Bool → Record → ℕ
fronts_of detectors r = fronts_at detectors r.frame

-- which detectors these are of which groups
abbrev pub serves_of : List Served → List Serve
serves_of xs = map (λ x. x.serve) xs

-- each of them saw what these records tell; seconds from `from` on count
abbrev pub AreServed : ℕ → List Record → List Served → Type 0
AreServed from records xs =
    All (λ x. AreServeSums (told (shown_by x.serve.group.0) Red records) (told (fronts_of x.serve.detectors) 0 records) from (length records) x.sums) xs

-- the same, whatever follows these records
abbrev pub AddServes : ℕ → List Record → List Served → Type 0
AddServes from records xs = (i : ℕ) (d : Served) → i < length xs → (a : ℕ → Aspect) (f : ℕ → ℕ) →
    AgreesTo a (told (shown_by (slice_index_or xs i d).serve.group.0) Red records) (length records) →
    AgreesTo f (told (fronts_of (slice_index_or xs i d).serve.detectors) 0 records) (length records) →
    AreServeSums a f from (length records) (slice_index_or xs i d).sums
