-- Numbers that are all there.
use Rattle.std.proofs.Common.{◌≡◌, ℕ, Option, Some, None, refl}
use Rattle.std.specs.Prelude.{is_some, ◌&&◌}
use Rattle.sig_tables.specs.TimesTable.{times_with}

-- four numbers are times where each is there
pub all_there : (min red_amber amber min_red : Option ℕ) →
    is_some (times_with min red_amber amber min_red) ≡ (is_some min && (is_some red_amber && (is_some amber && is_some min_red)))
all_there None r a m = refl
all_there (Some x) None a m = refl
all_there (Some x) (Some r) None m = refl
all_there (Some x) (Some r) (Some a) None = refl
all_there (Some x) (Some r) (Some a) (Some m) = refl
