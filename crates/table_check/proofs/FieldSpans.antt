-- The field at a place of a record.
use Rattle.std.proofs.Common.{◌≡◌, ℕ, zero, suc, List, [], ◌∷◌, Some, None, refl, sym}
use Rattle.std.proofs.lemmas.Option.{same_Some, none-some}
use Rattle.csv.specs.Records.{field_at}
use Rattle.sig_tables.specs.Records.{Row, field}

pub field_there : (row : Row) (k : ℕ) (f : List ℕ) → Some f ≡ field_at row k → f ≡ field row k
unfolding field_at
field_there [] k f is = absurd (none-some _ (sym is))
field_there (x ∷ xs) zero f is = same_Some _ _ is
field_there (x ∷ xs) (suc k) f is = field_there xs k f is

pub field_none : (row : Row) (k : ℕ) → None ≡ field_at row k → [] ≡ field row k
unfolding field_at
field_none [] k is = refl
field_none (x ∷ xs) zero is = absurd (none-some _ is)
field_none (x ∷ xs) (suc k) is = field_none xs k is
