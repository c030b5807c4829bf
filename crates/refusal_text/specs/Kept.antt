-- What a finder of refusals stands for.
use Rattle.std.specs.Prelude.{◌≡◌, ℕ, Bool, List, [], ◌∷◌, ◌++◌, length, map}
use Rattle.sig_types.specs.declared.record.Record.{Record}
use Rattle.sig_types.specs.Rules.{Rules}
use Rattle.log_judge.specs.Stands as stands
use Rattle.refusal_text.specs.declared.finder.Refusals.{Refusals}
use Rattle.refusal_text.specs.Refusals.{first_known, known_before, refusals_from, terms_from}
use Rattle.refusal_text.specs.Text.{found_text}

-- the number of its groups
unfoldable pub groups_of : Refusals → ℕ
groups_of s = s.groups

-- the number of records that it was shown
unfoldable pub records_of : Refusals → ℕ
records_of s = s.records

-- the seconds that are asked for
pub record IsAsked (s : Refusals) (from to : ℕ) : Type 0 where
  pub from_is : s.from ≡ from
  pub to_is : s.to ≡ to

-- it was shown no record
pub record IsFresh (s : Refusals) (r : Rules) (from to : ℕ) : Type 0 where
  pub groups : r.count ≡ s.groups
  pub none : s.records ≡ 0
  pub asked : IsAsked s from to
  pub found : s.found.items ≡ []

-- it was shown these records of a log whose first one has this second
pub record IsOn (s : Refusals) (r : Rules) (second from to : ℕ) (records : List Record) : Type 0 where
  pub groups : r.count ≡ s.groups
  pub count : length records ≡ s.records
  pub asked : IsAsked s from to
  pub terms : stands.terms_of s.judge ≡ terms_from second
  pub stands : stands.StandsFor s.judge (known_before r.count second ++ map (λ x. x.picture) records)
  pub first : s.first ≡ first_known second
  pub found : s.found.items ≡ refusals_from r second from to records

-- it has found what was refused in these records of a log, in the seconds that are asked for
unfoldable pub HasFound : Refusals → Rules → (from to : ℕ) → List Record → Type 0
HasFound s r from to [] = IsFresh s r from to
HasFound s r from to (x ∷ xs) = IsOn s r x.second.0 from to (x ∷ xs)

-- the text of what it has found
unfoldable pub told_text : Bool → List (List ℕ) → Refusals → List ℕ
told_text csv names s = found_text csv names s.first s.found.items
