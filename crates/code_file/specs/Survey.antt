-- The numbers of a line, as far as they were read.
use Rattle.std.specs.Prelude.{◌≡◌, ◌≤◌, ℕ, Bool, true, List, ◌++◌, length, min, Option, None, Some, ℤ}
use Rattle.std.specs.List.{list_all}
use Rattle.sig_types.specs.Limits.{most_array_cells}
use Rattle.sig_types.specs.Number.{fits}
use Rattle.code_file.specs.Reading.{pieces, all_signed}

-- numbers after those that were read before
abbrev pub after_beginning : List ℤ → Option (List ℤ) → Option (List ℤ)
after_beginning beginning None = None
after_beginning beginning (Some vs) = Some (beginning ++ vs)

-- `count` numbers were read (5,000 stand for 5,000 or more); `fit` is whether all fit 32 bits; and where they do and are at
-- most 1,024, they are kept
pub record Surveys (count : ℕ) (fit : Bool) (kept : List ℤ) (beginning : List ℤ) : Type 0 where
  pub counted : count ≡ min (length beginning) 5000
  pub fitting : fit ≡ list_all fits beginning
  pub same : fit ≡ true → count ≤ most_array_cells → kept ≡ beginning

-- the line begins with numbers that were surveyed so, and this rest follows
abbrev pub BeginsWith : List ℕ → List ℕ → ℕ → Bool → List ℤ → Type 0
BeginsWith line rest count fit kept =
    (beginning : List ℤ) × Surveys count fit kept beginning × (all_signed (pieces line) ≡ after_beginning beginning (all_signed (pieces rest)))
