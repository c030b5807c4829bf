-- What the next lines of two logs show.
use Rattle.std.specs.Prelude.{◌≡◌, ℕ, ◌-◌, ◌<◌, List, [], ◌∷◌, length}
use Rattle.sig_types.specs.declared.record.Record.{Record}
use Rattle.log_read.specs.Records.{IsEntry}
use Rattle.log_read.specs.Watchers.{told_lines}
use Rattle.log_compare.specs.declared.difference.Difference.TheVariants.{Nowhere, OneEnds, OtherEnds, In}
use Rattle.log_compare.specs.declared.difference.Step.{Step}
use Rattle.log_compare.specs.declared.difference.Step.TheVariants.{Found, Same}

-- two lines of this second say the same record
abbrev pub SaysSame : List (List ℕ) → ℕ → List ℕ → List ℕ → Type 0
SaysSame names second one other = (r s : Record) → IsEntry names second one r → IsEntry names second other s → r ≡ s

-- or different ones
abbrev pub SaysOther : List (List ℕ) → ℕ → List ℕ → List ℕ → Type 0
SaysOther names second one other = (r s : Record) → IsEntry names second one r → IsEntry names second other s → r ≡ s → ⊥

-- the first line that tells a log is this one, and those of the rest follow
abbrev pub Begins : List ℕ → List ℕ → List ℕ → Type 0
Begins text line rest = told_lines text ≡ line ∷ told_lines rest

-- both texts have a line more, which say the same
pub record GoesOn (names : List (List ℕ)) (second : ℕ) (one other rest other_rest : List ℕ) : Type 0 where
  pub line : List ℕ
  pub other_line : List ℕ
  pub begins : Begins one line rest
  pub other_begins : Begins other other_line other_rest
  pub same : SaysSame names second line other_line
  pub shorter : length rest < length one

-- both texts have a line more, which are these and say different records
pub record Parts (names : List (List ℕ)) (second : ℕ) (one other line other_line : List ℕ) : Type 0 where
  pub rest : List ℕ
  pub other_rest : List ℕ
  pub begins : Begins one line rest
  pub other_begins : Begins other other_line other_rest
  pub differs : SaysOther names second line other_line

-- one text is over, and the other has a line more
pub record Stops (second last : ℕ) (one other : List ℕ) : Type 0 where
  pub over : told_lines one ≡ []
  pub more : 0 < length (told_lines other)
  pub last_is : last ≡ second - 1

-- what the next lines of two texts show, which are those of this second
abbrev pub IsStep : List (List ℕ) → ℕ → List ℕ → List ℕ → Step → Type 0
IsStep names second one other (Found Nowhere) = (told_lines one ≡ []) × (told_lines other ≡ [])
IsStep names second one other (Found (OneEnds last)) = Stops second last one other
IsStep names second one other (Found (OtherEnds last)) = Stops second last other one
IsStep names second one other (Found (In at line other_line)) = (at ≡ second) × Parts names second one other line.now other_line.now
IsStep names second one other (Same rest other_rest) = GoesOn names second one other rest.now other_rest.now
