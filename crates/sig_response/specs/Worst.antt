-- Which group makes the bound of a site, and why.
use Rattle.std.specs.Prelude.{◌≡◌, ℕ, ◌<◌, ◌≤◌}
use Rattle.sig_types.specs.Rules.{Rules}
use Rattle.sig_response.specs.declared.worst.Cause.{Cause}
use Rattle.sig_response.specs.declared.worst.Cause.TheVariants as cause
use Rattle.sig_response.specs.declared.worst.WorstCase.{WorstCase}
use Rattle.sig_response.specs.Bounds.{greatest, intergreen, red_within, green_again_within, free_within, all_free_within, green_within, group_within, shown_within}

-- the first of so many places that has the greatest number
pub record IsFirstGreatest (number : ℕ → ℕ) (count place : ℕ) : Type 0 where
  pub inside : place < count
  pub most : number place ≡ greatest number count
  pub first : (lower : ℕ) → lower < place → number lower < number place

-- the seconds of a group are those that a group in conflict with it takes; the other one is the lowest that takes so long
pub record IsHeldBy (site : Rules) (group other : ℕ) : Type 0 where
  pub green : red_within site group < green_within site group
  pub by_another : green_again_within site group < all_free_within site group
  pub slowest : IsFirstGreatest (free_within site group) site.count other

-- the first cause, in the order of the list, for which a group takes its seconds
abbrev pub IsCause : Rules → (group : ℕ) → Cause → Type 0
IsCause site group cause.MinimumGreen = green_within site group ≤ red_within site group
IsCause site group cause.MinimumRed =
    (red_within site group < green_within site group) × (all_free_within site group ≤ green_again_within site group)
IsCause site group (cause.Intergreen other) =
    IsHeldBy site group other.0 × (site.red_amber group ≤ intergreen site other.0 group)
IsCause site group (cause.RedAmber other) =
    IsHeldBy site group other.0 × (intergreen site other.0 group < site.red_amber group)

-- the bound of a site, the lowest group that takes so long, and the first cause for which it does
pub record IsWorstCase (site : Rules) (worst : WorstCase) : Type 0 where
  pub seconds : worst.seconds ≡ shown_within site
  pub group : IsFirstGreatest (group_within site) site.count worst.group.0
  pub cause : IsCause site worst.group.0 worst.cause
