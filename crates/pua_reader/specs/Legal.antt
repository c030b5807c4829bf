-- What accepted lines keep.
use Rattle.std.specs.Prelude.{◌≡◌, ℕ, ◌<◌, ◌≤◌, ◌==◌, true, false, List, [], length, map, slice_index_or, None, IfSome}
use Rattle.pua_model.specs.declared.parts.Group.{Group}
use Rattle.pua_model.specs.declared.parts.Stage.{Stage}
use Rattle.pua_model.specs.Plan.{InterstageOf, no_interstage, are_names, are_apart, is_above, is_row, are_pairs_apart}
use Rattle.pua_model.specs.Wish.{leads}
use Rattle.pua_reader.specs.Words.{place_in_order}
use Rattle.pua_reader.specs.Interstages.{OpenInterstageOf, greens_in}
use Rattle.pua_reader.specs.PlanDraft.{PlanDraftOf}

-- at most 64 groups, whose names are names and differ, by rising numbers from 1 to 255
pub record AreGroups (groups : List Group) : Type 0 where
  pub at_most : length groups ≤ 64
  pub names : are_names (map (λ g. g.name) groups) ≡ true
  pub apart : are_apart (map (λ g. g.name) groups) ≡ true
  pub rising : is_above 0 (map (λ g. g.number) groups) ≡ true

-- at most 32 stages, whose names are names and differ, each with a green or a red for each group
pub record AreStages (groups : ℕ) (stages : List Stage) : Type 0 where
  pub at_most : length stages ≤ 32
  pub names : are_names (map (λ s. s.name) stages) ≡ true
  pub apart : are_apart (map (λ s. s.name) stages) ≡ true
  pub greens : (s : ℕ) → s < length stages → length (slice_index_or stages s (record { name = []; greens = [] })).greens ≡ groups

-- the number is that of a stage, from 1
abbrev pub IsStage : List Stage → ℕ → Type 0
IsStage stages s = (1 ≤ s) × (s ≤ length stages)

-- an interstage between two stages, which leads each group from its place in the one to that in the other
pub record Leads (groups : ℕ) (stages : List Stage) (w : InterstageOf) : Type 0 where
  pub at_least : 1 ≤ w.length
  pub at_most : w.length ≤ 126
  pub from : IsStage stages w.from
  pub to : IsStage stages w.to
  pub apart : (w.from == w.to) ≡ false
  pub rows : length w.rows ≡ groups
  pub ends : (g : ℕ) → g < groups → is_row (slice_index_or w.rows g None) ≡ true
  pub consistent : (g : ℕ) → g < groups →
      leads (slice_index_or w.rows g None) (greens_in stages w.from g) (greens_in stages w.to g) w.length ≡ true

-- at most 256 interstages of different pairs of stages, each of which leads
pub record AreInterstages (groups : ℕ) (stages : List Stage) (interstages : List InterstageOf) : Type 0 where
  pub at_most : length interstages ≤ 256
  pub apart : are_pairs_apart interstages ≡ true
  pub each : (i : ℕ) → i < length interstages → Leads groups stages (slice_index_or interstages i no_interstage)

-- the interstage under way has a length in range, stages of the file and ends in range, as far as they are given
pub record IsOpen (groups : ℕ) (stages : List Stage) (current : OpenInterstageOf) : Type 0 where
  pub seconds : IfSome current.length (λ n. (1 ≤ n) × (n ≤ 126))
  pub from : IfSome current.from (λ s. IsStage stages s.0)
  pub to : IfSome current.to (λ s. IsStage stages s.0)
  pub rows : length current.rows ≡ groups
  pub ends : (g : ℕ) → g < groups → is_row (slice_index_or current.rows g None) ≡ true

-- what the accepted lines have told so far is within all limits
pub record Legal (g : PlanDraftOf) : Type 0 where
  pub groups : AreGroups g.groups
  pub stages : AreStages (length g.groups) g.stages
  pub start : IfSome g.start (λ s. IsStage g.stages s.0)
  pub interstages : AreInterstages (length g.groups) g.stages g.interstages
  pub no_stages : place_in_order g.section ≤ 1 → g.stages ≡ []
  pub no_interstages : place_in_order g.section ≤ 3 → g.interstages ≡ []
  pub current : place_in_order g.section ≡ 4 → IsOpen (length g.groups) g.stages g.current
  pub room : place_in_order g.section ≡ 4 → length g.interstages < 256
