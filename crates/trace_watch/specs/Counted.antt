-- How often statements began and tests were answered.
use Rattle.std.specs.Prelude.{◌≡◌, ℕ, suc, ◌<◌, ◌+◌, ◌-◌, ◌^◌, Bool, false, true, not, ◌&&◌, ◌==◌, List, ◌∷◌, count_by, if◌then◌else◌, length, min, slice_index_or, slice_set, ℤ}
use Rattle.sig_types.specs.Number.{holds}
use Rattle.vap_code.specs.declared.Instr.{Instr}
use Rattle.vap_code.specs.declared.Instr.TheVariants.{Tick, JumpZero}
use Rattle.vap_code.specs.Sights.{Sight}
use Rattle.trace_watch.specs.declared.counts.Counts.{Counts}

-- whether a tick finds a unit
abbrev pub spends : Instr → ℕ → Bool
spends (Tick line) (suc units) = true
spends i units = false

-- whether a test is answered yes
abbrev pub says_yes : Instr → List ℤ → Bool
says_yes (JumpZero place) (v ∷ below) = holds v
says_yes i operands = false

-- whether a test is answered no
abbrev pub says_no : Instr → List ℤ → Bool
says_no (JumpZero place) (v ∷ below) = not (holds v)
says_no i operands = false

-- a statement begins at this place
abbrev pub begins : ℕ → Sight → Bool
begins place s = s.state.place == place && spends s.instr s.state.units

-- a test at this place is answered yes
abbrev pub answers_yes : ℕ → Sight → Bool
answers_yes place s = s.state.place == place && says_yes s.instr s.state.operands

-- a test at this place is answered no
abbrev pub answers_no : ℕ → Sight → Bool
answers_no place s = s.state.place == place && says_no s.instr s.state.operands

-- the last value of a counter
abbrev pub most_counted : ℕ
most_counted = 2 ^ 64 - 1

-- counts with one more at a place, if it is to be counted there
abbrev pub counted_at : List ℕ → ℕ → Bool → List ℕ
counted_at counts place such =
    if such then slice_set counts place (min most_counted (slice_index_or counts place 0 + 1)) else counts

-- for each place so many sights are as a test tells, as far as a counter can tell
abbrev pub AreCounted : (ℕ → Sight → Bool) → List ℕ → List Sight → Type 0
AreCounted such counts sights =
    (place : ℕ) → place < length counts → slice_index_or counts place 0 ≡ min most_counted (count_by (such place) sights)

-- what an observer counted that has seen these
pub record HasCounted (c : Counts) (sights : List Sight) : Type 0 where
  pub begun : AreCounted begins c.begun.items sights
  pub yes : AreCounted answers_yes c.yes.items sights
  pub no : AreCounted answers_no c.no.items sights

-- it counts at so many places
pub record HasPlaces (c : Counts) (places : ℕ) : Type 0 where
  pub begun : length c.begun.items ≡ places
  pub yes : length c.yes.items ≡ places
  pub no : length c.no.items ≡ places

-- what an observer counted that began as the first and has seen these, at the places at which it counted then
pub record HasLooked (first now : Counts) (sights : List Sight) : Type 0 where
  pub counted : HasCounted now sights
  pub places : (places : ℕ) → HasPlaces first places → HasPlaces now places
