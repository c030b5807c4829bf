-- What a plan holds.
use Rattle.std.specs.Prelude.{◌≡◌, ℕ, ◌-◌, ◌<◌, ◌≤◌, ◌==◌, Bool, true, false, not, ◌&&◌, ◌||◌, List, [], ◌∷◌, length, slice_index_or, Option, Some, None, if◌then◌else◌, ℤ, pos, negsuc, nat_le, nat_lt, int_le}
use Rattle.std.specs.List.{list_any, position}
use Rattle.sig_types.specs.declared.numbers.GroupNo.{GroupNo}
use Rattle.sig_types.specs.declared.numbers.StageNo.{StageNo}
use Rattle.sig_types.specs.declared.numbers.InterNo.{InterNo}
use Rattle.sig_types.specs.Text.{is_name, same_name}
use Rattle.pua_model.specs.Wish.{wished_by, leads}

-- an interstage: its stages, its length in seconds, and for each group its red end and its green end where it has a row
pub record InterstageOf : Type 0 where
  pub from : ℕ
  pub to : ℕ
  pub length : ℕ
  pub rows : List (Option (ℤ × ℤ))

-- groups by their names and numbers, in rising order of the numbers; stages by their names and the groups that are green in
-- them, in the order of the file; the starting stage; the interstages, in the order of the file
pub record PlanOf : Type 0 where
  pub names : List (List ℕ)
  pub numbers : List ℕ
  pub stage_names : List (List ℕ)
  pub stages : List (List Bool)
  pub start : ℕ
  pub interstages : List InterstageOf

-- stands for the interstage at a place where the plan has none
abbrev pub no_interstage : InterstageOf
no_interstage = record { from = 0; to = 0; length = 0; rows = [] }

-- how many groups a plan has
abbrev pub groups_in : PlanOf → ℕ
groups_in p = length p.names

-- stages are numbered from 1
abbrev pub HasStage : PlanOf → ℕ → Type 0
HasStage p s = (1 ≤ s) × (s ≤ length p.stages)

-- the group is green in the stage
abbrev pub in_stage : PlanOf → ℕ → ℕ → Bool
in_stage p s g = slice_index_or (slice_index_or p.stages (s - 1) []) g false

-- the interstage leads from the one stage to the other
abbrev pub joins : ℕ → ℕ → InterstageOf → Bool
joins a b w = (w.from == a) && (w.to == b)

-- the number of the interstage of a pair of stages
abbrev pub interstage_between : PlanOf → ℕ → ℕ → Option ℕ
interstage_between p a b = position (joins a b) p.interstages

-- the interstage with this number, which counts from 0
abbrev pub interstage_at : PlanOf → ℕ → InterstageOf
interstage_at p i = slice_index_or p.interstages i no_interstage

-- the length of the interstage with this number, in seconds
abbrev pub length_at : PlanOf → Option ℕ → Option ℕ
length_at p None = None
length_at p (Some i) = Some (interstage_at p i).length

-- the length of the interstage of a pair of stages
abbrev pub length_between : PlanOf → ℕ → ℕ → Option ℕ
length_between p a b = length_at p (interstage_between p a b)

-- the row of a group in an interstage
abbrev pub row_at : PlanOf → ℕ → ℕ → Option (ℤ × ℤ)
row_at p i g = slice_index_or (interstage_at p i).rows g None

-- the wish of a group in second t of an interstage
abbrev pub wish_in : PlanOf → ℕ → ℕ → ℕ → Bool
wish_in p i t g = wished_by (row_at p i g) (pos t) (in_stage p (interstage_at p i).from g)

-- the place of the group with this number
abbrev pub group_with : PlanOf → ℕ → Option ℕ
group_with p n = position (λ k. k == n) p.numbers

-- the place of the group with this name, in any case
abbrev pub group_named : PlanOf → List ℕ → Option ℕ
group_named p name = position (λ n. same_name n name) p.names

-- the place of the group that a number names
unfoldable pub group_of : PlanOf → ℤ → Option ℕ
group_of plan (pos n) = group_with plan n
group_of plan (negsuc n) = None

-- the stage that a number names: one from 1 to the number of stages
unfoldable pub stage_of : PlanOf → ℤ → Option ℕ
stage_of plan (pos n) = if nat_le 1 n && nat_le n (length plan.stages) then Some n else None
stage_of plan (negsuc n) = None

-- a group's place as a plain number
abbrev pub group_number : Option GroupNo → Option ℕ
group_number None = None
group_number (Some g) = Some g.0

-- the name of a group among these names
abbrev pub name_of : List (List ℕ) → GroupNo → List ℕ
name_of names g = slice_index_or names g.0 []

-- a stage's number as a plain number
abbrev pub stage_number : Option StageNo → Option ℕ
stage_number None = None
stage_number (Some s) = Some s.0

-- an interstage's number as a plain number
abbrev pub inter_number : Option InterNo → Option ℕ
inter_number None = None
inter_number (Some i) = Some i.0

-- each of the texts is a name
abbrev pub are_names : List (List ℕ) → Bool
are_names [] = true
are_names (n ∷ ns) = is_name n && are_names ns

-- one of the names is this one, in any case
abbrev pub stands_in : List ℕ → List (List ℕ) → Bool
stands_in name [] = false
stands_in name (n ∷ ns) = same_name n name || stands_in name ns

-- no name stands twice, in any case
abbrev pub are_apart : List (List ℕ) → Bool
are_apart [] = true
are_apart (n ∷ ns) = not (stands_in n ns) && are_apart ns

-- numbers from 1 to 255, each less than the next
abbrev pub is_above : ℕ → List ℕ → Bool
is_above least [] = true
is_above least (n ∷ ns) = nat_lt least n && nat_le n 255 && is_above n ns

-- a red end or a green end is a second from -127 to 127
abbrev pub is_end : ℤ → Bool
is_end e = int_le (negsuc 126) e && int_le e (pos 127)

-- a row, where there is one, has a red end and a green end in range
abbrev pub is_row : Option (ℤ × ℤ) → Bool
is_row None = true
is_row (Some row) = is_end row.0 && is_end row.1

-- one of the interstages leads from stage a to stage b
abbrev pub has_pair : ℕ → ℕ → List InterstageOf → Bool
has_pair a b ws = list_any (joins a b) ws

-- no two interstages are of one pair of stages
abbrev pub are_pairs_apart : List InterstageOf → Bool
are_pairs_apart [] = true
are_pairs_apart (w ∷ ws) = not (has_pair w.from w.to ws) && are_pairs_apart ws

-- an interstage of a plan
pub record IsInterstageOf (p : PlanOf) (w : InterstageOf) : Type 0 where
  pub at_least : 1 ≤ w.length
  pub at_most : w.length ≤ 126
  pub from : HasStage p w.from
  pub to : HasStage p w.to
  pub apart : (w.from == w.to) ≡ false
  pub rows : length w.rows ≡ length p.names
  pub ends : (g : ℕ) → g < length p.names → is_row (slice_index_or w.rows g None) ≡ true
  pub consistent : (g : ℕ) → g < length p.names →
      leads (slice_index_or w.rows g None) (in_stage p w.from g) (in_stage p w.to g) w.length ≡ true

-- what a plan keeps
pub record IsPlan (p : PlanOf) : Type 0 where
  pub has_groups : 1 ≤ length p.names
  pub groups_at_most : length p.names ≤ 64
  pub numbered : length p.numbers ≡ length p.names
  pub names : are_names p.names ≡ true
  pub apart : are_apart p.names ≡ true
  pub rising : is_above 0 p.numbers ≡ true
  pub stages_at_most : length p.stages ≤ 32
  pub named_stages : length p.stage_names ≡ length p.stages
  pub stages : (s : ℕ) → s < length p.stages → length (slice_index_or p.stages s []) ≡ length p.names
  pub stage_names : are_names p.stage_names ≡ true
  pub stages_apart : are_apart p.stage_names ≡ true
  pub start : HasStage p p.start
  pub interstages_at_most : length p.interstages ≤ 256
  pub pairs_apart : are_pairs_apart p.interstages ≡ true
  pub interstages : (i : ℕ) → i < length p.interstages → IsInterstageOf p (interstage_at p i)
