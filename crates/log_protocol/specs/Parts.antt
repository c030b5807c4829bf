-- What came in the parts of a record, of which each is a history of its own.
use Rattle.std.specs.Prelude.{ℕ, ◌+◌, ◌-◌, List, [], ◌∷◌, length, map}
use Rattle.std.specs.List.{flat_map}
use Rattle.sig_types.specs.Turns.{trace}
use Rattle.log_judge.specs.declared.protocol.Kind.{Kind}
use Rattle.tenth_records.specs.Parts.{Part}
use Rattle.log_protocol.specs.Came.{Came, Lasted, both_green, changes_of, extremes, runs_of, together}

-- how many ticks the parts have
unfoldable pub known_in : List Part → ℕ
known_in [] = 0
known_in (part ∷ parts) = length part.pictures + known_in parts

-- the same of a history that begins with this tick
abbrev pub moved : ℕ → Lasted → Lasted
moved first x = record { seconds = x.seconds; over = first + x.over }

-- the greens, reds, red-ambers or ambers of a group that began within the part and are over in it
abbrev pub runs_in : Kind → ℕ → Part → List Lasted
runs_in kind g part = map (moved part.first) (runs_of kind (trace part.pictures g) (length part.pictures - 1))

-- the changes of a part from one group to another
abbrev pub changes_in : (to from : ℕ) → Part → List Lasted
changes_in to from part =
    map (moved part.first) (changes_of (trace part.pictures from) (trace part.pictures to) (length part.pictures - 1))

-- the ticks of a part in which both groups are green
abbrev pub greens_in : ℕ → ℕ → Part → List ℕ
greens_in g i part =
    map (λ t. part.first + t) (both_green (trace part.pictures g) (trace part.pictures i) (length part.pictures))

-- what came in all parts, one after another; each tick has the number that the record gives it
abbrev pub came_in_parts : List Part → Came
came_in_parts parts = record {
  runs = λ kind g. extremes (flat_map (runs_in kind g) parts);
  changes = λ to from. extremes (flat_map (changes_in to from) parts);
  greens = λ g i. together (flat_map (greens_in g i) parts);
}
