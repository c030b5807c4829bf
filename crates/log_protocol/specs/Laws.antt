-- What follows of the shortest, for every list.
use Rattle.std.specs.Prelude.{◌≡◌, ◌<◌, ◌≤◌, List, ◌∷◌, ◌++◌, length, All}
use Rattle.log_protocol.specs.Came.{Lasted, shortest}

-- it is one of them, each before it is longer, and none after it is shorter
pub record IsFirstShortest (xs : List Lasted) (x : Lasted) : Type 0 where
  pub front : List Lasted
  pub back : List Lasted
  pub whole : xs ≡ front ++ x ∷ back
  pub longer : All (λ y. x.seconds < y.seconds) front
  pub as_long : All (λ y. x.seconds ≤ y.seconds) back

-- of a list that isn't empty, what is told as the shortest is the first of the shortest
abbrev pub ShortestIsFirst : Type 0
ShortestIsFirst = (xs : List Lasted) → 1 ≤ length xs → IsFirstShortest xs (shortest xs)
