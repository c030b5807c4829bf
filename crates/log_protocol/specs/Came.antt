-- What came in a history, all of it, with an unknown past before it.
use Rattle.std.specs.Prelude.{ℕ, zero, suc, ◌-◌, max, Bool, false, ◌&&◌, List, [], ◌∷◌, ◌++◌, length, Option, None, Some, if◌then◌else◌, nat_lt}
use Rattle.sig_types.specs.Turns.{History, Trace, trace, is_green}
use Rattle.log_judge.specs.declared.find.Terms.{Terms}
use Rattle.log_judge.specs.declared.protocol.Kind.{Kind}
use Rattle.log_judge.specs.declared.protocol.Extremes.{Extremes}
use Rattle.log_judge.specs.Past.{since, last_end}
use Rattle.log_judge.specs.Breaches.{is_known}
use Rattle.log_judge.specs.Came.{from_of, is_change, last_green_to, turned_green}
use Rattle.log_protocol.specs.declared.together.Together.{Together}

-- nothing is known of the time before a history, and an amber or a red-amber may differ from its time by the tolerance
abbrev pub unknown_past : ℕ → Terms
unknown_past tolerance = record { rested = false; tolerance = tolerance }

-- what each number below n gives, one after another
abbrev pub gather : {A : Type 0} → (ℕ → List A) → ℕ → List A
gather f zero = []
gather f (suc n) = gather f n ++ f n

-- something that lasted so many seconds and was over in this one
pub record Lasted : Type 0 where
  pub seconds : ℕ
  pub over : ℕ

-- what was over in second t and began in s, where there is one and its beginning is known
abbrev pub lasted : Option ℕ → ℕ → List Lasted
lasted None t = []
lasted (Some s) t = if is_known (unknown_past 0) s then record { seconds = t - s; over = t } ∷ [] else []

-- the greens, reds, red-ambers or ambers of a group that began within the history and are over up to second m
abbrev pub runs_of : Kind → Trace → ℕ → List Lasted
runs_of kind a m = gather (λ t. lasted (from_of kind (a t) (a (suc t)) (since a t) (suc t)) (suc t)) m

-- a green in second t after the last end of another group, where there is one and the green is the first since that end
abbrev pub change : Bool → Option ℕ → Option ℕ → ℕ → List Lasted
change turned green None t = []
change turned green (Some b) t = if turned && is_change green b then record { seconds = t - b; over = t } ∷ [] else []

-- the changes up to second m from a group with the trace a to one with the trace c
abbrev pub changes_of : Trace → Trace → ℕ → List Lasted
changes_of a c m = gather (λ t. change (turned_green (c t) (c (suc t))) (last_green_to c t) (last_end false a (suc t)) (suc t)) m

-- the seconds below n in which both groups are green
abbrev pub both_green : Trace → Trace → ℕ → List ℕ
both_green a c n = gather (λ t. if is_green (a t) && is_green (c t) then t ∷ [] else []) n

-- of two the later one only where it is shorter
abbrev pub shorter : Lasted → Lasted → Lasted
shorter x y = if nat_lt y.seconds x.seconds then y else x

-- of one and those after it the first of the shortest
abbrev pub shortest_from : Lasted → List Lasted → Lasted
shortest_from x [] = x
shortest_from x (y ∷ rest) = shortest_from (shorter x y) rest

-- the first of the shortest
abbrev pub shortest : List Lasted → Lasted
shortest [] = record { seconds = 0; over = 0 }
shortest (x ∷ rest) = shortest_from x rest

-- how long the longest is
abbrev pub longest : List Lasted → ℕ
longest [] = 0
longest (x ∷ rest) = max x.seconds (longest rest)

-- how many there are, the first of the shortest, and the longest
abbrev pub extremes : List Lasted → Extremes
extremes xs = record { count = length xs; least = (shortest xs).seconds; second = (shortest xs).over; most = longest xs }

-- the first of some seconds
abbrev pub first_of : List ℕ → ℕ
first_of [] = 0
first_of (t ∷ rest) = t

-- how many seconds there are, and the first
abbrev pub together : List ℕ → Together
together seconds = record { seconds = length seconds; first = first_of seconds }

-- what came of each group, in the changes to a group from another, and in the seconds in which two groups were green
pub record Came : Type 0 where
  pub runs : Kind → ℕ → Extremes
  pub changes : (to from : ℕ) → Extremes
  pub greens : ℕ → ℕ → Together

-- what came in a history
abbrev pub came_in : History → Came
came_in h = record {
  runs = λ kind g. extremes (runs_of kind (trace h g) (length h - 1));
  changes = λ to from. extremes (changes_of (trace h from) (trace h to) (length h - 1));
  greens = λ g i. together (both_green (trace h g) (trace h i) (length h));
}
