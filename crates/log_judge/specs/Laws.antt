-- Laws of breaches, over the definitions alone.
use Rattle.std.specs.Prelude.{◌≡◌, ℕ, ◌+◌, ◌<◌, ◌≤◌, max, ◌↔◌, Bool, true, false, List, [], ◌∷◌, ◌++◌, All, length, take, drop}
use Rattle.sig_types.specs.Turns.{Picture, History, trace}
use Rattle.sig_types.specs.Rules.{Rules, IsTwoWay}
use Rattle.sig_guard.specs.Safety.{Conflicting, IsHistory, Safe}
use Rattle.log_judge.specs.Refused.{HasSize, IsBorneOut}
use Rattle.sig_types.specs.Recorded.{IsTurn}
use Rattle.sig_types.specs.declared.refused.TurnRefusal.{TurnRefusal}
use Rattle.sig_guard.specs.Step.{last, last_picture, guard_picture, guard_refused}
use Rattle.log_judge.specs.declared.find.Terms.{Terms}
use Rattle.log_judge.specs.declared.past.GroupPast.{GroupPast}
use Rattle.log_judge.specs.declared.why.Finding.TheVariants.{Borne, Contradicted}
use Rattle.log_judge.specs.Breaches.{breaches}
use Rattle.log_judge.specs.Earliest.{free_from}
use Rattle.log_judge.specs.Explained.{finding_now, most_lacking_now}
use Rattle.log_judge.specs.Found.{past_at}
use Rattle.log_judge.specs.Stands.{past_of}

-- a history from an all-red second 0 on, at rest, has no breach exactly where it is safe
abbrev pub NoBreachIsSafe : Type 0
NoBreachIsSafe =
    (r : Rules) (h : History) → IsTwoWay r → IsHistory r.count h →
    (breaches r (record { rested = true; tolerance = 0 }) h ≡ []) ↔ Safe r h

-- no part of a safe history has a breach, whatever was before it, and whatever the tolerance
abbrev pub PartsHaveNone : Type 0
PartsHaveNone =
    (r : Rules) (h : History) (from to tolerance : ℕ) → IsHistory r.count h → Safe r h →
    breaches r (record { rested = false; tolerance = tolerance }) (drop from (take to h)) ≡ []

-- Of two groups in conflict neither shows amber while the other does: from the end of the one to that of the other the intergreen, or
-- the red-amber, and the minimum green have to pass, which is no less than the amber of the first.
abbrev pub AmbersApart : Rules → Type 0
AmbersApart site =
    (clearing entering intergreen : ℕ) → Conflicting site clearing entering intergreen →
    site.amber clearing ≤ max intergreen (site.red_amber entering) + max (site.minimum_green entering) 1

-- these pictures may come behind others, from an all-red second 0 on, as a safe history
abbrev pub HasSafePast : Rules → History → Type 0
HasSafePast r h = (front : History) × (IsHistory r.count (front ++ h) × Safe r (front ++ h))

-- where a part of a history has no breach, and amber no tolerance, there is a past with which it is safe
abbrev pub NoBreachHasPast : Type 0
NoBreachHasPast =
    (r : Rules) (h : History) → IsTwoWay r → AmbersApart r → HasSize r.count h →
    breaches r (record { rested = false; tolerance = 0 }) h ≡ [] → HasSafePast r h

-- what a judge of a log that begins at rest is asked
abbrev pub at_rest : Terms
at_rest = record { rested = true; tolerance = 0 }

-- this is kept of each group after the last second of the history
abbrev pub IsKept : Rules → History → List GroupPast → Type 0
IsKept r h pasts = (group : ℕ) → group < r.count → past_at pasts group ≡ past_of at_rest (trace h group) (last h)

-- of the pictures of a run of the guard each turn that it refuses is called borne out
abbrev pub RefusalsAreExplained : Type 0
RefusalsAreExplained =
    (r : Rules) (h : History) (wishes : List Bool) (pasts : List GroupPast) → IsHistory r.count h → IsKept r h pasts →
    All (λ turn. finding_now r at_rest (length h) (last_picture h) pasts (guard_picture r h wishes) turn ≡ Borne) (guard_refused r h wishes)

-- this is kept of each group after the last second of a part
abbrev pub IsKeptOf : Rules → Terms → History → List GroupPast → Type 0
IsKeptOf r k h pasts = (group : ℕ) → group < r.count → past_at pasts group ≡ past_of k (trace h group) (last h)

-- What is said of a refused turn from a part alone is so whatever was before it: borne out, or contradicted.
abbrev pub AnyPastSaysTheSame : Type 0
AnyPastSaysTheSame =
    (r : Rules) (h front : History) (p : Picture) (turn : TurnRefusal) (pasts : List GroupPast) (tolerance : ℕ) →
    IsHistory r.count (front ++ h) → 1 ≤ length h → IsKeptOf r (record { rested = false; tolerance = tolerance }) h pasts → IsTurn r.count turn →
    (finding_now r (record { rested = false; tolerance = tolerance }) (length h) (last_picture h) pasts p turn ≡ Borne → IsBorneOut r (front ++ h) p turn)
    × (finding_now r (record { rested = false; tolerance = tolerance }) (length h) (last_picture h) pasts p turn ≡ Contradicted →
    IsBorneOut r (front ++ h) p turn → ⊥)

-- The second from which a start is free of all intergreens, as it is told of a refused start in the second that shows p: the last
-- second of the history with p, and the most that a green of the group lacks.
abbrev pub FreeIsFreeFrom : Type 0
FreeIsFreeFrom =
    (r : Rules) (h : History) (p : Picture) (pasts : List GroupPast) (group : ℕ) → IsHistory r.count h → IsKept r h pasts →
    length p ≡ r.count →
    length h + (most_lacking_now r (length h) (last_picture h) pasts p group).1 ≡ free_from r (h ++ p ∷ []) group
