-- One sight after the other.
use Rattle.std.proofs.Common.{◌≡◌, ◌++◌, ◌∷◌, [], ℕ, List, Option, map}
use Rattle.std.proofs.lemmas.List.{flat_map_more}
use Rattle.sig_io.proofs.Drafts.{same_put, then}
use Rattle.sig_io.specs.Draft.{Held, Puts}
use Rattle.vap_ast.specs.Tree.{program_of}
use Rattle.vap_check.specs.Numbers.{Meant}
use Rattle.vap_code.specs.Sights.{Sight}
use Rattle.trace_told.specs.declared.traces.Trace.{Trace}
use Rattle.trace_told.specs.Printed.{printed_at, printed_in}
use Rattle.trace_told.specs.Traces.{trace_in}

-- what is put of one sight more
pub printed_more : {O : Type 0} {taken : O → Option (List ℕ)} {faults : O → ℕ} {d e f : Held} {x y z : O} (m n : Meant) (ts us : List Trace)
    (j k : ℕ) (a b : Sight) (past : List Sight) → m ≡ n → ts ≡ us → j ≡ k → a ≡ b
    → Puts taken faults d e x y (printed_in (program_of n.tree) (map trace_in us) k past)
    → Puts taken faults e f y z (printed_at (program_of m.tree) (map trace_in ts) j a)
    → Puts taken faults d f x z (printed_in (program_of n.tree) (map trace_in us) k (past ++ b ∷ []))
printed_more m n ts us j k a b past program traces second sight before now =
    same_put (flat_map_more (printed_at (program_of n.tree) (map trace_in us) k) [] past b)
    (then before (same_put (λ i. printed_at (program_of (program i).tree) (map trace_in (traces i)) (second i) (sight i)) now))
