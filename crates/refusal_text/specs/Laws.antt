-- A law of what is said of refused turns.
use Rattle.std.specs.Prelude.{◌≡◌, ℕ, Bool, true, false, List, ◌++◌, All, ⊤}
use Rattle.sig_types.specs.Rules.{Rules}
use Rattle.sig_types.specs.Turns.{Picture, History}
use Rattle.sig_types.specs.Recorded.{IsTurn}
use Rattle.sig_types.specs.declared.refused.TurnRefusal.{TurnRefusal}
use Rattle.log_judge.specs.Refused.{IsBorneOut}
use Rattle.sig_guard.specs.Safety.{IsHistory}
use Rattle.sig_guard.specs.Step.{guard_picture, guard_refused}
use Rattle.refusal_text.specs.declared.refusal.Said.{Said}
use Rattle.refusal_text.specs.declared.refusal.Said.TheVariants.{Borne, Unknown, Contradicted}
use Rattle.refusal_text.specs.Refusals.{begins_at_rest, said_of, terms_from}

-- it is told as borne out
abbrev pub is_borne : Said → Bool
is_borne (Borne why) = true
is_borne Unknown = false
is_borne Contradicted = false

-- what is said of a turn is so: that it is borne out, or that it is not; nothing is claimed where it is not known
abbrev pub IsSo : Said → Type 0 → Type 0
IsSo (Borne why) borne_out = borne_out
IsSo Unknown borne_out = ⊤
IsSo Contradicted borne_out = borne_out → ⊥

-- What is said of a turn that was refused, in a log whose first second is another than 1, is so whatever was before the log.
abbrev pub AnyPastSaysTheSame : Type 0
AnyPastSaysTheSame =
    (r : Rules) (first : ℕ) (h front : History) (p : Picture) (turn : TurnRefusal) → begins_at_rest first ≡ false → IsHistory r.count (front ++ h) →
    IsTurn r.count turn → IsSo (said_of r (terms_from first) h p turn) (IsBorneOut r (front ++ h) p turn)

-- of the pictures of a run of the guard, from its all-red second 0 on, each turn that the guard refuses is told as borne out
abbrev pub RunsAreBorneOut : Type 0
RunsAreBorneOut =
    (r : Rules) (h : History) (wishes : List Bool) → IsHistory r.count h →
    All (λ turn. is_borne (said_of r (terms_from 1) h (guard_picture r h wishes) turn) ≡ true) (guard_refused r h wishes)
