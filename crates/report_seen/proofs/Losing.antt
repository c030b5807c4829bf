-- The lost starts of a log, while it is read.
use Rattle.std.proofs.Common.{◌≡◌, ◌∙◌, ℕ, ◌+◌, ◌==◌, Bool, true, false, List, [], ◌∷◌, ◌++◌, take, Option, Some, None, refl, sym, ap, append_assoc, subst, eq-eqb, ◌≢◌, if◌then◌else◌}
use Rattle.std.specs.List.{slice_get}
use Rattle.std.specs.Option.{option_or}
use Rattle.sig_types.specs.declared.record.Record.{Record}
use Rattle.sig_types.specs.declared.refused.TurnRefusal.{TurnRefusal}
use Rattle.log_sums.proofs.Added.{item_more}
use Rattle.std.proofs.lemmas.Bool.{ne_eqb}
use native.Mathlib.Numerals.{unary_clauses}
use Rattle.report_seen.specs.declared.lost.Asking.{Asking}
use Rattle.report_seen.specs.declared.lost.LostStart.{LostStart}
use Rattle.report_seen.specs.Lost.{asked_after, asked_for, last_of, lost_below, lost_by, refused_start}

or_choice : (here : Bool) (turn : TurnRefusal) (last rest : Option TurnRefusal) →
    option_or (if here then Some turn else last) rest ≡ (if here then Some turn else option_or last rest)
or_choice true turn last rest = refl
or_choice false turn last rest = refl

-- the last refused turn of a group, with a turn more
last_of_more : (g : ℕ) (turns : List TurnRefusal) (turn : TurnRefusal) →
    last_of g (turns ++ turn ∷ []) ≡ (if turn.group.0 == g then Some turn else last_of g turns)
last_of_more g [] turn = refl
last_of_more g (first ∷ turns) turn =
    let rest = (if first.group.0 == g then Some first else None) in
    ap (λ (last : Option TurnRefusal). option_or last rest) (last_of_more g turns turn) ∙ or_choice (turn.group.0 == g) turn (last_of g turns) rest

-- the same of the first turns of a list
pub last_next : (g : ℕ) (turns : List TurnRefusal) (place : ℕ) (turn : TurnRefusal) → slice_get turns place ≡ Some turn →
    last_of g (take (place + 1) turns) ≡ (if turn.group.0 == g then Some turn else last_of g (take place turns))
last_next g turns place turn is =
    sym (ap (last_of g) (item_more (take place turns) (take place turns ++ turn ∷ []) turns place turn is refl refl)) ∙ last_of_more g (take place turns) turn

-- where it is of the group
pub turn_last : (g : ℕ) (turns : List TurnRefusal) (place : ℕ) (turn : TurnRefusal) → slice_get turns place ≡ Some turn → turn.group.0 ≡ g →
    Some turn ≡ last_of g (take (place + 1) turns)
turn_last g turns place turn is of =
    sym (last_next g turns place turn is ∙ ap (λ (b : Bool). if b then Some turn else last_of g (take place turns)) (eq-eqb turn.group.0 g of))

-- and where it isn't
pub other_last : (g : ℕ) (turns : List TurnRefusal) (place : ℕ) (turn : TurnRefusal) (last : Option TurnRefusal) → slice_get turns place ≡ Some turn →
    turn.group.0 ≢ g → last ≡ last_of g (take place turns) → last ≡ last_of g (take (place + 1) turns)
other_last g turns place turn last is other before =
    before ∙ sym (last_next g turns place turn is ∙ ap (λ (b : Bool). if b then Some turn else last_of g (take place turns)) (ne_eqb turn.group.0 g other))

-- what is asked for of a group behind one record more
pub asked_then : (rec : Record) (earlier : List Record) (group g : ℕ) (refused : Option TurnRefusal) (before after : Option Asking) → g ≡ group →
    refused ≡ refused_start group rec → before ≡ asked_for group earlier → after ≡ asked_after rec.second.0 refused before →
    after ≡ asked_for g (rec ∷ earlier)
asked_then rec earlier group g refused before after same refused_is before_is after_is =
    subst (λ (k : ℕ). after ≡ asked_for k (rec ∷ earlier)) (sym same) (after_is ∙ (ap (λ (r : Option TurnRefusal). asked_after rec.second.0 r before) refused_is
    ∙ ap (λ (b : Option Asking). asked_after rec.second.0 (refused_start group rec) b) before_is))

below_next : (group : ℕ) (rec : Record) (earlier : List Record) →
    lost_below (group + 1) rec earlier ≡ lost_below group rec earlier ++ lost_by group rec (asked_for group earlier)
below_next group rec earlier = simp unary_clauses refl

-- the starts that are lost, with those of a group more
pub lost_more : (rec : Record) (earlier : List Record) (group : ℕ) (before : Option Asking) (first old new : List LostStart) →
    before ≡ asked_for group earlier → new ≡ old ++ lost_by group rec before → old ≡ first ++ lost_below group rec earlier →
    new ≡ first ++ lost_below (group + 1) rec earlier
lost_more rec earlier group before first old new before_is put is =
    put ∙ (ap (λ (b : Option Asking). old ++ lost_by group rec b) before_is
    ∙ (ap (λ (starts : List LostStart). starts ++ lost_by group rec (asked_for group earlier)) is
    ∙ (append_assoc first (lost_below group rec earlier) (lost_by group rec (asked_for group earlier))
    ∙ ap (λ (starts : List LostStart). first ++ starts) (sym (below_next group rec earlier)))))
