-- What a line says: one record, or one picture, where it isn't refused.
use Rattle.std.proofs.Common.{◌≡◌, ◌∙◌, ℕ, ◌<◌, ◌≤◌, Bool, true, false, not, List, [], ◌∷◌, length, Option, None, Some, is_none, refl, sym, ap, arith, inl, inr}
use Rattle.std.proofs.lemmas.Bool.{cases_lt, le-leb, lt-leb}
use Rattle.std.specs.Option.{option_or}
use Rattle.sig_types.specs.declared.record.Record.{Record}
use Rattle.sig_types.specs.declared.numbers.StagePlace.{StagePlace}
use Rattle.sig_types.specs.declared.numbers.StagePlace.TheVariants.{NoPlan}
use Rattle.sig_types.specs.declared.refused.Fault.{Fault}
use Rattle.sig_types.specs.declared.refused.StageRefusal.{StageRefusal}
use Rattle.sig_types.specs.declared.refused.TurnRefusal.{TurnRefusal}
use Rattle.sig_types.specs.Counts.{Counts}
use Rattle.sig_types.specs.Turns.{Picture}
use Rattle.sig_types.specs.Text.{number_of, within}
use Rattle.sig_types.specs.FirstRefused.{when}
use Rattle.log_read.specs.declared.refusal.LogWhy.{LogWhy}
use Rattle.log_read.specs.declared.refusal.LogWhy.TheVariants as why
use Rattle.log_read.specs.Fields.{Fields, fault_in, fields_of, frame_in, place_in, refused_in}
use Rattle.log_read.specs.Form.{picture_in, picture_of}
use Rattle.log_read.specs.Records.{IsEntry, fields_reason, record_reason}

pub never : (w : LogWhy) → Some w ≡ None → ⊥
never w e = cc

-- ---- a record

some_fields : (f g : Fields) → Some f ≡ Some g → f ≡ g
some_fields f g e = cc

some_place : (p q : StagePlace) → Some p ≡ Some q → p ≡ q
some_place p q e = cc

some_picture : (p q : Picture) → Some p ≡ Some q → p ≡ q
some_picture p q e = cc

some_frame : (p q : Counts) → Some p ≡ Some q → p ≡ q
some_frame p q e = cc

some_both : (p q : List StageRefusal × List TurnRefusal) → Some p ≡ Some q → p ≡ q
some_both p q e = cc

some_fault : (p q : Option Fault) → Some p ≡ Some q → p ≡ q
some_fault p q e = cc

-- a record by its parts
made : ℕ → StagePlace → Picture → Counts → List StageRefusal → List TurnRefusal → Option Fault → Record
made second place picture frame stages turns fault =
    record { second = record { 0 = second }; place = place; picture = picture; frame = frame; stages = stages; turns = turns; fault = fault }

by_parts : (r s : Record) → r.second.0 ≡ s.second.0 → r.place ≡ s.place → r.picture ≡ s.picture → r.frame ≡ s.frame → r.stages ≡ s.stages → r.turns ≡ s.turns → r.fault ≡ s.fault →
    made r.second.0 r.place r.picture r.frame r.stages r.turns r.fault ≡ made s.second.0 s.place s.picture s.frame s.stages s.turns s.fault
by_parts r s second place picture frame stages turns fault = cc

-- records with the same parts are the same
pub same_parts : (r s : Record) → r.second.0 ≡ s.second.0 → r.place ≡ s.place → r.picture ≡ s.picture → r.frame ≡ s.frame → r.stages ≡ s.stages → r.turns ≡ s.turns →
    r.fault ≡ s.fault → r ≡ s
unfolding made
same_parts r s second place picture frame stages turns fault = by_parts r s second place picture frame stages turns fault

-- a line says one record
pub one_entry : (names : List (List ℕ)) (k : ℕ) (line : List ℕ) (r s : Record) → IsEntry names k line r → IsEntry names k line s → r ≡ s
one_entry names k line r s p q =
    let f : p.fields ≡ q.fields = some_fields p.fields q.fields (sym p.cut ∙ q.cut) in
    let both = some_both (r.stages, r.turns) (s.stages, s.turns) (sym p.refused ∙ ap (λ (x : Fields). refused_in names x.refused) f ∙ q.refused) in
    same_parts r s (p.second ∙ sym q.second)
    (some_place r.place s.place (sym p.place ∙ ap (λ (x : Fields). place_in x.place) f ∙ q.place))
    (some_picture r.picture s.picture (sym p.picture ∙ ap (λ (x : Fields). picture_of (length names) x.aspects) f ∙ q.picture))
    (some_frame r.frame s.frame (sym p.frame ∙ ap (λ (x : Fields). frame_in x.counts) f ∙ q.frame))
    (ap (λ (x : List StageRefusal × List TurnRefusal). x.0) both)
    (ap (λ (x : List StageRefusal × List TurnRefusal). x.1) both)
    (some_fault r.fault s.fault (sym p.fault ∙ ap (λ (x : Fields). fault_in x.fault) f ∙ q.fault))

-- a line that says a record isn't refused
pub not_refused : (names : List (List ℕ)) (k : ℕ) (line : List ℕ) (r : Record) → IsEntry names k line r → record_reason names k line ≡ None
unfolding record_reason
not_refused names k line r is = rw (is.cut, is.due, is.place, is.picture, is.frame, is.refused, is.fault) refl

-- any record
pub no_record : Record
no_record = record { second = record { 0 = 0 }; place = NoPlan; picture = []; frame = []; stages = []; turns = []; fault = None }

-- a part that isn't wanting
there : {A : Type 0} (o : Option A) (w : LogWhy) (rest : Option LogWhy) → option_or (when (is_none o) w) rest ≡ None → ((x : A) × (o ≡ Some x)) × (rest ≡ None)
there None w rest none = absurd (never w none)
there (Some x) w rest none = ((x, refl), none)

not_there : (n : ℕ) → None ≡ Some n → ⊥
not_there n e = cc

-- from k to k there is k alone
due_is : (k : ℕ) (o : Option ℕ) (n : ℕ) → within k k o ≡ Some n → within k k o ≡ Some k
due_is k None n is = absurd (not_there n is)
due_is k (Some m) n is = elim (cases_lt m k) [
  | inl low ↦ absurd (not_there n (rw (lt-leb k m low) at is))
  | inr from ↦ elim (cases_lt k m) [
    | inl high ↦ absurd (not_there n (rw (le-leb k m from, lt-leb m k high) at is))
    | inr to ↦ (let same : m ≡ k = omega arith in rw (le-leb k m from, le-leb m k to) (ap Some same))
  ]
]

-- fields that aren't refused say a record
entry_of : (names : List (List ℕ)) (k : ℕ) (line : List ℕ) (f : Fields) → fields_of line ≡ Some f → fields_reason names k (Some f) ≡ None → (r : Record) × IsEntry names k line r
unfolding made
entry_of names k line f cut none =
    let second = there (within k k (number_of f.second)) why.Second _ none in
    let place = there (place_in f.place) why.Stage _ second.1 in
    let picture = there (picture_of (length names) f.aspects) why.Aspects _ place.1 in
    let frame = there (frame_in f.counts) why.Counts _ picture.1 in
    let refused = there (refused_in names f.refused) why.Refused _ frame.1 in
    let fault = there (fault_in f.fault) why.Fault _ refused.1 in (
      made k place.0.0 picture.0.0 frame.0.0 refused.0.0.0 refused.0.0.1 fault.0.0,
      record {
        fields = f;
        cut = cut;
        due = due_is k (number_of f.second) second.0.0 second.0.1;
        second = refl {a = k};
        place = place.0.1;
        picture = picture.0.1;
        frame = frame.0.1;
        refused = refused.0.1;
        fault = fault.0.1;
      },
    )

by_fields : (names : List (List ℕ)) (k : ℕ) (line : List ℕ) (o : Option Fields) → fields_of line ≡ o → fields_reason names k o ≡ None → (r : Record) × IsEntry names k line r
by_fields names k line None cut none = absurd (never why.Fields none)
by_fields names k line (Some f) cut none = entry_of names k line f cut none

pub by_reason : (names : List (List ℕ)) (k : ℕ) (line : List ℕ) → record_reason names k line ≡ None → (r : Record) × IsEntry names k line r
unfolding record_reason
by_reason names k line none = by_fields names k line (fields_of line) refl none

-- ---- a picture

pub one_picture : (o : Option Picture) (p q : Picture) → o ≡ Some p → o ≡ Some q → p ≡ q
one_picture o p q is also = some_picture p q (sym is ∙ also)

pub by_picture : (o : Option Picture) → when (is_none o) why.Line ≡ None → (p : Picture) × (o ≡ Some p)
by_picture None none = absurd (never why.Line none)
by_picture (Some p) none = (p, refl)
