-- The fields of a record: what is written of a place, a picture and a fault is read as these.
use Rattle.std.proofs.Common.{◌≡◌, ◌∙◌, ℕ, ◌≤◌, List, ◌∷◌, ◌++◌, codes, Option, Some, None, refl, ap, arith, append_assoc}
use Rattle.std.specs.Fmt.{decimal}
use Rattle.std.specs.Option.{ForSome}
use Rattle.sig_types.specs.declared.kinds.FaultKind.{FaultKind}
use Rattle.sig_types.specs.declared.kinds.FaultKind.TheVariants.{Budget, Overflow, ZeroDivisor, Index, Number}
use Rattle.sig_types.specs.declared.numbers.StageNo.{StageNo}
use Rattle.sig_types.specs.declared.numbers.StagePlace.{StagePlace}
use Rattle.sig_types.specs.declared.numbers.StagePlace.TheVariants.{NoPlan, Stage, Inter}
use Rattle.sig_types.specs.declared.refused.Fault.{Fault}
use Rattle.sig_types.specs.Limits.{last_line}
use Rattle.signal_log.specs.Log.{fault_name, fault_text, place_text}
use Rattle.signal_log.proofs.Without.{decimal_without}
use Rattle.log_read.specs.Fields.{fault_in, inter_in, place_in, some_fault, stage_in}
use Rattle.report_seen.specs.WrittenLogs.{IsPlace, IsStage}
use Rattle.report_seen.proofs.CutTexts.{cut_again, dash_no_digit, plus_no_digit}
use Rattle.report_seen.proofs.NumberTexts.{number_within}

-- ---- the place

pub stage_again : (s : StageNo) → IsStage s → stage_in (decimal s.0) ≡ Some s
stage_again s is = rw (number_within 1 32 s.0 (omega arith) is.0 is.1) refl

inter_shape : (a b c : List ℕ) → (((a ++ codes "-") ++ b) ++ codes "+") ++ c ≡ a ++ 45 ∷ (b ++ 43 ∷ c)
inter_shape a b c =
    append_assoc ((a ++ codes "-") ++ b) (codes "+") c
    ∙ append_assoc (a ++ codes "-") b (43 ∷ c)
    ∙ append_assoc a (codes "-") (b ++ 43 ∷ c)

inter_again : (a b : StageNo) (t : ℕ) → IsStage a → IsStage b → t ≤ 125 →
    inter_in (decimal a.0 ++ 45 ∷ (decimal b.0 ++ 43 ∷ decimal t)) ≡ Some (Inter a b t)
unfolding inter_in
inter_again a b t first second third =
    rw (
      cut_again 45 (decimal a.0) (decimal b.0 ++ 43 ∷ decimal t) (decimal_without 45 a.0 dash_no_digit),
      cut_again 43 (decimal b.0) (decimal t) (decimal_without 43 b.0 plus_no_digit),
      stage_again a first,
      stage_again b second,
      number_within 0 125 t (omega arith) (omega arith) third,
    ) refl

pub place_again : (p : StagePlace) → IsPlace p → place_in (place_text p) ≡ Some p
unfolding place_in
place_again NoPlan is = refl
place_again (Stage s) is = rw (stage_again s is) refl
place_again (Inter a b t) is =
    ap inter_in (inter_shape (decimal a.0) (decimal b.0) (decimal t)) ∙ inter_again a b t is.0 is.1 is.2

-- ---- the fault

line_again : (line : ℕ) → line ≤ last_line → (kind : FaultKind) →
    some_fault (fault_name kind ++ codes "@" ++ decimal line) ≡ Some (record { kind = kind; line = line })
unfolding some_fault
line_again line few Budget = rw (number_within 0 1048577 line (omega arith) (omega arith) few) refl
line_again line few Overflow = rw (number_within 0 1048577 line (omega arith) (omega arith) few) refl
line_again line few ZeroDivisor = rw (number_within 0 1048577 line (omega arith) (omega arith) few) refl
line_again line few Index = rw (number_within 0 1048577 line (omega arith) (omega arith) few) refl
line_again line few Number = rw (number_within 0 1048577 line (omega arith) (omega arith) few) refl

kind_again : (line : ℕ) → line ≤ last_line → (kind : FaultKind) →
    fault_in (fault_name kind ++ codes "@" ++ decimal line) ≡ Some (Some (record { kind = kind; line = line }))
unfolding fault_in
kind_again line few Budget = rw (line_again line few Budget) refl
kind_again line few Overflow = rw (line_again line few Overflow) refl
kind_again line few ZeroDivisor = rw (line_again line few ZeroDivisor) refl
kind_again line few Index = rw (line_again line few Index) refl
kind_again line few Number = rw (line_again line few Number) refl

no_fault : fault_in (codes "-") ≡ Some None
unfolding fault_in
no_fault = refl

pub fault_again : (fault : Option Fault) → ForSome fault (λ f. f.line ≤ last_line) → fault_in (fault_text fault) ≡ Some fault
fault_again None is = no_fault
fault_again (Some f) is = kind_again f.line (is f refl) f.kind
