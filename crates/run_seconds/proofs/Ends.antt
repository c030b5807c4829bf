-- How the seconds of a run end.
use Rattle.std.proofs.Common.{◌≡◌, ◌∙◌, ℕ, Bool, true, false, List, [], Option, Result, Ok, Err, inl, inr, ◌⊎◌, sym, subst, arith}
use Rattle.std.proofs.lemmas.List.{append-nil}
use Rattle.std.specs.Io.KnownBytes.{append_known}
use Rattle.std.specs.Prelude.{IsTrue, IfErr, MatchBool}
use Rattle.sig_io.specs.Draft.{FailsOnly, Held, IsCut, IsCutAt, IsDraft, IsWhole}
use Rattle.sig_io.specs.Outside.{Rose}
use Rattle.sig_types.specs.Counts.{Counts}
use Rattle.det_stream.specs.Stream.{Stream}
use Rattle.run_seconds.specs.declared.play.Stop.{Stop}
use Rattle.run_seconds.specs.declared.play.Stop.TheVariants.{ReadFault, WriteFault, Refused}
use Rattle.run_seconds.specs.Told.{BeginsWith, IsPlayed, IsStop, IsWritten}

pub none_failed : (count : ℕ) (failed : Bool) → FailsOnly count count failed failed
none_failed count failed = record { later = omega arith; failed = λ is. inl is }

-- causes, one after the other
pub failed_on : {a b c : ℕ} {x y z : Bool} → FailsOnly a b x y → FailsOnly b c y z → FailsOnly a c x z
failed_on {a} {b} {c} {x} {y} one two = record { later = omega (arith, one.later, two.later); failed = λ h. second (two.failed h) }
  where
    first : IsTrue x ⊎ Rose a b → IsTrue x ⊎ Rose a c
    first (inl t) = inl t
    first (inr r) = inr (omega (arith, r, two.later))

    second : IsTrue y ⊎ Rose b c → IsTrue x ⊎ Rose a c
    second (inl t) = first (one.failed t)
    second (inr r) = inr (omega (arith, r, one.later))

-- a draft that failed was cut
pub is_cut : (start now : Option (List ℕ)) (draft : Held) (text : List ℕ) → draft.failed ≡ true → IsDraft start now draft text →
    (n : ℕ) × IsCut start now n text
is_cut start now draft text failed is =
    let at = subst (λ b. MatchBool b (IsCutAt start now draft.gone text) (IsWhole start now draft.gone draft.bytes text)) failed is in
    (at.n, at.cut)

-- however the seconds ended, the frames are the first of the file
pub played_begins : (r : Result (Unit {0}) Stop) (stream : Stream) (frames : List Counts) → IsPlayed r stream frames → BeginsWith stream frames
played_begins (Ok x) stream frames is = ([], is.0 ∙ sym (append-nil frames))
played_begins (Err ReadFault) stream frames is = is
played_begins (Err WriteFault) stream frames is = is
played_begins (Err (Refused line why)) stream frames is = ([], is.0 ∙ sym (append-nil frames))

-- the whole text was written, unless the draft had failed
pub written_so : (r : Result (Unit {0}) Stop) (failed : Bool) (text : List ℕ) (old new : Option (List ℕ)) → IfErr r (λ stop. IsStop failed stop) →
    failed ≡ false → new ≡ append_known old text → IsWritten r text old new
written_so (Ok x) failed text old new stops none is = is
written_so (Err ReadFault) failed text old new stops none is = is
written_so (Err WriteFault) failed text old new stops none is = absurd (let e : true ≡ false = sym stops ∙ none in cc)
written_so (Err (Refused line why)) failed text old new stops none is = is
