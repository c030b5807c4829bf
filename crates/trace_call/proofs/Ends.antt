-- How telling ends.
use Rattle.std.proofs.Common.{◌≡◌, ◌++◌, [], ℕ, Bool, true, false, List, Option, Err, inl, inr, ◌⊎◌, refl, subst, arith, append_assoc, Bor}
use Rattle.std.proofs.lemmas.List.{append-nil}
use Rattle.std.specs.Prelude.{IsTrue}
use Rattle.sig_io.specs.Draft.{FailsOnly}
use Rattle.sig_io.specs.Outside.{Rose}
use Rattle.sig_types.specs.Counts.{Counts}
use Rattle.det_stream.specs.Stream.{Stream}
use Rattle.junction_run.specs.Played as run
use Rattle.junction_run.specs.Stop.{play_status}
use Rattle.junction_run.specs.declared.status.Status.TheVariants as status
use Rattle.run_seconds.specs.Told as told
use Rattle.run_seconds.specs.declared.play.Stop.{Stop}
use Rattle.run_seconds.specs.declared.play.Stop.TheVariants.{ReadFault, WriteFault, Refused}
use Rattle.trace_call.specs.Chosen.{play_stop_of}

-- what was written where telling stopped
pub written_stop : (stop : Stop) (word : Bor (List ℕ)) (text : List ℕ) (old new : Option (List ℕ)) →
    told.IsWritten {A = Unit {0}} (Err stop) text old new → run.IsWritten {A = Unit {0}} (Err (play_stop_of word stop)) text old new
written_stop ReadFault word text old new is = is
written_stop WriteFault word text old new is = is
written_stop (Refused line why) word text old new is = is

-- which frames were told of
pub played_stop : (stop : Stop) (word : Bor (List ℕ)) (stream : Stream) (frames : List Counts) →
    told.IsPlayed {A = Unit {0}} (Err stop) stream frames → run.IsPlayed {A = Unit {0}} word.now (Err (play_stop_of word stop)) stream frames
played_stop ReadFault word stream frames is = (refl, is)
played_stop WriteFault word stream frames is = is
played_stop (Refused line why) word stream frames is = (refl, is.0, is.1)

-- words that are no form are no fault
pub words_no_read : status.Words ≡ status.ReadFault → ⊥
words_no_read is = absurd cc

pub words_no_write : status.Words ≡ status.WriteFault → ⊥
words_no_write is = absurd cc

-- nor is another stop one of the sink
pub read_no_write : status.ReadFault ≡ status.WriteFault → ⊥
read_no_write is = absurd cc

pub refused_no_write : status.RefusedLine ≡ status.WriteFault → ⊥
refused_no_write is = absurd cc

no_truth : false ≡ true → ⊥
no_truth is = absurd cc

-- a stop for the sink
pub stopped_writing : (stop : Stop) (word : Bor (List ℕ)) → play_status (play_stop_of word stop) ≡ status.WriteFault → stop ≡ WriteFault
stopped_writing ReadFault word is = absurd (read_no_write is)
stopped_writing WriteFault word is = refl
stopped_writing (Refused line why) word is = absurd (refused_no_write is)

-- a draft that failed since it was new
pub rose_failed : {a b : ℕ} {x y : Bool} → x ≡ false → y ≡ true → FailsOnly a b x y → Rose a b
rose_failed {a} {b} {x} {y} new failed one = pick (one.failed failed)
  where
    pick : IsTrue x ⊎ Rose a b → Rose a b
    pick (inl t) = absurd (no_truth (subst (λ (z : Bool). IsTrue z) new t))
    pick (inr r) = r

-- or later
pub rose_later : {a b d : ℕ} {x y : Bool} → y ≡ false → FailsOnly a b x y → IsTrue y ⊎ Rose b d → Rose a d
rose_later whole one (inl t) = absurd (no_truth (subst (λ (z : Bool). IsTrue z) whole t))
rose_later whole one (inr r) = omega (arith, r, one.later)

-- or of one that is new
pub rose_new : {C : Type 0} {y : Bool} → y ≡ false → IsTrue y ⊎ C → C
rose_new whole (inl t) = absurd (no_truth (subst (λ (z : Bool). IsTrue z) whole t))
rose_new whole (inr r) = r

-- six pieces, two of which are one
pub six : (a b c d e f de : List ℕ) → d ++ e ≡ de → a ++ (b ++ (c ++ (d ++ (e ++ (f ++ []))))) ≡ a ++ b ++ c ++ de ++ f
six a b c d e f de same = subst (λ t. a ++ (b ++ (c ++ (d ++ (e ++ (f ++ []))))) ≡ a ++ b ++ c ++ t ++ f) same flat
  where
    flat : a ++ (b ++ (c ++ (d ++ (e ++ (f ++ []))))) ≡ a ++ b ++ c ++ (d ++ e) ++ f
    flat = grind (arith, append_assoc, append-nil)
