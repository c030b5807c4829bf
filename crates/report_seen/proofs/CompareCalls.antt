-- What is answered where a call stops, and where the text is told.
use Rattle.std.proofs.Common.{◌≡◌, ℕ, Bool, List, Option, Result, Ok, Err, inl, inr}
use Rattle.std.specs.Prelude.{IfErr}
use Rattle.sig_io.specs.Outside.{Contents}
use Rattle.report_words.specs.declared.stop.JudgeStop.{JudgeStop}
use Rattle.report_words.specs.declared.stop.JudgeStop.TheVariants as stop
use Rattle.report_seen.specs.CompareCall.{IsAccepted, IsAnswered, IsStopped}
use Rattle.report_seen.specs.CompareForm.{Asked}
use Rattle.report_seen.specs.Loaded.{IsFault, IsOfLoad, IsUnloaded}
use Rattle.report_seen.specs.Told.{IsOfTelling, IsTold}

-- the one log isn't read to its end
pub unloaded_one : (asked : Asked) (file : Contents) (why : JudgeStop) (old new : Option (List ℕ)) → IsUnloaded asked.one (file asked.one) why → new ≡ old →
    IsStopped asked file why old new
unloaded_one asked file stop.Words old new is same = is
unloaded_one asked file stop.Memory old new is same = same
unloaded_one asked file (stop.Site at) old new is same = is
unloaded_one asked file (stop.ReadFault word) old new is same = (same, inl is)
unloaded_one asked file (stop.RefusedLine word line reason) old new is same = (same, inl is)
unloaded_one asked file stop.WriteFault old new is same = absurd is

-- or the other isn't
pub unloaded_other : (asked : Asked) (file : Contents) (why : JudgeStop) (old new : Option (List ℕ)) → IsAccepted (file asked.one) →
    IsUnloaded asked.other (file asked.other) why → new ≡ old → IsStopped asked file why old new
unloaded_other asked file stop.Words old new one is same = is
unloaded_other asked file stop.Memory old new one is same = same
unloaded_other asked file (stop.Site at) old new one is same = is
unloaded_other asked file (stop.ReadFault word) old new one is same = (same, inr (one, is))
unloaded_other asked file (stop.RefusedLine word line reason) old new one is same = (same, inr (one, is))
unloaded_other asked file stop.WriteFault old new one is same = absurd is

-- both are told
pub answered : (asked : Asked) (file : Contents) (given : Result Bool JudgeStop) (old new : Option (List ℕ)) →
    IsTold asked (file asked.one) (file asked.other) given old new → IsAnswered asked file given old new
answered asked file (Ok differ) old new told = told
answered asked file (Err stop.Words) old new told = told
answered asked file (Err stop.Memory) old new told = told
answered asked file (Err (stop.Site at)) old new told = told
answered asked file (Err (stop.ReadFault word)) old new told = absurd told
answered asked file (Err (stop.RefusedLine word line reason)) old new told = absurd told
answered asked file (Err stop.WriteFault) old new told = told

-- a read that failed, whatever was to be read
pub same_fault : (A B : Type 0) (why : JudgeStop) → IsFault {A = A} (Err why) → IsFault {A = B} (Err why)
same_fault A B stop.Words fault = fault
same_fault A B stop.Memory fault = fault
same_fault A B (stop.Site at) fault = fault
same_fault A B (stop.ReadFault word) fault = fault
same_fault A B (stop.RefusedLine word line reason) fault = fault
same_fault A B stop.WriteFault fault = fault

-- telling reads nothing
pub no_fault : (given : Result Bool JudgeStop) → IfErr given IsOfTelling → IsFault given → ⊥
no_fault (Ok differ) of fault = fault
no_fault (Err stop.Words) of fault = fault
no_fault (Err stop.Memory) of fault = fault
no_fault (Err (stop.Site at)) of fault = fault
no_fault (Err (stop.ReadFault word)) of fault = of
no_fault (Err (stop.RefusedLine word line reason)) of fault = fault
no_fault (Err stop.WriteFault) of fault = fault

-- reading a log writes nothing
pub no_write : (why : JudgeStop) → IsOfLoad why → why ≡ stop.WriteFault → ⊥
no_write stop.Words of same = of
no_write stop.Memory of same = absurd cc
no_write (stop.Site at) of same = of
no_write (stop.ReadFault word) of same = absurd cc
no_write (stop.RefusedLine word line reason) of same = absurd cc
no_write stop.WriteFault of same = of
