-- A load that stops, at files in memory of which none fails.
use Rattle.std.proofs.Common.{◌≡◌, ◌∙◌, ◌⊎◌, ℕ, List, length, None, Some, Result, Err, refl, sym, ap, subst, arith, inl, inr}
use Rattle.sig_io.specs.Outside.{Contents, Rose}
use Rattle.junction_run.specs.declared.status.Status.TheVariants as status
use Rattle.junction_run.specs.declared.stop.LoadStop.{LoadStop}
use Rattle.junction_run.specs.declared.stop.LoadStop.TheVariants as load
use Rattle.junction_run.specs.Form.{Source}
use Rattle.junction_run.specs.Loading.{Unloaded, TooLong, Refused, LoadsSource}
use Rattle.junction_run.specs.Reasons.{reason_text}
use Rattle.junction_run.specs.Notes.{load_note}
use Rattle.junction_run.specs.Statuses.{number_of}
use Rattle.junction_run.specs.Stop.{IsUnloadedBy, load_status}
use Rattle.junction_calls.specs.Copied.{IsCopied}
use Rattle.junction_calls.specs.Loads.{Texts, Holds, IsStoppedOf, IsNoteTold, IsStopTold, IsLoaded, place_of, file_number, site_names}
use Rattle.junction_calls.specs.declared.load.Refusal.{Refusal}

-- a count that is 0 has not risen
not_risen : (before now : ℕ) → now ≡ 0 → Rose before now → ⊥
not_risen before now zero rose = omega arith

same_place : (a b : ℕ × ℕ) → Some a ≡ Some b → a ≡ b
same_place a b e = cc

-- no file is at fault
pub no_fault : {A : Type 0} (Gives : Result A Unloaded → Type 0) (Reached : List ℕ → Type 0) (stop : LoadStop) → IsUnloadedBy Gives Reached stop →
    (load_status stop ≡ status.ReadFault → Rose 0 0) → IsUnloadedBy Gives (λ word. ⊥) stop
no_fault Gives Reached load.Memory is read = tt
no_fault Gives Reached (load.ReadFault word) is read = absurd (not_risen 0 0 refl (read refl))
no_fault Gives Reached (load.Refused word line reason) is read = is
no_fault Gives Reached (load.TooLong word) is read = is

-- what is told of a refused file
noted : (source : Source) (texts : Texts) (u : Unloaded) (file : Contents) (answer : ℕ) (old new : List ℕ) (before told : Refusal) → Holds file texts →
    LoadsSource source site_names file (Err u) → IsNoteTold u answer old new before told → IsLoaded source texts answer None old new before told
noted source texts u file answer old new before told holds gives (inl untold) = inl untold
noted source texts u file answer old new before told holds gives (inr is) = inr (file, u, holds, gives, is)

-- memory may be wanted wherever loading stops
pub untold : (stop : LoadStop) (text : List ℕ) (told : Refusal) → IsStopTold stop 1 text text told told
untold load.Memory text told = (refl, refl, refl)
untold (load.ReadFault word) text told = (refl, refl, refl)
untold (load.Refused word line reason) text told = inl (refl, refl, refl)
untold (load.TooLong word) text told = inl (refl, refl, refl)

-- the note of a stop that has a place
pub stop_told : (stop : LoadStop) (place : ℕ × ℕ) (answer : ℕ) (old new : List ℕ) (before told : Refusal) → place_of stop ≡ Some place →
    answer ≡ number_of (load_status stop) → IsCopied (load_note stop) old new → told.noted ≡ length (load_note stop) → told.file ≡ place.0 →
    told.line ≡ place.1 → IsStopTold stop answer old new before told
stop_told load.Memory place answer old new before told at status copied noted is_file is_line = absurd (let e : None ≡ Some place = at in cc)
stop_told (load.ReadFault word) place answer old new before told at status copied noted is_file is_line = absurd (let e : None ≡ Some place = at in cc)
stop_told (load.Refused word line reason) place answer old new before told at status copied noted is_file is_line =
    let same : (file_number word.now, line) ≡ place = same_place (file_number word.now, line) place at in
    inr (record { status = status; note = copied; noted = noted; file = is_file ∙ sym (ap (λ p. p.0) same); line = is_line ∙ sym (ap (λ p. p.1) same) })
stop_told (load.TooLong word) place answer old new before told at status copied noted is_file is_line =
    let same : (file_number word.now, 0) ≡ place = same_place (file_number word.now, 0) place at in
    inr (record { status = status; note = copied; noted = noted; file = is_file ∙ sym (ap (λ p. p.0) same); line = is_line ∙ sym (ap (λ p. p.1) same) })

-- what is answered where loading stops
stopped : (source : Source) (texts : Texts) (stop : LoadStop) (answer : ℕ) (old new : List ℕ) (before told : Refusal) → IsStoppedOf source texts stop →
    IsStopTold stop answer old new before told → IsLoaded source texts answer None old new before told
stopped source texts load.Memory answer old new before told is tells = inl tells
stopped source texts (load.ReadFault word) answer old new before told is tells = inl tells
stopped source texts (load.Refused word line reason) answer old new before told is tells =
    noted source texts (Refused word.now line (reason_text reason)) is.0 answer old new before told is.1 is.2 tells
stopped source texts (load.TooLong word) answer old new before told is tells =
    noted source texts (TooLong word.now) is.0 answer old new before told is.1 is.2 tells

-- the same where memory was wanted before there were files
pub load_stopped : (source : Source) (texts : Texts) (stop : LoadStop) (answer : ℕ) (old new : List ℕ) (before told : Refusal) →
    (stop ≡ load.Memory) ⊎ IsStoppedOf source texts stop → IsStopTold stop answer old new before told → IsLoaded source texts answer None old new before told
load_stopped source texts stop answer old new before told (inl is) tells = inl (subst (λ s. IsStopTold s answer old new before told) is tells)
load_stopped source texts stop answer old new before told (inr is) tells = stopped source texts stop answer old new before told is tells
