-- What is written of what is asked for, and why words ask for nothing.
use Rattle.std.proofs.Common.{ℕ, Bool, true, false, List, [], ◌∷◌, codes, Option, None, Some, Result, Ok, Err, sym, subst}
use Rattle.std.specs.Prelude.{if◌then◌else◌, ◌+◌, nat_lt}
use Rattle.std.specs.Str.{bytes_eq}
use Rattle.sig_io.specs.Outside.{Contents}
use Rattle.sig_types.specs.Text.{number_of, within}
use Rattle.report_seen.specs.declared.diagram_form.Window.{Window}
use Rattle.report_seen.specs.declared.stop.Stop.{Stop}
use Rattle.report_seen.specs.declared.stop.Stop.TheVariants.{Memory, Words, TooManySeconds, ReadFault, WriteFault, Line, LogEnds}
use Rattle.report_seen.specs.DiagramCall.{IsAnswered, IsStopped, IsTextOf, IsWritten}
use Rattle.report_seen.specs.DiagramForm.{Asked, Help, Version, diagram_form, form_of, letters_form, look_form, text_form, window_from, window_of, window_to}
use Rattle.report_seen.specs.Look.{look_of}
use Rattle.log_svg.specs.Words.{Looked}

-- a text that is asked for, and is written
pub answered : (asked : Asked) (file : Contents) (text : List ℕ) (given : Result (Unit {0}) Stop) (old new : Option (List ℕ)) → IsTextOf asked file text → IsWritten text given old new →
    IsAnswered asked file given old new
answered asked file text (Ok x) old new of written = (text, of, written)
answered asked file text (Err stop) old new of written = subst (λ s. IsStopped asked file s old new) (sym written.0) (text, of, written.1)

-- words are refused so
abbrev pub IsOfWords : Stop → Type 0
IsOfWords Memory = ⊥
IsOfWords Words = Unit {0}
IsOfWords TooManySeconds = Unit {0}
IsOfWords ReadFault = ⊥
IsOfWords WriteFault = ⊥
IsOfWords (Line line why) = ⊥
IsOfWords (LogEnds last) = ⊥

abbrev pub IsByWords : {A : Type 0} → Result A Stop → Type 0
IsByWords (Ok x) = Unit {0}
IsByWords (Err stop) = IsOfWords stop

chosen : {A : Type 0} (b : Bool) (x y : Result A Stop) → IsByWords x → IsByWords y → IsByWords (if b then x else y)
chosen true x y first second = first
chosen false x y first second = second

by_from : (from : ℕ) (to : Option ℕ) → IsByWords (window_from from to)
by_from from None = tt
by_from from (Some to) = chosen (nat_lt to (from + 3600)) (Ok (record { from = from; to = to })) (Err TooManySeconds) tt tt

pub by_to : (to : List ℕ) (from : Option ℕ) → IsByWords (window_to to from)
by_to to None = tt
by_to to (Some from) = by_from from (within from 604801 (number_of to))

by_look : (log : List ℕ) (window : Window) (look : Option Looked) → IsByWords (look_form log window look)
by_look log window None = tt
by_look log window (Some look) = tt

by_diagram : (log : List ℕ) (window : Result Window Stop) (look : Option Looked) → IsByWords window → IsByWords (diagram_form log window look)
by_diagram log (Err stop) look is = is
by_diagram log (Ok window) look is = by_look log window look

by_letters : (log : List ℕ) (window : Window) (rest : List (List ℕ)) → IsByWords (letters_form log window rest)
by_letters log window [] = tt
by_letters log window (word ∷ rest) = tt

by_text : (log : List ℕ) (window : Result Window Stop) (rest : List (List ℕ)) → IsByWords window → IsByWords (text_form log window rest)
by_text log (Err stop) rest is = is
by_text log (Ok window) rest is = by_letters log window rest

pub by_words : (words : List (List ℕ)) → IsByWords (form_of words)
by_words [] = tt
by_words (a ∷ []) = chosen (bytes_eq a (codes "--help")) (Ok Help) (if bytes_eq a (codes "--version") then Ok Version else Err Words) tt
    (chosen (bytes_eq a (codes "--version")) (Ok Version) (Err Words) tt tt)
by_words (a ∷ b ∷ []) = tt
by_words (a ∷ b ∷ c ∷ []) = tt
by_words (a ∷ b ∷ c ∷ d ∷ rest) =
    let window = by_to d (within 1 604801 (number_of c)) in
    chosen (bytes_eq a (codes "diagram")) (diagram_form b (window_of c d) (look_of rest))
    (if bytes_eq a (codes "text") then text_form b (window_of c d) rest else Err Words)
    (by_diagram b (window_of c d) (look_of rest) window)
    (chosen (bytes_eq a (codes "text")) (text_form b (window_of c d) rest) (Err Words) (by_text b (window_of c d) rest window) tt)
