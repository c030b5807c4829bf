-- What a call answers.
use Rattle.std.proofs.Common.{◌≡◌, ◌∙◌, ℕ, zero, suc, ◌≤◌, Bool, true, false, List, [], ◌∷◌, length, Option, Ok, Err, refl, sym, ap, subst, arith}
use Rattle.sig_io.specs.Outside.{Contents}
use Rattle.log_judge.specs.declared.breach.Breach.{Breach}
use Rattle.log_judge.specs.Breaches.{breaches}
use Rattle.log_judge.proofs.AllFound.{none_of_none}
use Rattle.sig_types.specs.Rules.{Rules}
use Rattle.sig_types.specs.Turns.{Picture}
use Rattle.log_judge.specs.declared.find.Terms.{Terms}
use Rattle.log_read.specs.Readings.{first_second}
use Rattle.site_load.specs.declared.stop.SiteStop.{SiteStop}
use Rattle.site_load.specs.declared.stop.SiteStop.TheVariants as unsited
use Rattle.site_load.specs.Loading.{Site, site_of}
use Rattle.site_load.specs.Stop as stop
use Rattle.report_words.specs.declared.stop.JudgeStop.{JudgeStop}
use Rattle.report_words.specs.declared.stop.JudgeStop.TheVariants.{Words, Memory, Site as Unsited, ReadFault, RefusedLine, WriteFault}
use Rattle.judge_text.specs.Lines.{breaches_text}
use Rattle.judge_text.specs.Rows.{table_text}
use Rattle.report_judged.specs.declared.breach_finding.Found.{Found}
use Rattle.report_judged.specs.BreachCall.{IsStopped, IsTold, is_some_breach, text_of}
use Rattle.report_judged.specs.BreachForm.{Asked}
use Rattle.log_protocol.specs.Came.{unknown_past}
use Rattle.report_judged.specs.BreachesFound.{AreFound, IsLogStop, IsReadFault}
use Rattle.report_judged.specs.BreachesWritten.{IsWritten}

-- a log that is read no further
pub log_stopped : (asked : Asked) (file : Contents) (at : Site) (stop : JudgeStop) (old new : Option (List ℕ)) → site_of asked.site file ≡ Ok at →
    IsLogStop at.plan.names asked.log (file asked.log) stop → new ≡ old → IsStopped asked file stop old new
log_stopped asked file at Words old new site is same = absurd is
log_stopped asked file at Memory old new site is same = same
log_stopped asked file at (Unsited s) old new site is same = absurd is
log_stopped asked file at (ReadFault w) old new site is same = (same, record { at = at; site_is = site; stop_is = is })
log_stopped asked file at (RefusedLine w line why) old new site is same = (same, record { at = at; site_is = site; stop_is = is })
log_stopped asked file at WriteFault old new site is same = absurd is

-- of no breach the second of the first picture doesn't matter
none_first : (csv : Bool) (names : List (List ℕ)) (a b n : ℕ) → text_of csv names a n [] ≡ text_of csv names b n []
unfolding text_of table_text breaches_text
none_first true names a b n = refl
none_first false names a b n = refl

first_same : (csv : Bool) (names : List (List ℕ)) (a b n : ℕ) (xs : List Breach) → (1 ≤ n → a ≡ b) → (n ≡ 0 → xs ≡ []) →
    text_of csv names a n xs ≡ text_of csv names b n xs
first_same csv names a b zero xs same none = rw (none refl) (none_first csv names a b 0)
first_same csv names a b (suc n) xs same none = ap (λ f. text_of csv names f (suc n) xs) (same (omega arith))

none_found : (r : Rules) (k : Terms) (pictures : List Picture) → length pictures ≡ 0 → breaches r k pictures ≡ []
none_found r k [] none = none_of_none r k
none_found r k (p ∷ ps) none = absurd (omega (arith, none))

-- the text of what was found is that of the breaches of the log
pub text_is : (csv : Bool) (at : Site) (bytes : List ℕ) (tolerance : ℕ) (f : Found) (a : AreFound at bytes tolerance f) →
    text_of csv at.plan.names f.first f.pictures f.breaches.items
    ≡ text_of csv at.plan.names (first_second bytes) (length a.pictures) (breaches at.rules (unknown_past tolerance) a.pictures)
text_is csv at bytes tolerance f a =
    ap (λ n. text_of csv at.plan.names f.first n f.breaches.items) a.count
    ∙ ap (λ xs. text_of csv at.plan.names f.first (length a.pictures) xs) a.breaches_are
    ∙ first_same csv at.plan.names f.first (first_second bytes) (length a.pictures) (breaches at.rules (unknown_past tolerance) a.pictures)
    a.first (none_found at.rules (unknown_past tolerance) a.pictures)

-- what is told of a log whose breaches were found
pub told : (asked : Asked) (file : Contents) (at : Site) (f : Found) (broken : Bool) → site_of asked.site file ≡ Ok at →
    AreFound at (file asked.log) asked.tolerance f → broken ≡ is_some_breach f.breaches.items →
    IsTold asked file (text_of asked.csv at.plan.names f.first f.pictures f.breaches.items) broken
told asked file at f broken site a is = record {
  at = at;
  site_is = site;
  pictures = a.pictures;
  log = a.log;
  text_is = text_is asked.csv at (file asked.log) asked.tolerance f a;
  broken_is = is ∙ ap is_some_breach a.breaches_are;
}

-- a text that is told of a log, and was not written whole
pub cut_short : (asked : Asked) (file : Contents) (text : List ℕ) (broken : Bool) (stop : JudgeStop) (old new : Option (List ℕ)) →
    IsTold asked file text broken → IsWritten text (Err stop) old new → IsStopped asked file stop old new
cut_short asked file text broken stop old new told written =
    subst (λ s. IsStopped asked file s old new) (sym written.0) (text, (broken, (told, written.1)))

-- what was not written whole is no read that failed
pub no_read : (A : Type 0) (text : List ℕ) (stop : JudgeStop) (old new : Option (List ℕ)) → IsWritten text (Err stop) old new →
    IsReadFault {A = A} (Err stop) → ⊥
no_read A text stop old new written is = subst (λ s. IsReadFault {A = A} (Err s)) written.0 is

-- a site that was not taken since a file could not be read
pub site_fault : (A B : Type 0) (s : SiteStop) → IsReadFault {A = A} (Err (Unsited s)) → stop.IsReadFault {A = B} (Err s)
site_fault A B unsited.Memory is = is
site_fault A B (unsited.ReadFault w) is = is
site_fault A B (unsited.Refused w line reason) is = is
site_fault A B (unsited.TooLong w) is = is
