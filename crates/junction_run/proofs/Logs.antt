-- A log as it grows.
use Rattle.std.proofs.Common.{◌≡◌, ◌∙◌, List, ℕ, [], ◌∷◌, ◌++◌, length, take, refl, sym, ap, arith, append_assoc}
use Rattle.std.proofs.lemmas.List.{append-nil, take-append-le, take_all}
use Rattle.sig_types.specs.declared.record.Record.{Record}
use Rattle.sig_types.specs.Counts.{Counts}
use Rattle.sig_types.specs.Pass.{Logic}
use Rattle.controller.specs.Past.{Site, Past, opening}
use Rattle.controller.specs.Second.{run_from, past_of, past_after, record_of, past_after_second}
use Rattle.controller.proofs.Runs.{run_from-more}
use Rattle.controller.specs.declared.controller.Controller.{Controller}
use Rattle.controller.specs.Controls.{plan_of, site_of}
use Rattle.signal_log.specs.Log.{header_text, record_text, records_text, log_text}
use Rattle.junction_run.specs.Loading.{Playing}
use Rattle.junction_run.specs.Records.{records_of, log_of}

-- a controller's plan is its site's
pub plan_is : (c : Controller) → plan_of c ≡ (site_of c).plan
unfolding plan_of site_of
plan_is c = refl

pub records_text-append : (names : List (List ℕ)) (rs qs : List Record) → records_text names (rs ++ qs) ≡ records_text names rs ++ records_text names qs
unfolding records_text
records_text-append names [] qs = refl
records_text-append names (r ∷ rs) qs =
    ap (λ l. record_text names r ++ l) (records_text-append names rs qs) ∙
    sym (append_assoc (record_text names r) (records_text names rs) (records_text names qs))

pub records_text-one : (names : List (List ℕ)) (r : Record) → records_text names (r ∷ []) ≡ record_text names r
unfolding records_text
records_text-one names r = append-nil (record_text names r)

-- the past after these frames
abbrev pub past_at : Playing → List Counts → Past
past_at p frames = past_of p.logic p.site (opening p.site p.store) frames

-- the text of one second more
abbrev pub next_text : Playing → List Counts → Counts → List ℕ
next_text p frames f = record_text p.site.plan.names (record_of p.logic p.site (past_at p frames) f)

-- the log of no second is the header
pub log_of-none : (p : Playing) → log_of p [] ≡ header_text p.site.plan.names
unfolding log_of log_text records_of records_text
log_of-none p = append-nil (header_text p.site.plan.names)

-- a second more is a record more
pub log_of-more : (p : Playing) (frames : List Counts) (f : Counts) → log_of p (frames ++ f ∷ []) ≡ log_of p frames ++ next_text p frames f
unfolding log_of records_of log_text
log_of-more p frames f =
    let names : List (List ℕ) = p.site.plan.names in
    let rs : List Record = run_from p.logic p.site (opening p.site p.store) frames in
    let r : Record = record_of p.logic p.site (past_at p frames) f in
    ap (λ rs. header_text names ++ records_text names rs) (run_from-more p.logic p.site (opening p.site p.store) frames f)
    ∙ ap (λ l. header_text names ++ l) (records_text-append names rs (r ∷ []) ∙ ap (λ l. records_text names rs ++ l) (records_text-one names r))
    ∙ sym (append_assoc (header_text names) (records_text names rs) (record_text names r))

-- the log of more seconds begins with that of fewer
pub log_of-front : (p : Playing) (frames more : List Counts) → (rest : List ℕ) × (log_of p (frames ++ more) ≡ log_of p frames ++ rest)
log_of-front p frames [] = ([], ap (λ fs. log_of p fs) (append-nil frames) ∙ sym (append-nil (log_of p frames)))
log_of-front p frames (f ∷ fs) =
    let later = log_of-front p (frames ++ f ∷ []) fs in (
      next_text p frames f ++ later.0,
      ap (λ fs. log_of p fs) (sym (append_assoc frames (f ∷ []) fs)) ∙ later.1
          ∙ ap (λ l. l ++ later.0) (log_of-more p frames f)
          ∙ append_assoc (log_of p frames) (next_text p frames f) later.0,
    )

-- the frames so far
pub frames_at : (logic : Logic) (site : Site) (past : Past) (fs : List Counts) → (past_of logic site past fs).frames ≡ past.frames ++ fs
unfolding past_after
frames_at logic site past [] = sym (append-nil past.frames)
frames_at logic site past (f ∷ fs) = frames_at logic site (past_after_second logic site past f) fs ∙ append_assoc past.frames (f ∷ []) fs

-- all of them
pub taken_whole : (frames : List Counts) → take (length frames) frames ≡ frames
taken_whole frames = take_all (length frames) frames (omega arith)

-- and the first ones
pub taken_front : (frames more : List Counts) → take (length frames) (frames ++ more) ≡ frames
taken_front frames more = take-append-le (length frames) frames more (omega arith) ∙ taken_whole frames
