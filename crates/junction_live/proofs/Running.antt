-- The controller's side after some seconds.
use Rattle.std.proofs.Common.{◌≡◌, ◌∙◌, ℕ, ◌+◌, ◌<◌, List, [], ◌∷◌, ◌++◌, length, map, take, Option, refl, sym, ap, subst, arith, length-append}
use Rattle.std.specs.Prelude.{slice_index_or}
use Rattle.std.proofs.Math.Seq.{take-append-add}
use Rattle.std.proofs.lemmas.List.{map_push}
use Rattle.std.specs.Io.KnownBytes.{append_known}
use Rattle.sig_io.specs.Draft.{Held, IsCut, IsDraft}
use Rattle.sig_io.proofs.Reading.{append_known-twice}
use Rattle.sig_types.specs.Counts.{Counts, Takes}
use Rattle.sig_types.specs.Pass.{Logic}
use Rattle.sig_types.specs.Turns.{History}
use Rattle.sig_types.specs.declared.record.Record.{Record}
use Rattle.signal_log.specs.Log.{record_text, records_text}
use Rattle.controller.specs.declared.controller.Controller.{Controller}
use Rattle.controller.specs.Controls.{StandsFor, site_of, logic_of, plan_of, last_record}
use Rattle.controller.specs.Past.{Site, Past}
use Rattle.controller.specs.Second.{run_from, past_of, record_of, picture_of, past_after_second}
use Rattle.controller.proofs.Runs.{run_from-more, past_of-more}
use Rattle.det_board.specs.Passes.{Ticking, Takes as TickTakes}
use Rattle.junction_run.proofs.Logs.{plan_is, records_text-append, records_text-one, frames_at}
use Rattle.junction_live.specs.Play.{Loaded}
use Rattle.junction_live.specs.Outcome.{log_of, pictures_of}
use Rattle.junction_live.proofs.Loads.{loaded_none, loaded_more, takes_next}

-- k seconds were made, of these frames, their records were put, and their pictures given
pub record Running (Given : History → Type 0) (k : ℕ) (tick : Ticking) (start now : Controller) (old new : Option (List ℕ)) (first later : Held) : Type 0 where
  pub made : List Counts
  pub loaded : Loaded tick made
  pub count : length made ≡ k
  pub site : site_of now ≡ site_of start
  pub logic_is : logic_of now ≡ logic_of start
  pub stands : (past : Past) → StandsFor start past → past.frames ≡ [] → StandsFor now (past_of (logic_of start) (site_of start) past made)
  pub put : (past : Past) (begin : Option (List ℕ)) → StandsFor start past → past.frames ≡ [] → IsDraft begin old first [] →
      IsDraft begin new later (log_of (logic_of start) (site_of start) past made)
  pub shown : (past : Past) → StandsFor start past → past.frames ≡ [] → Given (pictures_of (logic_of start) (site_of start) past made)

pub log_none : (logic : Logic) (site : Site) (past : Past) → log_of logic site past [] ≡ []
unfolding records_text
log_none logic site past = refl

-- the log of one second more
pub log_more : (logic : Logic) (site : Site) (past : Past) (fs : List Counts) (f : Counts) →
    log_of logic site past (fs ++ f ∷ []) ≡ log_of logic site past fs ++ record_text site.plan.names (record_of logic site (past_of logic site past fs) f)
log_more logic site past fs f =
    let r = record_of logic site (past_of logic site past fs) f in
    ap (records_text site.plan.names) (run_from-more logic site past fs f)
    ∙ records_text-append site.plan.names (run_from logic site past fs) (r ∷ [])
    ∙ ap (λ l. records_text site.plan.names (run_from logic site past fs) ++ l) (records_text-one site.plan.names r)

-- the pictures of one second more
pub pictures_more : (logic : Logic) (site : Site) (past : Past) (fs : List Counts) (f : Counts) →
    pictures_of logic site past (fs ++ f ∷ []) ≡ pictures_of logic site past fs ++ (record_of logic site (past_of logic site past fs) f).picture ∷ []
pictures_more logic site past fs f =
    ap (λ (rs : List Record). map picture_of rs) (run_from-more logic site past fs f)
    ∙ map_push picture_of (run_from logic site past fs) (record_of logic site (past_of logic site past fs) f)

pub frames_are : (logic : Logic) (site : Site) (past : Past) (fs : List Counts) → past.frames ≡ [] → (past_of logic site past fs).frames ≡ fs
frames_are logic site past fs none = frames_at logic site past fs ∙ ap (λ l. l ++ fs) none

-- a text cut in its last piece
pub cut_later : (start mid new : Option (List ℕ)) (n : ℕ) (front piece whole : List ℕ) → mid ≡ append_known start front →
    whole ≡ front ++ piece → IsCut mid new n piece → IsCut start new (length front + n) whole
cut_later start mid new n front piece whole so_far is cut =
    let taken : take (length front + n) whole ≡ front ++ take n piece
    = ap (λ bs. take (length front + n) bs) is ∙ take-append-add front piece n in
    record {
      some = omega (arith, ap length is, length-append front piece, cut.some);
      taken = cut.taken ∙ ap (λ o. append_known o (take n piece)) so_far ∙ append_known-twice start front (take n piece)
          ∙ ap (λ bs. append_known start bs) (sym taken);
    }

pub running_none : (Given : History → Type 0) (tick : Ticking) (c : Controller) (out : Option (List ℕ)) (draft : Held) →
    ((w : ℕ) → slice_index_or tick.loads w [] ≡ []) → Given [] → Running Given 0 tick c c out out draft draft
running_none Given tick c out draft unread none_given = record {
  made = [];
  loaded = loaded_none tick unread;
  count = refl;
  site = refl;
  logic_is = refl;
  stands = λ past s none. s;
  put = λ past begin s none d. subst (λ t. IsDraft begin out draft t) (sym (log_none (logic_of c) (site_of c) past)) d;
  shown = λ past s none. none_given;
}

-- the frame just taken makes a second
pub running_takes : (Given : History → Type 0) (k : ℕ) (tick tick' : Ticking) (start now : Controller) (old new : Option (List ℕ)) (first later : Held) (f : Counts)
    (r : Running Given k tick start now old new first later) → TickTakes 64 tick tick' f → k < 604801 →
    (past : Past) → past.frames ≡ [] → Takes (past_of (logic_of start) (site_of start) past r.made).frames f
running_takes Given k tick tick' start now old new first later f r t few past none =
    subst (λ fs. Takes fs f) (sym (frames_are (logic_of start) (site_of start) past r.made none))
    (takes_next tick tick' r.made f r.loaded t (omega (arith, r.count, few)))

-- what `second` promises, said of the start's logic and site
pub record Made (now after : Controller) (f : Counts) : Type 0 where
  pub stands : (past : Past) → StandsFor now past → StandsFor after (past_after_second (logic_of now) (site_of now) past f)
  pub record_is : (past : Past) → StandsFor now past → last_record after ≡ record_of (logic_of now) (site_of now) past f
  pub site : site_of after ≡ site_of now
  pub logic_is : logic_of after ≡ logic_of now

-- the text that a second's record has
pub text_is : (start now after : Controller) (f : Counts) (past : Past) (rec : Record) (names : List (List ℕ)) → Made now after f →
    site_of now ≡ site_of start → logic_of now ≡ logic_of start → StandsFor now past →
    rec ≡ last_record after → names ≡ (plan_of after).names →
    record_text names rec ≡ record_text (site_of start).plan.names (record_of (logic_of start) (site_of start) past f)
text_is start now after f past rec names m site logic s is named =
    let names_are : names ≡ (site_of start).plan.names = named ∙ ap (λ p. p.names) (plan_is after) ∙ ap (λ (x : Site). x.plan.names) (m.site ∙ site) in
    let rec_is : rec ≡ record_of (logic_of start) (site_of start) past f = is ∙ m.record_is past s ∙ (λ i. record_of (logic i) (site i) past f) in
    λ i. record_text (names_are i) (rec_is i)

-- one record more is written
pub written_more : (start now after : Controller) (past : Past) (made : List Counts) (f : Counts) (rec : Record) (names : List (List ℕ))
    (old mid new : Option (List ℕ)) → Made now after f →
    site_of now ≡ site_of start → logic_of now ≡ logic_of start → StandsFor now (past_of (logic_of start) (site_of start) past made) →
    rec ≡ last_record after → names ≡ (plan_of after).names →
    mid ≡ append_known old (log_of (logic_of start) (site_of start) past made) → new ≡ append_known mid (record_text names rec) →
    new ≡ append_known old (log_of (logic_of start) (site_of start) past (made ++ f ∷ []))
written_more start now after past made f rec names old mid new m site logic s is named so_far text =
    let p = past_of (logic_of start) (site_of start) past made in
    let piece = text_is start now after f p rec names m site logic s is named in
    text ∙ (λ i. append_known (so_far i) (piece i))
    ∙ append_known-twice old (log_of (logic_of start) (site_of start) past made)
    (record_text (site_of start).plan.names (record_of (logic_of start) (site_of start) p f))
    ∙ ap (append_known old) (sym (log_more (logic_of start) (site_of start) past made f))

-- or cut
pub cut_more : (start now after : Controller) (past : Past) (made : List Counts) (f : Counts) (rec : Record) (names : List (List ℕ))
    (old mid new : Option (List ℕ)) (n : ℕ) → Made now after f →
    site_of now ≡ site_of start → logic_of now ≡ logic_of start → StandsFor now (past_of (logic_of start) (site_of start) past made) →
    rec ≡ last_record after → names ≡ (plan_of after).names →
    mid ≡ append_known old (log_of (logic_of start) (site_of start) past made) → IsCut mid new n (record_text names rec) →
    (n : ℕ) × IsCut old new n (log_of (logic_of start) (site_of start) past (made ++ f ∷ []))
cut_more start now after past made f rec names old mid new n m site logic s is named so_far cut =
    let p = past_of (logic_of start) (site_of start) past made in
    let piece = text_is start now after f p rec names m site logic s is named in (
      length (log_of (logic_of start) (site_of start) past made) + n,
      cut_later old mid new n (log_of (logic_of start) (site_of start) past made)
          (record_text (site_of start).plan.names (record_of (logic_of start) (site_of start) p f)) _
          so_far (log_more (logic_of start) (site_of start) past made f) (subst (λ bs. IsCut mid new n bs) piece cut),
    )

-- the picture of one second more is given
pub given_more : (Given Given' : History → Type 0) (start now after : Controller) (past : Past) (made : List Counts) (f : Counts) (rec : Record) →
    Made now after f → site_of now ≡ site_of start → logic_of now ≡ logic_of start → StandsFor now (past_of (logic_of start) (site_of start) past made) →
    rec ≡ last_record after → ((pictures : History) → Given pictures → Given' (pictures ++ rec.picture ∷ [])) →
    Given (pictures_of (logic_of start) (site_of start) past made) → Given' (pictures_of (logic_of start) (site_of start) past (made ++ f ∷ []))
given_more Given Given' start now after past made f rec m site logic s is one_more so_far =
    let p = past_of (logic_of start) (site_of start) past made in
    let pictures = pictures_of (logic_of start) (site_of start) past made in
    let rec_is : rec ≡ record_of (logic_of start) (site_of start) p f = is ∙ m.record_is p s ∙ (λ i. record_of (logic i) (site i) p f) in
    subst Given' (ap (λ (r : Record). pictures ++ r.picture ∷ []) rec_is ∙ sym (pictures_more (logic_of start) (site_of start) past made f))
    (one_more pictures so_far)

-- one second more
pub running_more : (Given Given' : History → Type 0) (k : ℕ) (tick tick' : Ticking) (start now after : Controller) (old new new' : Option (List ℕ))
    (first held later : Held) (f : Counts) (rec : Record) (names : List (List ℕ)) →
    Running Given k tick start now old new first held → TickTakes 64 tick tick' f → Made now after f → rec ≡ last_record after → names ≡ (plan_of after).names →
    ((begin : Option (List ℕ)) (text : List ℕ) → IsDraft begin new held text → IsDraft begin new' later (text ++ record_text names rec)) →
    ((pictures : History) → Given pictures → Given' (pictures ++ rec.picture ∷ [])) → Running Given' (k + 1) tick' start after old new' first later
running_more Given Given' k tick tick' start now after old new new' first held later f rec names r t m is named put one_more = record {
  made = r.made ++ f ∷ [];
  loaded = loaded_more tick tick' r.made f r.loaded t;
  count = length-append r.made (f ∷ []) ∙ ap (λ n. n + 1) r.count;
  site = m.site ∙ r.site;
  logic_is = m.logic_is ∙ r.logic_is;
  stands = λ past s none.
      let p = past_of (logic_of start) (site_of start) past r.made in
      let on : past_after_second (logic_of now) (site_of now) p f ≡ past_of (logic_of start) (site_of start) past (r.made ++ f ∷ []) =
      (λ i. past_after_second (r.logic_is i) (r.site i) p f) ∙ sym (past_of-more (logic_of start) (site_of start) past r.made f) in
      subst (λ q. StandsFor after q) on (m.stands p (r.stands past s none));
  put = λ past begin s none d.
      let p = past_of (logic_of start) (site_of start) past r.made in
      let so_far : List ℕ = log_of (logic_of start) (site_of start) past r.made in
      let piece = text_is start now after f p rec names m r.site r.logic_is (r.stands past s none) is named in
      subst (λ t. IsDraft begin new' later t) (ap (λ t. so_far ++ t) piece ∙ sym (log_more (logic_of start) (site_of start) past r.made f))
      (put begin so_far (r.put past begin s none d));
  shown = λ past s none. given_more Given Given' start now after past r.made f rec m r.site r.logic_is (r.stands past s none) is one_more (r.shown past s none);
}
