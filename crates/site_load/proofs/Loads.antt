-- What loading stops at, and what it goes on with.
use Rattle.std.proofs.Common.{◌≡◌, ◌∙◌, ℕ, ◌≤◌, List, length, Option, None, Result, Ok, Err, refl, sym, ap, subst}
use Rattle.std.proofs.Math.Path.{fun_ext}
use Rattle.std.proofs.lemmas.Bool.{lt-ltb, le-ltb}
use Rattle.std.specs.Prelude.{Contains, IfOk, IfErr}
use Rattle.sig_io.specs.Outside.{Contents}
use Rattle.pua_model.specs.Plan.{PlanOf}
use Rattle.sig_tables.specs.declared.times.TimesRow.{TimesRow}
use Rattle.sig_tables.specs.Pairs.{Pairs, between}
use Rattle.sig_tables.specs.SiteRules.{rules_by, rules_of}
use Rattle.site_load.specs.declared.stop.SiteStop.{SiteStop}
use Rattle.site_load.specs.declared.stop.SiteStop.TheVariants.{Memory, ReadFault, Refused, TooLong}
use Rattle.site_load.specs.Loading.{SiteFiles}
use Rattle.site_load.specs.Loading.{Unloaded, Refusal, text_limit, judged, ◌>>=◌, plan_at, times_at, intergreens_at, site_of, ReachedInSite}
use Rattle.site_load.specs.Stop.{IsLoadStop, IsLoading, IsUnread, IsRefusedText, IsAmong, IsAt}

-- a stop at one of these files
pub among : (files : List (List ℕ)) (word : List ℕ) (stop : SiteStop) → Contains files word → IsAt word stop → IsAmong files stop
among files word Memory is at = tt
among files word (ReadFault w) is at = subst (λ n. Contains files n) (sym at) is
among files word (Refused w line reason) is at = subst (λ n. Contains files n) (sym at) is
among files word (TooLong w) is at = subst (λ n. Contains files n) (sym at) is

-- a text that is accepted gives its value
pub judged_accepts : {A : Type 0} (word bytes : List ℕ) (refusal : Option Refusal) (value : A) → length bytes ≤ text_limit → refusal ≡ None →
    judged word bytes refusal value ≡ Ok value
judged_accepts word bytes refusal value short is = rw (le-ltb text_limit (length bytes) short, is) refl

-- one that is refused, its refusal
pub judged_refuses : {A : Type 0} (stop : SiteStop) (word bytes : List ℕ) (refusal : Option Refusal) (value : A) → length bytes ≤ text_limit →
    IsRefusedText stop refusal → IsAt word stop → IsLoadStop (λ w. w ≡ word) stop (judged word bytes refusal value)
judged_refuses Memory word bytes refusal value short is at = tt
judged_refuses (ReadFault w) word bytes refusal value short is at = absurd is
judged_refuses (Refused w line reason) word bytes refusal value short is at = rw (le-ltb text_limit (length bytes) short, is, at) refl
judged_refuses (TooLong w) word bytes refusal value short is at = absurd is

-- a file that could not be read
pub judged_unread : {A : Type 0} (stop : SiteStop) (word bytes : List ℕ) (refusal : Option Refusal) (value : A) →
    IsUnread bytes stop → IsAt word stop → IsLoadStop (λ w. w ≡ word) stop (judged word bytes refusal value)
judged_unread Memory word bytes refusal value is at = tt
judged_unread (ReadFault w) word bytes refusal value is at = at
judged_unread (Refused w line reason) word bytes refusal value is at = absurd is
judged_unread (TooLong w) word bytes refusal value is at = rw (lt-ltb text_limit (length bytes) is, at) refl

-- a text that was judged so
pub judged_so : {A B : Type 0} (view : A → B) (r : Result A SiteStop) (word bytes text : List ℕ) (refusal : List ℕ → Option Refusal)
    (value : List ℕ → B) → text ≡ bytes →
    length text ≤ text_limit → IfOk r (λ x. refusal text ≡ None) → IfOk r (λ x. view x ≡ value text) → IfErr r (λ stop. IsRefusedText stop (refusal text)) →
    IfErr r (λ stop. IsAt word stop) → IsLoading (λ w. w ≡ word) view r (judged word bytes (refusal bytes) (value bytes))
judged_so view (Ok x) word bytes text refusal value same short accepted is wrong at =
    subst (λ t. judged word t (refusal t) (value t) ≡ Ok (view x)) same (judged_accepts word text (refusal text) (value text) short accepted ∙ ap Ok (sym is))
judged_so view (Err stop) word bytes text refusal value same short accepted is wrong at =
    subst (λ t. IsLoadStop (λ w. w ≡ word) stop (judged word t (refusal t) (value t))) same
    (judged_refuses stop word text (refusal text) (value text) short wrong at)

-- seconds that are the same for each pair are the same
pub seconds_are : {A : Type 0} (r : Result A SiteStop) (of : A → ℕ → ℕ → Option ℕ) (seconds : ℕ → ℕ → Option ℕ) →
    IfOk r (λ x. (i g : ℕ) → of x i g ≡ seconds i g) →
    IfOk r (λ x. of x ≡ seconds)
seconds_are (Ok x) of seconds all = fun_ext (λ i. fun_ext (λ g. all i g))
seconds_are (Err stop) of seconds all = tt

-- what comes next goes on with a value
pub goes_on : {A B : Type 0} (r : Result A Unloaded) (x : A) (f : A → Result B Unloaded) → r ≡ Ok x → (r >>= f) ≡ f x
goes_on r x f is = ap (λ r. r >>= f) is

-- and stops at a stop
pub stops_at : {A B : Type 0} (Early Late : List ℕ → Type 0) (stop : SiteStop) (r : Result A Unloaded) (f : A → Result B Unloaded) →
    ((w : List ℕ) → Early w → Late w) → IsLoadStop Early stop r → IsLoadStop Late stop (r >>= f)
stops_at Early Late Memory r f later is = tt
stops_at Early Late (ReadFault w) r f later is = later w.now is
stops_at Early Late (Refused w line reason) r f later is = ap (λ r. r >>= f) is
stops_at Early Late (TooLong w) r f later is = ap (λ r. r >>= f) is

-- a stop of a loading is one of an equal loading
pub stop_along : {A : Type 0} (Early Late : List ℕ → Type 0) (stop : SiteStop) (r s : Result A Unloaded) → s ≡ r → ((w : List ℕ) → Early w → Late w) →
    IsLoadStop Early stop r → IsLoadStop Late stop s
stop_along Early Late Memory r s same later is = tt
stop_along Early Late (ReadFault w) r s same later is = later w.now is
stop_along Early Late (Refused w line reason) r s same later is = same ∙ is
stop_along Early Late (TooLong w) r s same later is = same ∙ is

module _ (words : SiteFiles) (file : Contents) where
  -- the plan isn't taken
  pub no_plan : (stop : SiteStop) → IsLoadStop (λ w. w ≡ words.plan) stop (plan_at file words.plan) →
      IsLoadStop (λ w. ReachedInSite words file w) stop (site_of words file)
  no_plan stop is = stops_at (λ w. w ≡ words.plan) (λ w. ReachedInSite words file w) stop (plan_at file words.plan) _
      (λ w at. subst (λ w. ReachedInSite words file w) (sym at) ReachedInSite.at_plan) is

  -- the times aren't
  pub no_times : (plan : PlanOf) (stop : SiteStop) → plan_at file words.plan ≡ Ok plan →
      IsLoadStop (λ w. w ≡ words.times) stop (times_at file words.times plan) →
      IsLoadStop (λ w. ReachedInSite words file w) stop (site_of words file)
  no_times plan stop first is =
      stop_along (λ w. ReachedInSite words file w) (λ w. ReachedInSite words file w) stop _ (site_of words file)
      (goes_on (plan_at file words.plan) plan _ first) (λ w h. h)
      (stops_at (λ w. w ≡ words.times) (λ w. ReachedInSite words file w) stop (times_at file words.times plan) _
      (λ w at. subst (λ w. ReachedInSite words file w) (sym at) (ReachedInSite.at_times plan first)) is)

  -- the plan and the times are taken
  pub tables_next : (plan : PlanOf) (times : List TimesRow) → plan_at file words.plan ≡ Ok plan → times_at file words.times plan ≡ Ok times →
      site_of words file ≡ (intergreens_at file words.intergreens plan >>= (λ seconds. Ok (record { plan = plan; rules = rules_by times seconds })))
  tables_next plan times first second = goes_on (plan_at file words.plan) plan _ first ∙ goes_on (times_at file words.times plan) times _ second

  -- the intergreens aren't
  pub no_intergreens : (plan : PlanOf) (times : List TimesRow) (stop : SiteStop) → plan_at file words.plan ≡ Ok plan →
      times_at file words.times plan ≡ Ok times →
      IsLoadStop (λ w. w ≡ words.intergreens) stop (intergreens_at file words.intergreens plan) →
      IsLoadStop (λ w. ReachedInSite words file w) stop (site_of words file)
  no_intergreens plan times stop first second is =
      stop_along (λ w. ReachedInSite words file w) (λ w. ReachedInSite words file w) stop _ (site_of words file)
      (tables_next plan times first second) (λ w h. h)
      (stops_at (λ w. w ≡ words.intergreens) (λ w. ReachedInSite words file w) stop (intergreens_at file words.intergreens plan) _
      (λ w at. subst (λ w. ReachedInSite words file w) (sym at) (ReachedInSite.at_intergreens plan times first second)) is)

  -- all are taken
  pub site_taken : (plan : PlanOf) (times : List TimesRow) (pairs : Pairs) → plan_at file words.plan ≡ Ok plan → times_at file words.times plan ≡ Ok times →
      intergreens_at file words.intergreens plan ≡ Ok (between pairs) → site_of words file ≡ Ok (record { plan = plan; rules = rules_of times pairs })
  site_taken plan times pairs first second third = tables_next plan times first second ∙
      goes_on (intergreens_at file words.intergreens plan) (between pairs) _ third
