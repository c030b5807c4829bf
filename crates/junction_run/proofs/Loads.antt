-- What the loading of a site stops at, and what it goes on with.
use Rattle.std.proofs.Common.{◌≡◌, ◌∙◌, List, ℕ, Result, Ok, Err, refl, ap}
use Rattle.sig_io.specs.Outside.{Contents}
use Rattle.site_load.specs.declared.site.SiteTables.{SiteTables}
use Rattle.site_load.specs.declared.stop.SiteStop.{SiteStop}
use Rattle.site_load.specs.declared.stop.SiteStop.TheVariants.{Memory, ReadFault, Refused, TooLong}
use Rattle.site_load.specs.Loading as sites
use Rattle.site_load.specs.Sites as held
use Rattle.site_load.specs.Stop as stops
use Rattle.controller.specs.Past.{Site}
use Rattle.junction_run.specs.declared.status.Status.TheVariants as status
use Rattle.junction_run.specs.Form.{SiteWords}
use Rattle.junction_run.specs.Loading.{Unloaded, ◌>>=◌, plan_at, times_at, intergreens_at, map_ok, site_of, ReachedInSite}
use Rattle.junction_run.specs.Sites.{site_of_tables}
use Rattle.junction_run.specs.Stop.{IsAmong, IsLoadStop, load_status, load_stop}

-- a site, as the controller sees it
abbrev seen : sites.Site → Site
seen site = record { plan = site.plan; rules = site.rules }

-- steps that give what other steps give, seen so
seen_then : {A B C : Type 0} (see : B → C) (r : Result A Unloaded) (f : A → Result B Unloaded) (g : A → Result C Unloaded) →
    ((x : A) → g x ≡ map_ok see (f x)) → (r >>= g) ≡ map_ok see (r >>= f)
seen_then see (Ok x) f g same = same x
seen_then see (Err u) f g same = refl

-- the files of a site give the site as the controller sees it
same_site : (words : SiteWords) (file : Contents) → site_of words file ≡ map_ok seen (sites.site_of words file)
same_site words file =
    seen_then seen (plan_at file words.plan) _ _ (λ plan.
    seen_then seen (times_at file words.times plan) _ _ (λ times.
    seen_then seen (intergreens_at file words.intergreens plan) _ _ (λ between. refl)))

-- a site that is taken
pub site_taken : (words : SiteWords) (file : Contents) (tables : SiteTables) → sites.site_of words file ≡ Ok (held.site_of_tables tables) →
    site_of words file ≡ Ok (site_of_tables tables)
site_taken words file tables is = same_site words file ∙ ap (map_ok seen) is

-- a stop at one of its files
pub site_stopped : (words : SiteWords) (file : Contents) (stop : SiteStop) →
    stops.IsLoadStop (λ w. ReachedInSite words file w) stop (sites.site_of words file) →
    IsLoadStop (λ w. ReachedInSite words file w) (load_stop stop) (site_of words file)
site_stopped words file Memory is = tt
site_stopped words file (ReadFault w) is = is
site_stopped words file (Refused w line reason) is = same_site words file ∙ ap (map_ok seen) is
site_stopped words file (TooLong w) is = same_site words file ∙ ap (map_ok seen) is

-- the file that it names
pub stop_among : (files : List (List ℕ)) (stop : SiteStop) → stops.IsAmong files stop → IsAmong files (load_stop stop)
stop_among files Memory is = tt
stop_among files (ReadFault w) is = is
stop_among files (Refused w line reason) is = is
stop_among files (TooLong w) is = is

-- a stop for a read that failed is one of the site for that
pub stop_failed : (A : Type 0) (stop : SiteStop) → load_status (load_stop stop) ≡ status.ReadFault → stops.IsReadFault {A = A} (Err stop)
stop_failed A Memory is = cc
stop_failed A (ReadFault w) is = tt
stop_failed A (Refused w line reason) is = cc
stop_failed A (TooLong w) is = cc
