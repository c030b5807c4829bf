-- What loading both tables stops at, and what it gives.
use Rattle.std.proofs.Common.{◌≡◌, ◌∙◌, ℕ, List, Ok, sym, subst}
use Rattle.sig_io.specs.Outside.{Contents}
use Rattle.pua_model.specs.Plan.{PlanOf}
use Rattle.sig_tables.specs.declared.times.TimesRow.{TimesRow}
use Rattle.sig_tables.specs.Pairs.{Pairs, between}
use Rattle.sig_tables.specs.SiteRules.{rules_by, rules_of}
use Rattle.site_load.specs.declared.stop.SiteStop.{SiteStop}
use Rattle.site_load.specs.Stop.{IsLoadStop}
use Rattle.site_load.proofs.Loads.{goes_on, stop_along, stops_at}
use Rattle.tenth_report.specs.Tables.{ReachedInTables, intergreens_at, rules_at, times_at}

module _ (file : Contents) (times intergreens : List ℕ) (plan : PlanOf) where
  -- the times aren't taken
  pub no_times : (stop : SiteStop) → IsLoadStop (λ w. w ≡ times) stop (times_at file times plan) →
      IsLoadStop (λ w. ReachedInTables file times intergreens plan w) stop (rules_at file times intergreens plan)
  no_times stop is = stops_at (λ w. w ≡ times) (λ w. ReachedInTables file times intergreens plan w) stop (times_at file times plan) _
      (λ w at. subst (λ w. ReachedInTables file times intergreens plan w) (sym at) ReachedInTables.at_times) is

  -- the intergreens aren't
  pub no_intergreens : (rows : List TimesRow) (stop : SiteStop) → times_at file times plan ≡ Ok rows →
      IsLoadStop (λ w. w ≡ intergreens) stop (intergreens_at file intergreens plan) →
      IsLoadStop (λ w. ReachedInTables file times intergreens plan w) stop (rules_at file times intergreens plan)
  no_intergreens rows stop first is =
      stop_along (λ w. ReachedInTables file times intergreens plan w) (λ w. ReachedInTables file times intergreens plan w) stop _
      (rules_at file times intergreens plan) (goes_on (times_at file times plan) rows _ first) (λ w h. h)
      (stops_at (λ w. w ≡ intergreens) (λ w. ReachedInTables file times intergreens plan w) stop (intergreens_at file intergreens plan) _
      (λ w at. subst (λ w. ReachedInTables file times intergreens plan w) (sym at) (ReachedInTables.at_intergreens rows first)) is)

  -- both are taken
  pub tables_taken : (rows : List TimesRow) (pairs : Pairs) → times_at file times plan ≡ Ok rows →
      intergreens_at file intergreens plan ≡ Ok (between pairs) → rules_at file times intergreens plan ≡ Ok (rules_of rows pairs)
  tables_taken rows pairs first second = goes_on (times_at file times plan) rows _ first ∙
      goes_on (intergreens_at file intergreens plan) (between pairs) (λ seconds. Ok (rules_by rows seconds)) second
