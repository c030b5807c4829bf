-- What is told of a second, of what its parts answer.
use Rattle.std.proofs.Common.{◌≡◌, ◌≢◌, ◌∙◌, ◌+◌, ℕ, ℤ, Bool, true, false, List, [], ◌∷◌, ◌++◌, length, map, refl, sym, ap, arith, inl, inr, ◌⊎◌, nat_eq, eq-eqb}
use Rattle.std.specs.Prelude.{if◌then◌else◌, codes, ◌==◌}
use Rattle.std.specs.Fmt.{decimal}
use Rattle.std.proofs.lemmas.Bool.Decides.{eqb_tells}
use Rattle.sig_types.specs.declared.record.Record.{Record}
use Rattle.sig_types.specs.Counts.{Counts}
use Rattle.sig_types.specs.Pass.{Store, without_commands}
use Rattle.pua_model.specs.Plan.{PlanOf}
use Rattle.vap_ast.specs.Syntax.{Program}
use Rattle.vap_code.specs.Codes.{CodeOf}
use Rattle.vap_code.specs.Machine.{machine}
use Rattle.controller.specs.declared.controller.Controller.{Controller}
use Rattle.controller.specs.Controls.{StandsFor, last_record, plan_of, site_of}
use Rattle.controller.specs.Past.{Site, Past, next_second}
use Rattle.controller.specs.Second.{past_after_second, record_of}
use Rattle.controller.specs.Seen.{sights_in}
use Rattle.trace_watch.specs.declared.event.Event.{Event}
use Rattle.trace_watch.specs.Events.{events_of}
use Rattle.trace_told.specs.declared.columns.Column.{Column}
use Rattle.trace_told.specs.declared.columns.Column.TheVariants.{Variable, Timer, Cell}
use Rattle.trace_told.specs.declared.kept.Kept.{Kept}
use Rattle.trace_told.specs.Listing.{change_text, changes_text, difference_text, column_of, events_text, fault_text, full_text, kept_anew, kept_in, kept_of, listed, listing_text, second_text, second_told, value_in}

value_same : (s : Store) (c : Column) → value_in (without_commands s) c ≡ value_in s c
value_same s (Variable v) = refl
value_same s (Timer t) = refl
value_same s (Cell a place) = refl

kept_same : (s : Store) (columns : List Column) → kept_in s columns ≡ kept_in (without_commands s) columns
kept_same s [] = refl
kept_same s (c ∷ cs) = λ j. record { column = c; before = sym (value_same s c) j } ∷ kept_same s cs j

change_with : (p : Program) (s : Store) (kept : Kept) → change_text p s kept ≡ change_text p (without_commands s) kept
change_with p s kept = ap (λ (v : ℤ). difference_text p kept.column kept.before v) (sym (value_same s kept.column))

changes_same : (p : Program) (s : Store) (kept : List Kept) → changes_text p s kept ≡ changes_text p (without_commands s) kept
changes_same p s [] = refl
changes_same p s (k ∷ ks) = λ j. change_with p s k j ++ changes_same p s ks j

-- stores that differ in their commands alone have one listing
listing_same : (plan : PlanOf) (p : Program) (events : List Event) (r : Record) (s : Store) (kept : List Kept) →
    listing_text plan p events r s kept ≡ listing_text plan p events r (without_commands s) kept
unfolding listing_text
listing_same plan p events r s kept =
    ap (λ t. codes "second " ++ (decimal r.second.0 ++ (events_text plan p r events ++ (full_text (length events)
    ++ (fault_text r.fault ++ (t ++ (codes "\nrecord " ++ Rattle.signal_log.specs.Log.record_text plan.names r))))))) (changes_same p s kept)

anew_in : (s : Store) (kept : List Kept) → map (kept_anew s) kept ≡ kept_in s (map column_of kept)
anew_in s [] = refl
anew_in s (k ∷ ks) = ap (λ l. kept_of s k.column ∷ l) (anew_in s ks)

-- keeping values anew changes none of which they are
pub same_columns : (s : Store) (kept : List Kept) → map column_of (map (kept_anew s) kept) ≡ map column_of kept
same_columns s [] = refl
same_columns s (k ∷ ks) = ap (λ l. k.column ∷ l) (same_columns s ks)

-- the values that were kept anew
pub anew_is : (s : Store) (old new : List Kept) → new ≡ map (kept_anew s) old → new ≡ kept_in s (map column_of old)
anew_is s old new is = is ∙ anew_in s old

-- the listing of a second
pub listing_is : (p : Program) (columns : List Column) (code : CodeOf) (site : Site) (past : Past) (frame : Counts) (plan : PlanOf) (events : List Event)
    (r : Record) (before after : Store) (kept : List Kept) → plan ≡ site.plan → events ≡ listed (events_of (sights_in code site past frame)) →
    r ≡ record_of (machine code) site past frame → without_commands after ≡ (past_after_second (machine code) site past frame).store →
    kept ≡ kept_in before columns → without_commands before ≡ past.store →
    listing_text plan p events r after kept ≡ second_text p columns code site past frame
listing_is p columns code site past frame plan events r before after kept at seen is left keeps had =
    listing_same plan p events r after kept
    ∙ (λ j. listing_text (at j) p (seen j) (is j) (left j) (keeps j))
    ∙ ap (λ ks. listing_text site.plan p (listed (events_of (sights_in code site past frame))) (record_of (machine code) site past frame)
    (past_after_second (machine code) site past frame).store ks) (kept_same before columns ∙ ap (λ s. kept_in s columns) had)

-- the plan of a controller's site
pub same_plan : (c : Controller) → plan_of c ≡ (site_of c).plan
unfolding plan_of site_of
same_plan c = refl

-- the second that comes is the one behind the last one made
pub next_is : (c : Controller) (past : Past) → StandsFor c past → next_second past ≡ (last_record c).second.0 + 1
unfolding StandsFor last_record
next_is c past h = omega (arith, h.seconds, h.numbered)

-- the one that is asked for
pub told_is : (p : Program) (columns : List Column) (before second : ℕ) (code : CodeOf) (site : Site) (past : Past) (frame : Counts) →
    next_second past ≡ second + 1 → second ≡ before → second_text p columns code site past frame ≡ second_told p columns before code site past frame
told_is p columns before second code site past frame next is =
    let same : next_second past ≡ before + 1 = omega (arith, next, is) in
    rw (eq-eqb (next_second past) (before + 1) same) refl

-- another one
pub none_told : (p : Program) (columns : List Column) (before second : ℕ) (code : CodeOf) (site : Site) (past : Past) (frame : Counts) →
    next_second past ≡ second + 1 → second ≢ before → [] ≡ second_told p columns before code site past frame
none_told p columns before second code site past frame next other = go (eqb_tells (next_second past) (before + 1))
  where
    go : ((nat_eq (next_second past) (before + 1) ≡ true) × (next_second past ≡ before + 1))
        ⊎ ((nat_eq (next_second past) (before + 1) ≡ false) × (next_second past ≢ before + 1)) → [] ≡ second_told p columns before code site past frame
    go (inl t) = absurd (other (let same = t.1 in omega (arith, next, same)))
    go (inr t) = rw t.0 refl
