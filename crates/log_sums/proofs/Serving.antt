-- The fronts of detectors that serve a group.
use Rattle.std.proofs.Common.{◌≡◌, ◌∙◌, ℕ, suc, ◌+◌, ◌-◌, ◌<◌, ◌≤◌, Bool, false, List, [], ◌∷◌, ◌++◌, get_or, length, take, refl, sym, ap, subst, arith}
use Rattle.std.specs.Prelude.{if◌then◌else◌}
use Rattle.std.proofs.Math.ListN.{get_or-map}
use Rattle.std.proofs.lemmas.List.{length-map, map-append, take_more}
use Rattle.sig_types.specs.declared.aspect.Aspect.{Aspect}
use Rattle.sig_types.specs.declared.aspect.Aspect.TheVariants.{Red}
use Rattle.sig_types.specs.declared.record.Record.{Record}
use Rattle.sig_types.specs.Counts.{Counts, count_in, count_of, fronts}
use Rattle.log_sums.specs.ServeSums.{AreServeSums}
use Rattle.log_sums.specs.Series.{sum_to}
use Rattle.log_sums.specs.declared.serves.Serve.{Serve}
use Rattle.log_sums.specs.declared.serves.Served.{Served}
use Rattle.log_sums.specs.Serves.{AddServes, fronts_at, fronts_of, serves_of}
use Rattle.log_sums.specs.Told.{AgreesTo, shown_by, told}
use Rattle.log_sums.proofs.Added.{size_more}
use Rattle.log_sums.proofs.Telling.{agrees_last, agrees_still}

-- the fronts of those of the first n detectors that serve it
abbrev pub fronts_to : List Bool → Counts → ℕ → ℕ
fronts_to detectors frame n = sum_to (λ d. if get_or detectors (d - 1) false then count_in fronts d frame else 0) n

-- one detector more
pub fronts_more : (detectors : List Bool) (frame : Counts) (p : ℕ) (chosen : Bool) (more : ℕ) → chosen ≡ get_or detectors p false →
    more ≡ (if chosen then count_of fronts (get_or frame p (0, 0)) else 0) → fronts_to detectors frame (p + 1) ≡ fronts_to detectors frame p + more
fronts_more detectors frame p chosen more choice is =
    let next : suc p ≡ p + 1 = omega arith in
    let same : suc p - 1 ≡ p = omega arith in
    rw (← next, is, choice, same) refl

-- all 64 of them
pub fronts_whole : (detectors : List Bool) (frame : Counts) (n : ℕ) → n ≡ 64 → fronts_to detectors frame n ≡ fronts_at detectors frame
unfolding fronts_at
fronts_whole detectors frame n all = ap (fronts_to detectors frame) all

-- the detectors and the group are as they were at each place
pub serve_at : (xs ys : List Served) (i : ℕ) (d : Served) → serves_of xs ≡ serves_of ys → (get_or xs i d).serve ≡ (get_or ys i d).serve
serve_at xs ys i d same =
    sym (get_or-map (λ (x : Served). x.serve) xs i d) ∙ ap (λ (l : List Serve). get_or l i d.serve) same ∙ get_or-map (λ (x : Served). x.serve) ys i d

-- detectors more that saw nothing yet
pub served_more : (old new : List Served) (serves : List Serve) (i : ℕ) (d : Serve) (x : Served) → i < length serves → x.serve ≡ get_or serves i d →
    new ≡ old ++ x ∷ [] → serves_of old ≡ take i serves → serves_of new ≡ take (i + 1) serves
served_more old new serves i d x inside same put before =
    ap serves_of put ∙ map-append (λ (y : Served). y.serve) old (x ∷ []) ∙ ap (λ (l : List Serve). l ++ x.serve ∷ []) before
    ∙ ap (λ (s : Serve). take i serves ++ s ∷ []) same ∙ sym (take_more serves i d inside)

-- detectors that were shown a record more
pub serves_more : (from second : ℕ) (records : List Record) (r : Record) (old new : List Served) → second ≡ length records + 1 → second < 1048576 →
    serves_of new ≡ serves_of old →
    ((a : ℕ → Aspect) (f : ℕ → ℕ) (n i : ℕ) (d : Served) → i < length old → second ≡ n + 1 → second < 1048576 →
    a second ≡ get_or r.picture (get_or old i d).serve.group.0 Red → f second ≡ fronts_at (get_or old i d).serve.detectors r.frame →
    AreServeSums a f from n (get_or old i d).sums → AreServeSums a f from second (get_or new i d).sums) →
    AddServes from records old → AddServes from (records ++ r ∷ []) new
serves_more from second records r old new next small same show before i d inside a f shown seen =
    let rs = records ++ r ∷ [] in
    let s : Serve = (get_or old i d).serve in
    let as_old = serve_at new old i d same in
    let size : length new ≡ length old = sym (length-map {B = Serve} new (λ (x : Served). x.serve)) ∙ ap length same ∙ length-map {B = Serve} old (λ (x : Served). x.serve) in
    let under : i < length old = omega (arith, inside, size) in
    let last : length rs ≡ second = size_more records r ∙ sym next in
    let shown_old : AgreesTo a (told (shown_by s.group.0) Red rs) (length rs)
    = subst (λ (x : Serve). AgreesTo a (told (shown_by x.group.0) Red rs) (length rs)) as_old shown in
    let fronts_old : AgreesTo f (told (fronts_of s.detectors) 0 rs) (length rs)
    = subst (λ (x : Serve). AgreesTo f (told (fronts_of x.detectors) 0 rs) (length rs)) as_old seen in
    rw last (show a f (length records) i d under next small (agrees_last Aspect (shown_by s.group.0) Red records r a second next shown_old)
    (agrees_last ℕ (fronts_of s.detectors) 0 records r f second next fronts_old)
    (before i d under a f (agrees_still Aspect (shown_by s.group.0) Red records r a shown_old)
    (agrees_still ℕ (fronts_of s.detectors) 0 records r f fronts_old)))
