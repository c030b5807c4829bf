-- What detectors saw, where it begins to count anew.
use Rattle.std.proofs.Common.{◌≡◌, ◌∙◌, ℕ, ◌+◌, ◌<◌, List, [], ◌∷◌, ◌++◌, get_or, length, take, sym, ap, subst, arith}
use Rattle.std.proofs.lemmas.List.{length-map, map-append, map_more}
use Rattle.sig_types.specs.declared.aspect.Aspect.{Aspect}
use Rattle.sig_types.specs.declared.aspect.Aspect.TheVariants.{Red}
use Rattle.sig_types.specs.declared.record.Record.{Record}
use Rattle.log_sums.specs.ServeSums.{AreServeSums}
use Rattle.log_sums.specs.declared.serves.Serve.{Serve}
use Rattle.log_sums.specs.declared.serves.Served.{Served}
use Rattle.log_sums.specs.Serves.{AddServes, fronts_of, serves_of}
use Rattle.log_sums.specs.Told.{AgreesTo, shown_by, told}
use Rattle.log_sums.proofs.Serving.{serve_at}

-- the same detectors and one more
pub serve_more : (old new xs : List Served) (i : ℕ) (d x : Served) → i < length xs → x.serve ≡ (get_or xs i d).serve → new ≡ old ++ x ∷ [] →
    serves_of old ≡ serves_of (take i xs) → serves_of new ≡ serves_of (take (i + 1) xs)
serve_more old new xs i d x inside same put before =
    ap serves_of put ∙ map-append (λ (y : Served). y.serve) old (x ∷ []) ∙ ap (λ (l : List Serve). l ++ x.serve ∷ []) before
    ∙ ap (λ (s : Serve). serves_of (take i xs) ++ s ∷ []) same ∙ sym (map_more (λ (y : Served). y.serve) xs i d inside)

-- all of them, counted from the second behind these records on
pub restarted : (from : ℕ) (records : List Record) (old new : List Served) → serves_of new ≡ serves_of old →
    ((a : ℕ → Aspect) (f : ℕ → ℕ) (from n i : ℕ) (d : Served) → i < length old → AreServeSums a f from n (get_or old i d).sums →
    AreServeSums a f (n + 1) n (get_or new i d).sums) → AddServes from records old → AddServes (length records + 1) records new
restarted from records old new same anew before i d inside a f shown seen =
    let as_old = serve_at new old i d same in
    let size : length new ≡ length old
    = sym (length-map {B = Serve} new (λ (x : Served). x.serve)) ∙ ap length same ∙ length-map {B = Serve} old (λ (x : Served). x.serve) in
    let under : i < length old = omega (arith, inside, size) in
    anew a f from (length records) i d under
    (before i d under a f (subst (λ (x : Serve). AgreesTo a (told (shown_by x.group.0) Red records) (length records)) as_old shown)
    (subst (λ (x : Serve). AgreesTo f (told (fronts_of x.detectors) 0 records) (length records)) as_old seen))
