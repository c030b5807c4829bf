-- Sums with a record more.
use Rattle.std.proofs.Common.{◌≡◌, ◌∙◌, ℕ, zero, suc, ◌+◌, ◌-◌, ◌<◌, ◌≤◌, ◌≢◌, Bool, true, false, eqb, List, [], ◌∷◌, ◌++◌, Some, get_or, set, length, refl, sym, ap, subst, take, arith, length-append, eqb-true, eq-eqb}
use Rattle.std.specs.List.{slice_get}
use Rattle.std.proofs.lemmas.List.{get_or-set_other, get_or-set_same, get_or_default, take_more}
use Rattle.std.proofs.lemmas.Option.{get_or_from_slice_get, slice_get_within}
use Rattle.sig_types.specs.declared.record.Record.{Record}
use Rattle.log_sums.specs.declared.tally.Tally.{Tally}
use Rattle.log_sums.specs.Tallies.{AreTallies}
use Rattle.sig_types.specs.Counts.{Counts, Kind, count_in, count_of}
use Rattle.log_sums.specs.Adding.{AddTallies}
use Rattle.log_sums.proofs.Telling.{agrees_last, agrees_still}

pub size_more : (records : List Record) (r : Record) → length (records ++ r ∷ []) ≡ length records + 1
size_more records r = length-append records (r ∷ [])

at_or_before : (A : Type 0) (xs : List A) (i j : ℕ) (y d : A) (P : A → Type 0) (here : Bool) → eqb j i ≡ here → i < length xs → (j ≡ i → P y) →
    (j < i → P (get_or xs j d)) → j < i + 1 → P (get_or (set xs i y) j d)
at_or_before A xs i j y d P true e inside is before less =
    subst P (sym (ap (λ (k : ℕ). get_or (set xs i y) k d) (eqb-true j i e) ∙ get_or-set_same xs i y d inside)) (is (eqb-true j i e))
at_or_before A xs i j y d P false e inside is before less =
    let other : j ≢ i = λ same. (let both : true ≡ false = sym (eq-eqb j i same) ∙ e in cc) in
    subst P (sym (get_or-set_other xs i j y d other)) (before (omega (arith, other, less)))

-- what holds at a place that was written, and before it
pub set_shown : (A : Type 0) (xs : List A) (i j : ℕ) (y d : A) (P : A → Type 0) → i < length xs → (j ≡ i → P y) → (j < i → P (get_or xs j d)) →
    j < i + 1 → P (get_or (set xs i y) j d)
set_shown A xs i j y d P inside is before less = at_or_before A xs i j y d P (eqb j i) refl inside is before less

pub set_rest : (A : Type 0) (xs : List A) (i j : ℕ) (y d : A) → i + 1 ≤ j → get_or (set xs i y) j d ≡ get_or xs j d
set_rest A xs i j y d behind = let other : j ≢ i = omega arith in get_or-set_other xs i j y d other

-- a list of which one item more was taken
pub item_more : {A : Type 0} (old new xs : List A) (i : ℕ) (x : A) → slice_get xs i ≡ Some x → new ≡ old ++ x ∷ [] → old ≡ take i xs → new ≡ take (i + 1) xs
item_more old new xs i x is put before =
    let inside = slice_get_within xs i x is in
    let here : get_or xs i x ≡ x = get_or_from_slice_get xs i x x is in
    put ∙ (ap (λ l. l ++ x ∷ []) before ∙ sym (take_more xs i x inside ∙ ap (λ y. take i xs ++ y ∷ []) here))

-- tallies that were shown what a record tells
pub tallies_more : (K : Type 0) (code : K → ℕ) (f : Record → List K) (from second : ℕ) (records : List Record) (r : Record) (old new : List (Tally K)) →
    second ≡ length records + 1 → second < 2147483648 →
    ((a : ℕ → List K) (n : ℕ) → second ≡ n + 1 → second < 2147483648 → a second ≡ f r → AreTallies code a from n old → AreTallies code a from second new) →
    AddTallies code f from records old → AddTallies code f from (records ++ r ∷ []) new
tallies_more K code f from second records r old new next small show before a agrees =
    let last : length (records ++ r ∷ []) ≡ second = size_more records r ∙ sym next in
    rw last (show a (length records) next small (agrees_last (List K) f [] records r a second next agrees)
    (before a (agrees_still (List K) f [] records r a agrees)))

-- no tally, of no second
pub no_tallies : {K : Type 0} {code : K → ℕ} {a : ℕ → List K} {from : ℕ} → AreTallies code a from 0 []
no_tallies = record { keys_are = refl; each = λ i d inside. absurd (omega (arith, inside)) }

-- what holds at a place of a list holds at the same one of another that agrees there
pub read_at : (A : Type 0) (P : A → Type 0) (xs old : List A) (i j : ℕ) (d e : A) → i < length xs → j ≡ i → get_or xs i d ≡ get_or old i d →
    P (get_or old j d) → P (get_or xs i e)
read_at A P xs old i j d e inside same kept is =
    let there : P (get_or old i d) = subst (λ (k : ℕ). P (get_or old k d)) same is in
    let here : P (get_or xs i d) = subst P (sym kept) there in
    subst P (get_or_default xs i d e inside) here

-- a detector's count, by its place
pub count_at : (kind : Kind) (p i : ℕ) (frame : Counts) → p ≡ i → count_in kind (p + 1) frame ≡ count_of kind (get_or frame i (0, 0))
count_at kind p i frame same = let place : p + 1 - 1 ≡ i = omega (arith, same) in ap (λ (k : ℕ). count_of kind (get_or frame k (0, 0))) place

pub take_none : (n : ℕ) (none : List Record) → none ≡ [] → take n none ≡ []
take_none zero none e = refl
take_none (suc n) none e = rw e refl
