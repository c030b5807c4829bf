-- Sums of fronts and rears over frames in which a detector has some.
use Rattle.std.proofs.Common.{◌≡◌, ℕ, zero, suc, ◌+◌, ◌*◌, ◌<◌, ◌≤◌, true, false, ◌==◌, ◌&&◌, List, [], ◌∷◌, length, map, take, refl, sym, ap, ◌∙◌, subst, arith, add-one, inl, inr}
use Rattle.std.specs.Prelude.{slice_index_or}
use Rattle.std.specs.List.{sum_by}
use Rattle.std.proofs.lemmas.List.Sums.{sum_by-cons, sum_by_more}
use Rattle.std.proofs.lemmas.List.{get_or-map, length-map, take_all}
use Rattle.std.proofs.lemmas.Bool.{cases_Bool, and_parts, eqb-true}
use Rattle.sig_types.specs.Counts.{AreFrames, Counts, Kind, count_of, fronts, rears}
use Rattle.det_stream.specs.Busy.{is_busy, busy_counts}
use Rattle.det_board.specs.Passes.{Feeding}
use Rattle.junction_live.specs.Play.{Played, all_fronts, all_rears, fronts_in, rears_in}
use Rattle.junction_live.proofs.Bridge.{by_place}

few : (h : Counts → ℕ) (fs : List Counts) (n : ℕ) → n ≤ length fs → ((k : ℕ) → k < length fs → h (slice_index_or fs k []) ≤ 99) → sum_by h (take n fs) ≤ 99 * n
few h fs zero le each = omega arith
few h fs (suc n) le each =
    let more = sum_by_more h fs n [] (omega arith) in
    let rec = few h fs n (omega arith) each in
    let one = each n (omega arith) in
    subst (λ k. sum_by h (take k fs) ≤ 99 * suc n) (add-one n) (omega arith)

-- the counts that are busy in as many of the first frames as it takes are the first i of all
abbrev Front : ℕ → List Counts → ℕ → Type 0
Front d fs i = (m : ℕ) × (m ≤ length fs) × (busy_counts d (take m fs) ≡ take i (busy_counts d fs))

busy_next : (d : ℕ) (f : Counts) (fs : List Counts) (i : ℕ) → is_busy (slice_index_or f d (0, 0)) ≡ true →
    ((k : ℕ) → k ≤ length (busy_counts d fs) → Front d fs k) →
    i ≤ length (busy_counts d fs) + 1 → Front d (f ∷ fs) i
busy_next d f fs zero e rest le = (0, omega arith, refl)
busy_next d f fs (suc i) e rest le =
    let front = rest i (omega (arith, le)) in
    (suc front.0, omega (arith, front.1), rw e (ap (λ l. slice_index_or f d (0, 0) ∷ l) front.2))

silent_next : (d : ℕ) (f : Counts) (fs : List Counts) (i : ℕ) → is_busy (slice_index_or f d (0, 0)) ≡ false → Front d fs i → Front d (f ∷ fs) i
silent_next d f fs i e front = (suc front.0, omega (arith, front.1), rw e front.2)

busy_front : (d : ℕ) (fs : List Counts) (i : ℕ) → i ≤ length (busy_counts d fs) → Front d fs i
busy_front d [] zero le = (0, omega arith, refl)
busy_front d [] (suc i) le = absurd (omega (arith, le))
busy_front d (f ∷ fs) i le = elim (cases_Bool (is_busy (slice_index_or f d (0, 0)))) [
  | inl e ↦ busy_next d f fs i e (busy_front d fs) (let short = rw e at le in omega (arith, short))
  | inr e ↦ silent_next d f fs i e (busy_front d fs i (rw e at le))
]

silent_counts : (kind : Kind) (c : ℕ × ℕ) → (c.0 == 0 && c.1 == 0) ≡ true → count_of kind c ≡ 0
silent_counts fronts c e = eqb-true c.0 0 (and_parts (c.0 == 0) (c.1 == 0) e).0
silent_counts rears c e = eqb-true c.1 0 (and_parts (c.0 == 0) (c.1 == 0) e).1

-- frames without counts add nothing
busy_sum : (kind : Kind) (d : ℕ) (fs : List Counts) → sum_by (count_of kind) (busy_counts d fs) ≡ sum_by (λ f. count_of kind (slice_index_or f d (0, 0))) fs
busy_sum kind d [] = refl
busy_sum kind d (f ∷ fs) =
    let whole = sum_by-cons (λ g. count_of kind (slice_index_or g d (0, 0))) f fs in
    let rest = busy_sum kind d fs in
    elim (cases_Bool ((slice_index_or f d (0, 0)).0 == 0 && (slice_index_or f d (0, 0)).1 == 0)) [
      | inl e ↦ (let none = silent_counts kind (slice_index_or f d (0, 0)) e in rw e (omega (arith, whole, rest, none)))
      | inr e ↦ (let some = sum_by-cons (count_of kind) (slice_index_or f d (0, 0)) (busy_counts d fs) in rw e (omega (arith, whole, rest, some)))
    ]

pub busy_fronts : (d : ℕ) (fs : List Counts) → sum_by (count_of fronts) (busy_counts d fs) ≡ all_fronts d fs
busy_fronts d fs = busy_sum fronts d fs

pub busy_rears : (d : ℕ) (fs : List Counts) → sum_by (count_of rears) (busy_counts d fs) ≡ all_rears d fs
busy_rears d fs = busy_sum rears d fs

-- what the next busy frame adds
pub record Next (i : ℕ) (cs : List (ℕ × ℕ)) (c : ℕ × ℕ) : Type 0 where
  pub fronts_are : sum_by (count_of fronts) (take (i + 1) cs) ≡ sum_by (count_of fronts) (take i cs) + c.0
  pub rears_are : sum_by (count_of rears) (take (i + 1) cs) ≡ sum_by (count_of rears) (take i cs) + c.1
  pub ordered : sum_by (count_of rears) (take i cs) + c.1 ≤ sum_by (count_of fronts) (take i cs) + c.0
  pub bounded : sum_by (count_of fronts) (take i cs) + c.0 ≤ 59875200
  pub bounded_rears : sum_by (count_of rears) (take i cs) + c.1 ≤ 59875200

pub next : {B : Type 0} (bs : List B) (b : B) (h : B → ℕ × ℕ) (d i : ℕ) (fs : List Counts) → AreFrames fs → d < 64 → map h bs ≡ busy_counts d fs →
    i < length bs →
    Next i (map h bs) (h (slice_index_or bs i b))
next bs b h d i fs given low are short =
    let cs = map h bs in
    let c = h (slice_index_or bs i b) in
    let is : c ≡ slice_index_or cs i (0, 0) = sym (get_or-map h bs i b (0, 0) short) in
    let inside : i < length cs = omega (arith, short, length-map bs h) in
    let by = by_place fs given in
    let front = busy_front d fs (i + 1) (omega (arith, inside, ap length are)) in
    let m = front.0 in
    let same : busy_counts d (take m fs) ≡ take (i + 1) cs = front.2 ∙ ap (take (i + 1)) (sym are) in
    let f : sum_by (count_of fronts) (take (i + 1) cs) ≡ all_fronts d (take m fs) = ap (sum_by (count_of fronts)) (sym same) ∙ busy_fronts d (take m fs) in
    let r : sum_by (count_of rears) (take (i + 1) cs) ≡ all_rears d (take m fs) = ap (sum_by (count_of rears)) (sym same) ∙ busy_rears d (take m fs) in
    let mf = sum_by_more (count_of fronts) cs i (0, 0) inside in
    let mr = sum_by_more (count_of rears) cs i (0, 0) inside in
    let cf : c.0 ≡ count_of fronts (slice_index_or cs i (0, 0)) = ap (λ (p : ℕ × ℕ). p.0) is in
    let cr : c.1 ≡ count_of rears (slice_index_or cs i (0, 0)) = ap (λ (p : ℕ × ℕ). p.1) is in
    let ord = by.ordered m d front.1 low in
    let bf = few (fronts_in d) fs m front.1 (λ k lt. by.fronts k d lt low) in
    let br = few (rears_in d) fs m front.1 (λ k lt. by.rears k d lt low) in
    let count = by.count in
    record {
      fronts_are = omega (arith, mf, cf);
      rears_are = omega (arith, mr, cr);
      ordered = omega (arith, mf, mr, cf, cr, f, r, ord);
      bounded = omega (arith, mf, cf, f, bf, count, front.1);
      bounded_rears = omega (arith, mr, cr, r, br, count, front.1);
    }

-- the pass counted the first i of these counts
abbrev pub HasPlayed : List (ℕ × ℕ) → ℕ → Feeding → Feeding → Type 0
HasPlayed cs i old new = new ≡ record {
  table = old.table;
  place = old.place;
  fronts = sum_by (count_of fronts) (take i cs);
  rears = sum_by (count_of rears) (take i cs);
}

pub one_more : (old now new : Feeding) (i : ℕ) (cs : List (ℕ × ℕ)) (c : ℕ × ℕ) → Next i cs c → HasPlayed cs i old now →
    new ≡ record { table = now.table; place = now.place; fronts = now.fronts + c.0; rears = now.rears + c.1 } → HasPlayed cs (i + 1) old new
one_more old now new i cs c n was is =
    is ∙ ap (λ (f : Feeding). record { table = f.table; place = f.place; fronts = f.fronts + c.0; rears = f.rears + c.1 }) was
    ∙ (λ j. record { table = old.table; place = old.place; fronts = sym n.fronts_are j; rears = sym n.rears_are j })

pub all_played : (old new : Feeding) (i : ℕ) (fs : List Counts) (cs : List (ℕ × ℕ)) → cs ≡ busy_counts old.place fs → length cs ≤ i →
    HasPlayed cs i old new → Played fs old new
all_played old new i fs cs are all was =
    let whole : take i cs ≡ busy_counts old.place fs = take_all i cs all ∙ are in
    let f : sum_by (count_of fronts) (take i cs) ≡ all_fronts old.place fs = ap (sum_by (count_of fronts)) whole ∙ busy_fronts old.place fs in
    let r : sum_by (count_of rears) (take i cs) ≡ all_rears old.place fs = ap (sum_by (count_of rears)) whole ∙ busy_rears old.place fs in
    was ∙ (λ j. record { table = old.table; place = old.place; fronts = f j; rears = r j })
