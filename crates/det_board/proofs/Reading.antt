-- What one detector's two loads leave.
use Rattle.std.proofs.Common.{◌≡◌, ◌≢◌, ℕ, ◌+◌, ◌-◌, ◌*◌, ◌<◌, ◌≤◌, List, [], ◌∷◌, ◌++◌, length, set, refl, sym, ap, ◌∙◌, subst, arith, get_or-set_same, get_or-set_other, length-set, Option}
use Rattle.std.specs.Prelude.{slice_index_or}
use mathlib.Core.Logic.{dite}
use native.Mathlib.Decide.{ℕ_discrete}
use Rattle.atomic_table.specs.Table.{Me}
use Rattle.atomic_table.specs.Seated.{TableId}
use Rattle.det_board.specs.declared.view.View.{View}
use Rattle.det_board.specs.declared.view.View.TheVariants.{Tick}
use Rattle.det_board.specs.Rule.{most_fronts, last_read, loads_after, fronts_word, rears_word, loads_of, owned_of, dealt_of, with_load}
use Rattle.det_board.specs.Passes.{IsTicking, LoadsOne, ReadsOne}
use Rattle.det_board.proofs.Words.{last_read-here, last_read-else}

pub after_load : (me me' : Me (Unit {0}) View) (w n D : ℕ) (L : List (List ℕ)) (O : List (Option (ℕ × ℕ))) → me ≡ (Tick D L O, []) →
    me' ≡ (with_load w n me.0, me.1) → me' ≡ (Tick D (loads_after L w n) O, [])
after_load me me' w n D L O is e = e ∙ ap (λ (m : Me (Unit {0}) View). (with_load w n m.0, m.1)) is

abbrev pub both_loads : List (List ℕ) → ℕ → ℕ → ℕ → List (List ℕ)
both_loads L d r f = loads_after (loads_after L (rears_word d) r) (fronts_word d) f

pub fronts_last : (L : List (List ℕ)) (d r f : ℕ) → 8 * d + 1 < length L → last_read (both_loads L d r f) (fronts_word d) ≡ f
fronts_last L d r f inside = last_read-here (loads_after L (rears_word d) r) (fronts_word d) f
    (omega (arith, length-set L (rears_word d) (slice_index_or L (rears_word d) [] ++ r ∷ [])))

pub rears_last : (L : List (List ℕ)) (d r f : ℕ) → 8 * d + 1 < length L → last_read (both_loads L d r f) (rears_word d) ≡ r
rears_last L d r f inside = last_read-else (loads_after L (rears_word d) r) (fronts_word d) f (rears_word d) (λ e. omega arith) ∙
    last_read-here L (rears_word d) r inside

pub fronts_kept : (L : List (List ℕ)) (d r f k : ℕ) → k ≢ d → last_read (both_loads L d r f) (fronts_word k) ≡ last_read L (fronts_word k)
fronts_kept L d r f k ne = last_read-else (loads_after L (rears_word d) r) (fronts_word d) f (fronts_word k) (λ e. ne (omega arith)) ∙
    last_read-else L (rears_word d) r (fronts_word k) (λ e. omega arith)

pub rears_kept : (L : List (List ℕ)) (d r f k : ℕ) → k ≢ d → last_read (both_loads L d r f) (rears_word k) ≡ last_read L (rears_word k)
rears_kept L d r f k ne = last_read-else (loads_after L (rears_word d) r) (fronts_word d) f (rears_word k) (λ e. omega arith) ∙
    last_read-else L (rears_word d) r (rears_word k) (λ e. ne (omega arith))

-- what the second load tells of the first
pub between : (me : Me (Unit {0}) View) (d r f D : ℕ) (L : List (List ℕ)) (O : List (Option (ℕ × ℕ))) → 8 * d + 1 < length L →
    me ≡ (Tick D (loads_after L (rears_word d) r) O, [])
    → last_read (loads_of me.0) (fronts_word d) ≤ f → last_read (loads_of me.0) (rears_word d) ≤ f → (last_read L (fronts_word d) ≤ f) × (r ≤ f)
between me d r f D L O inside is a b =
    let x = subst (λ (m : Me (Unit {0}) View). last_read (loads_of m.0) (fronts_word d) ≤ f) is a in
    let y = subst (λ (m : Me (Unit {0}) View). last_read (loads_of m.0) (rears_word d) ≤ f) is b in
    let p = last_read-else L (rears_word d) r (fronts_word d) (λ e. omega arith) in
    let q = last_read-here L (rears_word d) r inside in
    (omega arith, omega arith)

-- the load of the word after w found r
abbrev FoundRears : Me (Unit {0}) View → Me (Unit {0}) View → ℕ → ℕ → Type 0
FoundRears me mid r w = (mid ≡ (with_load (w + 1) r me.0, me.1)) × (last_read (loads_of me.0) (w + 1) ≤ r) × (r ≤ most_fronts)

-- and then that of the word w found f
abbrev FoundFronts : Me (Unit {0}) View → Me (Unit {0}) View → ℕ → ℕ → Type 0
FoundFronts mid me' f w =
    (me' ≡ (with_load w f mid.0, mid.1)) × (last_read (loads_of mid.0) w ≤ f) × (f ≤ most_fronts) × (last_read (loads_of mid.0) (w + 1) ≤ f)

-- the seat after both loads, where the word w is the one with the detector's fronts
pub loads_one : (id id' : TableId) (me mid me' : Me (Unit {0}) View) (d w r f : ℕ) → w ≡ fronts_word d → id' ≡ id → 8 * d + 1 < length (loads_of me.0)
    → me ≡ (Tick (dealt_of me.0) (loads_of me.0) (owned_of me.0), [])
    → FoundRears me mid r w → FoundFronts mid me' f w → LoadsOne d id me id' me' (f, r)
loads_one id id' me mid me' d w r f here same room tick found_rears found_fronts =
    let L = loads_of me.0 in
    let O = owned_of me.0 in
    let one : FoundRears me mid r (fronts_word d) = subst (FoundRears me mid r) here found_rears in
    let two : FoundFronts mid me' f (fronts_word d) = subst (FoundFronts mid me' f) here found_fronts in
    let is = after_load me mid (rears_word d) r (dealt_of me.0) L O tick one.0 in
    let told = between mid d r f (dealt_of me.0) L O room is two.1 two.3 in
    record {
      table = same;
      inside = room;
      view = after_load mid me' (fronts_word d) f (dealt_of me.0) (loads_after L (rears_word d) r) O is two.0;
      fronts_grow = told.0;
      rears_grow = one.1;
      ordered = told.1;
      bounded = two.2;
    }

-- the tick's pass after both loads
pub still_ticking : (id id' : TableId) (me me' : Me (Unit {0}) View) (totals : List (ℕ × ℕ)) (d : ℕ) (c : ℕ × ℕ)
    → IsTicking id me totals → d < 64 → LoadsOne d id me id' me' c
    → IsTicking id' me' (set totals d c)
still_ticking id id' me me' totals d c was low one =
    let L = loads_of me.0 in
    let room : 8 * d + 1 < length L = one.inside in
    let f = c.0 in
    let r = c.1 in
    let ordered : r ≤ f = one.ordered in
    let bounded : f ≤ most_fronts = one.bounded in
    let M = both_loads L d r f in
    let at_id : IsTicking id (Tick (dealt_of me.0) M (owned_of me.0), []) (set totals d c) = record {
      view = refl;
      load_count = length-set (loads_after L (rears_word d) r) (fronts_word d) _ ∙ length-set L (rears_word d) _ ∙ was.load_count;
      owned_count = was.owned_count;
      size = length-set totals d c ∙ was.size;
      read = λ k lt. dite (ℕ_discrete k d)
          (λ e. subst (λ j. slice_index_or (set totals d c) j (0, 0) ≡ (last_read M (fronts_word j), last_read M (rears_word j))) (sym e)
          (get_or-set_same totals d c (0, 0) (let z = was.size in omega arith) ∙ (λ i. (sym (fronts_last L d r f room) i, sym (rears_last L d r f room) i))))
          (λ ne. get_or-set_other totals d k c (0, 0) ne ∙ was.read k lt ∙ (λ i. (sym (fronts_kept L d r f k ne) i, sym (rears_kept L d r f k ne) i)));
      ordered = λ k lt. dite (ℕ_discrete k d)
          (λ e. subst (λ j. (last_read M (rears_word j) ≤ last_read M (fronts_word j)) × (last_read M (fronts_word j) ≤ most_fronts)) (sym e)
          (let a = rears_last L d r f room in let b = fronts_last L d r f room in (omega arith, omega arith)))
          (λ ne. let a = rears_kept L d r f k ne in let b = fronts_kept L d r f k ne in let o = was.ordered k lt in (omega (arith, o.0), omega (arith, o.1)));
    } in
    subst (λ t. IsTicking t me' (set totals d c)) (sym one.table) (subst (λ m. IsTicking id m (set totals d c)) (sym one.view) at_id)

-- the pass after both loads, and what they gained; b is what was read before
pub reads_one : (id id' : TableId) (me me' : Me (Unit {0}) View) (d : ℕ) (c b : ℕ × ℕ) → LoadsOne d id me id' me' c
    → b ≡ (last_read (loads_of me.0) (fronts_word d), last_read (loads_of me.0) (rears_word d))
    → ReadsOne d (record { table = id; loads = loads_of me.0 }) (record { table = id'; loads = loads_of me'.0 }) (c.0 - b.0, c.1 - b.1)
reads_one id id' me me' d c b one was =
    let L = loads_of me.0 in
    let e0 : b.0 ≡ last_read L (fronts_word d) = ap (λ (p : ℕ × ℕ). p.0) was in
    let e1 : b.1 ≡ last_read L (rears_word d) = ap (λ (p : ℕ × ℕ). p.1) was in
    let low0 = one.fronts_grow in
    let low1 = one.rears_grow in
    let ordered = one.ordered in
    let bounded = one.bounded in
    let x : c.1 ≡ (c.1 - b.1) + last_read L (rears_word d) = omega arith in
    let y : c.0 ≡ (c.0 - b.0) + last_read L (fronts_word d) = omega arith in
    record {
      table = one.table;
      loads = ap (λ (m : Me (Unit {0}) View). loads_of m.0) one.view ∙ (λ i. both_loads L d (x i) (y i));
      inside = one.inside;
      ordered = omega arith;
      bounded = omega arith;
    }
