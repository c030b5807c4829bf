-- What the loads of four detectors leave.
use Rattle.std.proofs.Common.{◌≡◌, ℕ, ◌+◌, ◌<◌, ◌≤◌, set, refl, sym, ap, ◌∙◌, subst, arith, get_or-set_other}
use Rattle.std.specs.Prelude.{slice_index_or}
use Rattle.std.proofs.lemmas.List.{set-get_or}
use Rattle.atomic_table.specs.Table.{Me}
use Rattle.atomic_table.specs.Seated.{TableId}
use Rattle.sig_types.specs.Counts.{Counts}
use Rattle.det_board.specs.declared.view.View.{View}
use Rattle.det_board.specs.Rule.{loads_of}
use Rattle.det_board.specs.Passes.{IsTicking, GrowsTo, LoadsOne, ReadsFour, gain_of, events_from}
use Rattle.det_board.proofs.Reading.{still_ticking, reads_one}

-- both words of each of four detectors from place d on were loaded, one detector after the other; they were found a, b, c and e
pub record FourLoads (id : TableId) (me : Me (Unit {0}) View) (T : Counts) (d : ℕ) (a b c e : ℕ × ℕ) (id' : TableId) (me' : Me (Unit {0}) View) : Type 0 where
  pub ids : TableId × TableId × TableId
  pub mes : Me (Unit {0}) View × Me (Unit {0}) View × Me (Unit {0}) View
  pub was : IsTicking id me T
  pub low : d + 3 < 64
  pub one : LoadsOne d id me ids.0 mes.0 a
  pub two : LoadsOne (d + 1) ids.0 mes.0 ids.1 mes.1 b
  pub three : LoadsOne (d + 2) ids.1 mes.1 ids.2 mes.2 c
  pub four : LoadsOne (d + 3) ids.2 mes.2 id' me' e

-- what was found is at least what was read before
pub grows : (id id' : TableId) (me me' : Me (Unit {0}) View) (T : Counts) (d : ℕ) (c : ℕ × ℕ) → IsTicking id me T → d < 64 →
    LoadsOne d id me id' me' c → GrowsTo T d c
grows id id' me me' T d c was low one =
    let is = was.read d low in
    let f = ap (λ (p : ℕ × ℕ). p.0) is in
    let r = ap (λ (p : ℕ × ℕ). p.1) is in
    record {
      inside = low;
      fronts = let g = one.fronts_grow in omega arith;
      rears = let g = one.rears_grow in omega arith;
      ordered = one.ordered;
      bounded = one.bounded;
    }

-- the same counts put again
same_put : (t : Counts) (k : ℕ) (n : ℕ × ℕ) → n ≡ slice_index_or t k (0, 0) → set t k n ≡ t
same_put t k n is = ap (set t k) is ∙ set-get_or t k (0, 0)

-- they gained nothing, and nothing is put into the frame
no_gain : (t f : Counts) (k : ℕ) (n : ℕ × ℕ) → n ≡ slice_index_or t k (0, 0) → slice_index_or f k (0, 0) ≡ (0, 0) → set f k (gain_of t k n) ≡ f
no_gain t f k n is silent =
    let p = ap (λ (q : ℕ × ℕ). q.0) is in
    let q = ap (λ (q : ℕ × ℕ). q.1) is in
    let x : (gain_of t k n).0 ≡ 0 = omega arith in
    let y : (gain_of t k n).1 ≡ 0 = omega arith in
    let z : gain_of t k n ≡ (0, 0) = λ i. (x i, y i) in
    same_put f k (gain_of t k n) (z ∙ sym silent)

module _ {id id' : TableId} {me me' : Me (Unit {0}) View} {T : Counts} {d : ℕ} {a b c e : ℕ × ℕ} where
  after_one : (h : FourLoads id me T d a b c e id' me') → IsTicking h.ids.0 h.mes.0 (set T d a)
  after_one h = still_ticking id h.ids.0 me h.mes.0 T d a h.was (let l = h.low in omega arith) h.one

  after_two : (h : FourLoads id me T d a b c e id' me') → IsTicking h.ids.1 h.mes.1 (set (set T d a) (d + 1) b)
  after_two h = still_ticking h.ids.0 h.ids.1 h.mes.0 h.mes.1 (set T d a) (d + 1) b (after_one h) (let l = h.low in omega arith) h.two

  after_three : (h : FourLoads id me T d a b c e id' me') → IsTicking h.ids.2 h.mes.2 (set (set (set T d a) (d + 1) b) (d + 2) c)
  after_three h = still_ticking h.ids.1 h.ids.2 h.mes.1 h.mes.2 (set (set T d a) (d + 1) b) (d + 2) c (after_two h) (let l = h.low in omega arith) h.three

  pub after_four : FourLoads id me T d a b c e id' me' → IsTicking id' me' (set (set (set (set T d a) (d + 1) b) (d + 2) c) (d + 3) e)
  after_four h = still_ticking h.ids.2 id' h.mes.2 me' (set (set (set T d a) (d + 1) b) (d + 2) c) (d + 3) e (after_three h) h.low h.four

  grows_one : FourLoads id me T d a b c e id' me' → GrowsTo T d a
  grows_one h = grows id h.ids.0 me h.mes.0 T d a h.was (let l = h.low in omega arith) h.one

  grows_two : FourLoads id me T d a b c e id' me' → GrowsTo (set T d a) (d + 1) b
  grows_two h = grows h.ids.0 h.ids.1 h.mes.0 h.mes.1 (set T d a) (d + 1) b (after_one h) (let l = h.low in omega arith) h.two

  grows_three : FourLoads id me T d a b c e id' me' → GrowsTo (set (set T d a) (d + 1) b) (d + 2) c
  grows_three h = grows h.ids.1 h.ids.2 h.mes.1 h.mes.2 (set (set T d a) (d + 1) b) (d + 2) c (after_two h) (let l = h.low in omega arith) h.three

  pub grows_four : FourLoads id me T d a b c e id' me' → GrowsTo (set (set (set T d a) (d + 1) b) (d + 2) c) (d + 3) e
  grows_four h = grows h.ids.2 id' h.mes.2 me' (set (set (set T d a) (d + 1) b) (d + 2) c) (d + 3) e (after_three h) h.low h.four

  -- what the four gained
  pub reads_four : (f : Counts) → FourLoads id me T d a b c e id' me' →
      ReadsFour d (record { table = id; loads = loads_of me.0 }) (record { table = id'; loads = loads_of me'.0 }) f
      (set (set (set (set f d (gain_of T d a)) (d + 1) (gain_of (set T d a) (d + 1) b)) (d + 2) (gain_of (set (set T d a) (d + 1) b) (d + 2) c))
      (d + 3) (gain_of (set (set (set T d a) (d + 1) b) (d + 2) c) (d + 3) e))
  reads_four f h =
      let T1 = set T d a in
      let T2 = set T1 (d + 1) b in
      let T3 = set T2 (d + 2) c in
      let l = h.low in
      record {
        passes = (
          record { table = h.ids.0; loads = loads_of h.mes.0.0 },
          record { table = h.ids.1; loads = loads_of h.mes.1.0 },
          record { table = h.ids.2; loads = loads_of h.mes.2.0 },
        );
        gained = (gain_of T d a, gain_of T1 (d + 1) b, gain_of T2 (d + 2) c, gain_of T3 (d + 3) e);
        one = reads_one id h.ids.0 me h.mes.0 d a (slice_index_or T d (0, 0)) h.one (h.was.read d (omega arith));
        two = reads_one h.ids.0 h.ids.1 h.mes.0 h.mes.1 (d + 1) b (slice_index_or T1 (d + 1) (0, 0)) h.two ((after_one h).read (d + 1) (omega arith));
        three = reads_one h.ids.1 h.ids.2 h.mes.1 h.mes.2 (d + 2) c (slice_index_or T2 (d + 2) (0, 0)) h.three ((after_two h).read (d + 2) (omega arith));
        four = reads_one h.ids.2 id' h.mes.2 me' (d + 3) e (slice_index_or T3 (d + 3) (0, 0)) h.four ((after_three h).read (d + 3) h.low);
        frame = refl;
      }

  -- where the four have as many events as before, each has the counts that it had
  pub all_still : FourLoads id me T d a b c e id' me' → a.0 + a.1 + (b.0 + b.1) + (c.0 + c.1 + (e.0 + e.1)) ≡ events_from T d
      → (a ≡ slice_index_or T d (0, 0)) × (b ≡ slice_index_or (set T d a) (d + 1) (0, 0)) × (c ≡ slice_index_or (set (set T d a) (d + 1) b) (d + 2) (0, 0))
      × (e ≡ slice_index_or (set (set (set T d a) (d + 1) b) (d + 2) c) (d + 3) (0, 0))
  all_still h same =
      let T1 = set T d a in
      let T2 = set T1 (d + 1) b in
      let T3 = set T2 (d + 2) c in
      let x = slice_index_or T d (0, 0) in
      let y = slice_index_or T (d + 1) (0, 0) in
      let z = slice_index_or T (d + 2) (0, 0) in
      let w = slice_index_or T (d + 3) (0, 0) in
      let y_is : slice_index_or T1 (d + 1) (0, 0) ≡ y = get_or-set_other T d (d + 1) a (0, 0) (λ q. omega arith) in
      let z_is : slice_index_or T2 (d + 2) (0, 0) ≡ z = get_or-set_other T1 (d + 1) (d + 2) b (0, 0) (λ q. omega arith) ∙
      get_or-set_other T d (d + 2) a (0, 0) (λ q. omega arith) in
      let w_is : slice_index_or T3 (d + 3) (0, 0) ≡ w =
      get_or-set_other T2 (d + 2) (d + 3) c (0, 0) (λ q. omega arith) ∙ get_or-set_other T1 (d + 1) (d + 3) b (0, 0) (λ q. omega arith) ∙
      get_or-set_other T d (d + 3) a (0, 0) (λ q. omega arith) in
      let one = grows_one h in
      let two = subst (λ (p : ℕ × ℕ). (p.0 ≤ b.0) × (p.1 ≤ b.1)) y_is ((grows_two h).fronts, (grows_two h).rears) in
      let three = subst (λ (p : ℕ × ℕ). (p.0 ≤ c.0) × (p.1 ≤ c.1)) z_is ((grows_three h).fronts, (grows_three h).rears) in
      let four = subst (λ (p : ℕ × ℕ). (p.0 ≤ e.0) × (p.1 ≤ e.1)) w_is ((grows_four h).fronts, (grows_four h).rears) in
      let xf : x.0 ≤ a.0 = one.fronts in
      let xr : x.1 ≤ a.1 = one.rears in
      let yf : y.0 ≤ b.0 = two.0 in
      let yr : y.1 ≤ b.1 = two.1 in
      let zf : z.0 ≤ c.0 = three.0 in
      let zr : z.1 ≤ c.1 = three.1 in
      let wf : w.0 ≤ e.0 = four.0 in
      let wr : w.1 ≤ e.1 = four.1 in
      let sum : a.0 + a.1 + (b.0 + b.1) + (c.0 + c.1 + (e.0 + e.1)) ≡ x.0 + x.1 + (y.0 + y.1) + (z.0 + z.1 + (w.0 + w.1)) = same in
      let a_is : a ≡ x = pair_is a x (omega arith) (omega arith) in
      let b_is : b ≡ y = pair_is b y (omega arith) (omega arith) in
      let c_is : c ≡ z = pair_is c z (omega arith) (omega arith) in
      let e_is : e ≡ w = pair_is e w (omega arith) (omega arith) in
      (a_is, b_is ∙ sym y_is, c_is ∙ sym z_is, e_is ∙ sym w_is)
    where
      pair_is : (p q : ℕ × ℕ) → p.0 ≡ q.0 → p.1 ≡ q.1 → p ≡ q
      pair_is p q f r = λ i. (f i, r i)

  pub totals_stay : FourLoads id me T d a b c e id' me' → a.0 + a.1 + (b.0 + b.1) + (c.0 + c.1 + (e.0 + e.1)) ≡ events_from T d
      → set (set (set (set T d a) (d + 1) b) (d + 2) c) (d + 3) e ≡ T
  totals_stay h same =
      let T1 = set T d a in
      let T2 = set T1 (d + 1) b in
      let T3 = set T2 (d + 2) c in
      let is = all_still h same in
      same_put T3 (d + 3) e is.3 ∙ same_put T2 (d + 2) c is.2 ∙ same_put T1 (d + 1) b is.1 ∙ same_put T d a is.0

  pub frame_stays : (f : Counts) → ((k : ℕ) → d ≤ k → slice_index_or f k (0, 0) ≡ (0, 0)) → FourLoads id me T d a b c e id' me'
      → a.0 + a.1 + (b.0 + b.1) + (c.0 + c.1 + (e.0 + e.1)) ≡ events_from T d
      → set (set (set (set f d (gain_of T d a)) (d + 1) (gain_of (set T d a) (d + 1) b)) (d + 2) (gain_of (set (set T d a) (d + 1) b) (d + 2) c))
      (d + 3) (gain_of (set (set (set T d a) (d + 1) b) (d + 2) c) (d + 3) e) ≡ f
  frame_stays f silent h same =
      let T1 = set T d a in
      let T2 = set T1 (d + 1) b in
      let T3 = set T2 (d + 2) c in
      let g1 = gain_of T1 (d + 1) b in
      let g2 = gain_of T2 (d + 2) c in
      let g3 = gain_of T3 (d + 3) e in
      let is = all_still h same in
      ap (λ x. set (set (set x (d + 1) g1) (d + 2) g2) (d + 3) g3) (no_gain T f d a is.0 (silent d (omega arith)))
      ∙ ap (λ x. set (set x (d + 2) g2) (d + 3) g3) (no_gain T1 f (d + 1) b is.1 (silent (d + 1) (omega arith)))
      ∙ ap (λ x. set x (d + 3) g3) (no_gain T2 f (d + 2) c is.2 (silent (d + 2) (omega arith)))
      ∙ no_gain T3 f (d + 3) e is.3 (silent (d + 3) (omega arith))
