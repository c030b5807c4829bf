-- A take, detector by detector.
use Rattle.std.proofs.Common.{◌≡◌, ◌≢◌, ℕ, ◌+◌, ◌*◌, ◌<◌, ◌≤◌, List, [], ◌∷◌, ◌++◌, length, set, refl, sym, ap, ◌∙◌, subst, arith, get_or-set_same, get_or-set_other, length-set, replicate}
use Rattle.std.specs.Prelude.{slice_index_or}
use mathlib.Core.Logic.{dite}
use native.Mathlib.Decide.{ℕ_discrete}
use Rattle.det_board.specs.Rule.{most_fronts, last_from, last_read, loads_after, fronts_word, rears_word}
use Rattle.det_board.specs.Passes.{Ticking, ReadsOne, fronts_read, rears_read, fronts_loads, rears_loads, ReadsFour, Taking}
use Rattle.det_board.proofs.Opening.{all_zero}
use Rattle.det_board.proofs.Reading.{both_loads, fronts_last, rears_last, fronts_kept, rears_kept}

pub nothing_taken : (old : Ticking) (frame : List (ℕ × ℕ)) → frame ≡ replicate 64 (0, 0) → Taking 0 old old frame
nothing_taken old frame is = subst (Taking 0 old old) (sym is) (record {
  table = refl;
  count = refl;
  fronts = λ d h. absurd (omega arith);
  rears = λ d h. absurd (omega arith);
  left_fronts = λ d h. refl;
  left_rears = λ d h. refl;
  size = refl;
  gains = λ d h. absurd (omega arith);
  absent = λ d h. all_zero 64 d;
  ordered = λ d h. absurd (omega arith);
})

-- the list of the rears word, and of the fronts word
list_fronts : (L : List (List ℕ)) (d r f : ℕ) → 8 * d + 1 < length L →
    slice_index_or (both_loads L d r f) (fronts_word d) [] ≡ slice_index_or L (fronts_word d) [] ++ f ∷ []
list_fronts L d r f inside = get_or-set_same (loads_after L (rears_word d) r) (fronts_word d) _ []
    (omega (arith, length-set L (rears_word d) (slice_index_or L (rears_word d) [] ++ r ∷ [])))
    ∙ ap (λ l. l ++ f ∷ []) (get_or-set_other L (rears_word d) (fronts_word d) _ [] (λ e. omega arith))

list_rears : (L : List (List ℕ)) (d r f : ℕ) → 8 * d + 1 < length L →
    slice_index_or (both_loads L d r f) (rears_word d) [] ≡ slice_index_or L (rears_word d) [] ++ r ∷ []
list_rears L d r f inside = get_or-set_other (loads_after L (rears_word d) r) (fronts_word d) (rears_word d) _ [] (λ e. omega arith) ∙
    get_or-set_same L (rears_word d) _ [] inside

list_fronts_else : (L : List (List ℕ)) (d r f k : ℕ) → k ≢ d → slice_index_or (both_loads L d r f) (fronts_word k) [] ≡ slice_index_or L (fronts_word k) []
list_fronts_else L d r f k ne = get_or-set_other (loads_after L (rears_word d) r) (fronts_word d) (fronts_word k) _ [] (λ e. ne (omega arith)) ∙
    get_or-set_other L (rears_word d) (fronts_word k) _ [] (λ e. omega arith)

list_rears_else : (L : List (List ℕ)) (d r f k : ℕ) → k ≢ d → slice_index_or (both_loads L d r f) (rears_word k) [] ≡ slice_index_or L (rears_word k) []
list_rears_else L d r f k ne = get_or-set_other (loads_after L (rears_word d) r) (fronts_word d) (rears_word k) _ [] (λ e. omega arith) ∙
    get_or-set_other L (rears_word d) (rears_word k) _ [] (λ e. ne (omega arith))

-- below n + 1: below n, or n
upto : (n d : ℕ) → d < n + 1 → d ≢ n → d < n
upto n d h ne = omega arith

pub one_taken : (n : ℕ) (old mid new : Ticking) (frame : List (ℕ × ℕ)) (g : ℕ × ℕ) → Taking n old mid frame → ReadsOne n mid new g → n < 64 →
    Taking (n + 1) old new (set frame n g)
one_taken n old mid new frame g t one low =
    let r : ℕ = g.1 + rears_read mid n in
    let f : ℕ = g.0 + fronts_read mid n in
    let room : 8 * n + 1 < length mid.loads = one.inside in
    let same_f : fronts_read mid n ≡ fronts_read old n = ap (last_from 0) (t.left_fronts n (omega arith)) in
    let same_r : rears_read mid n ≡ rears_read old n = ap (last_from 0) (t.left_rears n (omega arith)) in
    let Q : List (List ℕ) → Type 0 = λ L. Taking (n + 1) old (record { table = mid.table; loads = L }) (set frame n g) in
    let done : Q (both_loads mid.loads n r f) = record {
      table = t.table;
      count = length-set (loads_after mid.loads (rears_word n) r) (fronts_word n) _ ∙ length-set mid.loads (rears_word n) _ ∙ t.count;
      fronts = λ d h. dite (ℕ_discrete d n)
          (λ e. subst (λ k. slice_index_or (both_loads mid.loads n r f) (fronts_word k) [] ≡ fronts_loads old k ++ last_read
          (both_loads mid.loads n r f) (fronts_word k) ∷ []) (sym e)
          (list_fronts mid.loads n r f room ∙ (λ i. t.left_fronts n (omega arith) i ++ sym (fronts_last mid.loads n r f room) i ∷ [])))
          (λ ne. list_fronts_else mid.loads n r f d ne ∙ t.fronts d (upto n d h ne) ∙
          ap (λ x. fronts_loads old d ++ x ∷ []) (sym (fronts_kept mid.loads n r f d ne)));
      rears = λ d h. dite (ℕ_discrete d n)
          (λ e. subst (λ k. slice_index_or (both_loads mid.loads n r f) (rears_word k) [] ≡ rears_loads old k ++ last_read
          (both_loads mid.loads n r f) (rears_word k) ∷ []) (sym e)
          (list_rears mid.loads n r f room ∙ (λ i. t.left_rears n (omega arith) i ++ sym (rears_last mid.loads n r f room) i ∷ [])))
          (λ ne. list_rears_else mid.loads n r f d ne ∙ t.rears d (upto n d h ne) ∙
          ap (λ x. rears_loads old d ++ x ∷ []) (sym (rears_kept mid.loads n r f d ne)));
      left_fronts = λ d h. list_fronts_else mid.loads n r f d (λ e. omega arith) ∙ t.left_fronts d (omega arith);
      left_rears = λ d h. list_rears_else mid.loads n r f d (λ e. omega arith) ∙ t.left_rears d (omega arith);
      size = length-set frame n g ∙ t.size;
      gains = λ d h. dite (ℕ_discrete d n)
          (λ e. subst (λ k. ((slice_index_or (set frame n g) k (0, 0)).0 + fronts_read old k ≡ last_read (both_loads mid.loads n r f)
          (fronts_word k)) × ((slice_index_or (set frame n g) k (0, 0)).1 + rears_read old k ≡ last_read (both_loads mid.loads n r f)
          (rears_word k))) (sym e)
          (let at = get_or-set_same frame n g (0, 0) (let z = t.size in omega arith) in
          let a : (slice_index_or (set frame n g) n (0, 0)).0 ≡ g.0 = ap (λ (p : ℕ × ℕ). p.0) at in
          let b : (slice_index_or (set frame n g) n (0, 0)).1 ≡ g.1 = ap (λ (p : ℕ × ℕ). p.1) at in
          let x = fronts_last mid.loads n r f room in let y = rears_last mid.loads n r f room in
          (omega arith, omega arith)))
          (λ ne. let at = get_or-set_other frame n d g (0, 0) ne in let was = t.gains d (upto n d h ne) in
          let a : (slice_index_or (set frame n g) d (0, 0)).0 ≡ (slice_index_or frame d (0, 0)).0 = ap (λ (p : ℕ × ℕ). p.0) at in
          let b : (slice_index_or (set frame n g) d (0, 0)).1 ≡ (slice_index_or frame d (0, 0)).1 = ap (λ (p : ℕ × ℕ). p.1) at in
          let x = fronts_kept mid.loads n r f d ne in let y = rears_kept mid.loads n r f d ne in
          (omega (arith, was.0), omega (arith, was.1)));
      absent = λ d h. get_or-set_other frame n d g (0, 0) (λ e. omega arith) ∙ t.absent d (omega arith);
      ordered = λ d h. dite (ℕ_discrete d n)
          (λ e. subst (λ k. (last_read (both_loads mid.loads n r f) (rears_word k) ≤ last_read (both_loads mid.loads n r f) (fronts_word k))
          × (last_read (both_loads mid.loads n r f) (fronts_word k) ≤ most_fronts)) (sym e)
          (let x = fronts_last mid.loads n r f room in let y = rears_last mid.loads n r f room in let o = one.ordered in let b = one.bounded in
          (omega arith, omega arith)))
          (λ ne. let x = fronts_kept mid.loads n r f d ne in let y = rears_kept mid.loads n r f d ne in let o = t.ordered d (upto n d h ne) in
          (omega (arith, o.0), omega (arith, o.1)));
    } in
    subst (λ (new : Ticking). Taking (n + 1) old new (set frame n g)) (λ i. record { table = sym one.table i; loads = sym one.loads i }) done

-- the next one is taken
pub next_taken : (n : ℕ) (old mid new : Ticking) (was now : List (ℕ × ℕ)) → Taking n old mid was → n < 64
    → (g : ℕ × ℕ) × ReadsOne n mid new g × (now ≡ set was n g) → Taking (n + 1) old new now
next_taken n old mid new was now t low one = subst (Taking (n + 1) old new) (sym one.2) (one_taken n old mid new was one.0 t one.1 low)

-- the next four are taken
pub four_taken : (n : ℕ) (old mid new : Ticking) (was now : List (ℕ × ℕ)) → Taking n old mid was → n + 3 < 64 → ReadsFour n mid new was now →
    Taking (n + 4) old new now
four_taken n old mid new was now t low r =
    let f1 = set was n r.gained.0 in
    let f2 = set f1 (n + 1) r.gained.1 in
    let f3 = set f2 (n + 2) r.gained.2 in
    let one : Taking (n + 1) old r.passes.0 f1 = one_taken n old mid r.passes.0 was r.gained.0 t r.one (omega arith) in
    let two : Taking (n + 2) old r.passes.1 f2 =
    subst (λ (k : ℕ). Taking k old r.passes.1 f2) (omega arith) (one_taken (n + 1) old r.passes.0 r.passes.1 f1 r.gained.1 one r.two (omega arith)) in
    let three : Taking (n + 3) old r.passes.2 f3 =
    subst (λ (k : ℕ). Taking k old r.passes.2 f3) (omega arith) (one_taken (n + 2) old r.passes.1 r.passes.2 f2 r.gained.2 two r.three (omega arith)) in
    let four : Taking (n + 4) old new (set f3 (n + 3) r.gained.3) =
    subst (λ (k : ℕ). Taking k old new (set f3 (n + 3) r.gained.3)) (omega arith) (one_taken (n + 3) old r.passes.2 new f3 r.gained.3 three r.four low) in
    subst (Taking (n + 4) old new) (sym r.frame) four
