-- What every order of events keeps.
use Rattle.std.proofs.Common.{◌≡◌, ◌≢◌, ℕ, ◌+◌, ◌≤◌, cond, List, [], ◌∷◌, sym, ap, ◌∙◌, subst, le_refl, le_trans, arith, eq-eqb, ne_eqb}
use mathlib.Core.Logic.{dite}
use native.Mathlib.Decide.{ℕ_discrete}
use Rattle.det_board.specs.Interleaving.{Marks, Event, front, rear, read_rears, read_fronts, May, after, put, Leads, Reached, no_marks, reads_of, TakesOne}

pub put_here : (f : ℕ → ℕ) (d n k : ℕ) → k ≡ d → put f d n k ≡ n
put_here f d n k e = rw (eq-eqb k d e)

pub put_else : (f : ℕ → ℕ) (d n k : ℕ) → k ≢ d → put f d n k ≡ f k
put_else f d n k e = rw (ne_eqb k d e)

put_least : (f : ℕ → ℕ) (d n k : ℕ) → f d ≤ n → f k ≤ put f d n k
put_least f d n k le = dite (ℕ_discrete k d)
    (λ e. let h = put_here f d n k e in subst (λ v. f k ≤ v) (sym h) (subst (λ j. f j ≤ n) (sym e) le))
    (λ ne. let h = put_else f d n k ne in omega arith)

-- the rears are at most the fronts, and what was read is at most what stands
pub record Sound (x : Marks) : Type 0 where
  pub ordered : (d : ℕ) → x.rears d ≤ x.fronts d
  pub fronts : (d : ℕ) → x.fronts_read d ≤ x.fronts d
  pub rears : (d : ℕ) → x.rears_read d ≤ x.rears d

sound_after : (e : Event) (x : Marks) → Sound x → May e x → Sound (after e x)
sound_after (front d) x s may = record {
  ordered = λ k. le_trans (s.ordered k) (put_least x.fronts d (x.fronts d + 1) k (omega arith));
  fronts = λ k. le_trans (s.fronts k) (put_least x.fronts d (x.fronts d + 1) k (omega arith));
  rears = s.rears;
}
sound_after (rear d) x s may = record {
  ordered = λ k. dite (ℕ_discrete k d)
      (λ e. let h = put_here x.rears d (x.rears d + 1) k e in
      subst (λ v. v ≤ x.fronts k) (sym h) (subst (λ j. x.rears d + 1 ≤ x.fronts j) (sym e) (omega arith)))
      (λ ne. let h = put_else x.rears d (x.rears d + 1) k ne in subst (λ v. v ≤ x.fronts k) (sym h) (s.ordered k));
  fronts = s.fronts;
  rears = λ k. le_trans (s.rears k) (put_least x.rears d (x.rears d + 1) k (omega arith));
}
sound_after (read_rears d) x s may = record {
  ordered = s.ordered;
  fronts = s.fronts;
  rears = λ k. dite (ℕ_discrete k d)
      (λ e. let h = put_here x.rears_read d (x.rears d) k e in
      subst (λ v. v ≤ x.rears k) (sym h) (subst (λ j. x.rears d ≤ x.rears j) (sym e) (le_refl (x.rears d))))
      (λ ne. let h = put_else x.rears_read d (x.rears d) k ne in subst (λ v. v ≤ x.rears k) (sym h) (s.rears k));
}
sound_after (read_fronts d) x s may = record {
  ordered = s.ordered;
  fronts = λ k. dite (ℕ_discrete k d)
      (λ e. let h = put_here x.fronts_read d (x.fronts d) k e in
      subst (λ v. v ≤ x.fronts k) (sym h) (subst (λ j. x.fronts d ≤ x.fronts j) (sym e) (le_refl (x.fronts d))))
      (λ ne. let h = put_else x.fronts_read d (x.fronts d) k ne in subst (λ v. v ≤ x.fronts k) (sym h) (s.fronts k));
  rears = s.rears;
}

sound_along : (es : List Event) (x y : Marks) → Sound x → Leads es x y → Sound y
sound_along [] x y s is = subst Sound (sym is) s
sound_along (e ∷ es) x y s l = sound_along es (after e x) y (sound_after e x s l.0) l.1

pub reached_sound : (x : Marks) → Reached x → Sound x
reached_sound x r = sound_along r.0 no_marks x (record { ordered = λ d. omega arith; fronts = λ d. omega arith; rears = λ d. omega arith }) r.1

none_is_some : {e : Event} {es : List Event} → [] ≡ e ∷ es → ⊥
none_is_some e = cc

rears_not_fronts : {d k : ℕ} {es fs : List Event} → read_rears d ∷ es ≡ read_fronts k ∷ fs → ⊥
rears_not_fronts e = cc

rest_of : {a b : Event} {es fs : List Event} → a ∷ es ≡ b ∷ fs → es ≡ fs
rest_of e = cc

-- no load of d is left: what was read of d stays
unread : (d : ℕ) (es : List Event) (x y : Marks) → reads_of d es ≡ [] → Leads es x y → (y.rears_read d ≡ x.rears_read d) × (y.fronts_read d ≡ x.fronts_read d)
unread d [] x y none is = (ap (λ (m : Marks). m.rears_read d) is, ap (λ (m : Marks). m.fronts_read d) is)
unread d (front k ∷ es) x y none l = unread d es (after (front k) x) y none l.1
unread d (rear k ∷ es) x y none l = unread d es (after (rear k) x) y none l.1
unread d (read_rears k ∷ es) x y none l = dite (ℕ_discrete k d)
    (λ e. absurd (none_is_some (sym (subst (λ b. cond b (read_rears k ∷ reads_of d es) (reads_of d es) ≡ []) (eq-eqb k d e) none))))
    (λ ne. let r = unread d es (after (read_rears k) x) y (subst (λ b. cond b (read_rears k ∷ reads_of d es) (reads_of d es) ≡ []) (ne_eqb k d ne) none) l.1 in
    (r.0 ∙ put_else x.rears_read k (x.rears k) d (λ e. ne (sym e)), r.1))
unread d (read_fronts k ∷ es) x y none l = dite (ℕ_discrete k d)
    (λ e. absurd (none_is_some (sym (subst (λ b. cond b (read_fronts k ∷ reads_of d es) (reads_of d es) ≡ []) (eq-eqb k d e) none))))
    (λ ne. let r = unread d es (after (read_fronts k) x) y
    (subst (λ b. cond b (read_fronts k ∷ reads_of d es) (reads_of d es) ≡ []) (ne_eqb k d ne) none) l.1 in
    (r.0, r.1 ∙ put_else x.fronts_read k (x.fronts k) d (λ e. ne (sym e))))

-- the fronts of d are still to be loaded
half_taken : (d : ℕ) (es : List Event) (x y : Marks) → Sound x → reads_of d es ≡ read_fronts d ∷ [] → Leads es x y →
    (y.rears_read d ≤ y.fronts_read d) × (y.rears_read d ≡ x.rears_read d) × (x.fronts_read d ≤ y.fronts_read d)
half_taken d [] x y s one is = absurd (none_is_some one)
half_taken d (front k ∷ es) x y s one l = half_taken d es (after (front k) x) y (sound_after (front k) x s l.0) one l.1
half_taken d (rear k ∷ es) x y s one l = half_taken d es (after (rear k) x) y (sound_after (rear k) x s l.0) one l.1
half_taken d (read_rears k ∷ es) x y s one l = dite (ℕ_discrete k d)
    (λ e. absurd (rears_not_fronts (subst (λ b. cond b (read_rears k ∷ reads_of d es) (reads_of d es) ≡ read_fronts d ∷ []) (eq-eqb k d e) one)))
    (λ ne. let r = half_taken d es (after (read_rears k) x) y (sound_after (read_rears k) x s l.0)
    (subst (λ b. cond b (read_rears k ∷ reads_of d es) (reads_of d es) ≡ read_fronts d ∷ []) (ne_eqb k d ne) one) l.1 in
    (r.0, r.1 ∙ put_else x.rears_read k (x.rears k) d (λ e. ne (sym e)), r.2))
half_taken d (read_fronts k ∷ es) x y s one l = dite (ℕ_discrete k d)
    (λ e. let none = rest_of (subst (λ b. cond b (read_fronts k ∷ reads_of d es) (reads_of d es) ≡ read_fronts d ∷ []) (eq-eqb k d e) one) in
    let r = unread d es (after (read_fronts k) x) y none l.1 in
    let now : y.fronts_read d ≡ x.fronts d = r.1 ∙ put_here x.fronts_read k (x.fronts k) d (sym e) ∙ ap x.fronts e in
    let a = s.ordered d in let b = s.rears d in let c = s.fronts d in let q = r.0 in
    (omega arith, r.0, omega arith))
    (λ ne. let r = half_taken d es (after (read_fronts k) x) y (sound_after (read_fronts k) x s l.0)
    (subst (λ b. cond b (read_fronts k ∷ reads_of d es) (reads_of d es) ≡ read_fronts d ∷ []) (ne_eqb k d ne) one) l.1 in
    let p = put_else x.fronts_read k (x.fronts k) d (λ e. ne (sym e)) in
    (r.0, r.1, subst (λ v. v ≤ y.fronts_read d) p r.2))

pub taken : (d : ℕ) (es : List Event) (x y : Marks) → Sound x → TakesOne d es → Leads es x y → (y.rears_read d ≤ y.fronts_read d)
    × (x.rears_read d ≤ y.rears_read d) × (x.fronts_read d ≤ y.fronts_read d)
taken d [] x y s two is = absurd (none_is_some two)
taken d (front k ∷ es) x y s two l = taken d es (after (front k) x) y (sound_after (front k) x s l.0) two l.1
taken d (rear k ∷ es) x y s two l = taken d es (after (rear k) x) y (sound_after (rear k) x s l.0) two l.1
taken d (read_rears k ∷ es) x y s two l = dite (ℕ_discrete k d)
    (λ e. let one = rest_of (subst (λ b. cond b (read_rears k ∷ reads_of d es) (reads_of d es) ≡ read_rears d ∷ read_fronts d ∷ []) (eq-eqb k d e) two) in
    let r = half_taken d es (after (read_rears k) x) y (sound_after (read_rears k) x s l.0) one l.1 in
    let now : y.rears_read d ≡ x.rears d = r.1 ∙ put_here x.rears_read k (x.rears k) d (sym e) ∙ ap x.rears e in
    let b = s.rears d in (r.0, (omega arith), r.2))
    (λ ne. let r = taken d es (after (read_rears k) x) y (sound_after (read_rears k) x s l.0)
    (subst (λ b. cond b (read_rears k ∷ reads_of d es) (reads_of d es) ≡ read_rears d ∷ read_fronts d ∷ []) (ne_eqb k d ne) two) l.1 in
    let p = put_else x.rears_read k (x.rears k) d (λ e. ne (sym e)) in
    (r.0, subst (λ v. v ≤ y.rears_read d) p r.1, r.2))
taken d (read_fronts k ∷ es) x y s two l = dite (ℕ_discrete k d)
    (λ e. absurd (rears_not_fronts (sym (subst (λ b. cond b (read_fronts k ∷ reads_of d es) (reads_of d es) ≡ read_rears d ∷ read_fronts d ∷ [])
    (eq-eqb k d e) two))))
    (λ ne. let r = taken d es (after (read_fronts k) x) y (sound_after (read_fronts k) x s l.0)
    (subst (λ b. cond b (read_fronts k ∷ reads_of d es) (reads_of d es) ≡ read_rears d ∷ read_fronts d ∷ []) (ne_eqb k d ne) two) l.1 in
    let p = put_else x.fronts_read k (x.fronts k) d (λ e. ne (sym e)) in
    (r.0, r.1, subst (λ v. v ≤ y.fronts_read d) p r.2))
