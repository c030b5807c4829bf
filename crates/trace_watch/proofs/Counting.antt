-- One sight more is counted.
use Rattle.std.proofs.Common.{◌≡◌, ◌≢◌, ◌∙◌, ℕ, ◌+◌, ◌<◌, Bool, true, false, List, [], ◌∷◌, ◌++◌, inl, inr, length, get_or, set, refl, sym, ap, subst, arith}
use Rattle.std.specs.Prelude.{count_by, cond, fold, min, ◌&&◌, ◌==◌}
use Rattle.std.proofs.lemmas.Bool.Decides.{eqb_tells}
use Rattle.std.proofs.lemmas.List.{get_or-set_same, get_or-set_other, length-set}
use Rattle.vap_code.specs.Sights.{Sight}
use Rattle.trace_watch.specs.Counted.{AreCounted, counted_at, most_counted}

-- 1 where an element is counted
abbrev pub is_counted : Bool → ℕ
is_counted b = cond b 1 0

fold-more : {A B : Type 0} (f : B → A → B) (b : B) (xs : List A) (x : A) → fold f b (xs ++ x ∷ []) ≡ f (fold f b xs) x
fold-more f b [] x = refl
fold-more f b (y ∷ xs) x = fold-more f (f b y) xs x

-- one element more
pub count_by-more : {X : Type 0} (p : X → Bool) (xs : List X) (x : X) → count_by p (xs ++ x ∷ []) ≡ count_by p xs + is_counted (p x)
count_by-more p xs x = fold-more (λ n x. n + is_counted (p x)) 0 xs x

not_such : (e t : Bool) → t ≡ false → is_counted (e && t) ≡ 0
not_such true t not = ap is_counted not
not_such false t not = refl

elsewhere : (e t : Bool) → e ≡ false → is_counted (e && t) ≡ 0
elsewhere e t other = ap (λ e. is_counted (e && t)) other

here : (e t : Bool) → e ≡ true → t ≡ true → is_counted (e && t) ≡ 1
here e t at is = λ j. is_counted (at j && is j)

capped : (m n : ℕ) → min m (min m n + 1) ≡ min m (n + 1)
capped m n = omega arith

module _ (test : Sight → Bool) (counts : List ℕ) (past : List Sight) (s : Sight)
    (counted : AreCounted (λ p s. s.state.place == p && test s) counts past) where
  abbrev such : ℕ → Sight → Bool
  such p s = s.state.place == p && test s

  abbrev one_more : ℕ → ℕ
  one_more n = min most_counted (n + 1)

  -- a sight that isn't such, or elsewhere
  same_count : (place : ℕ) → place < length counts → is_counted (such place s) ≡ 0 →
      get_or counts place 0 ≡ min most_counted (count_by (such place) (past ++ s ∷ []))
  same_count place within none =
      counted place within ∙ ap (λ n. min most_counted n) (let more = count_by-more (such place) past s in omega (arith, more, none))

  next_count : (place : ℕ) → place < length counts → is_counted (such place s) ≡ 1 →
      one_more (get_or counts place 0) ≡ min most_counted (count_by (such place) (past ++ s ∷ []))
  next_count place within one =
      ap one_more (counted place within) ∙ capped most_counted (count_by (such place) past)
      ∙ ap (λ n. min most_counted n) (let more = count_by-more (such place) past s in omega (arith, more, one))

  at_place : test s ≡ true → (place : ℕ) → place < length counts → s.state.place ≡ place →
      (s.state.place == place) ≡ true → get_or (set counts s.state.place (one_more (get_or counts s.state.place 0))) place 0
      ≡ min most_counted (count_by (such place) (past ++ s ∷ []))
  at_place is place within at tells =
      ap (λ k. get_or (set counts k (one_more (get_or counts k 0))) place 0) at
      ∙ get_or-set_same counts place (one_more (get_or counts place 0)) 0 within
      ∙ next_count place within (here (s.state.place == place) (test s) tells is)

  at_another : (place : ℕ) → place < length counts → s.state.place ≢ place →
      (s.state.place == place) ≡ false → get_or (set counts s.state.place (one_more (get_or counts s.state.place 0))) place 0
      ≡ min most_counted (count_by (such place) (past ++ s ∷ []))
  at_another place within other tells =
      get_or-set_other counts s.state.place place (one_more (get_or counts s.state.place 0)) 0 (λ same. other (sym same))
      ∙ same_count place within (elsewhere (s.state.place == place) (test s) tells)

  added : test s ≡ true → AreCounted such (set counts s.state.place (one_more (get_or counts s.state.place 0))) (past ++ s ∷ [])
  added is place below =
      let within : place < length counts = subst (λ n. place < n) (length-set counts s.state.place (one_more (get_or counts s.state.place 0))) below in
      elim (eqb_tells s.state.place place) [
        | inl at ↦ at_place is place within at.1 at.0
        | inr other ↦ at_another place within other.1 other.0
      ]

  counted_so : (b : Bool) → b ≡ test s → AreCounted such (counted_at counts s.state.place b) (past ++ s ∷ [])
  counted_so true is = added (sym is)
  counted_so false is = λ place within. same_count place within (not_such (s.state.place == place) (test s) (sym is))

-- one sight more
pub counted-more : (test : Sight → Bool) (old new : List ℕ) (past : List Sight) (s : Sight) (place : ℕ) (b : Bool) → place ≡ s.state.place → b ≡ test s →
    new ≡ counted_at old place b → AreCounted (λ p s. s.state.place == p && test s) old past →
    AreCounted (λ p s. s.state.place == p && test s) new (past ++ s ∷ [])
counted-more test old new past s place b at is step counted =
    subst (λ counts. AreCounted (λ p s. s.state.place == p && test s) counts (past ++ s ∷ []))
    (sym (step ∙ ap (λ k. counted_at old k b) at)) (counted_so test old past s counted b is)
