-- Runs of seconds that are counted one after another are those of all of them.
use Rattle.std.proofs.Common.{◌≡◌, ◌∙◌, ℕ, zero, suc, ◌+◌, ◌-◌, ◌<◌, ◌≤◌, max, Bool, true, false, ◌&&◌, ◌==◌, refl, sym, ap, arith, add-one, inl, inr}
use Rattle.std.specs.Prelude.{if◌then◌else◌}
use Rattle.std.proofs.lemmas.Bool.{cases_eq, cases_lt, eq-eqb, le-ltb, lt-ltb, ne_eqb}
use Rattle.refusal_text.specs.declared.wait.Counted.{Counted}
use Rattle.refusal_text.specs.Waits.{longest_below, runs_below, unbroken}
use Rattle.refusal_text.specs.Counted.{AreCounted, counted_next, counted_with, length_before}

clash : (b : Bool) → b ≡ true → b ≡ false → ⊥
clash true h e = cc
clash false h e = cc

-- what is so in the same seconds before n
unbroken_same : (f g : ℕ → Bool) (n : ℕ) → ((t : ℕ) → t < n → g t ≡ f t) → unbroken g n ≡ unbroken f n
unbroken_same f g zero same = refl
unbroken_same f g (suc n) same =
    ap (λ (b : Bool). if b then unbroken g n + 1 else 0) (same n (omega arith))
    ∙ ap (λ (k : ℕ). if f n then k + 1 else 0) (unbroken_same f g n (λ t lt. same t (omega (arith, lt))))

runs_same : (f g : ℕ → Bool) (n : ℕ) → ((t : ℕ) → t < n → g t ≡ f t) → runs_below g n ≡ runs_below f n
runs_same f g zero same = refl
runs_same f g (suc n) same =
    ap (λ (b : Bool). if b && (unbroken g n == 0) then runs_below g n + 1 else runs_below g n) (same n (omega arith))
    ∙ ap (λ (k : ℕ). if f n && (k == 0) then runs_below g n + 1 else runs_below g n) (unbroken_same f g n (λ t lt. same t (omega (arith, lt))))
    ∙ ap (λ (k : ℕ). if f n && (unbroken f n == 0) then k + 1 else k) (runs_same f g n (λ t lt. same t (omega (arith, lt))))

longest_same : (f g : ℕ → Bool) (n : ℕ) → ((t : ℕ) → t < n → g t ≡ f t) → longest_below g n ≡ longest_below f n
longest_same f g zero same = refl
longest_same f g (suc n) same =
    ap (λ (k : ℕ). max k (unbroken g (suc n))) (longest_same f g n (λ t lt. same t (omega (arith, lt))))
    ∙ ap (λ (k : ℕ). max (longest_below f n) k) (unbroken_same f g (suc n) same)

-- where it isn't so from n on
unbroken_quiet : (f : ℕ → Bool) (m : ℕ) → f m ≡ false → unbroken f (suc m) ≡ 0
unbroken_quiet f m e = rw e refl

runs_quiet : (f : ℕ → Bool) (m : ℕ) → f m ≡ false → runs_below f (suc m) ≡ runs_below f m
runs_quiet f m e = rw e refl

max_zero : (a : ℕ) → max a 0 ≡ a
max_zero a = omega arith

longest_quiet : (f : ℕ → Bool) (m : ℕ) → f m ≡ false → longest_below f (suc m) ≡ longest_below f m
longest_quiet f m e = ap (λ (k : ℕ). max (longest_below f m) k) (unbroken_quiet f m e) ∙ max_zero (longest_below f m)

runs_stay : (f : ℕ → Bool) (n m : ℕ) → n ≤ m → ((t : ℕ) → n ≤ t → f t ≡ false) → runs_below f m ≡ runs_below f n
runs_stay f n zero le silent = (let z : 0 ≡ n = omega (arith, le) in ap (λ (k : ℕ). runs_below f k) z)
runs_stay f n (suc m) le silent = elim (cases_eq (suc m) n) [
  | inl same ↦ ap (λ (k : ℕ). runs_below f k) same
  | inr ne ↦ (let before : n ≤ m = omega (arith, le, ne) in runs_quiet f m (silent m before) ∙ runs_stay f n m before silent)
]

longest_stay : (f : ℕ → Bool) (n m : ℕ) → n ≤ m → ((t : ℕ) → n ≤ t → f t ≡ false) → longest_below f m ≡ longest_below f n
longest_stay f n zero le silent = (let z : 0 ≡ n = omega (arith, le) in ap (λ (k : ℕ). longest_below f k) z)
longest_stay f n (suc m) le silent = elim (cases_eq (suc m) n) [
  | inl same ↦ ap (λ (k : ℕ). longest_below f k) same
  | inr ne ↦ (let before : n ≤ m = omega (arith, le, ne) in longest_quiet f m (silent m before) ∙ longest_stay f n m before silent)
]

-- the same seconds have the same runs
pub counted_same : (f g : ℕ → Bool) (c : Counted) → AreCounted f c → ((t : ℕ) → g t ≡ f t) → AreCounted g c
counted_same f g c is same = record {
  silent = λ t le. same t ∙ is.silent t le;
  last = λ t e. same t ∙ is.last t e;
  length = unbroken_same f g c.next (λ t lt. same t) ∙ is.length;
  runs = runs_same f g c.next (λ t lt. same t) ∙ is.runs;
  longest = longest_same f g c.next (λ t lt. same t) ∙ is.longest;
}

-- none yet
pub counted_none : (f : ℕ → Bool) → ((t : ℕ) → f t ≡ false) → AreCounted f (record { next = 0; length = 0; runs = 0; longest = 0 })
counted_none f none = record {
  silent = λ t le. none t;
  last = λ t e. absurd (omega (arith, e));
  length = refl;
  runs = refl;
  longest = refl;
}

-- the seconds without a break just before a second that is added
before_added : (f g : ℕ → Bool) (c : Counted) (s : ℕ) → AreCounted f c → ((t : ℕ) → t < s → g t ≡ f t) → c.next ≤ s → unbroken g s ≡ length_before c s
before_added f g c zero is same le =
    let now : 0 ≡ c.next = omega (arith, le) in
    rw (eq-eqb 0 c.next now) (ap (λ (k : ℕ). unbroken f k) now ∙ is.length)
before_added f g c (suc m) is same le = elim (cases_eq (suc m) c.next) [
  | inl now ↦ rw (eq-eqb (suc m) c.next now) (unbroken_same f g (suc m) same ∙ ap (λ (k : ℕ). unbroken f k) now ∙ is.length)
  | inr ne ↦ rw (ne_eqb (suc m) c.next ne)
      (unbroken_quiet g m (same m (omega arith) ∙ is.silent m (omega (arith, le, ne))))
]

step_unbroken : (g : ℕ → Bool) (s : ℕ) → g s ≡ true → unbroken g (s + 1) ≡ unbroken g s + 1
step_unbroken g s e = rw (add-one, e) refl

step_runs : (g : ℕ → Bool) (s : ℕ) → g s ≡ true → runs_below g (s + 1) ≡ (if unbroken g s == 0 then runs_below g s + 1 else runs_below g s)
step_runs g s e = rw (add-one, e) refl

step_longest : (g : ℕ → Bool) (s : ℕ) → longest_below g (s + 1) ≡ max (longest_below g s) (unbroken g (s + 1))
step_longest g s = rw add-one refl

-- one second more
counted_one : (f g : ℕ → Bool) (c : Counted) (s : ℕ) → AreCounted f c → g s ≡ true → ((t : ℕ) → (t ≡ s → ⊥) → g t ≡ f t) → c.next ≤ s →
    AreCounted g (counted_next c s)
counted_one f g c s is now same le =
    let below : (t : ℕ) → t < s → g t ≡ f t = λ t lt. same t (λ e. omega (arith, e, lt)) in
    let before : unbroken g s ≡ length_before c s = before_added f g c s is below le in
    let length : unbroken g (s + 1) ≡ length_before c s + 1 = step_unbroken g s now ∙ ap (λ (k : ℕ). k + 1) before in
    let old_runs : runs_below g s ≡ c.runs = runs_same f g s below ∙ runs_stay f c.next s le is.silent ∙ is.runs in
    let old_longest : longest_below g s ≡ c.longest = longest_same f g s below ∙ longest_stay f c.next s le is.silent ∙ is.longest in
    record {
      silent = λ t from. same t (λ e. omega (arith, e, from)) ∙ is.silent t (omega (arith, le, from));
      last = λ t e. (let at : s ≡ t = omega (arith, e) in ap g (sym at) ∙ now);
      length = length;
      runs = step_runs g s now ∙ ap (λ (k : ℕ). if k == 0 then runs_below g s + 1 else runs_below g s) before
          ∙ ap (λ (k : ℕ). if length_before c s == 0 then k + 1 else k) old_runs;
      longest = step_longest g s ∙ ap (λ (k : ℕ). max k (unbroken g (s + 1))) old_longest ∙ ap (λ (k : ℕ). max c.longest k) length;
    }

-- one second more, or the last one again
pub counted_more : (f g : ℕ → Bool) (c : Counted) (s : ℕ) → AreCounted f c → g s ≡ true → ((t : ℕ) → (t ≡ s → ⊥) → g t ≡ f t) → c.next ≤ suc s →
    AreCounted g (counted_with c s)
counted_more f g c s is now same le = elim (cases_lt s c.next) [
  | inl again ↦ rw (lt-ltb s c.next again) (counted_same f g c is (λ t. elim (cases_eq t s) [
    | inl at ↦ ap g at ∙ now ∙ sym (is.last s (omega (arith, again, le))) ∙ ap f (sym at)
    | inr ne ↦ same t ne
  ]))
  | inr behind ↦ rw (le-ltb s c.next behind) (counted_one f g c s is now same behind)
]

-- before a second from which on it isn't so
next_before : (f : ℕ → Bool) (c : Counted) (n : ℕ) → AreCounted f c → ((t : ℕ) → n ≤ t → f t ≡ false) → c.next ≤ n
next_before f c n is silent = elim (cases_lt n c.next) [
  | inl lt ↦ absurd (clash (f (c.next - 1)) (is.last (c.next - 1) (omega (arith, lt))) (silent (c.next - 1) (omega (arith, lt))))
  | inr le ↦ le
]

pub all_runs : (f : ℕ → Bool) (c : Counted) (n : ℕ) → AreCounted f c → ((t : ℕ) → n ≤ t → f t ≡ false) → c.runs ≡ runs_below f n
all_runs f c n is silent = sym (runs_stay f c.next n (next_before f c n is silent) is.silent ∙ is.runs)

pub all_longest : (f : ℕ → Bool) (c : Counted) (n : ℕ) → AreCounted f c → ((t : ℕ) → n ≤ t → f t ≡ false) → c.longest ≡ longest_below f n
all_longest f c n is silent = sym (longest_stay f c.next n (next_before f c n is silent) is.silent ∙ is.longest)
