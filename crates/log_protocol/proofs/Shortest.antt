-- The shortest of a list.
use Rattle.std.proofs.Common.{◌≡◌, suc, ◌<◌, ◌≤◌, List, [], ◌∷◌, ◌++◌, refl, ap, arith, inl, inr}
use Rattle.std.specs.Prelude.{All}
use Rattle.std.proofs.lemmas.Bool.{cases_lt, lt-ltb, le-ltb}
use Rattle.std.proofs.lemmas.List.Elements.{All-cons, All-nil}
use Rattle.log_protocol.specs.Came.{Lasted, shortest_from}
use Rattle.log_protocol.specs.Laws.{IsFirstShortest, ShortestIsFirst}

cons_parts : (x y : Lasted) (xs ys : List Lasted) → x ∷ xs ≡ y ∷ ys → (x ≡ y) × (xs ≡ ys)
cons_parts x y xs ys e = (cc, cc)

behind : (P : Lasted → Type 0) (y : Lasted) (ys : List Lasted) → All P (y ∷ ys) → All P ys
behind P y ys all i d lt = all (suc i) d (omega (arith, lt))

-- the shortest is no longer than the first one
head_long : (x s : Lasted) (rest front back : List Lasted) → x ∷ rest ≡ front ++ s ∷ back → All (λ z. s.seconds < z.seconds) front → s.seconds ≤ x.seconds
head_long x s rest [] back whole longer =
    let parts = cons_parts x s rest back whole in
    omega (arith, ap (λ (w : Lasted). w.seconds) parts.0)
head_long x s rest (z ∷ front) back whole longer =
    let parts = cons_parts x z rest (front ++ s ∷ back) whole in
    let less : s.seconds < z.seconds = longer 0 z (omega arith) in
    omega (arith, ap (λ (w : Lasted). w.seconds) parts.0, less)

-- one more in the second place, that is not shorter than the first one
second_place : (x y s : Lasted) (rest front back : List Lasted) → x.seconds ≤ y.seconds → x ∷ rest ≡ front ++ s ∷ back →
    All (λ z. s.seconds < z.seconds) front → All (λ z. s.seconds ≤ z.seconds) back → IsFirstShortest (x ∷ y ∷ rest) s
second_place x y s rest [] back le whole longer as_long =
    let parts = cons_parts x s rest back whole in
    let first : x ≡ s = parts.0 in
    let after : rest ≡ back = parts.1 in
    record {
      front = [];
      back = y ∷ back;
      whole = rw (first, after) refl;
      longer = All-nil (λ z. s.seconds < z.seconds);
      as_long = All-cons (λ z. s.seconds ≤ z.seconds) y back (omega (arith, ap (λ (w : Lasted). w.seconds) parts.0, le)) as_long;
    }
second_place x y s rest (z ∷ front) back le whole longer as_long =
    let parts = cons_parts x z rest (front ++ s ∷ back) whole in
    let first : x ≡ z = parts.0 in
    let after : rest ≡ front ++ s ∷ back = parts.1 in
    let less : s.seconds < z.seconds = longer 0 z (omega arith) in
    record {
      front = z ∷ y ∷ front;
      back = back;
      whole = rw (first, after) refl;
      longer = All-cons (λ w. s.seconds < w.seconds) z (y ∷ front) less
          (All-cons (λ w. s.seconds < w.seconds) y front (omega (arith, less, ap (λ (w : Lasted). w.seconds) parts.0, le))
          (behind (λ w. s.seconds < w.seconds) z front longer));
      as_long = as_long;
    }

first_from : (x : Lasted) (rest : List Lasted) → IsFirstShortest (x ∷ rest) (shortest_from x rest)
first_from x [] = record {
  front = [];
  back = [];
  whole = refl;
  longer = All-nil (λ z. x.seconds < z.seconds);
  as_long = All-nil (λ z. x.seconds ≤ z.seconds);
}
first_from x (y ∷ rest) = elim (cases_lt y.seconds x.seconds) [
  | inl less ↦ rw (lt-ltb y.seconds x.seconds less) (
      let is = first_from y rest in
      let head = head_long y (shortest_from y rest) rest is.front is.back is.whole is.longer in
      record {
        front = x ∷ is.front;
        back = is.back;
        whole = ap (λ (l : List Lasted). x ∷ l) is.whole;
        longer = All-cons (λ z. (shortest_from y rest).seconds < z.seconds) x is.front (omega (arith, head, less)) is.longer;
        as_long = is.as_long;
      })
  | inr more ↦ rw (le-ltb y.seconds x.seconds more) (
      let is = first_from x rest in
      second_place x y (shortest_from x rest) rest is.front is.back more is.whole is.longer is.as_long)
]

pub shortest_is_first : ShortestIsFirst
shortest_is_first [] some = absurd (omega (arith, some))
shortest_is_first (x ∷ rest) some = first_from x rest
