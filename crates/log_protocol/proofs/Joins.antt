-- What came in one list after another, by what came in each.
use Rattle.std.proofs.Common.{◌≡◌, ◌∙◌, ℕ, ◌+◌, ◌<◌, ◌≤◌, max, Bool, true, false, not, ◌&&◌, ◌==◌, List, [], ◌∷◌, ◌++◌, length, map, refl, sym, ap, arith, ne_eqb, inl, inr}
use Rattle.std.specs.Prelude.{nat_lt, if◌then◌else◌}
use Rattle.std.proofs.lemmas.Bool.{cases_lt, lt-ltb, le-ltb}
use Rattle.std.proofs.lemmas.List.{append-nil, length-map}
use Rattle.std.proofs.Math.ListN.{length-append}
use Rattle.log_protocol.specs.Came.{Lasted, extremes, first_of, longest, shorter, shortest, shortest_from, together}
use Rattle.log_protocol.specs.Parts.{moved}
use Rattle.log_protocol.specs.Joined.{added, joined, joined_greens}
use Rattle.log_protocol.proofs.Adding.{same_together}
use Rattle.log_protocol.proofs.Extreme.{over_of, same_extremes, seconds_of}

-- the shorter of three
three_shorter : (s z w : Lasted) → shorter (shorter s z) w ≡ shorter s (shorter z w)
three_shorter s z w = elim (cases_lt z.seconds s.seconds) [
  | inl a ↦ elim (cases_lt w.seconds z.seconds) [
    | inl b ↦ let c : w.seconds < s.seconds = omega (arith, a, b) in
        rw (lt-ltb z.seconds s.seconds a, lt-ltb w.seconds z.seconds b, lt-ltb w.seconds s.seconds c) refl
    | inr b ↦ rw (lt-ltb z.seconds s.seconds a, le-ltb w.seconds z.seconds b, lt-ltb z.seconds s.seconds a) refl
  ]
  | inr a ↦ elim (cases_lt w.seconds z.seconds) [
    | inl b ↦ rw (le-ltb z.seconds s.seconds a, lt-ltb w.seconds z.seconds b) refl
    | inr b ↦ let c : s.seconds ≤ w.seconds = omega (arith, a, b) in
        rw (le-ltb z.seconds s.seconds a, le-ltb w.seconds z.seconds b, le-ltb w.seconds s.seconds c, le-ltb z.seconds s.seconds a) refl
  ]
]

shortest_front : (x : Lasted) (rest ys : List Lasted) → shortest_from x (rest ++ ys) ≡ shortest_from (shortest_from x rest) ys
shortest_front x [] ys = refl
shortest_front x (z ∷ rest) ys = shortest_front (shorter x z) rest ys

shortest_back : (s y : Lasted) (ys : List Lasted) → shortest_from s (y ∷ ys) ≡ shorter s (shortest_from y ys)
shortest_back s y [] = refl
shortest_back s y (w ∷ ws) =
    ap (λ (x : Lasted). shortest_from x ws) (three_shorter s y w) ∙ shortest_back s (shorter y w) ws

moved_if : (f : ℕ) (b : Bool) (x y : Lasted) → (if b then moved f y else moved f x) ≡ moved f (if b then y else x)
moved_if f true x y = refl
moved_if f false x y = refl

-- the shortest of those that are moved
shortest_moved : (f : ℕ) (x : Lasted) (ys : List Lasted) → shortest_from (moved f x) (map (moved f) ys) ≡ moved f (shortest_from x ys)
shortest_moved f x [] = refl
shortest_moved f x (y ∷ ys) =
    ap (λ (z : Lasted). shortest_from z (map (moved f) ys)) (moved_if f (nat_lt y.seconds x.seconds) x y)
    ∙ shortest_moved f (shorter x y) ys

longest_joined : (xs ys : List Lasted) (f : ℕ) → longest (xs ++ map (moved f) ys) ≡ max (longest xs) (longest ys)
longest_joined [] [] f = omega arith
longest_joined [] (y ∷ ys) f = omega (arith, longest_joined [] ys f)
longest_joined (x ∷ xs) ys f = omega (arith, longest_joined xs ys f)

count_joined : (xs ys : List Lasted) (f : ℕ) → length xs + length ys < 4294967296 →
    added (length xs) (length ys) ≡ length (xs ++ map (moved f) ys)
count_joined xs ys f few = omega (arith, length-append xs (map (moved f) ys), length-map ys (moved f), few)

-- the extremes of one list and another one behind it
pub joined_are : (xs ys : List Lasted) (f : ℕ) → length xs + length ys < 4294967296 → f + (shortest ys).over < 4294967296 →
    joined (extremes xs) f (extremes ys) ≡ extremes (xs ++ map (moved f) ys)
joined_are xs [] f few room =
    same_extremes _ _ _ _ _ _ _ _ (count_joined xs [] f few)
    (ap (λ (zs : List Lasted). (shortest zs).seconds) (sym (append-nil xs)))
    (ap (λ (zs : List Lasted). (shortest zs).over) (sym (append-nil xs))) (sym (longest_joined xs [] f))
joined_are [] (y ∷ ys) f few room =
    let some = ne_eqb (length (y ∷ ys)) 0 (λ e. omega (arith, e)) in
    let moved_is = shortest_moved f y ys in
    same_extremes _ _ _ _ _ _ _ _ (count_joined [] (y ∷ ys) f few)
    (rw some (sym (ap (λ (z : Lasted). z.seconds) moved_is)))
    (rw some (let over : added f (shortest_from y ys).over ≡ f + (shortest_from y ys).over = omega (arith, room) in
    over ∙ sym (ap (λ (z : Lasted). z.over) moved_is)))
    (sym (longest_joined [] (y ∷ ys) f))
joined_are (x ∷ xs) (y ∷ ys) f few room =
    let some = ne_eqb (length (y ∷ ys)) 0 (λ e. omega (arith, e)) in
    let before = ne_eqb (length (x ∷ xs)) 0 (λ e. omega (arith, e)) in
    let s = shortest_from x xs in
    let t = shortest_from y ys in
    let whole : shortest_from x (xs ++ map (moved f) (y ∷ ys)) ≡ shorter s (moved f t) =
    shortest_front x xs (map (moved f) (y ∷ ys)) ∙ shortest_back s (moved f y) (map (moved f) ys) ∙ ap (shorter s) (shortest_moved f y ys) in
    let over : added f t.over ≡ f + t.over = omega (arith, room) in
    same_extremes _ _ _ _ _ _ _ _ (count_joined (x ∷ xs) (y ∷ ys) f few)
    (rw (some, before) (sym (ap (λ (z : Lasted). z.seconds) whole ∙ seconds_of (nat_lt t.seconds s.seconds) (moved f t) s)))
    (rw (some, before, over) (sym (ap (λ (z : Lasted). z.over) whole ∙ over_of (nat_lt t.seconds s.seconds) (moved f t) s)))
    (sym (longest_joined (x ∷ xs) (y ∷ ys) f))

-- the ticks of one list and another one behind it
pub joined_greens_are : (xs ys : List ℕ) (f : ℕ) → length xs + length ys < 4294967296 → f + first_of ys < 4294967296 →
    joined_greens (together xs) f (together ys) ≡ together (xs ++ map (λ t. f + t) ys)
joined_greens_are xs ys f few room =
    same_together _ _ _ _
    (omega (arith, length-append xs (map (λ t. f + t) ys), length-map ys (λ t. f + t), few)) (first xs ys few room)
  where
    first : (us vs : List ℕ) → length us + length vs < 4294967296 → f + first_of vs < 4294967296 →
        (if (length us == 0) && not (length vs == 0) then added f (first_of vs) else first_of us) ≡ first_of (us ++ map (λ t. f + t) vs)
    first [] [] few room = refl
    first [] (v ∷ vs) few room = rw (ne_eqb (length (v ∷ vs)) 0 (λ e. omega (arith, e))) (omega (arith, room))
    first (u ∷ us) vs few room = rw (ne_eqb (length (u ∷ us)) 0 (λ e. omega (arith, e))) refl
