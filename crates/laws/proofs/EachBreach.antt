-- A fact of each breach of a history, by the tests that find them.
use Rattle.std.proofs.Common.{ℕ, zero, suc, ◌-◌, ◌<◌, Option, arith, sym, inl, inr, subst, true, not, List, [], ◌∷◌, ◌++◌, length}
use Rattle.std.proofs.lemmas.Bool.{cases_eq}
use Rattle.sig_types.specs.Rules.{Rules}
use Rattle.sig_types.specs.Turns.{History, trace}
use Rattle.log_judge.specs.declared.breach.Breach.{Breach}
use Rattle.log_judge.specs.declared.find.Terms.{Terms}
use Rattle.log_judge.specs.Opening.{hidden_breach}
use Rattle.log_judge.specs.Breaches.{gather, listed, of_pairs, are_both_on, step_breach, red_amber_breach, amber_breach, green_breach, red_breach, conflict_breach, intergreen_breach, pending_breach, opening_of, running_breach, sequence_breaches, breaches_after, last_breaches, breaches_within, breaches}

-- P holds of each breach of the list
abbrev pub Each : (Breach → Type 0) → List Breach → Type 0
Each P [] = Unit {0}
Each P (x ∷ xs) = P x × Each P xs

pub each_both : (P : Breach → Type 0) (xs ys : List Breach) → Each P xs → Each P ys → Each P (xs ++ ys)
each_both P [] ys one two = two
each_both P (x ∷ xs) ys one two = (one.0, each_both P xs ys one.1 two)

pub each_left : (P : Breach → Type 0) (xs ys : List Breach) → Each P (xs ++ ys) → Each P xs
each_left P [] ys each = tt
each_left P (x ∷ xs) ys each = (each.0, each_left P xs ys each.1)

pub each_right : (P : Breach → Type 0) (xs ys : List Breach) → Each P (xs ++ ys) → Each P ys
each_right P [] ys each = each
each_right P (x ∷ xs) ys each = each_right P xs ys each.1

each_gathered : (P : Breach → Type 0) (f : ℕ → List Breach) (n : ℕ) → ((k : ℕ) → k < n → Each P (f k)) → Each P (gather f n)
each_gathered P f zero each = tt
each_gathered P f (suc n) each =
    each_both P (gather f n) (f n) (each_gathered P f n (λ k lt. each k (omega arith))) (each n (omega arith))

gathered_each : (P : Breach → Type 0) (f : ℕ → List Breach) (n k : ℕ) → Each P (gather f n) → k < n → Each P (f k)
gathered_each P f zero k each lt = absurd (omega arith)
gathered_each P f (suc n) k each lt = elim (cases_eq k n) [
  | inl same ↦ subst (λ (j : ℕ). Each P (f j)) (sym same) (each_right P (gather f n) (f n) each)
  | inr ne ↦ gathered_each P f n k (each_left P (gather f n) (f n) each) (omega arith)
]

each_pair : (P : Breach → Type 0) (f : ℕ → ℕ → Option Breach) (n : ℕ) → ((g i : ℕ) → g < n → i < n → Each P (listed (f g i))) → Each P (of_pairs f n)
each_pair P f n each =
    each_gathered P (λ g. gather (λ i. listed (f g i)) n) n (λ g lt. each_gathered P (λ i. listed (f g i)) n (λ i lt'. each g i lt lt'))

pair_each : (P : Breach → Type 0) (f : ℕ → ℕ → Option Breach) (n g i : ℕ) → Each P (of_pairs f n) → g < n → i < n → Each P (listed (f g i))
pair_each P f n g i each lt lt' =
    gathered_each P (λ i. listed (f g i)) n i (gathered_each P (λ g. gather (λ i. listed (f g i)) n) n g each lt) lt'

-- it holds of what each test of the second after m finds
pub record EachAfter (P : Breach → Type 0) (r : Rules) (k : Terms) (h : History) (m : ℕ) : Type 0 where
  pub step : (g : ℕ) → g < r.count → Each P (listed (step_breach (trace h g) g m))
  pub red_amber : (g : ℕ) → g < r.count → Each P (listed (red_amber_breach r k (trace h g) g m))
  pub amber : (g : ℕ) → g < r.count → Each P (listed (amber_breach r k (trace h g) g m))
  pub green : (g : ℕ) → g < r.count → Each P (listed (green_breach r k (trace h g) g m))
  pub red : (g : ℕ) → g < r.count → Each P (listed (red_breach r k (trace h g) g m))
  pub conflict : (g i : ℕ) → g < r.count → i < r.count →
      Each P (listed (conflict_breach r (not (are_both_on (trace h g) (trace h i) (suc m))) (trace h g) (trace h i) g i m))
  pub intergreen : (g i : ℕ) → g < r.count → i < r.count → Each P (listed (intergreen_breach r k (trace h g) (trace h i) g i m))

-- and of what each test of the end after second m does
pub record EachLast (P : Breach → Type 0) (r : Rules) (k : Terms) (h : History) (m : ℕ) : Type 0 where
  pub running : (g : ℕ) → g < r.count → Each P (listed (running_breach r k (trace h g) g m (trace h g m)))
  pub conflict : (g i : ℕ) → g < r.count → i < r.count → Each P (listed (conflict_breach r true (trace h g) (trace h i) g i m))
  pub pending : (g i : ℕ) → g < r.count → i < r.count → Each P (listed (pending_breach r k (trace h g) (trace h i) g i m))
  pub hidden : (g i : ℕ) → g < r.count → i < r.count →
      Each P (listed (hidden_breach r k g i (suc m) (opening_of r k (trace h g) g m) (opening_of r k (trace h i) i m)))

after_each : (P : Breach → Type 0) (r : Rules) (k : Terms) (h : History) (m : ℕ) → Each P (breaches_after r k h m) → EachAfter P r k h m
unfolding breaches_after
after_each P r k h m each =
    let one = λ (g : ℕ). sequence_breaches r k (trace h g) g m in
    let two = λ (g : ℕ). listed (green_breach r k (trace h g) g m) in
    let three = λ (g : ℕ). listed (red_breach r k (trace h g) g m) in
    let four = λ (g i : ℕ). conflict_breach r (not (are_both_on (trace h g) (trace h i) (suc m))) (trace h g) (trace h i) g i m in
    let five = λ (g i : ℕ). intergreen_breach r k (trace h g) (trace h i) g i m in
    let rest2 = each_right P (gather one r.count) (gather two r.count ++ (gather three r.count ++ (of_pairs four r.count ++ of_pairs five r.count))) each in
    let rest3 = each_right P (gather two r.count) (gather three r.count ++ (of_pairs four r.count ++ of_pairs five r.count)) rest2 in
    let rest4 = each_right P (gather three r.count) (of_pairs four r.count ++ of_pairs five r.count) rest3 in
    let seq = λ (g : ℕ) (lt : g < r.count). gathered_each P one r.count g
    (each_left P (gather one r.count) (gather two r.count ++ (gather three r.count ++ (of_pairs four r.count ++ of_pairs five r.count))) each) lt in
    let times = λ (g : ℕ) (lt : g < r.count). each_right P (listed (step_breach (trace h g) g m))
    (listed (red_amber_breach r k (trace h g) g m) ++ listed (amber_breach r k (trace h g) g m)) (seq g lt) in
    record {
      step = λ g lt. each_left P (listed (step_breach (trace h g) g m))
          (listed (red_amber_breach r k (trace h g) g m) ++ listed (amber_breach r k (trace h g) g m)) (seq g lt);
      red_amber = λ g lt. each_left P (listed (red_amber_breach r k (trace h g) g m)) (listed (amber_breach r k (trace h g) g m)) (times g lt);
      amber = λ g lt. each_right P (listed (red_amber_breach r k (trace h g) g m)) (listed (amber_breach r k (trace h g) g m)) (times g lt);
      green = λ g lt. gathered_each P two r.count g
          (each_left P (gather two r.count) (gather three r.count ++ (of_pairs four r.count ++ of_pairs five r.count)) rest2) lt;
      red = λ g lt. gathered_each P three r.count g (each_left P (gather three r.count) (of_pairs four r.count ++ of_pairs five r.count) rest3) lt;
      conflict = λ g i lt lt'. pair_each P four r.count g i (each_left P (of_pairs four r.count) (of_pairs five r.count) rest4) lt lt';
      intergreen = λ g i lt lt'. pair_each P five r.count g i (each_right P (of_pairs four r.count) (of_pairs five r.count) rest4) lt lt';
    }

each_after : (P : Breach → Type 0) (r : Rules) (k : Terms) (h : History) (m : ℕ) → EachAfter P r k h m → Each P (breaches_after r k h m)
unfolding breaches_after
each_after P r k h m each =
    each_both P _ _ (each_gathered P (λ g. sequence_breaches r k (trace h g) g m) r.count (λ g lt.
    each_both P (listed (step_breach (trace h g) g m)) _ (each.step g lt)
    (each_both P (listed (red_amber_breach r k (trace h g) g m)) _ (each.red_amber g lt) (each.amber g lt))))
    (each_both P _ _ (each_gathered P (λ g. listed (green_breach r k (trace h g) g m)) r.count each.green)
    (each_both P _ _ (each_gathered P (λ g. listed (red_breach r k (trace h g) g m)) r.count each.red)
    (each_both P _ _ (each_pair P (λ g i. conflict_breach r (not (are_both_on (trace h g) (trace h i) (suc m))) (trace h g) (trace h i) g i m) r.count each.conflict)
    (each_pair P (λ g i. intergreen_breach r k (trace h g) (trace h i) g i m) r.count each.intergreen))))

last_each : (P : Breach → Type 0) (r : Rules) (k : Terms) (h : History) (m : ℕ) → Each P (last_breaches r k h m) → EachLast P r k h m
unfolding last_breaches
last_each P r k h m each =
    let one = λ (g : ℕ). listed (running_breach r k (trace h g) g m (trace h g m)) in
    let two = λ (g i : ℕ). conflict_breach r true (trace h g) (trace h i) g i m in
    let three = λ (g i : ℕ). pending_breach r k (trace h g) (trace h i) g i m in
    let four = λ (g i : ℕ). hidden_breach r k g i (suc m) (opening_of r k (trace h g) g m) (opening_of r k (trace h i) i m) in
    let rest = each_right P (gather one r.count) (of_pairs two r.count ++ (of_pairs three r.count ++ of_pairs four r.count)) each in
    let rest2 = each_right P (of_pairs two r.count) (of_pairs three r.count ++ of_pairs four r.count) rest in
    record {
      running = λ g lt. gathered_each P one r.count g
          (each_left P (gather one r.count) (of_pairs two r.count ++ (of_pairs three r.count ++ of_pairs four r.count)) each) lt;
      conflict = λ g i lt lt'. pair_each P two r.count g i (each_left P (of_pairs two r.count) (of_pairs three r.count ++ of_pairs four r.count) rest) lt lt';
      pending = λ g i lt lt'. pair_each P three r.count g i (each_left P (of_pairs three r.count) (of_pairs four r.count) rest2) lt lt';
      hidden = λ g i lt lt'. pair_each P four r.count g i (each_right P (of_pairs three r.count) (of_pairs four r.count) rest2) lt lt';
    }

each_last : (P : Breach → Type 0) (r : Rules) (k : Terms) (h : History) (m : ℕ) → EachLast P r k h m → Each P (last_breaches r k h m)
unfolding last_breaches
each_last P r k h m each =
    each_both P _ _ (each_gathered P (λ g. listed (running_breach r k (trace h g) g m (trace h g m))) r.count each.running)
    (each_both P _ _ (each_pair P (λ g i. conflict_breach r true (trace h g) (trace h i) g i m) r.count each.conflict)
    (each_both P _ _ (each_pair P (λ g i. pending_breach r k (trace h g) (trace h i) g i m) r.count each.pending)
    (each_pair P (λ g i. hidden_breach r k g i (suc m) (opening_of r k (trace h g) g m) (opening_of r k (trace h i) i m)) r.count each.hidden)))

-- of all tests of a history
pub record EachTest (P : Breach → Type 0) (r : Rules) (k : Terms) (h : History) : Type 0 where
  pub after : (m : ℕ) → m < length h - 1 → EachAfter P r k h m
  pub last : EachLast P r k h (length h - 1)

pub tests_of : (P : Breach → Type 0) (r : Rules) (k : Terms) (h : History) → Each P (breaches r k h) → EachTest P r k h
unfolding breaches breaches_within
tests_of P r k h each = record {
  after = λ m lt. after_each P r k h m (gathered_each P (breaches_after r k h) (length h - 1) m
      (each_left P (gather (breaches_after r k h) (length h - 1)) (last_breaches r k h (length h - 1)) each) lt);
  last = last_each P r k h (length h - 1) (each_right P (gather (breaches_after r k h) (length h - 1)) (last_breaches r k h (length h - 1)) each);
}

pub of_tests : (P : Breach → Type 0) (r : Rules) (k : Terms) (h : History) → EachTest P r k h → Each P (breaches r k h)
unfolding breaches breaches_within
of_tests P r k h each =
    each_both P (gather (breaches_after r k h) (length h - 1)) (last_breaches r k h (length h - 1))
    (each_gathered P (breaches_after r k h) (length h - 1) (λ m lt. each_after P r k h m (each.after m lt)))
    (each_last P r k h (length h - 1) each.last)
