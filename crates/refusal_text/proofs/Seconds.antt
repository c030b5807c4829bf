-- In which seconds something was refused, while refusals are read one after another.
use Rattle.std.proofs.Common.{◌≡◌, ◌∙◌, ℕ, ◌+◌, ◌<◌, ◌≤◌, Bool, true, false, ◌&&◌, ◌==◌, List, [], ◌∷◌, Option, take, length, get_or, refl, sym, ap, subst, arith}
use Rattle.std.specs.Prelude.{count_by, nat_lt, if◌then◌else◌}
use Rattle.std.proofs.lemmas.Bool.{eq-eqb, lt-ltb, ne_eqb}
use Rattle.std.proofs.lemmas.List.Sums.{count_by_more_no, count_by_more_yes}
use Rattle.sig_types.specs.declared.aspect.Rule.{Rule}
use Rattle.sig_types.specs.declared.numbers.GroupNo.{GroupNo}
use Rattle.refusal_text.specs.declared.refusal.Refusal.{Refusal}
use Rattle.refusal_text.specs.declared.wait.Counted.{Counted}
use Rattle.refusal_text.specs.Counted.{AreCounted, counted_next, counted_with}
use Rattle.refusal_text.specs.Order.{AreInOrder}
use Rattle.refusal_text.specs.Words.{second_of}
use Rattle.refusal_text.specs.Waits.{after_last, is_at, is_of, is_refused}
use Rattle.refusal_text.proofs.Counting.{counted_more, counted_same}

and_no : (b : Bool) → (b && false) ≡ false
and_no true = refl
and_no false = refl

-- a refusal of something else
pub refused_same : (xs : List Refusal) (group : Option GroupNo) (rule : Rule) (i : ℕ) (d : Refusal) → i < length xs →
    is_of group rule (get_or xs i d) ≡ false → (t : ℕ) → is_refused (take (i + 1) xs) group rule t ≡ is_refused (take i xs) group rule t
refused_same xs group rule i d inside other t =
    let no : is_at group rule t (get_or xs i d) ≡ false =
    ap (λ (b : Bool). (second_of (get_or xs i d) == t) && b) other ∙ and_no (second_of (get_or xs i d) == t) in
    ap (λ (k : ℕ). nat_lt 0 k) (count_by_more_no (is_at group rule t) xs i d inside no)

-- a refusal of this, in its own second
pub refused_now : (xs : List Refusal) (group : Option GroupNo) (rule : Rule) (i : ℕ) (d : Refusal) → i < length xs →
    is_of group rule (get_or xs i d) ≡ true → is_refused (take (i + 1) xs) group rule (second_of (get_or xs i d)) ≡ true
refused_now xs group rule i d inside this =
    let s = second_of (get_or xs i d) in
    let yes : is_at group rule (second_of (get_or xs i d)) (get_or xs i d) ≡ true =
    ap (λ (b : Bool). b && is_of group rule (get_or xs i d)) (eq-eqb (second_of (get_or xs i d)) (second_of (get_or xs i d)) refl) ∙ this in
    ap (λ (k : ℕ). nat_lt 0 k) (count_by_more_yes (is_at group rule (second_of (get_or xs i d))) xs i d inside yes)
    ∙ lt-ltb 0 (count_by (is_at group rule (second_of (get_or xs i d))) (take i xs) + 1) (omega arith)

-- and in any other
pub refused_else : (xs : List Refusal) (group : Option GroupNo) (rule : Rule) (i : ℕ) (d : Refusal) → i < length xs →
    (t : ℕ) → (t ≡ second_of (get_or xs i d) → ⊥) → is_refused (take (i + 1) xs) group rule t ≡ is_refused (take i xs) group rule t
refused_else xs group rule i d inside t ne =
    let no : is_at group rule t (get_or xs i d) ≡ false =
    ap (λ (b : Bool). b && is_of group rule (get_or xs i d)) (ne_eqb (second_of (get_or xs i d)) t (λ e. ne (sym e))) in
    ap (λ (k : ℕ). nat_lt 0 k) (count_by_more_no (is_at group rule t) xs i d inside no)

-- nothing is refused after the last refusal
none_after : (xs : List Refusal) (group : Option GroupNo) (rule : Rule) (t : ℕ) → after_last xs ≤ t → count_by (is_at group rule t) xs ≡ 0
none_after [] group rule t le = refl
none_after (x ∷ xs) group rule t le =
    let no : is_at group rule t x ≡ false =
    ap (λ (b : Bool). b && is_of group rule x) (ne_eqb (second_of x) t (λ e. omega (arith, e, le))) in
    rw no (none_after xs group rule t (omega (arith, le)))

pub refused_before : (xs : List Refusal) (group : Option GroupNo) (rule : Rule) (t : ℕ) → after_last xs ≤ t → is_refused xs group rule t ≡ false
refused_before xs group rule t le = ap (λ (k : ℕ). nat_lt 0 k) (none_after xs group rule t le)

-- one refusal more
pub counted_step : (xs : List Refusal) (group : Option GroupNo) (rule : Rule) (i : ℕ) (d : Refusal) (c e : Counted) → i < length xs →
    e ≡ (if is_of group rule (get_or xs i d) then counted_with c (second_of (get_or xs i d)) else c) →
    c.next ≤ second_of (get_or xs i d) + 1 → AreCounted (is_refused (take i xs) group rule) c → AreCounted (is_refused (take (i + 1) xs) group rule) e
counted_step xs group rule i d c e inside e_is late is = go (is_of group rule (get_or xs i d)) refl
  where
    go : (b : Bool) → is_of group rule (get_or xs i d) ≡ b → AreCounted (is_refused (take (i + 1) xs) group rule) e
    go true this =
        subst (λ (x : Counted). AreCounted (is_refused (take (i + 1) xs) group rule) x)
        (sym (e_is ∙ ap (λ (b : Bool). if b then counted_with c (second_of (get_or xs i d)) else c) this))
        (counted_more (is_refused (take i xs) group rule) (is_refused (take (i + 1) xs) group rule) c (second_of (get_or xs i d)) is
        (refused_now xs group rule i d inside this) (λ t ne. refused_else xs group rule i d inside t ne) (omega (arith, late)))
    go false other =
        subst (λ (x : Counted). AreCounted (is_refused (take (i + 1) xs) group rule) x)
        (sym (e_is ∙ ap (λ (b : Bool). if b then counted_with c (second_of (get_or xs i d)) else c) other))
        (counted_same (is_refused (take i xs) group rule) (is_refused (take (i + 1) xs) group rule) c is
        (λ t. refused_same xs group rule i d inside other t))

next_with : (c : Counted) (s n : ℕ) → c.next ≤ n + 1 → s ≤ n → (counted_with c s).next ≤ n + 1
next_with c s n old new = go (nat_lt s c.next)
  where
    go : (b : Bool) → (if b then c else counted_next c s).next ≤ n + 1
    go true = old
    go false = omega (arith, new)

-- and it is of no earlier second than those before it
pub later_step : (xs : List Refusal) (group : Option GroupNo) (rule : Rule) (i : ℕ) (d : Refusal) (c e : Counted) → AreInOrder xs →
    e ≡ (if is_of group rule (get_or xs i d) then counted_with c (second_of (get_or xs i d)) else c) →
    ((j : ℕ) (d' : Refusal) → i ≤ j → j < length xs → c.next ≤ second_of (get_or xs j d') + 1) →
    (j : ℕ) (d' : Refusal) → i + 1 ≤ j → j < length xs → e.next ≤ second_of (get_or xs j d') + 1
later_step xs group rule i d c e order e_is before j d' le lt =
    subst (λ (x : Counted). x.next ≤ second_of (get_or xs j d') + 1) (sym e_is) (go (is_of group rule (get_or xs i d)))
  where
    old : c.next ≤ second_of (get_or xs j d') + 1
    old = before j d' (omega (arith, le)) lt

    go : (b : Bool) → (if b then counted_with c (second_of (get_or xs i d)) else c).next ≤ second_of (get_or xs j d') + 1
    go true = next_with c (second_of (get_or xs i d)) (second_of (get_or xs j d')) old (order i j d d' (omega (arith, le)) lt)
    go false = old
