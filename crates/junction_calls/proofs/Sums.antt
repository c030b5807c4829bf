-- What the numbers of groups add up to tells where there is none: what adds nothing to the sum is 0, a wish, and gives no command.
use Rattle.std.proofs.Common.{◌≡◌, ◌+◌, ◌<◌, ◌≤◌, ◌==◌, ◌&&◌, ◌||◌, ◌++◌, ℕ, zero, suc, Bool, true, false, List, get_or, nat_le, nat_lt, refl, subst, sym, arith}
use Rattle.std.proofs.lemmas.Bool.{eq-eqb, eqb-false, eqb-true, leb-false, leb-true, ltb-false, ltb-true, ne_eqb}
use Rattle.std.proofs.lemmas.List.{append-nil}
use Rattle.sig_types.specs.declared.numbers.Command.{Command}
use Rattle.pua_model.specs.Plan.{PlanOf, groups_in}
use Rattle.junction_calls.specs.Given.{are_wishes, is_wish, groups_given, sum_below}

-- what was added of all groups is what is added of 64
pub sum_of_all : (numbers : List ℕ) (n sum : ℕ) → n ≡ 64 → sum ≡ sum_below numbers n → sum ≡ sum_below numbers 64
sum_of_all numbers n sum same is = subst (λ m. sum ≡ sum_below numbers m) same is

sum_grows : (numbers : List ℕ) (n m : ℕ) → n ≤ m → sum_below numbers n ≤ sum_below numbers m
sum_grows numbers n zero le = let none : 0 ≡ n = omega (arith, le) in subst (λ k. sum_below numbers k ≤ sum_below numbers zero) none (omega arith)
sum_grows numbers n (suc m) le = go (nat_le n m) refl (sum_grows numbers n m)
  where
    go : (b : Bool) → nat_le n m ≡ b → (n ≤ m → sum_below numbers n ≤ sum_below numbers m) → sum_below numbers n ≤ sum_below numbers (suc m)
    go true below earlier = omega (arith, earlier (leb-true n m below))
    go false above earlier =
        let last : suc m ≡ n = omega (arith, le, leb-false n m above) in
        subst (λ k. sum_below numbers k ≤ sum_below numbers (suc m)) last (omega arith)

-- what adds nothing to a sum is 0
adds_nothing : (numbers : List ℕ) (n m : ℕ) → sum_below numbers m ≡ sum_below numbers n → (p : ℕ) → n ≤ p → p < m → get_or numbers p 0 ≡ 0
adds_nothing numbers n zero same p from lt = absurd (omega (arith, lt))
adds_nothing numbers n (suc m) same p from lt =
    go (nat_lt p m) refl (sum_grows numbers n m (omega (arith, from, lt))) (adds_nothing numbers n m)
  where
    go : (b : Bool) → nat_lt p m ≡ b → sum_below numbers n ≤ sum_below numbers m →
        (sum_below numbers m ≡ sum_below numbers n → (q : ℕ) → n ≤ q → q < m → get_or numbers q 0 ≡ 0) → get_or numbers p 0 ≡ 0
    go true below grows earlier = earlier (omega (arith, same, grows)) p from (ltb-true p m below)
    go false above grows earlier =
        let last : m ≡ p = omega (arith, lt, ltb-false p m above) in
        subst (λ k. get_or numbers k 0 ≡ 0) last (omega (arith, same, grows))

-- a sum of 0 is one of zeros
pub none_wished : (numbers : List ℕ) (sum : ℕ) → sum ≡ sum_below numbers 64 → (sum == 0) ≡ true → (p : ℕ) → p < 64 → get_or numbers p 0 ≡ 0
none_wished numbers sum is none p lt =
    let nothing : sum_below numbers 64 ≡ sum_below numbers 0 = omega (arith, is, eqb-true sum 0 none) in
    adds_nothing numbers 0 64 nothing p (omega arith) lt

-- numbers that are 0 from a place on give no command more
gives_no_more : (numbers : List ℕ) (n m : ℕ) → n ≤ m → ((p : ℕ) → n ≤ p → p < m → get_or numbers p 0 ≡ 0) →
    groups_given numbers m ≡ groups_given numbers n
gives_no_more numbers n zero le none =
    let first : 0 ≡ n = omega (arith, le) in subst (λ k. groups_given numbers zero ≡ groups_given numbers k) first refl
gives_no_more numbers n (suc m) le none = go (nat_le n m) refl (gives_no_more numbers n m)
  where
    go : (b : Bool) → nat_le n m ≡ b →
        (n ≤ m → ((p : ℕ) → n ≤ p → p < m → get_or numbers p 0 ≡ 0) → groups_given numbers m ≡ groups_given numbers n) →
        groups_given numbers (suc m) ≡ groups_given numbers n
    go true below earlier =
        let from : n ≤ m = leb-true n m below in
        rw (none m from (omega arith), append-nil (groups_given numbers m)) (earlier from (λ p at lt. none p at (omega (arith, lt))))
    go false above earlier =
        let last : suc m ≡ n = omega (arith, le, leb-false n m above) in
        subst (λ k. groups_given numbers (suc m) ≡ groups_given numbers k) last refl

-- no command is added where nothing is wished
pub silent_adds : (commands given : List Command) (numbers : List ℕ) → ((p : ℕ) → p < 64 → get_or numbers p 0 ≡ 0) → given ≡ commands →
    given ≡ commands ++ groups_given numbers 64
silent_adds commands given numbers none is =
    rw (gives_no_more numbers 0 64 (omega arith) (λ p at lt. none p lt), append-nil commands) is

silent_below : (plan : PlanOf) (numbers : List ℕ) (n : ℕ) → ((p : ℕ) → p < n → get_or numbers p 0 ≡ 0) → are_wishes plan numbers n ≡ true
silent_below plan numbers zero none = refl
silent_below plan numbers (suc n) none = rw (silent_below plan numbers n (λ p lt. none p (omega (arith, lt))), none n (omega arith)) refl

-- then all numbers are wishes
pub silent_wishes : (plan : PlanOf) (numbers : List ℕ) → ((p : ℕ) → p < 64 → get_or numbers p 0 ≡ 0) → are_wishes plan numbers 64 ≡ true
silent_wishes plan numbers none = silent_below plan numbers 64 none

or_false : (a : Bool) → (a || false) ≡ a
or_false true = refl
or_false false = refl

-- past the last group a number is a wish where it adds nothing
wish_past : (plan : PlanOf) (p number : ℕ) → groups_in plan ≤ p → is_wish plan p number ≡ (number == 0)
wish_past plan p number past = go (nat_lt p (groups_in plan)) refl
  where
    go : (b : Bool) → nat_lt p (groups_in plan) ≡ b → ((number == 0) || (b && nat_le number 2)) ≡ (number == 0)
    go true below = absurd (omega (arith, past, ltb-true p (groups_in plan) below))
    go false above = or_false (number == 0)

and_same : (a : Bool) (k : ℕ) → a ≡ (a && (k == k))
and_same true k = sym (eq-eqb k k refl)
and_same false k = refl

-- two sums are one, and a number is 0, where the sums are one with it
same_with : (a b number : ℕ) → a ≤ b → ((a == b) && (number == 0)) ≡ (a == (b + number))
same_with a b number le = go (a == b) (number == 0) refl refl
  where
    go : (x y : Bool) → (a == b) ≡ x → (number == 0) ≡ y → (x && y) ≡ (a == (b + number))
    go true true same none = sym (eq-eqb a (b + number) (omega (arith, eqb-true a b same, eqb-true number 0 none)))
    go true false same some = sym (ne_eqb a (b + number) (λ e. omega (arith, e, eqb-true a b same, eqb-false number 0 some)))
    go false y other none = sym (ne_eqb a (b + number) (λ e. omega (arith, e, le, eqb-false a b other)))

one_more : (wished : Bool) (a b number : ℕ) → a ≤ b → ((wished && (a == b)) && (number == 0)) ≡ (wished && (a == (b + number)))
one_more true a b number le = same_with a b number le
one_more false a b number le = refl

wishes_past : (plan : PlanOf) (numbers : List ℕ) (n m : ℕ) → n ≡ groups_in plan → n ≤ m →
    are_wishes plan numbers m ≡ (are_wishes plan numbers n && (sum_below numbers n == sum_below numbers m))
wishes_past plan numbers n zero is le =
    let first : 0 ≡ n = omega (arith, le) in
    subst (λ k. are_wishes plan numbers zero ≡ (are_wishes plan numbers k && (sum_below numbers k == sum_below numbers zero))) first refl
wishes_past plan numbers n (suc m) is le = go (nat_le n m) refl (wishes_past plan numbers n m is)
  where
    go : (b : Bool) → nat_le n m ≡ b → (n ≤ m → are_wishes plan numbers m ≡ (are_wishes plan numbers n && (sum_below numbers n == sum_below numbers m))) →
        are_wishes plan numbers (suc m) ≡ (are_wishes plan numbers n && (sum_below numbers n == sum_below numbers (suc m)))
    go true below earlier =
        let from : n ≤ m = leb-true n m below in
        rw (earlier from, wish_past plan m (get_or numbers m 0) (omega (arith, from, is)))
        (one_more (are_wishes plan numbers n) (sum_below numbers n) (sum_below numbers m) (get_or numbers m 0) (sum_grows numbers n m from))
    go false above earlier =
        let last : suc m ≡ n = omega (arith, le, leb-false n m above) in
        subst (λ k. are_wishes plan numbers (suc m) ≡ (are_wishes plan numbers k && (sum_below numbers k == sum_below numbers (suc m)))) last
        (and_same (are_wishes plan numbers (suc m)) (sum_below numbers (suc m)))

-- all numbers are wishes where those of the groups are, and nothing else adds to the sum
pub wishes_by_sum : (plan : PlanOf) (numbers : List ℕ) (n sum all : ℕ) (wished : Bool) → n ≡ groups_in plan → n ≤ 64 → wished ≡ are_wishes plan numbers n →
    sum ≡ sum_below numbers n → all ≡ sum_below numbers 64 → (wished && (sum == all)) ≡ are_wishes plan numbers 64
wishes_by_sum plan numbers n sum all wished is fits wishes adds adds_all =
    rw (wishes, adds, adds_all) (sym (wishes_past plan numbers n 64 is fits))

-- and the groups give all commands
pub given_by_sum : (commands given : List Command) (numbers : List ℕ) (n sum all : ℕ) → n ≤ 64 → sum ≡ sum_below numbers n → all ≡ sum_below numbers 64 →
    (sum == all) ≡ true → given ≡ commands ++ groups_given numbers n → given ≡ commands ++ groups_given numbers 64
given_by_sum commands given numbers n sum all fits adds adds_all same is =
    let none : sum_below numbers 64 ≡ sum_below numbers n = omega (arith, adds, adds_all, eqb-true sum all same) in
    rw (gives_no_more numbers n 64 fits (adds_nothing numbers n 64 none)) is
