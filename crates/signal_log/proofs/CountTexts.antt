-- The field of the counts determines them.
use Rattle.std.proofs.Common.{◌≡◌, ◌∙◌, ℕ, zero, suc, ◌+◌, ◌^◌, ◌<◌, ◌≤◌, true, List, [], ◌∷◌, ◌++◌, map, length, if◌then◌else◌, ◌==◌, ◌&&◌, refl, ap, sym, subst, arith, append_assoc}
use Rattle.std.specs.Fmt.{decimal}
use Rattle.std.proofs.lemmas.Fmt.{decimal_injective}
use Rattle.std.proofs.lemmas.List.{append-nil}
use Rattle.std.proofs.lemmas.Bool.{ne_eqb}
use Rattle.signal_log.specs.Laws.{SmallCounts}
use Rattle.signal_log.specs.Log.{spaced_items, or_dash, count_entry, counted_from, count_text}
use Rattle.signal_log.proofs.Without.{Without, NoDigit, without-append, without_along, head_of, cut_once, decimal_without}

-- a detector and its counts can be printed
abbrev pub IsSmall : ℕ × ℕ × ℕ → Type 0
IsSmall c = (c.0 < 2 ^ 64) × (c.1 < 2 ^ 64) × (c.2 < 2 ^ 64)

colon_no_digit : NoDigit 58
colon_no_digit d lt e = absurd (omega arith)

space_no_digit : NoDigit 32
space_no_digit d lt e = absurd (omega arith)

dash_no_digit : NoDigit 45
dash_no_digit d lt e = absurd (omega arith)

-- the pieces of an item, one after the other
abbrev nested : List ℕ → List ℕ → List ℕ → List ℕ
nested a b c = a ++ 58 ∷ (b ++ 58 ∷ c)

nested_by_colons : (a b c : List ℕ) → a ++ 58 ∷ [] ++ b ++ 58 ∷ [] ++ c ≡ nested a b c
nested_by_colons a b c =
    append_assoc (a ++ 58 ∷ [] ++ b) (58 ∷ []) c
    ∙ append_assoc (a ++ 58 ∷ []) b (58 ∷ c)
    ∙ append_assoc a (58 ∷ []) (b ++ 58 ∷ c)

count_shape : (c : ℕ × ℕ × ℕ) → count_text c ≡ nested (decimal c.0) (decimal c.1) (decimal c.2)
count_shape c = nested_by_colons (decimal c.0) (decimal c.1) (decimal c.2)

-- one item determines its three numbers
count_text_injective : (c d : ℕ × ℕ × ℕ) → IsSmall c → IsSmall d → count_text c ≡ count_text d → c ≡ d
count_text_injective c d p q e =
    let first = cut_once 58 (decimal c.0) (decimal d.0) (decimal c.1 ++ 58 ∷ decimal c.2) (decimal d.1 ++ 58 ∷ decimal d.2)
    (decimal_without 58 c.0 colon_no_digit) (decimal_without 58 d.0 colon_no_digit) (sym (count_shape c) ∙ e ∙ count_shape d) in
    let second = cut_once 58 (decimal c.1) (decimal d.1) (decimal c.2) (decimal d.2)
    (decimal_without 58 c.1 colon_no_digit) (decimal_without 58 d.1 colon_no_digit) first.1 in
    ap (λ x. (x, c.1, c.2)) (decimal_injective c.0 d.0 p.0 q.0 first.0)
    ∙ ap (λ x. (d.0, x, c.2)) (decimal_injective c.1 d.1 p.1 q.1 second.0)
    ∙ ap (λ x. (d.0, d.1, x)) (decimal_injective c.2 d.2 p.2 q.2 second.1)

-- an item has no byte but digits and colons
pub count_text_without : (b : ℕ) (c : ℕ × ℕ × ℕ) → NoDigit b → (58 ≡ b → ⊥) → Without b (count_text c)
count_text_without b c none colon =
    without_along b (nested (decimal c.0) (decimal c.1) (decimal c.2)) (count_text c)
    (without-append b (decimal c.0) (58 ∷ (decimal c.1 ++ 58 ∷ decimal c.2)) (decimal_without b c.0 none)
    (colon, without-append b (decimal c.1) (58 ∷ decimal c.2) (decimal_without b c.1 none) (colon, decimal_without b c.2 none))) (sym (count_shape c))

-- a byte that isn't there isn't there
without-no : (b : ℕ) (xs ys : List ℕ) → Without b (xs ++ b ∷ ys) → ⊥
without-no b [] ys w = w.0 refl
without-no b (x ∷ xs) ys w = without-no b xs ys w.1

abbrev pub AllSmall : List (ℕ × ℕ × ℕ) → Type 0
AllSmall [] = Unit {0}
AllSmall (c ∷ cs) = IsSmall c × AllSmall cs

colon_space : ◌≡◌ {A = ℕ} 58 32 → ⊥
colon_space e = absurd (omega arith)

colon_dash : ◌≡◌ {A = ℕ} 58 45 → ⊥
colon_dash e = absurd (omega arith)

-- items after an item
items_injective : (c d : ℕ × ℕ × ℕ) (cs ds : List (ℕ × ℕ × ℕ)) → AllSmall (c ∷ cs) → AllSmall (d ∷ ds) →
    count_text c ++ spaced_items true (map count_text cs) ≡ count_text d ++ spaced_items true (map count_text ds) → c ∷ cs ≡ d ∷ ds
items_injective c d [] [] p q e =
    ap (λ x. x ∷ []) (count_text_injective c d p.0 q.0 (sym (append-nil (count_text c)) ∙ e ∙ append-nil (count_text d)))
items_injective c d [] (f ∷ ds) p q e =
    absurd (without-no 32 (count_text d) (count_text f ++ spaced_items true (map count_text ds))
    (without_along 32 (count_text c) _ (count_text_without 32 c space_no_digit colon_space) (sym (append-nil (count_text c)) ∙ e)))
items_injective c d (g ∷ cs) [] p q e =
    absurd (without-no 32 (count_text c) (count_text g ++ spaced_items true (map count_text cs))
    (without_along 32 (count_text d) _ (count_text_without 32 d space_no_digit colon_space) (sym (append-nil (count_text d)) ∙ sym e)))
items_injective c d (g ∷ cs) (f ∷ ds) p q e =
    let cut = cut_once 32 (count_text c) (count_text d) (count_text g ++ spaced_items true (map count_text cs))
    (count_text f ++ spaced_items true (map count_text ds))
    (count_text_without 32 c space_no_digit colon_space) (count_text_without 32 d space_no_digit colon_space) e in
    ap (λ x. x ∷ g ∷ cs) (count_text_injective c d p.0 q.0 cut.0) ∙ ap (λ l. d ∷ l) (items_injective g f cs ds p.1 q.1 cut.1)

-- a text of items isn't a dash
no_dash : (xs ys : List ℕ) → Without 45 xs → xs ++ 58 ∷ ys ≡ 45 ∷ [] → ⊥
no_dash [] ys w e = colon_dash (head_of 58 45 ys [] e)
no_dash (x ∷ xs) ys w e = w.0 (head_of x 45 (xs ++ 58 ∷ ys) [] e)

no_dash_items : (c : ℕ × ℕ × ℕ) (cs : List (ℕ × ℕ × ℕ)) → or_dash (map count_text (c ∷ cs)) ≡ 45 ∷ [] → ⊥
no_dash_items c cs e =
    no_dash (decimal c.0) ((decimal c.1 ++ 58 ∷ decimal c.2) ++ spaced_items true (map count_text cs)) (decimal_without 45 c.0 dash_no_digit)
    (sym (append_assoc (decimal c.0) (58 ∷ (decimal c.1 ++ 58 ∷ decimal c.2)) (spaced_items true (map count_text cs)))
    ∙ ap (λ l. l ++ spaced_items true (map count_text cs)) (sym (count_shape c)) ∙ e)

pub or_dash_injective : (cs ds : List (ℕ × ℕ × ℕ)) → AllSmall cs → AllSmall ds → or_dash (map count_text cs) ≡ or_dash (map count_text ds) → cs ≡ ds
or_dash_injective [] [] p q e = refl
or_dash_injective [] (d ∷ ds) p q e = absurd (no_dash_items d ds (sym e))
or_dash_injective (c ∷ cs) [] p q e = absurd (no_dash_items c cs e)
or_dash_injective (c ∷ cs) (d ∷ ds) p q e = items_injective c d cs ds p q e

-- a pair of counts is left out, or stands with its detector
by_count_entry : (P : List (ℕ × ℕ × ℕ) → ℕ × ℕ → Type 0) (d a b : ℕ) → P [] (0, 0) → ((x y : ℕ) → x ≡ a → y ≡ b → P ((d, x, y) ∷ []) (x, y)) →
    P (count_entry d (a, b)) (a, b)
by_count_entry P d zero zero none some = none
by_count_entry P d zero (suc b) none some =
    subst (λ t. P (if t then [] else (d, 0, suc b) ∷ []) (0, suc b)) (sym (ne_eqb (suc b) 0 (λ e. absurd (omega (arith, e))))) (some zero (suc b) refl refl)
by_count_entry P d (suc a) b none some =
    subst (λ t. P (if t && (b == 0) then [] else (d, suc a, b) ∷ []) (suc a, b)) (sym (ne_eqb (suc a) 0 (λ e. absurd (omega (arith, e)))))
    (some (suc a) b refl refl)

-- no detector is below k
abbrev Above : ℕ → List (ℕ × ℕ × ℕ) → Type 0
Above k [] = Unit {0}
Above k (c ∷ cs) = (k ≤ c.0) × Above k cs

above_from : (j k : ℕ) (cs : List (ℕ × ℕ)) → j ≤ k → Above j (counted_from k cs)
above_from j k [] le = tt
above_from j k (c ∷ cs) le =
    let rest = above_from j (k + 1) cs (omega (arith, le)) in
    by_count_entry (λ l x. Above j (l ++ counted_from (k + 1) cs)) k c.0 c.1 rest (λ x y is is'. (le, rest))

not_above : (k : ℕ) (c : ℕ × ℕ × ℕ) (cs ds : List (ℕ × ℕ × ℕ)) → c.0 ≡ k → Above (k + 1) ds → ds ≡ c ∷ cs → ⊥
not_above k c cs ds is above e =
    let at = (subst (λ l. Above (k + 1) l) e above).0 in
    absurd (omega (arith, is, at))

item-head : (c d : ℕ × ℕ × ℕ) (cs ds : List (ℕ × ℕ × ℕ)) → c ∷ cs ≡ d ∷ ds → c ≡ d
item-head c d cs ds e = cc

item-tail : (c d : ℕ × ℕ × ℕ) (cs ds : List (ℕ × ℕ × ℕ)) → c ∷ cs ≡ d ∷ ds → cs ≡ ds
item-tail c d cs ds e = cc

-- what is listed determines the counts
pub counted_from_injective : (k : ℕ) (cs ds : List (ℕ × ℕ)) → length cs ≡ length ds → counted_from k cs ≡ counted_from k ds → cs ≡ ds
counted_from_injective k [] [] same e = refl
counted_from_injective k [] (d ∷ ds) same e = absurd (omega (arith, same))
counted_from_injective k (c ∷ cs) [] same e = absurd (omega (arith, same))
counted_from_injective k (c ∷ cs) (d ∷ ds) same e =
    let after = counted_from (k + 1) cs in
    let after' = counted_from (k + 1) ds in
    let go : after ≡ after' → cs ≡ ds = counted_from_injective (k + 1) cs ds (omega (arith, same)) in
    by_count_entry (λ l x. l ++ after ≡ count_entry k d ++ after' → x ∷ cs ≡ d ∷ ds) k c.0 c.1
    (by_count_entry (λ l x. after ≡ l ++ after' → (0, 0) ∷ cs ≡ x ∷ ds) k d.0 d.1
    (λ f. ap (λ l. (0, 0) ∷ l) (go f))
    (λ x y is is' f. absurd (not_above k (k, x, y) after' after refl (above_from (k + 1) (k + 1) cs (omega arith)) f)))
    (λ a b at at'. by_count_entry (λ l x. (k, a, b) ∷ after ≡ l ++ after' → (a, b) ∷ cs ≡ x ∷ ds) k d.0 d.1
    (λ f. absurd (not_above k (k, a, b) after after' refl (above_from (k + 1) (k + 1) ds (omega arith)) (sym f)))
    (λ x y is is' f. ap (λ i. (i.1, i.2) ∷ cs) (item-head (k, a, b) (k, x, y) after after' f) ∙
    ap (λ l. (x, y) ∷ l) (go (item-tail (k, a, b) (k, x, y) after after' f))))
    e

counted_small : (k : ℕ) (cs : List (ℕ × ℕ)) → k + length cs < 2 ^ 64 → SmallCounts cs → AllSmall (counted_from k cs)
counted_small k [] few small = tt
counted_small k (c ∷ cs) few small =
    let rest = counted_small (k + 1) cs (omega (arith, few)) small.1 in
    by_count_entry (λ l x. AllSmall (l ++ counted_from (k + 1) cs)) k c.0 c.1 rest
    (λ x y is is'. ((omega (arith, few), subst (λ n. n < 2 ^ 64) (sym is) small.0.0, subst (λ n. n < 2 ^ 64) (sym is') small.0.1), rest))

-- the field of the counts determines them
pub counts_injective : (cs ds : List (ℕ × ℕ)) → length cs ≡ 64 → length ds ≡ 64 → SmallCounts cs → SmallCounts ds →
    or_dash (map count_text (counted_from 1 cs)) ≡ or_dash (map count_text (counted_from 1 ds)) → cs ≡ ds
counts_injective cs ds is is' p q e =
    counted_from_injective 1 cs ds (is ∙ sym is')
    (or_dash_injective (counted_from 1 cs) (counted_from 1 ds) (counted_small 1 cs (omega (arith, is)) p) (counted_small 1 ds (omega (arith, is')) q) e)
