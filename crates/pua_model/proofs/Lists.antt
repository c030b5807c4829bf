-- What a plan's lists say of its parts.
use Rattle.std.proofs.Common.{◌≡◌, ℕ, zero, suc, ◌<◌, ◌≤◌, ◌+◌, ◌%◌, ◌==◌, Bool, true, false, ◌⊎◌, not, set, ◌&&◌, ◌||◌, List, [], ◌∷◌, length, get_or, Option, Some, None, refl, sym, ap, ◌∙◌, arith, map, nat_le, nat_lt, ℤ, pos, negsuc, inl, inr}
use Rattle.std.specs.Prelude.{◌≤ℤ◌, ◌<ℤ◌, unsigned_abs, IfSome}
use Rattle.std.proofs.lemmas.List.Quantifiers.{position-Some}
use Rattle.sig_types.specs.declared.numbers.GroupNo.{GroupNo}
use Rattle.std.specs.List.{position, prefix_len}
use Rattle.std.specs.Str.{IsUtf8}
use Rattle.std.proofs.lemmas.Str.{IsUtf8-from_ascii}
use Rattle.std.proofs.lemmas.Str.Ascii.{IsAscii-nil, IsAscii-cons}
use Rattle.std.specs.Str.{IsAscii}
use Rattle.std.proofs.lemmas.Bool.{and_parts, le-leb, leb-true, le-ltb, ne_eqb, eqb-true, eqb-false, ltb-true, ltb-false, cases_Bool}
use Rattle.std.proofs.lemmas.Bool.Decides.{nat_tests}
use Rattle.std.proofs.lemmas.Int.{ints}
use mir.Val.{SFits, of_z}
use mir.Syntax.{w32}
use Rattle.pua_model.specs.declared.parts.Group.{Group}
use Rattle.pua_model.specs.declared.parts.Stage.{Stage}
use Rattle.std.proofs.lemmas.List.{length-map, get_or-map, length-set, get_or-set_same, get_or-set_other}
use Rattle.sig_types.specs.Text.{is_name, is_word, is_letter, is_digit, same_name}
use Rattle.pua_model.specs.Plan.{PlanOf, InterstageOf, no_interstage, are_names, is_above, group_of, group_named, group_number, stage_of}
use Rattle.std.proofs.lemmas.Grind.{common_steps}

prefix_len-map : {X Y : Type 0} (f : X → Y) (p : Y → Bool) (xs : List X) → prefix_len p (map f xs) ≡ prefix_len (λ x. p (f x)) xs
prefix_len-map f p [] = refl
prefix_len-map f p (x ∷ xs) = rw (prefix_len-map f p xs) refl

pub position-map : {X Y : Type 0} (f : X → Y) (p : Y → Bool) (xs : List X) → position p (map f xs) ≡ position (λ x. p (f x)) xs
position-map f p xs = rw (prefix_len-map f (λ y. not (p y)) xs, length-map xs f) refl

letter_ascii : (b : ℕ) → is_letter b ≡ true → b < 128
letter_ascii b h = grind (arith, common_steps)

digit_ascii : (b : ℕ) → is_digit b ≡ true → b < 128
digit_ascii b h = grind (arith, common_steps)

char_ascii : (b : ℕ) → (is_letter b || is_digit b) ≡ true → b < 128
char_ascii b h = elim (cases_Bool (is_letter b)) [ inl here ↦ letter_ascii b here | inr other ↦ digit_ascii b (rw other at h) ]

word_ascii : (w : List ℕ) → is_word w ≡ true → IsAscii w
word_ascii [] h = IsAscii-nil
word_ascii (b ∷ bs) h =
    let both = and_parts (is_letter b || is_digit b) (is_word bs) h in
    IsAscii-cons b bs (char_ascii b both.0) (word_ascii bs both.1)

pub name_is_text : (w : List ℕ) → is_name w ≡ true → IsUtf8 w
name_is_text [] h = IsUtf8-from_ascii [] IsAscii-nil
name_is_text (b ∷ bs) h =
    let one = and_parts (is_letter b && is_word bs) (nat_le (length bs) 31) h in
    let two = and_parts (is_letter b) (is_word bs) one.0 in
    IsUtf8-from_ascii (b ∷ bs) (IsAscii-cons b bs (letter_ascii b two.0) (word_ascii bs two.1))

pub name_at : (names : List (List ℕ)) (i : ℕ) → are_names names ≡ true → i < length names → is_name (get_or names i []) ≡ true
name_at [] i h lt = absurd (omega arith)
name_at (n ∷ ns) zero h lt = (and_parts (is_name n) (are_names ns) h).0
name_at (n ∷ ns) (suc i) h lt = name_at ns i (and_parts (is_name n) (are_names ns) h).1 (omega arith)

pub group_of_number : (p : PlanOf) (z : ℤ) → pos 0 ≤ℤ z → group_of p z ≡ position (λ k. k == unsigned_abs z) p.numbers
unfolding group_of
group_of_number p (pos n) h = refl
group_of_number p (negsuc n) h = absurd (omega arith)

pub group_of_negative : (p : PlanOf) (z : ℤ) → z <ℤ pos 0 → group_of p z ≡ None
unfolding group_of
group_of_negative p (pos n) h = absurd (omega (arith, ints, h))
group_of_negative p (negsuc n) h = refl

-- a place among the parts is the place in the plan's list
pub place_by_number : (p : PlanOf) (groups : List Group) (z : ℤ) (n : ℕ) (o : Option ℕ) → pos 0 ≤ℤ z → n ≡ unsigned_abs z → map (λ g. g.number) groups ≡ p.numbers →
    o ≡ position (λ g. g.number == n) groups → o ≡ group_of p z
place_by_number p groups z n o h size same is =
    is ∙ ap (λ (m : ℕ). position (λ (g : Group). g.number == m) groups) size ∙ sym (position-map (λ g. g.number) (λ k. k == unsigned_abs z) groups) ∙ ap (position (λ k. k == unsigned_abs z)) same ∙ sym (group_of_number p z h)

pub place_by_name : (p : PlanOf) (groups : List Group) (name : List ℕ) (o : Option ℕ) → map (λ g. g.name) groups ≡ p.names →
    o ≡ position (λ g. same_name g.name name) groups → o ≡ group_named p name
place_by_name p groups name o same is =
    is ∙ sym (position-map (λ g. g.name) (λ n. same_name n name) groups) ∙ ap (position (λ n. same_name n name)) same

pub stage_of_number : (p : PlanOf) (z : ℤ) → pos 1 ≤ℤ z → unsigned_abs z ≤ length p.stages → stage_of p z ≡ Some (unsigned_abs z)
unfolding stage_of
stage_of_number p (pos n) h few = let least : 1 ≤ n = omega (arith, ints, h) in rw (le-leb 1 n least, le-leb n (length p.stages) few) refl
stage_of_number p (negsuc n) h few = absurd (omega arith)

pub no_stage_of : (p : PlanOf) (z : ℤ) → (pos 1 ≤ℤ z → length p.stages < unsigned_abs z) → stage_of p z ≡ None
unfolding stage_of
no_stage_of p (pos n) h = grind (arith, nat_tests)
no_stage_of p (negsuc n) h = refl

-- the bits of a number, less 1, are the place of its stage
pub stage_in_place : (p : PlanOf) (z : ℤ) (m : ℕ) → SFits w32 z → m ≡ of_z w32 z → m < 4294967296 → length p.stages ≤ 32 →
    ((m + 4294967295) % 4294967296 < length p.stages → stage_of p z ≡ Some m) × (length p.stages ≤ (m + 4294967295) % 4294967296 → stage_of p z ≡ None)
stage_in_place p (pos zero) m fits is inside few =
    (λ lt. absurd (omega (arith, is, few, lt)), λ le. no_stage_of p (pos 0) (λ above. absurd (omega (arith, ints, above))))
stage_in_place p (pos (suc n)) m fits is inside few =
    let here : (m + 4294967295) % 4294967296 ≡ n = omega (arith, is, inside) in
    (λ lt. stage_of_number p (pos (suc n)) (omega (arith, ints)) (omega (arith, here, lt)) ∙ ap Some (omega (arith, is)), λ le. no_stage_of p (pos (suc n)) (λ above. omega (arith, here, le)))
stage_in_place p (negsuc n) m fits is inside few = (λ lt. absurd (omega (arith, ints, fits, is, few, lt)), λ le. no_stage_of p (negsuc n) (λ above. absurd (omega (arith, ints, above))))

pub greens_at : (stages : List Stage) (i : ℕ) (s : Stage) → i < length stages → s ≡ get_or stages i s → get_or (map (λ s. s.greens) stages) i [] ≡ s.greens
greens_at stages i s lt is = get_or-map (λ s. s.greens) stages i s [] lt ∙ ap (λ s. s.greens) (sym is)

pub name_in_plan : (groups : List Group) (i : ℕ) (g : Group) → i < length groups → g ≡ get_or groups i g → get_or (map (λ g. g.name) groups) i [] ≡ g.name
name_in_plan groups i g lt is = get_or-map (λ g. g.name) groups i g [] lt ∙ ap (λ g. g.name) (sym is)

-- no group has a number past 255
none_equal : (least n : ℕ) (ns : List ℕ) → is_above least ns ≡ true → 255 < n → prefix_len (λ k. not (k == n)) ns ≡ length ns
none_equal least n [] h big = refl
none_equal least n (k ∷ ks) h big =
    let both = and_parts (nat_lt least k && nat_le k 255) (is_above k ks) h in
    let most : k ≤ 255 = leb-true k 255 (and_parts (nat_lt least k) (nat_le k 255) both.0).1 in
    let other : (k == n) ≡ false = ne_eqb k n (λ same. absurd (omega (arith, same, most, big))) in
    rw (other, none_equal k n ks both.1 big) (omega arith)

pub group_of_great : (p : PlanOf) (z : ℤ) → is_above 0 p.numbers ≡ true → pos 255 <ℤ z → group_of p z ≡ None
unfolding group_of
group_of_great p (pos n) rising h = let big : 255 < n = omega (arith, ints, h) in rw (none_equal 0 n p.numbers rising big, le-ltb (length p.numbers) (length p.numbers) (omega arith)) refl
group_of_great p (negsuc n) rising h = absurd (omega (arith, ints, h))

-- what the table of places has for a number is a place among the groups
pub place_below : (o : Option GroupNo) (groups : List Group) (n count : ℕ) → group_number o ≡ position (λ g. g.number == n) groups → length groups ≡ count → IfSome o (λ g. g.0 < count)
place_below None groups n count is size = tt
place_below (Some g) groups n count is size =
    let inside = position-Some (λ (h : Group). h.number == n) groups g.0 (record { name = []; number = 0 }) (sym is) in omega (arith, inside.0, size)

pub interstage_is : (l : List InterstageOf) (i : ℕ) (w : InterstageOf) → i < length l → w ≡ get_or l i w → get_or l i no_interstage ≡ w
interstage_is [] i w lt is = absurd (omega arith)
interstage_is (x ∷ xs) zero w lt is = sym is
interstage_is (x ∷ xs) (suc i) w lt is = interstage_is xs i w (omega arith) is

less_than : (g k : ℕ) → g < k + 1 → (g ≡ k → ⊥) → g < k
less_than g k below ne = elim (cases_Bool (nat_lt g k)) [ inl less ↦ ltb-true g k less | inr past ↦ let past : k ≤ g = ltb-false g k past in absurd (ne (omega (arith, past, below))) ]

-- the items below k are as they are wished, and the others as they were before
abbrev pub Wished : List Bool → (ℕ → Bool) → (ℕ → Bool) → ℕ → ℕ → Type 0
Wished out wished before n k =
    (length out ≡ n)
    × ((g : ℕ) → g < k → get_or out g false ≡ wished g)
    × ((g : ℕ) → k ≤ g → g < n → get_or out g false ≡ before g)

pub wished_more : (out : List Bool) (wished before : ℕ → Bool) (n k : ℕ) (b : Bool) → Wished out wished before n k → k < n → b ≡ wished k → Wished (set out k b) wished before n (k + 1)
wished_more out wished before n k b h lt here =
    (length-set out k b ∙ h.0, λ g below. one g below (cases_Bool (g == k)), λ g from lt2. get_or-set_other out k g b false (λ e. absurd (omega (arith, e, from))) ∙ h.2 g (omega (arith, from)) lt2)
  where
    one : (g : ℕ) → g < k + 1 → ((g == k) ≡ true) ⊎ ((g == k) ≡ false) → get_or (set out k b) g false ≡ wished g
    one g below (inl same) =
        let e : g ≡ k = eqb-true g k same in
        rw e (get_or-set_same out k b false (omega (arith, lt, h.0)) ∙ here)
    one g below (inr other) =
        let ne : g ≡ k → ⊥ = eqb-false g k other in
        let less : g < k = less_than g k below ne in
        get_or-set_other out k g b false ne ∙ h.1 g less

-- one group more, which is wished as it was before
pub wished_left : (out : List Bool) (wished before : ℕ → Bool) (n k : ℕ) → Wished out wished before n k → k < n → before k ≡ wished k → Wished out wished before n (k + 1)
wished_left out wished before n k h lt same_wish = (h.0, λ g below. one g below (cases_Bool (g == k)), λ g from lt2. h.2 g (omega (arith, from)) lt2)
  where
    one : (g : ℕ) → g < k + 1 → ((g == k) ≡ true) ⊎ ((g == k) ≡ false) → get_or out g false ≡ wished g
    one g below (inl same) =
        let e : g ≡ k = eqb-true g k same in
        rw e (h.2 k (omega arith) lt ∙ same_wish)
    one g below (inr other) = h.1 g (less_than g k below (eqb-false g k other))
