-- Names of groups, and the places at which they are found.
use Rattle.std.proofs.Common.{◌≡◌, ◌∙◌, ℕ, zero, suc, ◌<◌, true, false, List, [], ◌∷◌, ◌++◌, length, get_or, Some, None, refl, sym, ap, arith, nat_eq, eq-eqb}
use Rattle.std.specs.Prelude.{◌&&◌, ◌||◌, not, nat_le, nat_lt, slice_index_or}
use Rattle.std.specs.List.{position_or_len}
use Rattle.std.specs.Str.{bytes_eq}
use Rattle.std.proofs.lemmas.Bool.{and_from, and_left, and_parts, and_right, eqb-true, false_from_ne_true, le-ltb, lt-ltb, ne_eqb, not-true, or_left, or_right, true≢false}
use Rattle.pua_model.specs.Plan.{are_apart, are_names, stands_in}
use Rattle.sig_types.specs.Text.{is_digit, is_letter, is_name, is_word, lower, same_name}
use Rattle.sig_types.specs.declared.numbers.GroupNo.{GroupNo}
use Rattle.signal_log.specs.Log.{name_of}
use Rattle.signal_log.proofs.Without.{Without}
use Rattle.log_read.specs.Fields.{place_of}
use Rattle.report_seen.proofs.CutTexts.{AllWithout}

-- a byte that is no letter and no digit
abbrev pub NoWord : ℕ → Type 0
NoWord b = (is_letter b || is_digit b) ≡ false

word_without : (b : ℕ) (bs : List ℕ) → NoWord b → is_word bs ≡ true → Without b bs
word_without b [] other t = tt
word_without b (x ∷ xs) other t =
    let both = and_parts (is_letter x || is_digit x) (is_word xs) t in
    ((λ is. true≢false (sym both.0 ∙ ap (λ (c : ℕ). is_letter c || is_digit c) is ∙ other)), word_without b xs other both.1)

pub name_without : (b : ℕ) (bs : List ℕ) → NoWord b → is_name bs ≡ true → Without b bs
name_without b [] other t = tt
name_without b (x ∷ xs) other t =
    let front = (and_parts (is_letter x && is_word xs) (nat_le (length xs) 31) t).0 in
    let both = and_parts (is_letter x) (is_word xs) front in
    word_without b (x ∷ xs) other (and_from (is_letter x || is_digit x) (is_word xs) (or_left (is_letter x) (is_digit x) both.0) both.1)

pub names_without : (b : ℕ) (names : List (List ℕ)) → NoWord b → are_names names ≡ true → AllWithout b names
names_without b [] other t = tt
names_without b (n ∷ ns) other t =
    let both = and_parts (is_name n) (are_names ns) t in
    (name_without b n other both.0, names_without b ns other both.1)

pub named_without : (b : ℕ) (names : List (List ℕ)) (g : ℕ) → NoWord b → are_names names ≡ true →
    Without b (slice_index_or names g [])
named_without b [] g other t = tt
named_without b (n ∷ ns) zero other t = name_without b n other (and_parts (is_name n) (are_names ns) t).0
named_without b (n ∷ ns) (suc g) other t = named_without b ns g other (and_parts (is_name n) (are_names ns) t).1

-- ---- names that are one without regard to case

same_itself : (a : List ℕ) → same_name a a ≡ true
same_itself [] = refl
same_itself (x ∷ xs) =
    let here : nat_eq (lower x) (lower x) ≡ true = eq-eqb (lower x) (lower x) refl in rw (here, same_itself xs) refl

pub same_back : (a b : List ℕ) → same_name a b ≡ true → same_name b a ≡ true
same_back [] [] t = refl
same_back [] (y ∷ ys) t = absurd (true≢false (sym t))
same_back (x ∷ xs) [] t = absurd (true≢false (sym t))
same_back (x ∷ xs) (y ∷ ys) t =
    let both = and_parts (nat_eq (lower x) (lower y)) (same_name xs ys) t in
    let here : nat_eq (lower y) (lower x) ≡ true = eq-eqb (lower y) (lower x) (sym (eqb-true (lower x) (lower y) both.0)) in
    and_from (nat_eq (lower y) (lower x)) (same_name ys xs) here (same_back xs ys both.1)

text_same : (a b : List ℕ) → bytes_eq a b ≡ true → a ≡ b
text_same [] [] t = refl
text_same [] (y ∷ ys) t = absurd (true≢false (sym t))
text_same (x ∷ xs) [] t = absurd (true≢false (sym t))
text_same (x ∷ xs) (y ∷ ys) t =
    let both = and_parts (nat_eq x y) (bytes_eq xs ys) t in
    ap (λ (c : ℕ). c ∷ xs) (eqb-true x y both.0) ∙ ap (λ (l : List ℕ). y ∷ l) (text_same xs ys both.1)

text_itself : (a : List ℕ) → bytes_eq a a ≡ true
text_itself [] = refl
text_itself (x ∷ xs) = let here : nat_eq x x ≡ true = eq-eqb x x refl in rw (here, text_itself xs) refl

-- ---- places of names

-- a name that comes later stands among these
later_stands : (n : List ℕ) (ns : List (List ℕ)) (g : ℕ) → g < length ns → same_name (get_or ns g []) n ≡ true →
    stands_in n ns ≡ true
later_stands n [] g lt same = absurd (omega arith)
later_stands n (m ∷ ns) zero lt same = or_left (same_name m n) (stands_in n ns) same
later_stands n (m ∷ ns) (suc g) lt same = or_right (same_name m n) (stands_in n ns) (later_stands n ns g (omega arith) same)

first_place : (names : List (List ℕ)) (g : ℕ) → g < length names → are_apart names ≡ true →
    position_or_len (λ name. bytes_eq name (get_or names g [])) names ≡ g
first_place [] g lt apart = absurd (omega arith)
first_place (n ∷ ns) zero lt apart = rw (text_itself n) refl
first_place (n ∷ ns) (suc g) lt apart =
    let both = and_parts (not (stands_in n ns)) (are_apart ns) apart in
    let other : bytes_eq n (get_or ns g []) ≡ false = false_from_ne_true (bytes_eq n (get_or ns g [])) (λ is.
    true≢false (sym (later_stands n ns g (omega arith)
    (ap (λ (x : List ℕ). same_name x n) (sym (text_same n (get_or ns g []) is)) ∙ same_itself n)) ∙ not-true (stands_in n ns) both.0)) in
    rw (other, first_place ns g (omega arith) both.1) (omega arith)

-- each name is found at its own place
pub placed_again : (names : List (List ℕ)) (group : GroupNo) → group.0 < length names → are_apart names ≡ true →
    place_of names (name_of names group) ≡ Some group
placed_again names group lt apart =
    let place : position_or_len (λ name. bytes_eq name (get_or names group.0 [])) names ≡ group.0 = first_place names group.0 lt apart in
    let inside : nat_lt group.0 (length names) ≡ true = lt-ltb group.0 (length names) lt in
    rw (place, inside) refl

-- a text with a byte is none that lacks it
other_text : (b : ℕ) (name front rest : List ℕ) → Without b name → bytes_eq name (front ++ b ∷ rest) ≡ false
other_text b [] [] rest none = refl
other_text b [] (x ∷ front) rest none = refl
other_text b (n ∷ ns) [] rest none = and_left (nat_eq n b) (bytes_eq ns rest) (ne_eqb n b none.0)
other_text b (n ∷ ns) (x ∷ front) rest none =
    and_right (nat_eq n x) (bytes_eq ns (front ++ b ∷ rest)) (other_text b ns front rest none.1)

no_place : (b : ℕ) (names : List (List ℕ)) (front rest : List ℕ) → AllWithout b names →
    position_or_len (λ name. bytes_eq name (front ++ b ∷ rest)) names ≡ length names
no_place b [] front rest none = refl
no_place b (n ∷ ns) front rest none = rw (other_text b n front rest none.0, no_place b ns front rest none.1) (omega arith)

pub not_placed : (b : ℕ) (names : List (List ℕ)) (front rest : List ℕ) → AllWithout b names →
    place_of names (front ++ b ∷ rest) ≡ None
not_placed b names front rest none =
    let place : position_or_len (λ name. bytes_eq name (front ++ b ∷ rest)) names ≡ length names = no_place b names front rest none in
    let outside : nat_lt (length names) (length names) ≡ false = le-ltb (length names) (length names) (omega arith) in
    rw (place, outside) refl
