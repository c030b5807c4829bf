-- The words of a line, one after another.
use Rattle.std.proofs.Common.{◌≡◌, ℕ, ◌+◌, ◌<◌, ◌==◌, Bool, true, false, not, List, [], ◌∷◌, length, take, drop, get_or, refl, sym, ap, ◌∙◌, arith, ne_eqb}
use Rattle.std.specs.List.{slice_split, filter, prefix_len}
use Rattle.std.proofs.Math.Numerals.{one-add}
use Rattle.std.proofs.lemmas.List.{length-take-le}
use Rattle.std.proofs.lemmas.List.Sums.{prefix_len-le-length}
use Rattle.pua_reader.specs.Interstages.{word}
use Rattle.pua_reader.specs.Words.{Text, parts, words}
use Rattle.pua_lines.specs.Sections.{first_spot}
use Rattle.pua_lines.specs.declared.spot.Spot.{Spot}

-- no empty list
abbrev full : Text → Bool
full w = not (length w == 0)

-- what stands before the first stop, and what is left of the parts after it
record IsParted (p : ℕ → Bool) (xs : Text) : Type 0 where
  pub later : List Text
  pub is : slice_split p xs ≡ take (prefix_len (λ b. not (p b)) xs) xs ∷ later
  pub rest : filter full (slice_split p (drop (prefix_len (λ b. not (p b)) xs) xs)) ≡ filter full later

parted_by : (p : ℕ → Bool) (b : Bool) (x : ℕ) (xs : Text) → p x ≡ b → IsParted p xs → IsParted p (x ∷ xs)
parted_by p true x xs stops more =
    record {
      later = slice_split p xs;
      is = rw stops refl;
      rest = rw stops (rw stops refl);
    }
parted_by p false x xs goes more =
    record {
      later = more.later;
      is = rw (goes, more.is, one-add) refl;
      rest = rw (goes, one-add) more.rest;
    }

parted : (p : ℕ → Bool) (xs : Text) → IsParted p xs
parted p [] = record { later = []; is = refl; rest = refl }
parted p (x ∷ xs) = parted_by p (p x) x xs refl (parted p xs)

full_cons : (y : ℕ) (ys : Text) → full (y ∷ ys) ≡ true
full_cons y ys = ap not (ne_eqb (length (y ∷ ys)) 0 (λ z. omega arith))

-- the first word of a line that begins with it, and the words of what stands after it
full_front : (p : ℕ → Bool) (x : ℕ) (xs : Text) → p x ≡ false → full (take (prefix_len (λ b. not (p b)) (x ∷ xs)) (x ∷ xs)) ≡ true
full_front p x xs goes = rw (goes, one-add) (full_cons x (take (prefix_len (λ b. not (p b)) xs) xs))

front_by : (p : ℕ → Bool) (x : ℕ) (xs : Text) → p x ≡ false → IsParted p (x ∷ xs) →
    filter full (slice_split p (x ∷ xs)) ≡ take (prefix_len (λ b. not (p b)) (x ∷ xs)) (x ∷ xs)
    ∷ filter full (slice_split p (drop (prefix_len (λ b. not (p b)) (x ∷ xs)) (x ∷ xs)))
front_by p x xs goes it = ap (filter full) it.is ∙ rw (full_front p x xs goes) (ap (λ l. take (prefix_len (λ b. not (p b))
    (x ∷ xs)) (x ∷ xs) ∷ l) (sym it.rest))

-- nothing is lost with what stands before the first word
gap_by : (p : ℕ → Bool) (b : Bool) (x : ℕ) (xs : Text) → p x ≡ b →
    filter full (slice_split p xs) ≡ filter full (slice_split p (drop (prefix_len p xs) xs)) →
    filter full (slice_split p (x ∷ xs)) ≡ filter full (slice_split p (drop (prefix_len p (x ∷ xs)) (x ∷ xs)))
gap_by p true x xs stops more = rw (stops, one-add) more
gap_by p false x xs goes more = rw goes (rw goes refl)

gap_lost : (p : ℕ → Bool) (xs : Text) → filter full (slice_split p xs) ≡ filter full (slice_split p (drop (prefix_len p xs) xs))
gap_lost p [] = refl
gap_lost p (x ∷ xs) = gap_by p (p x) x xs refl (gap_lost p xs)

-- what stands after the gap begins with no stop
stop_by : (p : ℕ → Bool) (b : Bool) (x y : ℕ) (xs ys : Text) → p x ≡ b → (drop (prefix_len p xs) xs ≡ y ∷ ys → p y ≡ false) →
    drop (prefix_len p (x ∷ xs)) (x ∷ xs) ≡ y ∷ ys → p y ≡ false
stop_by p true x y xs ys stops more is = more (rw (stops, one-add) at is)
stop_by p false x y xs ys goes more is =
    let here : x ∷ xs ≡ y ∷ ys = rw goes at is in
    let head : x ≡ y = ap (λ (l : List ℕ). get_or l 0 0) here in
    rw (← head) goes

after_gap : (p : ℕ → Bool) (xs : Text) (y : ℕ) (ys : Text) → drop (prefix_len p xs) xs ≡ y ∷ ys → p y ≡ false
after_gap p [] y ys is = cc
after_gap p (x ∷ xs) y ys is = stop_by p (p x) x y xs ys refl (λ e. after_gap p xs y ys e) is

-- how a test for no bytes came out
pub nothing : (xs : Text) → true ≡ (length xs == 0) → xs ≡ []
nothing [] e = refl
nothing (x ∷ xs) e =
    let ne : (length (x ∷ xs) == 0) ≡ false = ne_eqb (length (x ∷ xs)) 0 (λ z. omega arith) in
    let both : true ≡ false = e ∙ ne in
    absurd (cc)

something : (xs : Text) → false ≡ (length xs == 0) → 0 < length xs
something [] e = absurd (cc)
something (x ∷ xs) e = grind arith

-- a line without a word
no_word_nil : (keys : Bool) (line rest : Text) → rest ≡ drop (prefix_len (parts keys) line) line → rest ≡ [] →
    words keys line ≡ []
unfolding words
no_word_nil keys line rest is none = gap_lost (parts keys) line ∙ rw (← is, none) refl

pub no_word : (keys : Bool) (line rest : Text) → rest ≡ drop (prefix_len (parts keys) line) line → true ≡ (length rest == 0) →
    words keys line ≡ []
no_word keys line rest is none = no_word_nil keys line rest is (nothing rest none)

word_at_front : (keys : Bool) (line rest : Text) → rest ≡ drop (prefix_len (parts keys) line) line → 0 < length rest →
    words keys line ≡ take (prefix_len (λ b. not (parts keys b)) rest) rest ∷ words keys (drop (prefix_len (λ b. not
    (parts keys b)) rest) rest)
unfolding words
word_at_front keys line [] is some = absurd (omega (arith, some))
word_at_front keys line (x ∷ xs) is some =
    gap_lost (parts keys) line ∙ rw (← is) (front_by (parts keys) x xs (after_gap (parts keys) line x xs (sym is)) (parted
    (parts keys) (x ∷ xs)))

-- a line with one
pub first_word : (keys : Bool) (line rest a b : Text) → rest ≡ drop (prefix_len (parts keys) line) line →
    false ≡ (length rest == 0) →
    a ≡ take (prefix_len (λ b. not (parts keys b)) rest) rest → b ≡ drop (prefix_len (λ b. not (parts keys b)) rest) rest →
    words keys line ≡ a ∷ words keys b
first_word keys line rest a b is some front back = rw (front, back) (word_at_front keys line rest is (something rest some))

-- the place of the first word
size_taken : (p : ℕ → Bool) (xs : Text) → length (take (prefix_len p xs) xs) ≡ prefix_len p xs
size_taken p xs = length-take-le (prefix_len p xs) xs (prefix_len-le-length p xs)

size_by : (rest line : Text) → rest ≡ drop (prefix_len (parts false) line) line →
    prefix_len (λ b. not (parts false b)) rest ≡ length (word (words false line) 0)
size_by [] line is = rw (no_word_nil false line [] is refl) refl
size_by (x ∷ xs) line is =
    rw (word_at_front false line (x ∷ xs) is (grind arith)) (sym (size_taken (λ b. not (parts false b)) (x ∷ xs)))

pub spot_is : (n from size : ℕ) (line rest : Text) → from ≡ prefix_len (parts false) line →
    rest ≡ drop (prefix_len (parts false) line) line →
    size ≡ prefix_len (λ b. not (parts false b)) rest →
    ◌≡◌ {A = Spot} (record { line = n; from = from; to = from + size }) (first_spot n line)
unfolding first_spot
spot_is n from size line rest front is many =
    let whole : size ≡ length (word (words false line) 0) = many ∙ size_by rest line is in rw (front, whole) refl
