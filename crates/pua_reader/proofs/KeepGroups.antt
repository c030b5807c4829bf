-- A group that is not refused leaves the groups as a plan wants them.
use Rattle.std.proofs.Common.{◌≡◌, ℕ, suc, ◌+◌, ◌<◌, ◌≤◌, ◌==◌, Bool, true, false, not, ◌&&◌, ◌||◌, List, [], ◌∷◌, length, map, refl, ap, ◌∙◌, arith, Option, Some, None, if◌then◌else◌, nat_lt, nat_le}
use Rattle.std.proofs.lemmas.Bool.{and_parts, or_parts, leb-true, lt-ltb, le-leb, ltb-false, leb-false, and_from, not-false, not-true, or_from}
use Rattle.std.proofs.lemmas.Bool.Decides.{nat_tests}
use Rattle.sig_types.specs.Text.{same_name, is_name, number_of}
use Rattle.pua_model.specs.declared.parts.Group.{Group}
use Rattle.pua_model.specs.Plan.{is_above, are_names, are_apart, stands_in}
use Rattle.pua_reader.specs.Words.{Text}
use Rattle.pua_reader.specs.Groups.{put, put_row, has_number, has_name, group_reasons, group_row, group_why, groups_with, numbered}
use Rattle.pua_reader.specs.Legal.{AreGroups}
use Rattle.pua_reader.proofs.Small.{none_first, same_turned}

pub length_put : (g : Group) (gs : List Group) → length (put g gs) ≡ suc (length gs)
length_put g [] = refl
length_put g (h ∷ hs) = go (nat_lt g.number h.number) (length_put g hs)
  where
    go : (b : Bool) → length (put g hs) ≡ suc (length hs) → length (if b then g ∷ h ∷ hs else h ∷ put g hs) ≡ suc (suc (length hs))
    go true e = refl
    go false e = ap suc e

names_put : (g : Group) (gs : List Group) → is_name g.name ≡ true → are_names (map (λ g. g.name) gs) ≡ true → are_names (map (λ g. g.name) (put g gs)) ≡ true
names_put g [] is all = and_from (is_name g.name) true is refl
names_put g (h ∷ hs) is all = go (nat_lt g.number h.number) (names_put g hs is (and_parts (is_name h.name) (are_names (map (λ g. g.name) hs)) all).1)
  where
    go : (b : Bool) → are_names (map (λ g. g.name) (put g hs)) ≡ true → are_names (map (λ g. g.name) (if b then g ∷ h ∷ hs else h ∷ put g hs)) ≡ true
    go true e = and_from (is_name g.name) (are_names (map (λ g. g.name) (h ∷ hs))) is all
    go false e = and_from (is_name h.name) (are_names (map (λ g. g.name) (put g hs))) (and_parts (is_name h.name) (are_names (map (λ g. g.name) hs)) all).0 e

stands_put : (m : List ℕ) (g : Group) (gs : List Group) → same_name g.name m ≡ false → stands_in m (map (λ g. g.name) gs) ≡ false →
    stands_in m (map (λ g. g.name) (put g gs)) ≡ false
stands_put m g [] ne free = or_from (same_name g.name m) false ne refl
stands_put m g (h ∷ hs) ne free = go (nat_lt g.number h.number)
    (stands_put m g hs ne (or_parts (same_name h.name m) (stands_in m (map (λ g. g.name) hs)) free).1)
  where
    go : (b : Bool) → stands_in m (map (λ g. g.name) (put g hs)) ≡ false → stands_in m (map (λ g. g.name) (if b then g ∷ h ∷ hs else h ∷ put g hs)) ≡ false
    go true e = or_from (same_name g.name m) (stands_in m (map (λ g. g.name) (h ∷ hs))) ne free
    go false e = or_from (same_name h.name m) (stands_in m (map (λ g. g.name) (put g hs)))
        (or_parts (same_name h.name m) (stands_in m (map (λ g. g.name) hs)) free).0 e

name_is_free : (groups : List Group) (w : List ℕ) → has_name groups w ≡ false → stands_in w (map (λ g. g.name) groups) ≡ false
name_is_free [] w h = refl
name_is_free (g ∷ gs) w h =
    let both = or_parts (same_name g.name w) (has_name gs w) h in
    or_from (same_name g.name w) (stands_in w (map (λ g. g.name) gs)) both.0 (name_is_free gs w both.1)

apart_put : (g : Group) (gs : List Group) → has_name gs g.name ≡ false → are_apart (map (λ g. g.name) gs) ≡ true →
    are_apart (map (λ g. g.name) (put g gs)) ≡ true
apart_put g [] free apart = refl
apart_put g (h ∷ hs) free apart = go (nat_lt g.number h.number) (apart_put g hs other.1 both.1)
  where
    both : (not (stands_in h.name (map (λ g. g.name) hs)) ≡ true) × (are_apart (map (λ g. g.name) hs) ≡ true)
    both = and_parts (not (stands_in h.name (map (λ g. g.name) hs))) (are_apart (map (λ g. g.name) hs)) apart

    other : (same_name h.name g.name ≡ false) × (has_name hs g.name ≡ false)
    other = or_parts (same_name h.name g.name) (has_name hs g.name) free

    go : (b : Bool) → are_apart (map (λ g. g.name) (put g hs)) ≡ true → are_apart (map (λ g. g.name) (if b then g ∷ h ∷ hs else h ∷ put g hs)) ≡ true
    go true e = and_from (not (stands_in g.name (map (λ g. g.name) (h ∷ hs)))) (are_apart (map (λ g. g.name) (h ∷ hs)))
        (ap not (name_is_free (h ∷ hs) g.name free)) apart
    go false e = and_from (not (stands_in h.name (map (λ g. g.name) (put g hs)))) (are_apart (map (λ g. g.name) (put g hs)))
        (ap not (stands_put h.name g hs (same_turned g.name h.name ∙ other.0) (not-true (stands_in h.name (map (λ g. g.name) hs)) both.0))) e

above_put : (least : ℕ) (g : Group) (gs : List Group) → least < g.number → g.number ≤ 255 → has_number gs g.number ≡ false →
    is_above least (map (λ g. g.number) gs) ≡ true → is_above least (map (λ g. g.number) (put g gs)) ≡ true
above_put least g [] lo hi free up = rw (lt-ltb least g.number lo, le-leb g.number 255 hi) refl
above_put least g (h ∷ hs) lo hi free up = go (nat_lt g.number h.number) refl (λ lt. above_put h.number g hs lt hi other.1 one.1)
  where
    one : ((nat_lt least h.number && nat_le h.number 255) ≡ true) × (is_above h.number (map (λ g. g.number) hs) ≡ true)
    one = and_parts (nat_lt least h.number && nat_le h.number 255) (is_above h.number (map (λ g. g.number) hs)) up

    two : (nat_lt least h.number ≡ true) × (nat_le h.number 255 ≡ true)
    two = and_parts (nat_lt least h.number) (nat_le h.number 255) one.0

    other : ((h.number == g.number) ≡ false) × (has_number hs g.number ≡ false)
    other = or_parts (h.number == g.number) (has_number hs g.number) free

    go : (b : Bool) → nat_lt g.number h.number ≡ b → (h.number < g.number → is_above h.number (map (λ g. g.number) (put g hs)) ≡ true) →
        is_above least (map (λ g. g.number) (if b then g ∷ h ∷ hs else h ∷ put g hs)) ≡ true
    go true less more = and_from (nat_lt least g.number && nat_le g.number 255)
        (nat_lt g.number h.number && nat_le h.number 255 && is_above h.number (map (λ g. g.number) hs))
        (and_from (nat_lt least g.number) (nat_le g.number 255) (lt-ltb least g.number lo) (le-leb g.number 255 hi))
        (and_from (nat_lt g.number h.number && nat_le h.number 255) (is_above h.number (map (λ g. g.number) hs))
        (and_from (nat_lt g.number h.number) (nat_le h.number 255) less two.1) one.1)
    go false past more =
        let le : h.number ≤ g.number = ltb-false g.number h.number past in
        let lt : h.number < g.number = grind (arith, nat_tests, other.0, le) in
        and_from (nat_lt least h.number && nat_le h.number 255) (is_above h.number (map (λ g. g.number) (put g hs))) one.0 (more lt)

abbrev name_of : Option Group → List ℕ
name_of None = []
name_of (Some g) = g.name

numbered_name : (n : Text) (o : Option ℕ) (g : Group) → numbered n o ≡ Some g → n ≡ g.name
numbered_name n None g e = cc
numbered_name n (Some k) g e = ap name_of e

one_name : (b : Bool) (n : Text) (place : ℕ) (g : Group) → is_name n ≡ b → (if b then Some (record { name = n; number = place }) else None) ≡ Some g
    → is_name g.name ≡ true
one_name true n place g is e = let same : n ≡ g.name = ap name_of e in rw (← same) is
one_name false n place g is e = cc

two_names : (b : Bool) (n : Text) (o : Option ℕ) (g : Group) → is_name n ≡ b → (if b then numbered n o else None) ≡ Some g → is_name g.name ≡ true
two_names true n o g is e = let same = numbered_name n o g e in rw (← same) is
two_names false n o g is e = cc

row_name : (place : ℕ) (ws : List Text) (g : Group) → group_row place ws ≡ Some g → is_name g.name ≡ true
row_name place [] g e = cc
row_name place (n ∷ []) g e = one_name (is_name n) n place g refl e
row_name place (n ∷ m ∷ []) g e = two_names (is_name n) n (number_of m) g refl e
row_name place (a ∷ b ∷ c ∷ more) g e = cc

pub record Accepted (groups : List Group) (g : Group) : Type 0 where
  pub free : has_name groups g.name ≡ false
  pub unused : has_number groups g.number ≡ false
  pub least : 1 ≤ g.number
  pub most : g.number ≤ 255
  pub room : length groups < 64

accepted : (groups : List Group) (g : Group) → group_reasons groups (Some g) ≡ None → Accepted groups g
unfolding group_reasons
accepted groups g none =
    let one = none_first (has_name groups g.name || has_number groups g.number) _ _ none in
    let two = none_first (not (nat_le 1 g.number && nat_le g.number 255)) _ _ one.1 in
    let three = none_first (nat_le 64 (length groups)) _ _ two.1 in
    let free = or_parts (has_name groups g.name) (has_number groups g.number) one.0 in
    let range = and_parts (nat_le 1 g.number) (nat_le g.number 255) (not-false _ two.0) in
    record {
      free = free.0;
      unused = free.1;
      least = leb-true 1 g.number range.0;
      most = leb-true g.number 255 range.1;
      room = leb-false 64 (length groups) three.0;
    }

refuses_none : (groups : List Group) → group_reasons groups None ≡ None → ⊥
unfolding group_reasons
refuses_none groups e = cc

with_row : (groups : List Group) (o : Option Group) → ((g : Group) → o ≡ Some g → is_name g.name ≡ true) → AreGroups groups →
    group_reasons groups o ≡ None → AreGroups (put_row o groups)
with_row groups None named legal none = absurd (refuses_none groups none)
with_row groups (Some g) named legal none =
    let fit = accepted groups g none in
    record {
      at_most = omega (arith, length_put g groups, fit.room);
      names = names_put g groups (named g refl) legal.names;
      apart = apart_put g groups fit.free legal.apart;
      rising = above_put 0 g groups (omega (arith, fit.least)) fit.most fit.unused legal.rising;
    }

pub groups_keep : (groups : List Group) (ws : List Text) → AreGroups groups → group_why groups ws ≡ None → AreGroups (groups_with groups ws)
groups_keep groups ws legal none =
    with_row groups (group_row (length groups + 1) ws) (λ g e. row_name (length groups + 1) ws g e) legal none
