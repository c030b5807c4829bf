-- Where a group is put, and its number.
use Rattle.std.proofs.Common.{◌≡◌, ℕ, suc, ◌+◌, ◌<◌, ◌≤◌, ◌==◌, Bool, true, false, not, ◌&&◌, List, [], ◌∷◌, ◌++◌, take, drop, map, refl, ap, arith, Some, None, if◌then◌else◌, nat_lt, nat_le, inl, inr, cond, ◌⊎◌, ne_eqb}
use Rattle.std.specs.List.{insert, position_or_len}
use Rattle.std.proofs.lemmas.Bool.{and_parts, leb-true, ltb-true, le-leb}
use Rattle.std.proofs.lemmas.Bool.Decides.{nat_tests}
use Rattle.pua_model.specs.declared.parts.Group.{Group}
use Rattle.pua_model.specs.Plan.{is_above}
use Rattle.sig_types.specs.Text.{within}
use Rattle.pua_reader.specs.declared.refusal.PuaWhy.TheVariants as why
use Rattle.pua_reader.specs.Groups.{put, has_number, has_name, group_reasons}

put_later : (b : Bool) (g h : Group) (hs : List Group) (k : ℕ) → take k hs ++ g ∷ drop k hs ≡ put g hs →
    take (cond (not b) (1 + k) 0) (h ∷ hs) ++ g ∷ drop (cond (not b) (1 + k) 0) (h ∷ hs) ≡ (if b then g ∷ h ∷ hs else h ∷ put g hs)
put_later true g h hs k e = refl
put_later false g h hs k e = let one : 1 + k ≡ suc k = omega arith in rw one (ap (λ (l : List Group). h ∷ l) e)

pub put_is : (g : Group) (groups : List Group) → insert groups (position_or_len (λ h. nat_lt g.number h.number) groups) g ≡ put g groups
put_is g [] = refl
put_is g (h ∷ hs) = put_later (nat_lt g.number h.number) g h hs (position_or_len (λ h. nat_lt g.number h.number) hs) (put_is g hs)

-- no group has a number that is out of range
pub no_number : (least n : ℕ) (groups : List Group) → is_above least (map (λ g. g.number) groups) ≡ true → (n ≤ least) ⊎ (255 < n) → has_number groups n ≡ false
no_number least n [] h out = refl
no_number least n (g ∷ gs) h out =
    let one = and_parts (nat_lt least g.number && nat_le g.number 255) (is_above g.number (map (λ g. g.number) gs)) h in
    let two = and_parts (nat_lt least g.number) (nat_le g.number 255) one.0 in
    let above : least < g.number = ltb-true least g.number two.0 in
    let few : g.number ≤ 255 = leb-true g.number 255 two.1 in
    let out' : (n ≤ g.number) ⊎ (255 < n) = elim out [ inl low ↦ inl (omega arith) | inr high ↦ inr high ] in
    let ne : (g.number == n) ≡ false = ne_eqb g.number n (λ e. elim out [ inl low ↦ absurd (omega arith) | inr high ↦ absurd (omega arith) ]) in
    rw ne (no_number g.number n gs one.1 out')

out_of_range : (n : ℕ) (b : Bool) → (nat_le 1 n && nat_le n 255) ≡ b → None ≡ (if b then Some n else None) → ((n ≤ 0) ⊎ (255 < n)) × (b ≡ false)
out_of_range n true same e = cc
out_of_range n false same e = (grind (arith, nat_tests), refl)

pub out_of_range_why : (groups : List Group) (name : List ℕ) (n : ℕ) → has_name groups name ≡ false → is_above 0 (map (λ g. g.number) groups) ≡ true →
    None ≡ within 1 255 (Some n) → group_reasons groups (Some (record { name = name; number = n })) ≡ Some why.Range
unfolding group_reasons
out_of_range_why groups name n free rising none =
    let out = out_of_range n (nat_le 1 n && nat_le n 255) refl none in
    rw (free, no_number 0 n groups rising out.0, out.1) refl

pub in_range : (n : ℕ) → 1 ≤ n → n ≤ 255 → Some n ≡ within 1 255 (Some n)
in_range n least most = rw (le-leb 1 n least, le-leb n 255 most) refl
