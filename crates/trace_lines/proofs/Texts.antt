-- The lines of a text, cut off one after the other.
use Rattle.std.proofs.Common.{◌≡◌, ◌∙◌, ℕ, suc, ◌*◌, ◌<◌, Bool, true, false, List, [], ◌∷◌, ◌++◌, Option, None, Some, length, nat_eq, refl, ap, subst, arith}
use Rattle.std.specs.Fmt.{decimal}
use Rattle.std.specs.Option.{option_map}
use Rattle.std.specs.Prelude.{◌/◌, codes, if◌then◌else◌, nat_lt}
use Rattle.std.proofs.lemmas.Bool.Decides.{nat_tests}
use Rattle.sig_types.specs.Text.{cut_at}
use Rattle.trace_lines.specs.Lines.{capped}
use Rattle.trace_lines.specs.Table.{share_text, text_lines, with_byte}

-- a text that is cut there begins with this line
abbrev IsCutSo : List ℕ → List ℕ × List ℕ → Type 0
IsCutSo bs p = (text_lines bs ≡ p.0 ∷ text_lines p.1) × (length p.1 < length bs)

cut_on : (t : Bool) (b : ℕ) (bs : List ℕ) (o : Option (List ℕ × List ℕ)) (p : List ℕ × List ℕ) →
    ((q : List ℕ × List ℕ) → o ≡ Some q → IsCutSo bs q) →
    (if t then Some ([], bs) else option_map (λ q. (b ∷ q.0, q.1)) o) ≡ Some p →
    ((if t then [] ∷ text_lines bs else with_byte b (text_lines bs)) ≡ p.0 ∷ text_lines p.1) × (length p.1 < suc (length bs))
cut_on true b bs o p all is =
    let e : ([], bs) ≡ p = cc in
    (ap (λ (q : List ℕ × List ℕ). q.0 ∷ text_lines q.1) e, subst (λ (q : List ℕ × List ℕ). length q.1 < suc (length bs)) e (omega arith))
cut_on false b bs None p all is = absurd cc
cut_on false b bs (Some q) p all is =
    let e : (b ∷ q.0, q.1) ≡ p = cc in
    let one = all q refl in
    let shorter : length q.1 < suc (length bs) = omega (arith, one.1) in (
      ap (λ ls. with_byte b ls) one.0 ∙ ap (λ (r : List ℕ × List ℕ). r.0 ∷ text_lines r.1) e,
      subst (λ (r : List ℕ × List ℕ). length r.1 < suc (length bs)) e shorter,
    )

-- the line before a cut, and those behind it
pub cut_lines : (bs : List ℕ) (p : List ℕ × List ℕ) → cut_at 10 bs ≡ Some p → IsCutSo bs p
cut_lines [] p is = absurd cc
cut_lines (b ∷ bs) p is = cut_on (nat_eq b 10) b bs (cut_at 10 bs) p (λ q e. cut_lines bs q e) is

-- a cut before a byte, or behind it
abbrev cut_step : Bool → ℕ → List ℕ → Option (List ℕ × List ℕ) → Option (List ℕ × List ℕ)
cut_step t b bs o = if t then Some ([], bs) else option_map (λ q. (b ∷ q.0, q.1)) o

uncut_on : (t : Bool) (b : ℕ) (bs : List ℕ) (o : Option (List ℕ × List ℕ)) → (o ≡ None → with_byte b (text_lines bs) ≡ (b ∷ bs) ∷ []) →
    cut_step t b bs o ≡ None → (if t then [] ∷ text_lines bs else with_byte b (text_lines bs)) ≡ (b ∷ bs) ∷ []
uncut_on true b bs o last is = absurd cc
uncut_on false b bs None last is = last refl
uncut_on false b bs (Some q) last is = absurd cc

-- a text without a cut is one line
pub uncut_line : (bs : List ℕ) → cut_at 10 bs ≡ None → 0 < length bs → text_lines bs ≡ bs ∷ []
uncut_line [] is some = absurd (omega arith)
uncut_line (b ∷ []) is some = uncut_on (nat_eq b 10) b [] None (λ e. refl) is
uncut_line (b ∷ c ∷ cs) is some =
    uncut_on (nat_eq b 10) b (c ∷ cs) (cut_at 10 (c ∷ cs)) (λ e. ap (λ ls. with_byte b ls) (uncut_line (c ∷ cs) e (omega arith))) is

is_more : (n : ℕ) → 0 < n → nat_lt 0 n ≡ true
is_more n some = grind (arith, nat_tests)

chosen : (t : Bool) (a b : List ℕ) → t ≡ true → a ≡ (if t then a else b)
chosen true a b is = refl
chosen false a b is = absurd cc

-- so many in a hundred of some
pub share_is : (n all share : ℕ) → 0 < all → share ≡ capped (n * 100) / all →
    codes ", " ++ decimal share ++ codes " in a hundred" ≡ share_text n all
share_is n all share some is =
    ap (λ k. codes ", " ++ decimal k ++ codes " in a hundred") is
    ∙ chosen (nat_lt 0 all) (codes ", " ++ decimal (capped (n * 100) / all) ++ codes " in a hundred") [] (is_more all some)
