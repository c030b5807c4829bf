-- The tokens of a statement between two counts.
use Rattle.std.proofs.Common.{◌≡◌, ◌∙◌, ℕ, ◌+◌, ◌-◌, ◌<◌, ◌≤◌, zero, suc, min, Bool, true, false, cond, List, [], ◌∷◌, length, map, take, drop, refl, ap, sym, subst, arith, nat_lt}
use Rattle.std.specs.Prelude.{Option, None, Some, IfSome, find}
use Rattle.std.specs.List.{prefix_len}
use Rattle.std.proofs.lemmas.Bool.{lt-ltb, ltb-true, ltb-false}
use Rattle.std.proofs.lemmas.Grind.{common_steps}
use Rattle.vap_lex.specs.declared.token.Token.{Token}
use Rattle.site_check.specs.Marks.{AreMarksOf, end_of, tokens_before}
use Rattle.site_check.specs.Spots.{statement_tokens, up_to}
use Rattle.site_check.specs.Statements.{count_before, lines_of, next_line}
use Rattle.site_check.specs.declared.marks.Marks.{Marks}
use Rattle.site_check.specs.declared.program.Judged.{Judged}

abbrev lines : List Token → List ℕ
lines ts = map (λ t. t.line) ts

map-prefix : (end : ℕ) (ts : List Token) → prefix_len (λ m. nat_lt m end) (lines ts) ≡ prefix_len (λ t. nat_lt t.line end) ts
map-prefix end [] = refl
map-prefix end (t ∷ ts) = ap (λ n. cond (nat_lt t.line end) (1 + n) 0) (map-prefix end ts)

within-lines : (end : ℕ) (ts : List Token) → prefix_len (λ m. nat_lt m end) (lines ts) ≤ length ts
within-lines end [] = omega arith
within-lines end (t ∷ ts) = here (nat_lt t.line end) (within-lines end ts)
  where
    here : (b : Bool) → prefix_len (λ m. nat_lt m end) (lines ts) ≤ length ts →
        cond b (1 + prefix_len (λ m. nat_lt m end) (lines ts)) 0 ≤ suc (length ts)
    here true h = omega (arith, h)
    here false h = omega arith

plus : (a b : ℕ) → 1 + (a + b) ≡ (1 + a) + b
plus a b = omega arith

zero_plus : (n : ℕ) → n ≡ 0 + n
zero_plus n = omega arith

behind : (n : ℕ) (t : Token) (ts : List Token) → drop (1 + n) (t ∷ ts) ≡ drop n ts
behind n t ts = grind (arith, common_steps)

-- up to a later line there stand those up to this line, and then others
split : (line end : ℕ) → line ≤ end → (ts : List Token) →
    prefix_len (λ m. nat_lt m end) (lines ts)
    ≡ prefix_len (λ m. nat_lt m line) (lines ts)
    + prefix_len (λ t. nat_lt t.line end) (drop (prefix_len (λ m. nat_lt m line) (lines ts)) ts)
split line end h [] = refl
split line end h (t ∷ ts) = here (nat_lt t.line line) refl (prefix_len (λ m. nat_lt m line) (lines ts)) (split line end h ts)
  where
    here : (b : Bool) → nat_lt t.line line ≡ b → (rest : ℕ) →
        prefix_len (λ m. nat_lt m end) (lines ts) ≡ rest + prefix_len (λ u. nat_lt u.line end) (drop rest ts) →
        cond (nat_lt t.line end) (1 + prefix_len (λ m. nat_lt m end) (lines ts)) 0
        ≡ cond b (1 + rest) 0 + prefix_len (λ u. nat_lt u.line end) (drop (cond b (1 + rest) 0) (t ∷ ts))
    here true is rest later =
        let below : nat_lt t.line end ≡ true = lt-ltb t.line end (omega (arith, h, ltb-true t.line line is)) in
        ap (λ c. cond c (1 + prefix_len (λ m. nat_lt m end) (lines ts)) 0) below
        ∙ (ap (λ n. 1 + n) later
        ∙ (plus rest (prefix_len (λ u. nat_lt u.line end) (drop rest ts))
        ∙ ap (λ us. (1 + rest) + prefix_len (λ u. nat_lt u.line end) us) (sym (behind rest t ts))))
    here false is rest later =
        ap (λ n. cond (nat_lt t.line end) (1 + n) 0) (map-prefix end ts)
        ∙ zero_plus (cond (nat_lt t.line end) (1 + prefix_len (λ u. nat_lt u.line end) ts) 0)

next_later : (line end : ℕ) (ls : List ℕ) → Some end ≡ find (λ m. nat_lt line m) ls → line ≤ end
next_later line end [] h = absurd (cc)
next_later line end (m ∷ ms) h = here (nat_lt line m) refl h (λ e. next_later line end ms e)
  where
    here : (b : Bool) → nat_lt line m ≡ b → Some end ≡ cond b (Some m) (find (λ k. nat_lt line k) ms) →
        (Some end ≡ find (λ k. nat_lt line k) ms → line ≤ end) → line ≤ end
    here true is e later = (let same : end ≡ m = cc in omega (arith, same, ltb-true line m is))
    here false is e later = later e

-- behind the tokens of earlier lines, those up to the end are the statement's
pub window : (ls : List ℕ) (line : ℕ) (ts : List Token) (next : Option ℕ) → next ≡ next_line ls line →
    (count_before (lines ts) line ≤ tokens_before next ts)
    × (up_to next (drop (count_before (lines ts) line) ts)
    ≡ take (tokens_before next ts - count_before (lines ts) line) (drop (count_before (lines ts) line) ts))
unfolding count_before next_line
window ls line ts None is = (within-lines line ts, all (prefix_len (λ m. nat_lt m line) (lines ts)) ts)
  where
    all : (n : ℕ) (us : List Token) → drop n us ≡ take (length us - n) (drop n us)
    all n us = grind (arith, common_steps)
window ls line ts (Some end) is =
    let begun : ℕ = prefix_len (λ m. nat_lt m line) (lines ts) in
    let both = split line end (next_later line end ls is) ts in (
      omega (arith, both),
      ap (λ n. take n (drop begun ts)) (let e : prefix_len (λ t. nat_lt t.line end) (drop begun ts) ≡ prefix_len (λ m. nat_lt m end) (lines ts) - begun = omega (arith, both) in e),
    )

bounded : (n m : ℕ) → n ≤ m → min n m ≡ n
bounded n m h = grind (arith, common_steps)

-- the end of a statement before a later line
pub end_some : (ls : List ℕ) (line end n all : ℕ) (ts : List Token) → Some end ≡ next_line ls line →
    n ≡ count_before (map (λ t. t.line) ts) end → all ≡ length ts → min n all ≡ end_of ls line ts
unfolding count_before
end_some ls line end n all ts next is size =
    bounded n all (let e = within-lines end ts in omega (arith, e, is, size)) ∙ (is ∙ ap (λ o. tokens_before o ts) next)

-- and where there is none
pub end_none : (ls : List ℕ) (line all : ℕ) (ts : List Token) → None ≡ next_line ls line → all ≡ length ts → all ≡ end_of ls line ts
end_none ls line all ts next size = size ∙ ap (λ o. tokens_before o ts) next

-- the tokens of a statement between both
pub range_of : (ls : List ℕ) (line from to : ℕ) (ts : List Token) → to ≡ end_of ls line ts →
    from ≡ min (count_before (map (λ t. t.line) ts) line) to → statement_tokens ls line ts ≡ take (to - from) (drop from ts)
range_of ls line from to ts end begun =
    let both = window ls line ts (next_line ls line) refl in
    let at : from ≡ count_before (map (λ t. t.line) ts) line =
    begun ∙ (ap (λ n. min (count_before (map (λ t. t.line) ts) line) n) end
    ∙ bounded (count_before (map (λ t. t.line) ts) line) (end_of ls line ts) both.0) in
    both.1 ∙ sym (ap (λ n. take (to - n) (drop n ts)) at ∙ ap (λ n. take (n - count_before (map (λ t. t.line) ts) line) (drop (count_before (map (λ t. t.line) ts) line) ts)) end)
