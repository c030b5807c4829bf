-- The columns of bytes while they are passed.
use Rattle.std.proofs.Common.{◌≡◌, ◌∙◌, ℕ, zero, suc, ◌+◌, ◌-◌, ◌*◌, ◌<◌, ◌≤◌, ◌==◌, Bool, true, false, not, cond, List, [], ◌∷◌, ◌++◌, length, take, get_or, refl, ap, sym, subst, arith, inl, inr}
use Rattle.std.proofs.lemmas.Bool.{cases_Bool, cases_eq}
use Rattle.std.proofs.lemmas.Grind.{common_steps}
use Rattle.std.proofs.lemmas.List.Sums.{suffix_len-le-length, suffix_len-take_no, suffix_len-take_yes}
use Rattle.site_check.specs.Columns.{AreColumns}
use Rattle.site_check.specs.Spots.{column_of}

-- the place behind so many bytes of a text stands in this column
pub record IsColumn (text : List ℕ) (at i : ℕ) : Type 0 where
  pub column : at ≡ column_of (take i text)
  pub within : at ≤ i

taken : (text : List ℕ) (i : ℕ) → length (take i text) ≤ i
taken text i = grind (arith, common_steps)

column-within : (text : List ℕ) (i : ℕ) → column_of (take i text) ≤ i
column-within text i = omega (arith, suffix_len-le-length (λ b. not (b == 10)) (take i text), taken text i)

pub begun : (text : List ℕ) (column i : ℕ) → column ≡ column_of (take i text) → IsColumn text column i
begun text column i e = record { column = e; within = subst (λ n. n ≤ i) (sym e) (column-within text i) }

behind-cases : (t : Bool) (text : List ℕ) (i : ℕ) → (get_or text i 0 == 10) ≡ t → i < length text →
    cond t 0 (column_of (take i text) + 1) ≡ column_of (take (i + 1) text)
behind-cases true text i is h =
    sym (suffix_len-take_no (λ b. not (b == 10)) text (i + 1) 0 (omega arith) (omega (arith, h))
    (ap (λ n. not (get_or text n 0 == 10)) (omega arith) ∙ ap not is))
behind-cases false text i is h =
    let one : column_of (take i text) + 1 ≡ 1 + column_of (take i text) = omega arith in
    one ∙ (ap (λ n. 1 + column_of (take n text)) (omega arith)
    ∙ sym (suffix_len-take_yes (λ b. not (b == 10)) text (i + 1) 0 (omega arith) (omega (arith, h))
    (ap (λ n. not (get_or text n 0 == 10)) (omega arith) ∙ ap not is)))

within-cases : (t : Bool) (column i : ℕ) → column ≤ i → cond t 0 (column + 1) ≤ i + 1
within-cases true column i h = omega arith
within-cases false column i h = omega (arith, h)

-- one byte more
pub one_more : (text : List ℕ) (column i : ℕ) → IsColumn text column i → i < length text →
    IsColumn text (cond (get_or text i 0 == 10) 0 (column + 1)) (i + 1)
one_more text column i is h = record {
  column = ap (λ n. cond (get_or text i 0 == 10) 0 (n + 1)) is.column ∙ behind-cases (get_or text i 0 == 10) text i refl h;
  within = within-cases (get_or text i 0 == 10) column i is.within;
}

-- of the first so many steps of a text, and of the place behind them, the columns are these, and the last one is this
pub record AreKept (text columns : List ℕ) (at i : ℕ) : Type 0 where
  pub size : length columns ≡ i + 1
  pub column : (step : ℕ) → step < i + 1 → get_or columns step 0 ≡ column_of (take (step * 256) text)
  pub next : at ≡ column_of (take (i * 256) text)

first-kept : (text : List ℕ) (step : ℕ) → step < 1 → get_or (0 ∷ []) step 0 ≡ column_of (take (step * 256) text)
first-kept text zero h = refl
first-kept text (suc step) h = absurd (omega (arith, h))

pub none_kept : (text : List ℕ) → AreKept text (0 ∷ []) 0 0
none_kept text = record { size = refl; column = first-kept text; next = refl }

get-old : (xs : List ℕ) (x place : ℕ) → place < length xs → get_or (xs ++ x ∷ []) place 0 ≡ get_or xs place 0
get-old xs x place h = grind (arith, common_steps)

get-new : (xs : List ℕ) (x : ℕ) → get_or (xs ++ x ∷ []) (length xs) 0 ≡ x
get-new xs x = grind (arith, common_steps)

length-more : (xs : List ℕ) (x : ℕ) → length (xs ++ x ∷ []) ≡ length xs + 1
length-more xs x = grind (arith, common_steps)

column-more : (text columns : List ℕ) (at column i step : ℕ) → AreKept text columns at i → column ≡ column_of (take (i * 256 + 256) text) →
    step < i + 1 + 1 → get_or (columns ++ column ∷ []) step 0 ≡ column_of (take (step * 256) text)
column-more text columns at column i step are e h = elim (cases_eq step (i + 1)) [
  | inl is ↦ ap (λ n. get_or (columns ++ column ∷ []) n 0) (is ∙ sym are.size)
      ∙ (get-new columns column ∙ (e ∙ ap (λ n. column_of (take n text)) (omega (arith, is))))
  | inr ne ↦ get-old columns column step (omega (arith, h, ne, are.size)) ∙ are.column step (omega (arith, h, ne))
]

-- one step more
pub one_kept : (text columns : List ℕ) (at column i : ℕ) → AreKept text columns at i → column ≡ column_of (take (i * 256 + 256) text) →
    AreKept text (columns ++ column ∷ []) column (i + 1)
one_kept text columns at column i are e = record {
  size = length-more columns column ∙ ap (λ n. n + 1) are.size;
  column = λ step below. column-more text columns at column i step are e below;
  next = e ∙ ap (λ n. column_of (take n text)) (omega arith);
}

-- all steps
pub all_kept : (text columns : List ℕ) (at i : ℕ) → AreKept text columns at i → length text < i * 256 + 256 → AreColumns text columns
all_kept text columns at i are end = record {
  enough = omega (arith, end, are.size);
  column = λ step below. are.column step (omega (arith, below, end));
}

-- the column of a step that there is
pub kept_at : (text columns : List ℕ) (step : ℕ) → AreColumns text columns → step * 256 ≤ length text →
    get_or columns step 0 ≡ column_of (take (step * 256) text)
kept_at text columns step are h = are.column step h

-- a text has nothing behind its end
pub cut_off : (text : List ℕ) (place : ℕ) → length text ≤ place → take (length text) text ≡ take place text
cut_off text place h = grind (arith, common_steps)
