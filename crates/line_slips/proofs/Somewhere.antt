-- A loop that looks at a text from each of its places on.
use Rattle.std.proofs.Common.{◌≡◌, ℕ, ◌+◌, ◌<◌, Bool, true, false, cond, ◌||◌, List, ◌∷◌, length, drop, get_or, ap, sym, ◌∙◌, arith, drop-cons}
use Rattle.std.proofs.lemmas.Grind.{common_steps}
use Rattle.line_slips.specs.Bytes.{somewhere}
use Rattle.line_slips.specs.TableSlips.{begins_with_number, names_len}

pub cut : (text : List ℕ) (i : ℕ) → i < length text → drop i text ≡ get_or text i 0 ∷ drop (i + 1) text
cut text i h = grind (arith, common_steps, drop-cons)

-- the test of the text from a place on, by its first byte
tested : (test : List ℕ → Bool) (text here : List ℕ) (i : ℕ) (r : Bool) → i < length text → here ≡ drop i text →
    r ≡ test here → test (get_or text i 0 ∷ drop (i + 1) text) ≡ r
tested test text here i r k at h = sym (h ∙ ap test (at ∙ cut text i k))

-- it passes from here on
pub found : (test : List ℕ → Bool) (text here : List ℕ) (i : ℕ) → i < length text → here ≡ drop i text →
    somewhere test text ≡ somewhere test (drop i text) → true ≡ test here → true ≡ somewhere test text
found test text here i k at so_far h =
    sym (so_far ∙ (ap (somewhere test) (cut text i k)
    ∙ ap (λ t. t || somewhere test (drop (i + 1) text)) (tested test text here i true k at h)))

-- it doesn't
pub passed : (test : List ℕ → Bool) (text here : List ℕ) (i : ℕ) → i < length text → here ≡ drop i text →
    somewhere test text ≡ somewhere test (drop i text) → false ≡ test here →
    somewhere test text ≡ somewhere test (drop (i + 1) text)
passed test text here i k at so_far h =
    so_far ∙ (ap (somewhere test) (cut text i k)
    ∙ ap (λ t. t || somewhere test (drop (i + 1) text)) (tested test text here i false k at h))

-- a number begins here
pub names_end : (text here : List ℕ) (i : ℕ) → i < length text → here ≡ drop i text →
    names_len text ≡ i + names_len (drop i text) → true ≡ begins_with_number here → names_len text ≡ i
names_end text here i k at so_far h =
    let none : names_len (drop i text) ≡ 0 =
    ap names_len (cut text i k)
    ∙ ap (λ t. cond t 0 (1 + names_len (drop (i + 1) text))) (tested begins_with_number text here i true k at h) in
    omega (arith, so_far, none)

-- none does
pub names_more : (text here : List ℕ) (i : ℕ) → i < length text → here ≡ drop i text →
    names_len text ≡ i + names_len (drop i text) → false ≡ begins_with_number here →
    names_len text ≡ (i + 1) + names_len (drop (i + 1) text)
names_more text here i k at so_far h =
    let more : names_len (drop i text) ≡ 1 + names_len (drop (i + 1) text) =
    ap names_len (cut text i k)
    ∙ ap (λ t. cond t 0 (1 + names_len (drop (i + 1) text))) (tested begins_with_number text here i false k at h) in
    omega (arith, so_far, more)
