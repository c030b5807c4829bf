-- The records of a table while its bytes are passed.
use Rattle.std.proofs.Common.{◌≡◌, ℕ, ◌+◌, ◌-◌, ◌<◌, ◌≤◌, ◌==◌, Bool, true, false, not, cond, List, [], ◌∷◌, ◌++◌, length, take, drop, get_or, refl, ap, sym, ◌∙◌, append_assoc, append-nil, arith, drop-cons, zero, suc}
use Rattle.std.specs.List.{onto_first}
use Rattle.std.proofs.lemmas.Bool.{ne_eqb}
use Rattle.std.proofs.lemmas.List.Edits.{between_more}
use Rattle.std.proofs.lemmas.Grind.{common_steps}
use Rattle.table_check.specs.Lines.{ends_piece, filled, quoted_after, unquoted_pieces}

-- bytes put before the first piece
abbrev pub onto : List ℕ → List (List ℕ) → List (List ℕ)
onto begun [] = begun ∷ []
onto begun (piece ∷ pieces) = (begun ++ piece) ∷ pieces

-- the records of bytes that follow those of a piece that has begun
abbrev pub rest_of : List ℕ → Bool → List ℕ → List (List ℕ)
rest_of begun quoted bytes = filled (onto begun (unquoted_pieces quoted bytes))

onto-onto_first : (begun : List ℕ) (b : ℕ) (pieces : List (List ℕ)) →
    onto begun (onto_first b pieces) ≡ onto (begun ++ b ∷ []) pieces
onto-onto_first begun b [] = refl
onto-onto_first begun b (piece ∷ pieces) = ap (λ p. p ∷ pieces) (sym (append_assoc begun (b ∷ []) piece))

onto-none_first : (b : ℕ) (pieces : List (List ℕ)) → onto [] (onto_first b pieces) ≡ onto_first b pieces
onto-none_first b [] = refl
onto-none_first b (piece ∷ pieces) = refl

onto-none_cond : (t : Bool) (b : ℕ) (cut whole : List (List ℕ)) →
    onto [] (cond t ([] ∷ cut) (onto_first b whole)) ≡ cond t ([] ∷ cut) (onto_first b whole)
onto-none_cond true b cut whole = refl
onto-none_cond false b cut whole = onto-none_first b whole

-- no bytes change nothing
pub onto-none : (quoted : Bool) (bytes : List ℕ) → onto [] (unquoted_pieces quoted bytes) ≡ unquoted_pieces quoted bytes
onto-none quoted [] = refl
onto-none quoted (b ∷ bs) =
    let rest : List (List ℕ) = unquoted_pieces (quoted_after quoted b) bs in onto-none_cond (ends_piece quoted b) b rest rest

cond-true : {A : Type 0} (t : Bool) (a b : A) → t ≡ true → cond t a b ≡ a
cond-true t a b h = ap (λ v. cond v a b) h

cond-false : {A : Type 0} (t : Bool) (a b : A) → t ≡ false → cond t a b ≡ b
cond-false t a b h = ap (λ v. cond v a b) h

-- a byte that ends a piece
at_end : (begun : List ℕ) (quoted : Bool) (b : ℕ) (bs : List ℕ) → ends_piece quoted b ≡ true →
    rest_of begun quoted (b ∷ bs) ≡ filled ((begun ++ []) ∷ unquoted_pieces (quoted_after quoted b) bs)
at_end begun quoted b bs h = ap (λ ps. filled (onto begun ps)) (cond-true (ends_piece quoted b) _ _ h)

-- any other
at_byte : (begun : List ℕ) (quoted : Bool) (b : ℕ) (bs : List ℕ) → ends_piece quoted b ≡ false →
    rest_of begun quoted (b ∷ bs) ≡ rest_of (begun ++ b ∷ []) (quoted_after quoted b) bs
at_byte begun quoted b bs h =
    ap (λ ps. filled (onto begun ps)) (cond-false (ends_piece quoted b) _ _ h)
    ∙ ap filled (onto-onto_first begun b (unquoted_pieces (quoted_after quoted b) bs))

filled-more : (piece : List ℕ) (pieces : List (List ℕ)) → 0 < length piece → filled (piece ∷ pieces) ≡ piece ∷ filled pieces
filled-more piece pieces h =
    cond-true (not (length piece == 0)) _ _ (ap not (ne_eqb (length piece) 0 (λ e. omega (arith, e, h))))

parted-cond : (t : Bool) (piece : List ℕ) (rest : List (List ℕ)) →
    cond t (piece ∷ rest) rest ≡ cond t (piece ∷ []) [] ++ rest
parted-cond true piece rest = refl
parted-cond false piece rest = refl

-- the first piece, unless it is empty, and then the others
filled-parted : (piece : List ℕ) (pieces : List (List ℕ)) → filled (piece ∷ pieces) ≡ filled (piece ∷ []) ++ filled pieces
filled-parted piece pieces = parted-cond (not (length piece == 0)) piece (filled pieces)

more : (bs : List ℕ) (from i : ℕ) → from ≤ i → i < length bs →
    take (i - from) (drop from bs) ++ get_or bs i 0 ∷ [] ≡ take ((i + 1) - from) (drop from bs)
more bs from i h k = sym (between_more bs from i 0 h k)

none : (bs : List ℕ) (from : ℕ) → take (from - from) (drop from bs) ≡ []
none bs from = grind (arith, common_steps)

length-begun : (bs : List ℕ) (from i : ℕ) → from < i → i < length bs → 0 < length (take (i - from) (drop from bs))
length-begun bs from i h k = grind (arith, common_steps)

nothing : (bs : List ℕ) (from i : ℕ) → from ≤ i → i ≤ from → take (i - from) (drop from bs) ≡ []
nothing bs from i h k = grind (arith, common_steps)

again : (text : List ℕ) (at : ℕ) (quoted : Bool) →
    filled (unquoted_pieces quoted (drop at text)) ≡ rest_of (take (at - at) (drop at text)) quoted (drop at text)
again text at quoted =
    ap filled (sym (onto-none quoted (drop at text)))
    ∙ ap (λ b. rest_of b quoted (drop at text)) (sym (none text at))

pub cut : (text : List ℕ) (i : ℕ) → i < length text → drop i text ≡ get_or text i 0 ∷ drop (i + 1) text
cut text i h = grind (arith, common_steps, drop-cons)

-- a record ends
pub rest_of-passed : (text : List ℕ) (from i : ℕ) (quoted : Bool) → from < i → i < length text →
    ends_piece quoted (get_or text i 0) ≡ true →
    rest_of (take (i - from) (drop from text)) quoted (drop i text) ≡
    take (i - from) (drop from text)
    ∷ rest_of (take ((i + 1) - (i + 1)) (drop (i + 1) text)) (quoted_after quoted (get_or text i 0)) (drop (i + 1) text)
rest_of-passed text from i quoted h k e =
    let begun : List ℕ = take (i - from) (drop from text) in
    let q : Bool = quoted_after quoted (get_or text i 0) in
    ap (rest_of begun quoted) (cut text i k)
    ∙ (at_end begun quoted (get_or text i 0) (drop (i + 1) text) e
    ∙ (ap (λ b. filled (b ∷ unquoted_pieces q (drop (i + 1) text))) (append-nil begun)
    ∙ (filled-more begun (unquoted_pieces q (drop (i + 1) text)) (length-begun text from i h k)
    ∙ ap (λ ps. begun ∷ ps) (again text (i + 1) q))))

-- a blank line ends
pub rest_of-blank : (text : List ℕ) (from i : ℕ) (quoted : Bool) → from ≤ i → i ≤ from → i < length text →
    ends_piece quoted (get_or text i 0) ≡ true →
    rest_of (take (i - from) (drop from text)) quoted (drop i text) ≡
    rest_of (take ((i + 1) - (i + 1)) (drop (i + 1) text)) (quoted_after quoted (get_or text i 0)) (drop (i + 1) text)
rest_of-blank text from i quoted h k l e =
    let begun : List ℕ = take (i - from) (drop from text) in
    let q : Bool = quoted_after quoted (get_or text i 0) in
    ap (rest_of begun quoted) (cut text i l)
    ∙ (at_end begun quoted (get_or text i 0) (drop (i + 1) text) e
    ∙ (ap (λ b. filled ((b ++ []) ∷ unquoted_pieces q (drop (i + 1) text))) (nothing text from i h k)
    ∙ again text (i + 1) q))

-- a record goes on
pub rest_of-more : (text : List ℕ) (from i : ℕ) (quoted : Bool) → from ≤ i → i < length text →
    ends_piece quoted (get_or text i 0) ≡ false →
    rest_of (take (i - from) (drop from text)) quoted (drop i text) ≡
    rest_of (take ((i + 1) - from) (drop from text)) (quoted_after quoted (get_or text i 0)) (drop (i + 1) text)
rest_of-more text from i quoted h k e =
    let begun : List ℕ = take (i - from) (drop from text) in
    let q : Bool = quoted_after quoted (get_or text i 0) in
    ap (rest_of begun quoted) (cut text i k)
    ∙ (at_byte begun quoted (get_or text i 0) (drop (i + 1) text) e
    ∙ ap (λ b. rest_of b q (drop (i + 1) text)) (more text from i h k))

-- a piece ends, of which there may be no bytes
pub rest_of-ended : (text : List ℕ) (from i : ℕ) (quoted : Bool) → from ≤ i → i < length text →
    ends_piece quoted (get_or text i 0) ≡ true →
    rest_of (take (i - from) (drop from text)) quoted (drop i text) ≡
    filled (take (i - from) (drop from text) ∷ [])
    ++ rest_of (take ((i + 1) - (i + 1)) (drop (i + 1) text)) (quoted_after quoted (get_or text i 0)) (drop (i + 1) text)
rest_of-ended text from i quoted h k e =
    let begun : List ℕ = take (i - from) (drop from text) in
    let q : Bool = quoted_after quoted (get_or text i 0) in
    ap (rest_of begun quoted) (cut text i k)
    ∙ (at_end begun quoted (get_or text i 0) (drop (i + 1) text) e
    ∙ (ap (λ b. filled (b ∷ unquoted_pieces q (drop (i + 1) text))) (append-nil begun)
    ∙ (filled-parted begun (unquoted_pieces q (drop (i + 1) text))
    ∙ ap (λ ps. filled (begun ∷ []) ++ ps) (again text (i + 1) q))))

pub none_left : (text : List ℕ) (i : ℕ) → i ≡ length text → drop i text ≡ []
none_left text i h = grind (arith, common_steps)

-- all bytes are passed
pub rest_of-end : (text : List ℕ) (from i : ℕ) (quoted : Bool) → i ≡ length text →
    rest_of (take (i - from) (drop from text)) quoted (drop i text) ≡ filled (take (length text - from) (drop from text) ∷ [])
rest_of-end text from i quoted h =
    ap (rest_of (take (i - from) (drop from text)) quoted) (none_left text i h)
    ∙ (ap (λ b. filled (b ∷ [])) (append-nil (take (i - from) (drop from text)))
    ∙ ap (λ n. filled (take (n - from) (drop from text) ∷ [])) h)
