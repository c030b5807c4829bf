-- Where the records of a table begin, while its bytes are passed.
use Rattle.std.proofs.Common.{◌≡◌, ℕ, ◌+◌, ◌<◌, ◌≤◌, ◌==◌, Bool, true, false, cond, List, ◌∷◌, ◌++◌, length, drop, get_or, Option, None, Some, unwrap_or, ap, ◌∙◌, arith}
use Rattle.table_check.specs.declared.lines.Begin.{Begin}
use Rattle.table_check.specs.Lines.{begin_after, begins_of_rest, begun_at, ends_piece, quoted_after}
use Rattle.table_check.proofs.Pieces.{cut, none_left}

-- a record ends, if one has begun
pub rest_ended : (text : List ℕ) (i : ℕ) (at : Begin) (quoted : Bool) (begun : Option Begin) → i < length text →
    ends_piece quoted (get_or text i 0) ≡ true →
    begins_of_rest quoted at begun (drop i text) ≡
    begun_at begun ++ begins_of_rest (quoted_after quoted (get_or text i 0)) (begin_after at (get_or text i 0)) None (drop (i + 1) text)
rest_ended text i at quoted begun h e =
    ap (begins_of_rest quoted at begun) (cut text i h)
    ∙ ap (λ v. cond v (begun_at begun ++ begins_of_rest (quoted_after quoted (get_or text i 0)) (begin_after at (get_or text i 0)) None (drop (i + 1) text))
    (begins_of_rest (quoted_after quoted (get_or text i 0)) (begin_after at (get_or text i 0)) (Some (unwrap_or begun at)) (drop (i + 1) text))) e

-- a record goes on, or begins
pub rest_more : (text : List ℕ) (i : ℕ) (at : Begin) (quoted : Bool) (begun : Option Begin) → i < length text →
    ends_piece quoted (get_or text i 0) ≡ false →
    begins_of_rest quoted at begun (drop i text) ≡
    begins_of_rest (quoted_after quoted (get_or text i 0)) (begin_after at (get_or text i 0)) (Some (unwrap_or begun at)) (drop (i + 1) text)
rest_more text i at quoted begun h e =
    ap (begins_of_rest quoted at begun) (cut text i h)
    ∙ ap (λ v. cond v (begun_at begun ++ begins_of_rest (quoted_after quoted (get_or text i 0)) (begin_after at (get_or text i 0)) None (drop (i + 1) text))
    (begins_of_rest (quoted_after quoted (get_or text i 0)) (begin_after at (get_or text i 0)) (Some (unwrap_or begun at)) (drop (i + 1) text))) e

-- all bytes are passed
pub rest_end : (text : List ℕ) (i : ℕ) (at : Begin) (quoted : Bool) (begun : Option Begin) → i ≡ length text →
    begins_of_rest quoted at begun (drop i text) ≡ begun_at begun
rest_end text i at quoted begun h = ap (begins_of_rest quoted at begun) (none_left text i h)

line-within : (t : Bool) (at : Begin) (i : ℕ) → at.line ≤ i + 1 →
    (cond {A = Begin} t (record { line = at.line + 1; before = 0 }) (record { line = at.line; before = at.before + 1 })).line ≤ (i + 1) + 1
line-within true at i h = omega (arith, h)
line-within false at i h = omega (arith, h)

-- the line of the next byte is at most one more
pub line_within : (at : Begin) (b i : ℕ) → at.line ≤ i + 1 → (begin_after at b).line ≤ (i + 1) + 1
line_within at b i h = line-within (b == 10) at i h

before-within : (t : Bool) (at : Begin) (i : ℕ) → at.before ≤ i →
    (cond {A = Begin} t (record { line = at.line + 1; before = 0 }) (record { line = at.line; before = at.before + 1 })).before ≤ i + 1
before-within true at i h = omega (arith, h)
before-within false at i h = omega (arith, h)

-- and so is how many bytes stand before it
pub before_within : (at : Begin) (b i : ℕ) → at.before ≤ i → (begin_after at b).before ≤ i + 1
before_within at b i h = before-within (b == 10) at i h
