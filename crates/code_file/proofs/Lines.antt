-- One line: taken from the beginning of a text, and read again.
use Rattle.std.proofs.Common.{◌≡◌, ◌∙◌, ℕ, ◌+◌, true, List, [], ◌∷◌, ◌++◌, Option, Some, None, Ok, refl, sym, ap, append_assoc}
use Rattle.sig_types.specs.Text.{cut_at}
use Rattle.code_file.specs.declared.refusal.CodeWhy.{CodeWhy}
use Rattle.code_file.specs.Text.{line}
use Rattle.code_file.specs.Reading.{Place, line_by, next_line}
use Rattle.code_file.proofs.Steps.{ok_is}
use Rattle.code_file.proofs.Cuts.{parts, cut_parts, cut_again, lacks}

taken_line : (u : CodeWhy) (p : Place) (o : Option (List ℕ × List ℕ)) (l : List ℕ) (q : Place) → line_by u p o ≡ Ok (l, q) → o ≡ parts l q.bytes
taken_line u p None l q e = absurd cc
taken_line u p (Some c) l q e =
    let is : (c.0, record { number = p.number + 1; bytes = c.1 }) ≡ (l, q) = ok_is _ _ e in
    let first : c.0 ≡ l = ap (λ (x : List ℕ × Place). x.0) is in
    let rest : c.1 ≡ q.bytes = ap (λ (x : List ℕ × Place). x.1.bytes) is in
    rw (first, rest) refl

-- a line that is read stands at the beginning
pub line_taken : (u : CodeWhy) (p : Place) (l : List ℕ) (q : Place) → next_line u p ≡ Ok (l, q) → p.bytes ≡ line l ++ q.bytes
unfolding next_line
line_taken u p l q e =
    cut_parts 10 p.bytes l q.bytes (taken_line u p (cut_at 10 p.bytes) l q e) ∙ sym (append_assoc l (10 ∷ []) q.bytes)

abbrev pub from : ℕ → List ℕ → Place
from k bytes = record { number = k; bytes = bytes }

-- and a line that stands at the beginning is read
pub line_again : (u : CodeWhy) (k : ℕ) (l rest : List ℕ) → lacks 10 l ≡ true → next_line u (from k (line l ++ rest)) ≡ Ok (l, from (k + 1) rest)
unfolding next_line
line_again u k l rest clean =
    let cut : cut_at 10 (line l ++ rest) ≡ parts l rest = ap (λ bs. cut_at 10 bs) (append_assoc l (10 ∷ []) rest) ∙ cut_again 10 l rest clean in
    ap (λ o. line_by u (from k (line l ++ rest)) o) cut
