-- The pieces of a note, one after the other.
use Rattle.std.proofs.Common.{◌≡◌, ℕ, List, [], ◌++◌, append_assoc, arith}
use Rattle.std.proofs.lemmas.List.{append-nil}

-- the head, a text, and the end
pub unread_note : (a log t e : List ℕ) → a ++ (log ++ ((t ++ e) ++ [])) ≡ a ++ (log ++ t) ++ e
unread_note a log t e = grind (arith, append_assoc, append-nil)

pub end_note : (a log t n e : List ℕ) → a ++ (log ++ (t ++ (n ++ (e ++ [])))) ≡ a ++ (log ++ t ++ n) ++ e
end_note a log t n e = grind (arith, append_assoc, append-nil)

pub line_note : (a log c n b r e : List ℕ) → a ++ (log ++ (c ++ (n ++ (b ++ (r ++ (e ++ [])))))) ≡ a ++ (log ++ c ++ n ++ b ++ r) ++ e
line_note a log c n b r e = grind (arith, append_assoc, append-nil)

pub words_note : (a w f l h e : List ℕ) → (a ++ w) ++ (f ++ (l ++ ((h ++ e) ++ []))) ≡ a ++ (w ++ (f ++ l ++ h)) ++ e
words_note a w f l h e = grind (arith, append_assoc, append-nil)
