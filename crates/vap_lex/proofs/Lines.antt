-- Lines of a text, and what one piece adds.
use Rattle.std.proofs.Common.{◌≡◌, ℕ, ◌+◌, ◌<◌, ◌≤◌, ◌==◌, List, [], ◌∷◌, ◌++◌, length, take, drop, append_assoc, Ok, refl, sym, ap, ◌∙◌, arith}
use Rattle.std.specs.Prelude.{count_by, fold, if◌then◌else◌}
use Rattle.std.proofs.Math.Seq.{take-add}
use Rattle.std.specs.Prelude.{Option, Some, None, IfSome}
use Rattle.std.specs.List.{All}
use Rattle.std.proofs.lemmas.List.Elements.{All-nil, All-cons, All-append}
use Rattle.vap_ast.specs.Parsed.{IsLine}
use Rattle.vap_lex.specs.declared.token.TokenKind.{TokenKind}
use Rattle.vap_lex.specs.Kept.{IsKept, IsUnsigned, HasLine}
use Rattle.vap_lex.specs.declared.token.Token.{Token}
use Rattle.vap_lex.specs.declared.piece.Piece.{Piece}
use Rattle.vap_lex.specs.Piece.{beginning}
use Rattle.vap_lex.specs.Tokens.{Scans, step, End, line_at, kind_at, found, start_of}

fold_from : (bytes : List ℕ) (n : ℕ) → fold (λ a x. a + (if x == 10 then 1 else 0)) n bytes ≡ n + count_by (λ b. b == 10) bytes
fold_from [] n = omega arith
fold_from (b ∷ bytes) n =
    let one = fold_from bytes (n + (if b == 10 then 1 else 0)) in
    let two = fold_from bytes (0 + (if b == 10 then 1 else 0)) in
    omega (arith, one, two)

fold_both : (a b : List ℕ) (n : ℕ) → fold (λ a x. a + (if x == 10 then 1 else 0)) n (a ++ b) ≡ fold (λ a x. a + (if x == 10 then 1 else 0)) (fold (λ a x. a + (if x == 10 then 1 else 0)) n a) b
fold_both [] b n = refl
fold_both (x ∷ a) b n = fold_both a b (n + (if x == 10 then 1 else 0))

-- the line ends of both parts
counted : (text : List ℕ) (p n : ℕ) → count_by (λ b. b == 10) (take p text) + count_by (λ b. b == 10) (take n (drop p text)) ≡ count_by (λ b. b == 10) (take (p + n) text)
counted text p n = sym (fold_from (take n (drop p text)) (count_by (λ b. b == 10) (take p text))) ∙ sym (fold_both (take p text) (take n (drop p text)) 0) ∙ ap (λ (bs : List ℕ). count_by (λ b. b == 10) bs) (sym (take-add p n text))

pub line_on : (text : List ℕ) (p n : ℕ) → line_at text p + count_by (λ b. b == 10) (take n (drop p text)) ≡ line_at text (p + n)
line_on text p n = let both = counted text p n in omega (arith, both)

pub goes : (text : List ℕ) (p n line : ℕ) (piece : Piece) (tokens : List Token) → p < length text → beginning (drop p text) ≡ Ok (piece, n) → line ≡ line_at text p
    → ((ts : List Token) (e : End) → Scans text p ts e → Scans text (start_of text) (tokens ++ ts) e)
    → (ts : List Token) (e : End) → Scans text (p + n) ts e → Scans text (start_of text) ((tokens ++ found p line (kind_at piece (take n (drop p text)))) ++ ts) e
goes text p n line piece tokens lt is line-is so_far ts e rest =
    rw line-is (rw append_assoc (so_far (found p (line_at text p) (kind_at piece (take n (drop p text))) ++ ts) e (step p n piece ts e lt is rest)))

found_all : (P : Token → Type 0) (p line : ℕ) (kind : Option TokenKind) → IfSome kind (λ k. P (record { place = p; line = line; kind = k })) → All P (found p line kind)
found_all P p line None h = All-nil P
found_all P p line (Some k) h = All-cons P (record { place = p; line = line; kind = k }) [] h (All-nil P)

is_kept : (p line : ℕ) (kind : Option TokenKind) → p < 4294967294 → IfSome kind IsUnsigned → IfSome kind (λ k. IsKept (record { place = p; line = line; kind = k }))
is_kept p line None lt h = tt
is_kept p line (Some k) lt h = (lt, h)

has_line : (bytes p line : ℕ) (kind : Option TokenKind) → 1 ≤ line → line ≤ bytes + 1 → IfSome kind (λ k. HasLine bytes (record { place = p; line = line; kind = k }))
has_line bytes p line None one most = tt
has_line bytes p line (Some k) one most = (one, most)

pub kept_on : (p line : ℕ) (kind : Option TokenKind) (tokens : List Token) → All IsKept tokens → p < 4294967294 → IfSome kind IsUnsigned → All IsKept (tokens ++ found p line kind)
kept_on p line kind tokens so_far lt h = All-append IsKept tokens (found p line kind) so_far (found_all IsKept p line kind (is_kept p line kind lt h))

pub lines_on : (bytes p line : ℕ) (kind : Option TokenKind) (tokens : List Token) → All (HasLine bytes) tokens → 1 ≤ line → line ≤ bytes + 1 → All (HasLine bytes) (tokens ++ found p line kind)
lines_on bytes p line kind tokens so_far one most = All-append (HasLine bytes) tokens (found p line kind) so_far (found_all (HasLine bytes) p line kind (has_line bytes p line kind one most))

-- a text has no more lines than bytes, and one
pub lines_within : (n most : ℕ) (ts : List Token) → n + 1 ≤ most → All (λ t. HasLine n t) ts → All (λ t. IsLine most t.line) ts
lines_within n most ts le all = λ k d below. ((all k d below).0, omega (arith, (all k d below).1, le))
