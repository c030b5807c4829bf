-- A text has tokens or a place that is refused.
use Rattle.std.proofs.Common.{◌≡◌, ℕ, zero, suc, ◌+◌, ◌<◌, ◌≤◌, Bool, true, false, List, [], ◌++◌, length, take, drop, Option, Some, None, Result, Ok, Err, inl, inr, refl, arith}
use Rattle.std.specs.Prelude.{◌⊎◌, ◌&&◌, ◌==◌, if◌then◌else◌}
use Rattle.sig_types.specs.Text.{is_digit, is_letter}
use Rattle.vap_ast.specs.Name.{is_word_byte}
use Rattle.std.proofs.lemmas.Bool.{cases_lt}
use Rattle.vap_lex.specs.declared.token.Token.{Token}
use Rattle.vap_lex.specs.declared.token.Sign.{Sign as AnySign}
use Rattle.vap_lex.specs.declared.piece.Piece.{Piece}
use Rattle.vap_lex.specs.declared.piece.LexWhy.{LexWhy}
use Rattle.vap_lex.specs.declared.piece.LexWhy.TheVariants.{Byte, Decimal}
use Rattle.vap_lex.specs.declared.piece.Piece.TheVariants.{Gap, Word}
use Rattle.vap_lex.specs.Piece.{beginning, sign, sign_or, long_sign, short_sign, digits, number, number_piece, byte_at, run_len, is_blank, comment_gap, comment_len}
use Rattle.vap_lex.specs.Tokens.{Scans, ends, refuses, step, End, done, stuck, line_at, kind_at, found, HasTokens, start_of}
use Rattle.vap_lex.specs.Refusal.{IsStuck}

-- what is found has a byte at least
abbrev Moves : Result (Piece × ℕ) LexWhy → Type 0
Moves (Ok r) = 0 < r.1
Moves (Err why) = Unit {0}

one_of : (b : Bool) (x y : Result (Piece × ℕ) LexWhy) → Moves x → Moves y → Moves (if b then x else y)
one_of true x y first second = first
one_of false x y first second = second

gap_moves : (len : Option ℕ) → Moves (comment_gap len)
gap_moves (Some n) = omega arith
gap_moves None = tt

number_moves : (len : ℕ) (n : Option ℕ) → 0 < len → Moves (number_piece len n)
number_moves len (Some n) some = some
number_moves len None some = tt

sign_moves : (len : ℕ) (s : Option AnySign) (other : Result (Piece × ℕ) LexWhy) → 0 < len → Moves other → Moves (sign_or len s other)
sign_moves len None other some more = more
sign_moves len (Some s) other some more = some

signed : (bytes : List ℕ) → Moves (sign bytes)
unfolding sign
signed bytes =
    let first : Option AnySign = short_sign (byte_at bytes 0) in
    sign_moves 2 (long_sign (byte_at bytes 0) (byte_at bytes 1)) (sign_or 1 first (Err Byte)) (omega arith) (sign_moves 1 first (Err Byte) (omega arith) tt)

numbered : (bytes : List ℕ) → Moves (digits bytes)
unfolding digits
numbered bytes =
    let len : ℕ = run_len is_digit (drop 1 bytes) + 1 in
    let value : Option ℕ = number (take len bytes) in
    one_of (byte_at bytes len == 46 && is_digit (byte_at bytes (len + 1))) (Err Decimal) (number_piece len value) tt (number_moves len value (omega arith))

moves : (bytes : List ℕ) → Moves (beginning bytes)
unfolding beginning
moves bytes =
    let first : ℕ = byte_at bytes 0 in
    let behind : Result (Piece × ℕ) LexWhy = if is_digit first then digits bytes else sign bytes in
    let word : Result (Piece × ℕ) LexWhy = Ok (Word, run_len is_word_byte (drop 1 bytes) + 1) in
    let words : Result (Piece × ℕ) LexWhy = if is_letter first then word else behind in
    let gap : Result (Piece × ℕ) LexWhy = comment_gap (comment_len (drop 2 bytes)) in
    one_of (is_blank first) (Ok (Gap, 1)) (if first == 47 && byte_at bytes 1 == 42 then gap else words) (omega arith)
    (one_of (first == 47 && byte_at bytes 1 == 42) gap words (gap_moves (comment_len (drop 2 bytes)))
    (one_of (is_letter first) word behind (omega arith) (one_of (is_digit first) (digits bytes) (sign bytes) (numbered bytes) (signed bytes))))

module _ (text : List ℕ) where
  abbrev Scanned : ℕ → Type 0
  Scanned p = (ts : List Token) × (e : End) × Scans text p ts e

  -- this stands at the place, and what is behind it is scanned
  from_beginning : (p : ℕ) (r : Result (Piece × ℕ) LexWhy) → p < length text → beginning (drop p text) ≡ r → Moves r → ((n : ℕ) → 0 < n → Scanned (p + n)) → Scanned p
  from_beginning p (Err why) lt is moves behind = ([], stuck p why, refuses p why lt is)
  from_beginning p (Ok r) lt is moves behind =
      let more = behind r.1 moves in
      (found p (line_at text p) (kind_at r.0 (take r.1 (drop p text))) ++ more.0, more.1, step p r.1 r.0 more.0 more.1 lt is more.2)

  scanned : (fuel p : ℕ) → length text ≤ p + fuel → Scanned p
  scanned zero p le = ([], done, ends p (omega (arith, le)))
  scanned (suc fuel) p le =
      elim (cases_lt p (length text)) [
        | inl lt ↦ from_beginning p (beginning (drop p text)) lt refl (moves (drop p text)) (λ n some. scanned fuel (p + n) (omega (arith, le, some)))
        | inr past ↦ ([], done, ends p past)
      ]

  by_end : (ts : List Token) (e : End) → Scans text (start_of text) ts e → ((ts : List Token) × HasTokens text ts) ⊎ ((p : ℕ) × (w : LexWhy) × IsStuck text p w)
  by_end ts done scans = inl (ts, scans)
  by_end ts (stuck p why) scans = inr (p, why, (ts, scans))

  pub has_answer : ((ts : List Token) × HasTokens text ts) ⊎ ((p : ℕ) × (w : LexWhy) × IsStuck text p w)
  has_answer =
      let all = scanned (length text) (start_of text) (omega arith) in
      by_end all.0 all.1 all.2
