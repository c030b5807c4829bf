-- The pieces of a line, cut from its beginning.
use Rattle.std.proofs.Common.{◌≡◌, ◌∙◌, ℕ, suc, ◌<◌, Bool, true, false, List, [], ◌∷◌, ◌++◌, length, Option, None, Some, refl, sym, ap, arith, nat_eq, append_assoc}
use Rattle.std.specs.Prelude.{if◌then◌else◌, ℤ}
use Rattle.std.specs.Option.{option_map}
use Rattle.std.proofs.lemmas.Bool.{true≢false}
use Rattle.sig_types.specs.Text.{cut_at}
use Rattle.code_file.specs.Reading.{with_head, pieces, both, all_signed, signed_of}
use Rattle.code_file.specs.Survey.{after_beginning, BeginsWith}
use Rattle.code_file.proofs.Cuts.{parts, beginning_part, back_part}

cut_case : (b : ℕ) (bs : List ℕ) (t : Bool) (o : Option (List ℕ × List ℕ)) → ((l r : List ℕ) → o ≡ parts l r → pieces bs ≡ l ∷ pieces r) → (l r : List ℕ) →
    (if t then parts [] bs else option_map (λ p. (b ∷ p.0, p.1)) o) ≡ parts l r → (if t then [] ∷ pieces bs else with_head b (pieces bs)) ≡ l ∷ pieces r
cut_case b bs true o before l r e =
    let first : [] ≡ l = ap beginning_part e in
    let rest : bs ≡ r = ap back_part e in
    rw (← first, ← rest) refl
cut_case b bs false None before l r e = absurd cc
cut_case b bs false (Some p) before l r e =
    let first : b ∷ p.0 ≡ l = ap beginning_part e in
    let rest : p.1 ≡ r = ap back_part e in
    let parted : pieces bs ≡ p.0 ∷ pieces p.1 = before p.0 p.1 refl in
    rw (← first, ← rest, parted) refl

pub pieces_cut : (bs l r : List ℕ) → cut_at 32 bs ≡ parts l r → pieces bs ≡ l ∷ pieces r
pieces_cut [] l r e = absurd cc
pieces_cut (b ∷ bs) l r e = cut_case b bs (nat_eq b 32) (cut_at 32 bs) (λ l r cut. pieces_cut bs l r cut) l r e

whole_case : (b : ℕ) (bs : List ℕ) (t : Bool) (o : Option (List ℕ × List ℕ)) → (o ≡ None → pieces bs ≡ bs ∷ []) →
    (if t then parts [] bs else option_map (λ p. (b ∷ p.0, p.1)) o) ≡ None → (if t then [] ∷ pieces bs else with_head b (pieces bs)) ≡ (b ∷ bs) ∷ []
whole_case b bs true o before e = absurd cc
whole_case b bs false None before e = let one : pieces bs ≡ bs ∷ [] = before refl in rw one refl
whole_case b bs false (Some p) before e = absurd cc

pub pieces_whole : (bs : List ℕ) → cut_at 32 bs ≡ None → pieces bs ≡ bs ∷ []
pieces_whole [] e = refl
pieces_whole (b ∷ bs) e = whole_case b bs (nat_eq b 32) (cut_at 32 bs) (λ cut. pieces_whole bs cut) e

shorter_case : (b : ℕ) (bs : List ℕ) (t : Bool) (o : Option (List ℕ × List ℕ)) → ((l r : List ℕ) → o ≡ parts l r → length r < length bs) → (l r : List ℕ) →
    (if t then parts [] bs else option_map (λ p. (b ∷ p.0, p.1)) o) ≡ parts l r → length r < suc (length bs)
shorter_case b bs true o before l r e = let rest : bs ≡ r = ap back_part e in omega (arith, ap length rest)
shorter_case b bs false None before l r e = absurd cc
shorter_case b bs false (Some p) before l r e =
    let rest : p.1 ≡ r = ap back_part e in
    omega (arith, ap length rest, before p.0 p.1 refl)

pub cut_shorter : (s : ℕ) (bs l r : List ℕ) → cut_at s bs ≡ parts l r → length r < length bs
cut_shorter s [] l r e = absurd cc
cut_shorter s (b ∷ bs) l r e = shorter_case b bs (nat_eq b s) (cut_at s bs) (λ l r cut. cut_shorter s bs l r cut) l r e

-- ---- numbers

none_after : (beginning : List ℤ) → after_beginning beginning None ≡ None
none_after beginning = refl

-- no number stands there
pub none_cut : (line rest l r : List ℕ) (beginning : List ℤ) → all_signed (pieces line) ≡ after_beginning beginning (all_signed (pieces rest)) →
    cut_at 32 rest ≡ parts l r → signed_of l ≡ None → all_signed (pieces line) ≡ None
none_cut line rest l r beginning is cut none = is ∙ ap (λ ps. after_beginning beginning (all_signed ps)) (pieces_cut rest l r cut) ∙
    ap (λ o. after_beginning beginning (both o (all_signed (pieces r)))) none

pub none_last : (line rest : List ℕ) (beginning : List ℤ) → all_signed (pieces line) ≡ after_beginning beginning (all_signed (pieces rest)) →
    cut_at 32 rest ≡ None → signed_of rest ≡ None → all_signed (pieces line) ≡ None
none_last line rest beginning is cut none = is ∙ ap (λ ps. after_beginning beginning (all_signed ps)) (pieces_whole rest cut) ∙
    ap (λ o. after_beginning beginning (both o (Some []))) none

one_more : (beginning : List ℤ) (v : ℤ) (o : Option (List ℤ)) → after_beginning beginning (both (Some v) o) ≡ after_beginning (beginning ++ v ∷ []) o
one_more beginning v None = refl
one_more beginning v (Some vs) = ap Some (sym (append_assoc beginning (v ∷ []) vs))

pub more_cut : (line rest l r : List ℕ) (beginning : List ℤ) (v : ℤ) →
    all_signed (pieces line) ≡ after_beginning beginning (all_signed (pieces rest)) → cut_at 32 rest ≡ parts l r → signed_of l ≡ Some v →
    all_signed (pieces line) ≡ after_beginning (beginning ++ v ∷ []) (all_signed (pieces r))
more_cut line rest l r beginning v is cut some =
    is ∙ ap (λ ps. after_beginning beginning (all_signed ps)) (pieces_cut rest l r cut) ∙
    ap (λ o. after_beginning beginning (both o (all_signed (pieces r)))) some ∙ one_more beginning v (all_signed (pieces r))

pub more_last : (line rest : List ℕ) (beginning : List ℤ) (v : ℤ) → all_signed (pieces line) ≡ after_beginning beginning (all_signed (pieces rest)) →
    cut_at 32 rest ≡ None → signed_of rest ≡ Some v →
    all_signed (pieces line) ≡ Some (beginning ++ v ∷ [])
more_last line rest beginning v is cut some =
    is ∙ ap (λ ps. after_beginning beginning (all_signed ps)) (pieces_whole rest cut) ∙ ap (λ o. after_beginning beginning (both o (Some []))) some

begins_case : (o : Option (List ℤ)) → o ≡ after_beginning [] o
begins_case None = refl
begins_case (Some vs) = refl

pub begins : (line : List ℕ) → BeginsWith line line 0 true []
begins line = ([], record { counted = refl; fitting = refl; same = λ fit few. refl }, begins_case (all_signed (pieces line)))

pub none_from : {A : Type 0} (o : Option A) (b : Bool) → b ≡ Rattle.std.specs.Prelude.is_some o → b ≡ false → o ≡ None
none_from None b is fails = refl
none_from (Some a) b is fails = absurd (true≢false (sym is ∙ fails))
