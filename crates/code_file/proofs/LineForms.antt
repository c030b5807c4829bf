-- The forms of lines: fixed lines, counts, starts and the number of instructions.
use Rattle.std.proofs.Common.{◌≡◌, ◌∙◌, ℕ, ◌<◌, ◌≤◌, ◌^◌, true, List, ◌++◌, Option, Some, None, Result, Ok, Err, refl, ap, subst, arith}
use Rattle.std.specs.Prelude.{nat_le, nat_lt, codes}
use Rattle.std.specs.Fmt.{decimal}
use Rattle.std.specs.Str.{bytes_eq}
use Rattle.std.proofs.lemmas.Bool.{eqb-true, and_parts, leb-true, ltb-true, lt-ltb}
use Rattle.std.proofs.lemmas.Slice.Eq.{bytes_eq-Decides}
use Rattle.sig_types.specs.Text.{number_of}
use Rattle.sig_types.specs.Limits.{most_instrs}
use Rattle.code_file.specs.declared.refusal.CodeWhy.{CodeWhy}
use Rattle.code_file.specs.declared.refusal.CodeWhy.TheVariants.{Limit, Range}
use Rattle.code_file.specs.Text.{start_follows, StartFits}
use Rattle.code_file.specs.Reading.{is_line, counted, count_in, as_start, start_in, above, instr_count_in}
use Rattle.code_file.proofs.Steps.{guard_ok}
use Rattle.code_file.proofs.Cuts.{lacks, lacks-append, lacks_digits}
use Rattle.code_file.proofs.Numerals.{digits_of_decimal, number_again, number_found, range_found, range_again}
use Rattle.sig_types.proofs.Fronts.{strip_found, strip_again}
use Rattle.code_file.proofs.SectionLines.{IsSection}
use Rattle.sig_types.specs.Text.{strip}

pub fixed_found : (text : List ℕ) (wrong : CodeWhy) (l : List ℕ) (u : Unit {0}) → is_line text wrong l ≡ Ok u → l ≡ text
fixed_found text wrong l u e = (bytes_eq-Decides l text).0 (guard_ok (bytes_eq l text) tt u wrong e).0

pub fixed_again : (text : List ℕ) (wrong : CodeWhy) → is_line text wrong text ≡ Ok tt
fixed_again text wrong = let same : bytes_eq text text ≡ true = (bytes_eq-Decides text text).1 refl in rw same refl

-- ---- counts

pub record IsCount (word : List ℕ) (least most : ℕ) (l : List ℕ) (n : ℕ) : Type 0 where
  pub text : l ≡ word ++ decimal n
  pub low : least ≤ n
  pub high : n ≤ most

count_case : (word l : List ℕ) (least most n : ℕ) (o : Option (List ℕ)) → most < 2 ^ 64 → strip word l ≡ o → counted least most o ≡ Ok n →
    IsCount word least most l n
count_case word l least most n None small is e = absurd cc
count_case word l least most n (Some rest) small is e =
    let r = range_found (λ n. n) least most Limit rest n small e in
    subst (λ m. IsCount word least most l m) r.3
    (record { text = strip_found word l rest is ∙ ap (λ (ds : List ℕ). word ++ ds) r.4; low = r.1; high = r.2 })

pub count_found : (word l : List ℕ) (least most n : ℕ) → most < 2 ^ 64 → count_in word least most l ≡ Ok n → IsCount word least most l n
count_found word l least most n small e = count_case word l least most n (strip word l) small refl e

pub count_again : (word : List ℕ) (least most n : ℕ) → most < 2 ^ 64 → least ≤ n → n ≤ most → count_in word least most (word ++ decimal n) ≡ Ok n
count_again word least most n small low high =
    ap (λ o. counted least most o) (strip_again word (decimal n)) ∙ range_again (λ n. n) least most Limit n small low high

pub count_clean : (word : List ℕ) (n : ℕ) → n < 2 ^ 64 → lacks 10 word ≡ true → lacks 10 (word ++ decimal n) ≡ true
count_clean word n small clean = lacks-append 10 word (decimal n) clean (lacks_digits 10 (decimal n) (omega arith) (digits_of_decimal n small))

-- ---- starts

pub start_small : (last : Option ℕ) (n : ℕ) → start_follows last n ≡ true → n ≤ 65535
start_small None n e = omega (arith, eqb-true n 0 e)
start_small (Some last) n e = leb-true n 65535 (and_parts (nat_lt last n) (nat_le n 65535) e).1

start_case : (last : Option ℕ) (l : List ℕ) (o : Option ℕ) (n : ℕ) → number_of l ≡ o → as_start last o ≡ Ok n → (l ≡ decimal n) × StartFits last n
start_case last l None n is e = absurd cc
start_case last l (Some m) n is e =
    let g = guard_ok (start_follows last m) m n Range e in
    let small : m ≤ 65535 = start_small last m g.0 in
    subst (λ k. (l ≡ decimal k) × StartFits last k) g.1 (number_found l m is (omega (arith, small)), g.0)

start_again : (last : Option ℕ) (n : ℕ) → StartFits last n → start_in last (decimal n) ≡ Ok n
start_again last n e =
    let small : n ≤ 65535 = start_small last n e in
    ap (λ o. as_start last o) (number_again n (omega (arith, small))) ∙ rw e refl

start_clean : (last : Option ℕ) (n : ℕ) → StartFits last n → lacks 10 (decimal n) ≡ true
start_clean last n e =
    let small : n ≤ 65535 = start_small last n e in
    lacks_digits 10 (decimal n) (omega arith) (digits_of_decimal n (omega (arith, small)))

pub start_lines : IsSection start_in StartFits decimal
start_lines = record { found = λ s l a e. start_case s l (number_of l) a refl e; again = start_again; clean = start_clean }

-- ---- the number of instructions

pub record IsInstrCount (last : ℕ) (l : List ℕ) (n : ℕ) : Type 0 where
  pub text : l ≡ codes "CODE " ++ decimal n
  pub not_empty : 1 ≤ n
  pub at_most : n ≤ most_instrs
  pub above_last : last < n

instr_count_case : (last : ℕ) (l : List ℕ) (n : ℕ) (r : Result ℕ CodeWhy) → count_in (codes "CODE ") 1 most_instrs l ≡ r → above last r ≡ Ok n →
    IsInstrCount last l n
instr_count_case last l n (Err why) is e = absurd cc
instr_count_case last l n (Ok m) is e =
    let g = guard_ok (nat_lt last m) m n Range e in
    let c = count_found (codes "CODE ") l 1 most_instrs m (omega arith) is in
    subst (λ k. IsInstrCount last l k) g.1 (record { text = c.text; not_empty = c.low; at_most = c.high; above_last = ltb-true last m g.0 })

pub instr_count_found : (last : ℕ) (l : List ℕ) (n : ℕ) → instr_count_in last l ≡ Ok n → IsInstrCount last l n
instr_count_found last l n e = instr_count_case last l n (count_in (codes "CODE ") 1 most_instrs l) refl e

pub instr_count_again : (last n : ℕ) → 1 ≤ n → n ≤ most_instrs → last < n → instr_count_in last (codes "CODE " ++ decimal n) ≡ Ok n
instr_count_again last n some few below =
    let is : nat_lt last n ≡ true = lt-ltb last n below in
    ap (λ r. above last r) (count_again (codes "CODE ") 1 most_instrs n (omega arith) some few) ∙ rw is refl
