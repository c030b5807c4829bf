-- The records of tests, one after the other.
use Rattle.std.proofs.Common.{◌≡◌, ◌∙◌, ℕ, ◌+◌, ◌<◌, List, [], ◌∷◌, ◌++◌, length, take, sym, ap, append_assoc, arith}
use Rattle.std.proofs.lemmas.List.{append-nil, length-take-le, take_more}
use Rattle.trace_lines.specs.declared.line.Answers.{Answers}
use Rattle.trace_lines.specs.Lcov.{test_at, test_text, tests_text}

-- the records of one test more
tests_text-more : (line block : ℕ) (tests : List Answers) (t : Answers) →
    tests_text line block (tests ++ t ∷ []) ≡ tests_text line block tests ++ test_text line (block + length tests) t
tests_text-more line block [] t =
    let same : block ≡ block + 0 = omega arith in append-nil (test_text line block t) ∙ ap (λ k. test_text line k t) same
tests_text-more line block (s ∷ ts) t =
    let same : (block + 1) + length ts ≡ block + length (s ∷ ts) = omega arith in
    ap (λ text. test_text line block s ++ text) (tests_text-more line (block + 1) ts t)
    ∙ sym (append_assoc (test_text line block s) (tests_text line (block + 1) ts) (test_text line ((block + 1) + length ts) t))
    ∙ ap (λ k. (test_text line block s ++ tests_text line (block + 1) ts) ++ test_text line k t) same

-- the test at a place behind those before it
pub one_more : (line : ℕ) (tests : List Answers) (i : ℕ) → i < length tests →
    tests_text line 0 (take i tests) ++ test_text line i (test_at tests i) ≡ tests_text line 0 (take (i + 1) tests)
one_more line tests i below =
    let long : 0 + length (take i tests) ≡ i = omega (arith, length-take-le i tests (omega arith)) in
    sym (ap (λ ts. tests_text line 0 ts) (take_more tests i (record { yes = 0; no = 0 }) below)
    ∙ tests_text-more line 0 (take i tests) (test_at tests i) ∙ ap (λ k. tests_text line 0 (take i tests) ++ test_text line k (test_at tests i)) long)
