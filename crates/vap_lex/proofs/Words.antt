-- A run of bytes from the beginning on passes its test, and a word is one letter and a run.
use Rattle.std.proofs.Common.{◌≡◌, ℕ, ◌+◌, ◌<◌, List, [], ◌∷◌, length, take, drop, Bool, true, ap, ◌∙◌, arith, add-one}
use Rattle.std.specs.Prelude.{slice_index}
use Rattle.std.specs.List.{AllPass, prefix_len}
use Rattle.std.proofs.lemmas.List.{length-take, get_or-take}
use Rattle.std.proofs.lemmas.List.Sums.{prefix_len_passes}
use Rattle.sig_types.specs.Text.{is_letter}
use Rattle.vap_ast.specs.Name.{is_word_byte, IsWord}
use Rattle.vap_lex.specs.Piece.{run_len}

run_passes : (p : ℕ → Bool) (bytes : List ℕ) → AllPass p (take (run_len p bytes) bytes)
run_passes p bytes = λ k d lt.
    let within : k < run_len p bytes = omega (arith, lt, length-take (run_len p bytes) bytes) in
    let before : k < prefix_len p bytes = omega (arith, within, length-take (prefix_len p bytes) bytes) in
    ap p (get_or-take (run_len p bytes) bytes k d within) ∙ prefix_len_passes p bytes k d before

pub word_is : (bytes : List ℕ) → 0 < length bytes → is_letter (slice_index bytes 0) ≡ true → IsWord (take (run_len is_word_byte (drop 1 bytes) + 1) bytes)
word_is [] some first = absurd (omega arith)
word_is (b ∷ bytes) some first = rw add-one (first, run_passes is_word_byte bytes)
