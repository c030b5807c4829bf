-- The words of a text.
use Rattle.std.specs.Prelude.{◌≡◌, List, [], ◌∷◌, ℕ, map, Bool, true, ◌||◌}
use Rattle.std.specs.List.{AllPass}
use Rattle.sig_types.specs.Text.{is_digit, is_letter, lower}

-- bytes with each ASCII capital as its small letter
abbrev pub lowered : List ℕ → List ℕ
lowered bytes = map lower bytes

-- an ASCII letter, an ASCII digit or `_`
abbrev pub is_word_byte : ℕ → Bool
is_word_byte b = is_letter b || is_digit b

-- an ASCII letter or `_`, and then letters, digits and `_`
abbrev pub IsWord : List ℕ → Type 0
IsWord [] = ⊥
IsWord (b ∷ bs) = (is_letter b ≡ true) × AllPass is_word_byte bs
