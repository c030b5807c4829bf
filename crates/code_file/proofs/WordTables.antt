-- Tables of words.
use Rattle.std.proofs.Common.{◌≡◌, ℕ, Bool, true, false, List, [], ◌∷◌, Some, refl, sym, subst}
use Rattle.std.specs.Prelude.{if◌then◌else◌}
use Rattle.std.specs.Str.{bytes_eq}
use Rattle.std.proofs.lemmas.Slice.Eq.{bytes_eq-Decides}
use Rattle.code_file.specs.Reading.{find_word}
use Rattle.code_file.proofs.Steps.{some_is}

-- each entry of a table
abbrev pub EachEntry : {A : Type 0} → (List ℕ → A → Type 0) → List (List ℕ × A) → Type 0
EachEntry P [] = Unit {0}
EachEntry P (e ∷ es) = P e.0 e.1 × EachEntry P es

entry_case : {A : Type 0} (P : List ℕ → A → Type 0) (e : List ℕ × A) (es : List (List ℕ × A)) (w : List ℕ) (a : A) (t : Bool) → (t ≡ true → w ≡ e.0)
    → P e.0 e.1 →
    (find_word es w ≡ Some a → P w a) → (if t then Some e.1 else find_word es w) ≡ Some a → P w a
entry_case P e es w a true same here rest is = subst (λ (x : List ℕ × _). P x.0 x.1) (λ j. (sym (same refl) j, some_is e.1 a is j)) here
entry_case P e es w a false same here rest is = rest is

-- what a table has for a word is of an entry with this word
pub word_found : {A : Type 0} (P : List ℕ → A → Type 0) (es : List (List ℕ × A)) (w : List ℕ) (a : A) → EachEntry P es → find_word es w ≡ Some a → P w a
word_found P [] w a each is = absurd cc
word_found P (e ∷ es) w a each is =
    entry_case P e es w a (bytes_eq w e.0) ((bytes_eq-Decides w e.0).0) each.0 (λ rest. word_found P es w a each.1 rest) is
