-- Rows of stores that differ in their commands alone.
use Rattle.std.proofs.Common.{◌≡◌, ◌∙◌, ℕ, ◌≤◌, List, [], ◌∷◌, ◌++◌, refl, sym, ap, codes}
use Rattle.std.proofs.lemmas.Bool.{le-leb}
use Rattle.std.specs.Fmt.{decimal}
use Rattle.sig_types.specs.Pass.{Store, without_commands}
use Rattle.trace_told.specs.declared.columns.Column.{Column}
use Rattle.trace_told.specs.declared.columns.Column.TheVariants.{Variable, Timer, Cell}
use Rattle.trace_told.specs.ValueRows.{row_text, row_within, value_field, value_fields, value_text}

value_same : (s : Store) (c : Column) → value_text (without_commands s) c ≡ value_text s c
value_same s (Variable v) = refl
value_same s (Timer t) = refl
value_same s (Cell a place) = refl

fields_same : (s : Store) (columns : List Column) → value_fields (without_commands s) columns ≡ value_fields s columns
fields_same s [] = refl
fields_same s (c ∷ cs) =
    ap (λ v. (codes "," ++ v) ++ value_fields (without_commands s) cs) (value_same s c) ∙ ap (λ l. value_field s c ++ l) (fields_same s cs)

row_same : (second : ℕ) (s t : Store) (columns : List Column) → without_commands s ≡ t → row_text second s columns ≡ row_text second t columns
unfolding row_text
row_same second s t columns is =
    ap (λ f. decimal second ++ (f ++ codes "\n")) (sym (fields_same s columns)) ∙ ap (λ u. row_text second u columns) is

within : (first last second : ℕ) (s : Store) (columns : List Column) → first ≤ second → second ≤ last →
    row_text second s columns ≡ row_within first last second s columns
within first last second s columns after before = rw (le-leb first second after, le-leb second last before) refl

-- the row of a second that is asked for
pub row_is : (first last second n : ℕ) (s t : Store) (columns : List Column) → second ≡ n → first ≤ second → second ≤ last → without_commands s ≡ t →
    row_text second s columns ≡ row_within first last n t columns
row_is first last second n s t columns same after before is =
    row_same second s t columns is ∙ within first last second t columns after before ∙ ap (λ k. row_within first last k t columns) same
