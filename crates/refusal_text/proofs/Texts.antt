-- The text of what was found is that of what was refused in the records.
use Rattle.std.proofs.Common.{◌≡◌, ◌∙◌, ℕ, Bool, true, false, List, [], ◌∷◌, refl, ap}
use Rattle.sig_types.specs.declared.record.Record.{Record}
use Rattle.sig_types.specs.Rules.{Rules}
use Rattle.refusal_text.specs.declared.finder.Refusals.{Refusals}
use Rattle.refusal_text.specs.declared.refusal.Refusal.{Refusal}
use Rattle.refusal_text.specs.Kept.{HasFound, told_text}
use Rattle.refusal_text.specs.Lines.{words_text}
use Rattle.refusal_text.specs.Refusals.{first_known, refusals_of}
use Rattle.refusal_text.specs.Rows.{table_text}
use Rattle.refusal_text.specs.Text.{found_text, refusals_text}

-- without refusals it doesn't matter which second place 0 has
none_found : (csv : Bool) (names : List (List ℕ)) (a b : ℕ) → found_text csv names a [] ≡ found_text csv names b []
unfolding found_text table_text words_text
none_found true names a b = refl
none_found false names a b = refl

pub text_is : (csv : Bool) (names : List (List ℕ)) (s : Refusals) (r : Rules) (from to : ℕ) (records : List Record) → HasFound s r from to records →
    told_text csv names s ≡ refusals_text csv names r from to records
unfolding HasFound told_text refusals_text refusals_of
text_is csv names s r from to [] has =
    ap (λ (found : List Refusal). found_text csv names s.first found) has.found ∙ none_found csv names s.first (first_known 0)
text_is csv names s r from to (x ∷ xs) has =
    ap (λ (first : ℕ). found_text csv names first s.found.items) has.first
    ∙ ap (λ (found : List Refusal). found_text csv names (first_known x.second.0) found) has.found
