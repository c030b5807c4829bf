-- Words that are lent, and their texts.
use Rattle.std.proofs.Common.{◌≡◌, ℕ, Bool, ◌&&◌, ◌||◌, List, [], ◌∷◌, map, refl, ap, Bor}
use Rattle.std.specs.List.{list_all, list_any}
use Rattle.sig_types.specs.Text.{same_name}
use Rattle.pua_model.specs.Plan.{stands_in}
use Rattle.pua_reader.specs.Words.{Text}

abbrev pub texts : List (Bor (List ℕ)) → List Text
texts ws = map (λ w. w.now) ws

pub all_texts : (p : Text → Bool) (ws : List (Bor (List ℕ))) → list_all p (texts ws) ≡ list_all (λ w. p w.now) ws
all_texts p [] = refl
all_texts p (w ∷ ws) = ap (λ b. p w.now && b) (all_texts p ws)

pub any_texts : (p : Text → Bool) (ws : List (Bor (List ℕ))) → list_any p (texts ws) ≡ list_any (λ w. p w.now) ws
any_texts p [] = refl
any_texts p (w ∷ ws) = ap (λ b. p w.now || b) (any_texts p ws)

pub stands_texts : (name : Text) (ws : List (Bor (List ℕ))) → stands_in name (texts ws) ≡ list_any (λ w. same_name w.now name) ws
stands_texts name [] = refl
stands_texts name (w ∷ ws) = ap (λ b. same_name w.now name || b) (stands_texts name ws)
