-- Words that ask for detectors that serve a group, two by two.
use Rattle.std.proofs.Common.{◌≡◌, ◌∙◌, ◌<◌, ◌≤◌, ℕ, List, [], ◌∷◌, ◌++◌, Option, Some, None, get_or, length, map, refl, sym, ap, arith}
use Rattle.std.specs.Prelude.{fold}
use Rattle.std.specs.Option.{option_map}
use Rattle.log_sums.specs.declared.serves.Serve.{Serve}
use Rattle.report_seen.specs.Serves.{serve_for, serve_words, with_serve}

-- one word alone names nothing
pub few_serves : {A : Type 0} (f : A → List ℕ) (words : List A) → length words < 2 → serve_words (map f words) ≡ []
few_serves f [] few = refl
few_serves f (w ∷ []) few = refl
few_serves f (v ∷ w ∷ ws) few = absurd (omega (arith, few))

-- nothing is named behind a name that there isn't
none_stays : (names words : List (List ℕ)) → fold (with_serve names) None words ≡ None
none_stays names [] = refl
none_stays names (w ∷ ws) = none_stays names ws

-- a second word that names nothing
pub lacks : {A : Type 0} (f : A → List ℕ) (names : List (List ℕ)) (old : List Serve) (words : List A) (x : A) (name : List ℕ) → 2 ≤ length words →
    x ≡ get_or words 1 x → name ≡ f x → serve_for names name ≡ None → fold (with_serve names) (Some old) (serve_words (map f words)) ≡ None
lacks f names old [] x name long at is none = absurd (omega (arith, long))
lacks f names old (v ∷ []) x name long at is none = absurd (omega (arith, long))
lacks f names old (v ∷ w ∷ ws) x name long at is none =
    let rest = serve_words (map f ws) in
    ap (λ (n : List ℕ). fold (with_serve names) (with_serve names (Some old) n) rest) (sym (is ∙ ap f at))
    ∙ ap (λ (s : Option Serve). fold (with_serve names) (option_map (λ (s : Serve). old ++ s ∷ []) s) rest) none ∙ none_stays names rest
