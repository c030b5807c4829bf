-- The lines of watchers, one after the other.
use Rattle.std.proofs.Common.{◌≡◌, ◌∙◌, ℕ, ◌+◌, List, [], ◌∷◌, ◌++◌, length, ap, sym, arith, append_assoc, append-nil}
use Rattle.junction_live.specs.Sights.{Sight, watch_text, watches_from}

-- a line more
pub watches_more : (number : ℕ) (sights : List Sight) (sight : Sight) →
    watches_from number (sights ++ sight ∷ []) ≡ watches_from number sights ++ watch_text (number + length sights) sight
watches_more number [] sight =
    append-nil (watch_text number sight) ∙ ap (λ n. watch_text n sight) (let same : number ≡ number + 0 = omega arith in same)
watches_more number (s ∷ sights) sight =
    ap (λ l. watch_text number s ++ l) (watches_more (number + 1) sights sight)
    ∙ ap (λ n. watch_text number s ++ (watches_from (number + 1) sights ++ watch_text n sight))
    (let same : number + 1 + length sights ≡ number + length (s ∷ sights) = omega arith in same)
    ∙ sym (append_assoc (watch_text number s) (watches_from (number + 1) sights) (watch_text (number + length (s ∷ sights)) sight))

pub line_more : (sights : List Sight) (sight : Sight) (number : ℕ) → number ≡ 1 + length sights →
    watches_from 1 sights ++ watch_text number sight ≡ watches_from 1 (sights ++ sight ∷ [])
line_more sights sight number is = ap (λ n. watches_from 1 sights ++ watch_text n sight) is ∙ sym (watches_more 1 sights sight)
