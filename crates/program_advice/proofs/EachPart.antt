-- Kinds told one behind the other, one more at the end.
use Rattle.std.proofs.Common.{◌≡◌, ℕ, ◌+◌, ◌<◌, length, take, get_or, List, [], ◌∷◌, ◌++◌, ap, sym, ◌∙◌, append_assoc, append-nil}
use Rattle.std.proofs.lemmas.List.{take_more}
use Rattle.vap_parse.specs.declared.kind.Kind.{Kind}
use Rattle.program_advice.specs.Wanted.{each_part, kind_part}

each_part-push : (all kinds : List Kind) (kind : Kind) → each_part all (kinds ++ kind ∷ []) ≡ each_part all kinds ++ kind_part all kind
each_part-push all [] kind = append-nil (kind_part all kind)
each_part-push all (x ∷ xs) kind =
    ap (λ t. kind_part all x ++ t) (each_part-push all xs kind) ∙ sym (append_assoc (kind_part all x) (each_part all xs) (kind_part all kind))

-- one more kind
pub parts_more : (all : List Kind) (i : ℕ) (z : Kind) (first old new : List ℕ) → i < length all →
    old ≡ first ++ each_part all (take i all) → new ≡ old ++ kind_part all (get_or all i z) →
    new ≡ first ++ each_part all (take (i + 1) all)
parts_more all i z first old new below h s =
    s ∙ (ap (λ t. t ++ kind_part all (get_or all i z)) h
    ∙ (append_assoc first (each_part all (take i all)) (kind_part all (get_or all i z))
    ∙ ap (λ t. first ++ t) (sym (ap (each_part all) (take_more all i z below)
    ∙ each_part-push all (take i all) (get_or all i z)))))
