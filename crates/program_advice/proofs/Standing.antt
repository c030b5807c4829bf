-- Kinds that are told one after another.
use Rattle.std.proofs.Common.{◌≡◌, ◌↔◌, ℕ, ◌+◌, ◌<◌, IsTrue, Bool, true, false, List, [], ◌∷◌, ◌++◌, length, take, get_or, refl, sym, ap, subst, ◌∙◌, inl, inr, add-one}
use Rattle.std.proofs.Math.Seq.{take-suc}
use Rattle.std.specs.List.{Contains}
use Rattle.std.proofs.lemmas.List.Elements.{Contains-append_left, Contains-push, Contains-push_cases}
use Rattle.vap_lex.specs.declared.token.Token.{Token}
use Rattle.vap_parse.specs.declared.kind.Kind.{Kind}
use Rattle.program_advice.specs.Stands.{AreStanding, Stands, noted}

-- one more kind, told where it can stand
pub one_more : (before : List Token) (kinds told : List Kind) (kind : Kind) (can : Bool) → AreStanding before kinds told →
    IsTrue can ↔ Stands before kind → AreStanding before (kinds ++ kind ∷ []) (noted told kind can)
one_more before kinds told kind true so_far stands x = (
  λ is. elim (Contains-push_cases told kind x is) [
    | inl old ↦ (Contains-append_left kinds (kind ∷ []) x (((so_far x).0 old).0), ((so_far x).0 old).1)
    | inr same ↦ (subst (λ (k : Kind). Contains (kinds ++ kind ∷ []) k) same (Contains-push kinds kind), subst (λ (k : Kind). Stands before k) same (stands.0 refl))
  ],
  λ both. elim (Contains-push_cases kinds kind x both.0) [
    | inl old ↦ Contains-append_left told (kind ∷ []) x ((so_far x).1 (old, both.1))
    | inr same ↦ subst (λ (k : Kind). Contains (told ++ kind ∷ []) k) same (Contains-push told kind)
  ],
)
one_more before kinds told kind false so_far stands x = (
  λ is. (Contains-append_left kinds (kind ∷ []) x (((so_far x).0 is).0), ((so_far x).0 is).1),
  λ both. elim (Contains-push_cases kinds kind x both.0) [
    | inl old ↦ (so_far x).1 (old, both.1)
    | inr same ↦ absurd (let h : false ≡ true = stands.1 (subst (λ (k : Kind). Stands before k) (sym same) both.1) in cc)
  ],
)

-- the same, where the kinds are those of a list up to a place
pub next_told : (before : List Token) (kinds told : List Kind) (i : ℕ) (d : Kind) (can : Bool) → i < length kinds →
    AreStanding before (take i kinds) told → IsTrue can ↔ Stands before (get_or kinds i d) →
    AreStanding before (take (i + 1) kinds) (noted told (get_or kinds i d) can)
next_told before kinds told i d can lt so_far stands =
    let one : take (i + 1) kinds ≡ take i kinds ++ get_or kinds i d ∷ [] = ap (λ n. take n kinds) (add-one i) ∙ take-suc kinds i d lt in
    subst (λ (ks : List Kind). AreStanding before ks (noted told (get_or kinds i d) can)) (sym one)
    (one_more before (take i kinds) told (get_or kinds i d) can so_far stands)
