-- Two pages that tell the same have the same text.
use Rattle.std.proofs.Common.{◌≡◌, ℕ, ◌<◌, List, ◌++◌, length, refl}
use Rattle.sig_types.specs.Rules.{Rules}
use Rattle.std.specs.Prelude.{Option, None, Some}
use Rattle.log_judge.specs.declared.protocol.Kind.TheVariants.{Green, Red, RedAmber, Amber}
use Rattle.log_protocol.specs.declared.text.Style.{Style}
use Rattle.judge_text.specs.declared.tick.Tick.{Tick}
use Rattle.log_protocol.specs.Came.{Came}
use Rattle.log_protocol.specs.Texts.{came_text, change_text, group_text, greens_text, name_at, run_text}
use Rattle.log_protocol.specs.Totals.{SameCame}
use Rattle.log_protocol.proofs.Gathered.{gather_same}

same_group : (tick : Tick) (style : Style) (first : ℕ) (x y : Came) (n : ℕ) (r : Rules) (name : List ℕ) (g : ℕ) → SameCame x y n → g < n →
    group_text tick style first x r name g ≡ group_text tick style first y r name g
unfolding group_text run_text
same_group tick style first x y n r name g same lt =
    rw (same.runs Green g lt, same.runs Red g lt, same.runs RedAmber g lt, same.runs Amber g lt) refl

same_change : (tick : Tick) (style : Style) (first : ℕ) (x y : Came) (n : ℕ) (names : List (List ℕ)) (to from : ℕ) (needed : Option ℕ) → SameCame x y n →
    to < n → from < n → change_text tick style first x names to from needed ≡ change_text tick style first y names to from needed
unfolding change_text
same_change tick style first x y n names to from None same lt lt' = refl
same_change tick style first x y n names to from (Some needed) same lt lt' = rw (same.changes to from lt lt') refl

same_greens : (tick : Tick) (style : Style) (first : ℕ) (x y : Came) (n : ℕ) (names : List (List ℕ)) (r : Rules) (g i : ℕ) → SameCame x y n →
    g < n → i < n → greens_text tick style first x names r g i ≡ greens_text tick style first y names r g i
unfolding greens_text
same_greens tick style first x y n names r g i same lt lt' = rw (same.greens g i lt lt') refl

three : (a a' b b' c c' : List ℕ) → a ≡ a' → b ≡ b' → c ≡ c' → a ++ b ++ c ≡ a' ++ b' ++ c'
three a a' b b' c c' h1 h2 h3 = rw (h1, h2, h3) refl

pub same_text : (tick : Tick) (style : Style) (first : ℕ) (x y : Came) (names : List (List ℕ)) (r : Rules) →
    SameCame x y (length names) → came_text tick style first x names r ≡ came_text tick style first y names r
unfolding came_text
same_text tick style first x y names r same =
    three _ _ _ _ _ _
    (gather_same _ _ (length names) (λ g lt. same_group tick style first x y (length names) r (name_at names g) g same lt))
    (gather_same _ _ (length names) (λ to lt. gather_same _ _ (length names)
    (λ from lt'. same_change tick style first x y (length names) names to from (r.between from to) same lt lt')))
    (gather_same _ _ (length names) (λ g lt. gather_same _ _ (length names)
    (λ i lt'. same_greens tick style first x y (length names) names r g i same lt lt')))
