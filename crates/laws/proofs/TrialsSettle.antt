-- Trials settle.
use Rattle.std.proofs.Common.{◌≡◌, ◌∙◌, ℕ, zero, suc, ◌+◌, ◌-◌, ◌<◌, ◌≤◌, max, Bool, true, false, Option, Some, None, List, [], length, slice_index_or, refl, sym, ap, arith, inl, inr}
use Rattle.std.proofs.lemmas.Bool.{cases_eq, false_from_ne_true, and_parts, and_from}
use Rattle.sig_types.specs.declared.aspect.Aspect.{Aspect}
use Rattle.sig_types.specs.Turns.{History, Picture, shown, trace, is_on, is_red, is_green}
use Rattle.sig_types.specs.Rules.{Rules}
use Rattle.pua_model.specs.Plan.{PlanOf, interstage_at}
use Rattle.sig_guard.specs.Safety.{IsHistory, Safe}
use Rattle.sig_guard.specs.Steady.{shows_wish}
use Rattle.sig_tables.specs.Pairs.{between}
use Rattle.sig_tables.specs.SiteRules.{rules_of}
use Rattle.sig_tables.specs.TimesTable.{row_of}
use Rattle.sig_audit.specs.Trial.{made, stage_wishes, trial_wishes, all_show, is_settled}
use Rattle.sig_audit.proofs.Trials.{wishes_of_settling, made_length}
use Rattle.sig_response.specs.Bounds.{greatest, ends_within, red_within, after_end, free_within, green_within, shown_within}
use Rattle.sig_response.specs.Laws.{IsSite, AreApart}
use Rattle.sig_response.specs.Onward.{onward, shows}
use Rattle.sig_response.proofs.Greatest.{greatest_least}
use Rattle.sig_response.proofs.Sites.{row_is, site_of}
use Rattle.sig_response.proofs.Whole.{turns_red, turns_green}
use Rattle.laws.specs.TrialsSettle.{BoundOfTables, SettlesExactly}
use Rattle.laws.proofs.CleanInterstages.{made_kept, made_onward}
use Rattle.laws.proofs.OneIntergreen.{some_is}

-- numbers that are at most a bound
greatest_bounded : (f : ℕ → ℕ) (n most : ℕ) → ((i : ℕ) → i < n → f i ≤ most) → greatest f n ≤ most
greatest_bounded f zero most each = omega arith
greatest_bounded f (suc n) most each =
    let rest = greatest_bounded f n most (λ i lt. each i (omega arith)) in
    omega (arith, rest, each n (omega arith))

free_bounded : (ends ra : ℕ) (o : Option ℕ) → ends ≤ 264 → ra ≤ 9 → ((z : ℕ) → o ≡ Some z → z ≤ 99) → after_end ends ra o ≤ 363
free_bounded ends ra None le le' range = omega arith
free_bounded ends ra (Some z) le le' range = (let most = range z refl in omega (arith, most))

pub bound_of_tables : BoundOfTables
bound_of_tables times pairs are are' = greatest_bounded _ (length times) 363 (λ g lt. (
    let row = row_is times g are lt in
    let free = greatest_bounded (free_within (rules_of times pairs) g) (length times) 363 (λ i lt'. (
    let row' = row_is times i are lt' in
    free_bounded (ends_within (rules_of times pairs) i) (row_of times g).red_amber (between pairs i g) (omega (arith, row'.red_amber, row'.min_at_most)) row.red_amber
    (λ z pair. are'.range i g z pair))) in
    omega (arith, row.red_amber, row.amber, row.min_at_most, row.min_red_at_most, free)))

all_from : (p : Picture) (w : List Bool) (n : ℕ) → ((g : ℕ) → g < n → shows_wish (shown p g) (slice_index_or w g false) ≡ true) → all_show p w n ≡ true
all_from p w zero each = refl
all_from p w (suc n) each = and_from _ _ (all_from p w n (λ g lt. each g (omega arith))) (each n (omega arith))

all_to : (p : Picture) (w : List Bool) (n g : ℕ) → all_show p w n ≡ true → g < n → shows_wish (shown p g) (slice_index_or w g false) ≡ true
all_to p w zero g all lt = absurd (omega arith)
all_to p w (suc n) g all lt =
    let parts = and_parts _ _ all in
    elim (cases_eq g n) [
      | inl same ↦ rw same parts.1
      | inr ne ↦ all_to p w n g parts.0 (omega arith)
    ]

green_on : (x : Aspect) (b : Bool) → b ≡ true → shows_wish x b ≡ true → is_on x ≡ true
green_on x false is h = absurd (cc)
green_on Aspect.Red true is h = absurd (cc)
green_on Aspect.RedAmber true is h = refl
green_on Aspect.Green true is h = refl
green_on Aspect.Amber true is h = absurd (cc)

settles : (plan : PlanOf) (r : Rules) (i : ℕ) → IsSite r → shown_within r ≤ 600 → AreApart r (stage_wishes plan (interstage_at plan i).from) → is_settled plan r i ≡ true
unfolding is_settled
settles plan r i site bound apart = all_from _ _ r.count each
  where
    kept : IsHistory r.count (made r (trial_wishes plan i) 0) × Safe r (made r (trial_wishes plan i) 0)
    kept = made_kept r (trial_wishes plan i) 0 site.two_way

    wished : (k g : ℕ) → k < 600 → slice_index_or (trial_wishes plan i (0 + k)) g false ≡ slice_index_or (stage_wishes plan (interstage_at plan i).from) g false
    wished k g lt =
        let same : 0 + k ≡ k = omega arith in
        ap (λ (t : ℕ). slice_index_or (trial_wishes plan i t) g false) same ∙ ap (λ (w : List Bool). slice_index_or w g false) (sym (wishes_of_settling plan i k lt))

    last : (g : ℕ) → shown (slice_index_or (made r (trial_wishes plan i) 600) 600 []) g ≡ shows (onward r (made r (trial_wishes plan i) 0) (λ k. trial_wishes plan i (0 + k)) 600) g
    last g =
        let at_end : 600 ≡ length (made r (trial_wishes plan i) 600) - 1 = omega (arith, made_length r (trial_wishes plan i) 600) in
        let same : 600 ≡ 0 + 600 = omega arith in
        ap (λ (t : ℕ). trace (made r (trial_wishes plan i) 600) g t) at_end
        ∙ ap (λ (h : History). shows h g) (ap (λ (t : ℕ). made r (trial_wishes plan i) t) same ∙ made_onward r (trial_wishes plan i) 0 600)

    most : (g : ℕ) → g < r.count → max (red_within r g) (green_within r g) ≤ 600
    most g lt = (let least = greatest_least (λ i. max (red_within r i) (green_within r i)) r.count g lt in omega (arith, least, bound))

    each : (g : ℕ) → g < r.count → shows_wish (shown (slice_index_or (made r (trial_wishes plan i) 600) 600 []) g) (slice_index_or (stage_wishes plan (interstage_at plan i).from) g false) ≡ true
    each g lt = ap (λ (x : Aspect). shows_wish x (slice_index_or (stage_wishes plan (interstage_at plan i).from) g false)) (last g)
        ∙ go (slice_index_or (stage_wishes plan (interstage_at plan i).from) g false) refl
      where
        go : (b : Bool) → slice_index_or (stage_wishes plan (interstage_at plan i).from) g false ≡ b →
            shows_wish (shows (onward r (made r (trial_wishes plan i) 0) (λ k. trial_wishes plan i (0 + k)) 600) g) b ≡ true
        go true is = ap is_green (turns_green r (made r (trial_wishes plan i) 0) (λ k. trial_wishes plan i (0 + k)) g 600 site kept.0 kept.1 lt (λ k hi. wished k g hi ∙ is)
            (λ j lt' pair k hi. wished k j hi ∙ false_from_ne_true _ (λ both. apart j g lt' lt pair both is)) (omega (arith, most g lt)))
        go false is = ap is_red (turns_red r (made r (trial_wishes plan i) 0) (λ k. trial_wishes plan i (0 + k)) g 600 site kept.0 kept.1 lt (λ k hi. wished k g hi ∙ is) (omega (arith, most g lt)))

-- a stage that settles has no two groups in conflict
apart_where_settled : (plan : PlanOf) (r : Rules) (i : ℕ) → IsSite r → is_settled plan r i ≡ true → AreApart r (stage_wishes plan (interstage_at plan i).from)
unfolding is_settled
apart_where_settled plan r i site settled j g lt lt' pair first second =
    let kept = made_kept r (trial_wishes plan i) 600 site.two_way in
    let conflict = some_is (r.between j g) pair in
    kept.1.conflict j g conflict.0 (record { clearing_of_site = lt; entering_of_site = lt'; listed = conflict.1 }) 600 (omega (arith, made_length r (trial_wishes plan i) 600))
    (green_on _ _ first (all_to _ _ r.count j settled lt)) (green_on _ _ second (all_to _ _ r.count g settled lt'))

pub settles_exactly : SettlesExactly
settles_exactly plan times pairs i are are' count =
    let site = site_of times pairs are are' in (
      λ settled. apart_where_settled plan (rules_of times pairs) i site settled,
      λ apart. settles plan (rules_of times pairs) i site (omega (arith, bound_of_tables times pairs are are')) apart,
    )
