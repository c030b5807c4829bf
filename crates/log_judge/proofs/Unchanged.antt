-- A picture in which each group shows what it showed completes nothing.
use Rattle.std.proofs.Common.{◌≡◌, ◌∙◌, ℕ, zero, suc, ◌<◌, ◌&&◌, Bool, true, false, not, List, [], length, Option, None, refl, arith, ap, if◌then◌else◌}
use Rattle.sig_types.specs.declared.aspect.Aspect.{Aspect}
use Rattle.sig_types.specs.declared.aspect.Aspect.TheVariants.{Red, RedAmber, Green, Amber}
use Rattle.sig_types.specs.FirstRefused.{when}
use Rattle.sig_types.specs.Turns.{Picture, shown, is_green, is_on}
use Rattle.sig_tables.specs.declared.times.TimesRow.{TimesRow}
use Rattle.sig_tables.specs.Pairs.{Pairs}
use Rattle.sig_tables.specs.SiteRules.{rules_of}
use Rattle.sig_tables.specs.TimesTable.{row_of}
use Rattle.log_judge.specs.declared.breach.Breach.{Breach}
use Rattle.log_judge.specs.declared.find.Terms.{Terms}
use Rattle.log_judge.specs.declared.past.GroupPast.{GroupPast}
use Rattle.log_judge.specs.Breaches.{gather, of_pairs, listed, too_soon}
use Rattle.log_judge.specs.Found.{past_at, last_end_with, sequence_found, green_found, red_found, conflict_found, intergreen_found}
use Rattle.log_judge.proofs.Keeping.{found_now, five}

none_all : (f : ℕ → List Breach) (n : ℕ) → ((k : ℕ) → k < n → f k ≡ []) → gather f n ≡ []
none_all f zero none = refl
none_all f (suc n) none = rw (none_all f n (λ k lt. none k (omega arith)), none n (omega arith)) refl

no_pairs : (f : ℕ → ℕ → Option Breach) (n : ℕ) → ((g i : ℕ) → g < n → i < n → f g i ≡ None) → of_pairs f n ≡ []
no_pairs f n none =
    none_all (λ g. gather (λ i. listed (f g i)) n) n (λ g lt. none_all (λ i. listed (f g i)) n (λ i lt'. ap listed (none g i lt lt')))

-- a group that shows what it showed
no_sequence : (row : TimesRow) (k : Terms) (t g s : ℕ) (x : Aspect) → sequence_found row k t g x x s ≡ []
no_sequence row k t g s Red = refl
no_sequence row k t g s RedAmber = refl
no_sequence row k t g s Green = refl
no_sequence row k t g s Amber = refl

no_green : (row : TimesRow) (k : Terms) (t g s : ℕ) (x : Aspect) → listed (green_found row k t g x x s) ≡ []
no_green row k t g s Red = refl
no_green row k t g s RedAmber = refl
no_green row k t g s Green = refl
no_green row k t g s Amber = refl

no_red : (row : TimesRow) (k : Terms) (t g s : ℕ) (x : Aspect) → listed (red_found row k t g x x s) ≡ []
no_red row k t g s Red = refl
no_red row k t g s RedAmber = refl
no_red row k t g s Green = refl
no_red row k t g s Amber = refl

goes_on : (b c : Bool) (breach : Breach) → when (b && c && not c) breach ≡ None
goes_on true true breach = refl
goes_on true false breach = refl
goes_on false true breach = refl
goes_on false false breach = refl

no_turn : (x : Aspect) (o : Option Breach) → (if not (is_green x) && is_green x then o else None) ≡ None
no_turn Red o = refl
no_turn RedAmber o = refl
no_turn Green o = refl
no_turn Amber o = refl

pub unchanged : (times : List TimesRow) (pairs : Pairs) (k : Terms) (t : ℕ) (before : Picture) (pasts : List GroupPast) (p : Picture) →
    ((g : ℕ) → g < length p → shown p g ≡ shown before g) → found_now times pairs k t before pasts p ≡ []
unchanged times pairs k t before pasts p same =
    five _ [] _ [] _ [] _ [] _ []
    (none_all _ (length p) (λ g lt. ap (λ (x : Aspect). sequence_found (row_of times g) k t g (shown before g) x (past_at pasts g).since) (same g lt)
    ∙ no_sequence (row_of times g) k t g (past_at pasts g).since (shown before g)))
    (none_all _ (length p) (λ g lt. ap (λ (x : Aspect). listed (green_found (row_of times g) k t g (shown before g) x (past_at pasts g).since)) (same g lt)
    ∙ no_green (row_of times g) k t g (past_at pasts g).since (shown before g)))
    (none_all _ (length p) (λ g lt. ap (λ (x : Aspect). listed (red_found (row_of times g) k t g (shown before g) x (past_at pasts g).since)) (same g lt)
    ∙ no_red (row_of times g) k t g (past_at pasts g).since (shown before g)))
    (no_pairs (λ g i. conflict_found (rules_of times pairs) t (not (is_on (shown p g) && is_on (shown p i))) before pasts g i) (length p)
    (λ g i lt lt'. ap (λ (x : Aspect). conflict_found (rules_of times pairs) t (not (is_on x && is_on (shown p i))) before pasts g i) (same g lt)
    ∙ ap (λ (x : Aspect). conflict_found (rules_of times pairs) t (not (is_on (shown before g) && is_on x)) before pasts g i) (same i lt')
    ∙ goes_on _ (is_on (shown before g) && is_on (shown before i)) _))
    (no_pairs (λ g i. intergreen_found (rules_of times pairs) t before pasts p g i) (length p)
    (λ g i lt lt'. ap (λ (x : Aspect). if not (is_green (shown before g)) && is_green x
    then too_soon g i t ((rules_of times pairs).between i g) (last_end_with t (shown before i) (shown p i) (past_at pasts i).last_end) else None) (same g lt)
    ∙ no_turn (shown before g) _))
