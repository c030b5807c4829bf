-- The laws.
use Rattle.std.proofs.Common.{◌≡◌, ℕ, ◌+◌, ◌-◌, ◌<◌, ◌≤◌, max, Bool, true, false, refl, arith, sym, ap, ◌∙◌, List, [], length, slice_index_or}
use Rattle.std.proofs.lemmas.Bool.{false_from_ne_true}
use Rattle.sig_types.specs.Turns.{History, trace, is_red, is_green}
use Rattle.sig_types.specs.Rules.{Rules}
use Rattle.sig_guard.specs.Safety.{IsHistory, Safe}
use Rattle.sig_guard.specs.Stands.{StandsFor, rules, kept_rules}
use Rattle.sig_guard.specs.Steady.{shows_wish, IsSteady}
use Rattle.sig_guard.specs.Step.{guard_refused}
use Rattle.sig_guard.proofs.Steady.{steady_refused, wish_lasts, wish_on}
use Rattle.sig_response.specs.Bounds.{red_within, green_within}
use Rattle.sig_response.specs.Onward.{onward, shows}
use Rattle.sig_response.specs.Laws.{IsSite, TurnsRed, TurnsGreen, ShowsWhatIsWished, GuardsRespond}
use Rattle.sig_response.proofs.Onwards.{Begun, onward-length, at}
use Rattle.sig_response.proofs.Reds.{red_in_time}
use Rattle.sig_response.proofs.Greatest.{greatest_least}
use Rattle.sig_response.proofs.Greens.{green_in_time}

pub begun_of : (r : Rules) (h : History) → IsSite r → IsHistory r.count h → Safe r h → Begun r h (length h - 1)
begun_of r h site is safe = record { len = omega (arith, is.begun); two_way = site.two_way; history = is; safe = safe }

-- the last second
pub last_of : (r : Rules) (h : History) (w : ℕ → List Bool) (g n : ℕ) → IsHistory r.count h → shows (onward r h w n) g ≡ at r h w (length h - 1) g n
last_of r h w g n is =
    let last : length (onward r h w n) - 1 ≡ length h - 1 + n = omega (arith, onward-length r h w n, is.begun) in
    ap (λ (k : ℕ). trace (onward r h w n) g k) last

pub turns_red : TurnsRed
turns_red r h w g n site is safe lt red le = last_of r h w g n is ∙ red_in_time r h w (length h - 1) g n (begun_of r h site is safe) lt (site.green g lt) red le

pub turns_green : TurnsGreen
turns_green r h w g n site is safe lt green reds le =
    last_of r h w g n is ∙ green_in_time r h w (length h - 1) g n (begun_of r h site is safe) lt (site.red g lt) site.green green reds le

-- where each group shows what is wished of it no turn is refused
pub none_refused : (r : Rules) (h : History) (w : List Bool) → ((g : ℕ) → g < r.count → shows_wish (shows h g) (slice_index_or w g false) ≡ true) →
    guard_refused r h w ≡ []
none_refused r h w shown = sym (steady_refused r h w steady)
  where
    steady : (g : ℕ) → g < r.count → IsSteady r h w g
    steady g lt = (
      wish_lasts (r.red_amber g) (r.amber g) (trace h g) (length h - 1) (shows h g) (slice_index_or w g false) refl (shown g lt),
      wish_on (shows h g) (slice_index_or w g false) (shown g lt),
    )

pub shows_what_is_wished : ShowsWhatIsWished
shows_what_is_wished r h w n site is safe apart le = (shown_all, none_refused r (onward r h (λ k. w) n) w shown_all)
  where
    bound : (g : ℕ) → g < r.count → max (red_within r g) (green_within r g) ≤ n
    bound g lt = (let most = greatest_least (λ i. max (red_within r i) (green_within r i)) r.count g lt in omega (arith, most, le))

    shown_all : (g : ℕ) → g < r.count → shows_wish (shows (onward r h (λ k. w) n) g) (slice_index_or w g false) ≡ true
    shown_all g lt = go (slice_index_or w g false) refl
      where
        go : (b : Bool) → slice_index_or w g false ≡ b → shows_wish (shows (onward r h (λ k. w) n) g) b ≡ true
        go true wish = ap is_green (turns_green r h (λ k. w) g n site is safe lt (λ k hi. wish)
            (λ i lt' pair k hi. false_from_ne_true (slice_index_or w i false) (λ both. apart i g lt' lt pair both wish)) (omega (arith, bound g lt)))
        go false wish = ap is_red (turns_red r h (λ k. w) g n site is safe lt (λ k hi. wish) (omega (arith, bound g lt)))

pub guards_respond : GuardsRespond
unfolding StandsFor rules
guards_respond guard h w n stands site apart le = shows_what_is_wished (kept_rules guard) h w n site stands.history stands.safe apart le
