-- At every site there is a history after which the bound is reached.
use Rattle.std.proofs.Common.{◌≡◌, ◌≢◌, ℕ, zero, suc, ◌+◌, ◌-◌, ◌<◌, ◌≤◌, max, Bool, true, false, not, Option, Some, None, is_some, refl, arith, sym, inl, inr, ap, ◌∙◌, List, [], ◌∷◌, length, set, replicate, slice_index_or}
use Rattle.std.proofs.lemmas.Bool.{cases_Bool, cases_lt, cases_eq, and_from}
use Rattle.std.proofs.lemmas.List.{get_or-set_same, get_or-set_other, get_or-replicate, length-replicate}
use Rattle.sig_types.specs.declared.aspect.Aspect.{Aspect}
use Rattle.sig_types.specs.declared.aspect.Aspect.TheVariants.{Red, Green}
use Rattle.sig_types.specs.Turns.{History, trace, is_red, is_green, is_on, starts_at, ends_at}
use Rattle.sig_types.specs.Rules.{Rules}
use Rattle.sig_guard.specs.Safety.{MayFollow}
use Rattle.sig_guard.specs.Safety as safety
use Rattle.sig_guard.specs.Steady.{shows_wish}
use Rattle.sig_guard.proofs.Agree.{starts_at-agree, ends_at-agree}
use Rattle.sig_guard.proofs.LawProofs.{begins_safe}
use Rattle.sig_guard.proofs.SequenceKept.{red_is, green_is}
use Rattle.sig_response.specs.Bounds.{greatest, ends_within, red_within, after_end, free_within, green_within, shown_within}
use Rattle.sig_response.specs.Fastest.{IsWorst, BoundIsReached}
use Rattle.sig_response.specs.Laws.{IsSite, AreApart}
use Rattle.sig_response.specs.Onward.{onward, shows}
use Rattle.sig_response.proofs.Greatest.{greatest_found}
use Rattle.sig_response.proofs.Seconds.{on_and_off}
use Rattle.sig_response.proofs.Onwards.{Begun, sequence_of, onward-begun, onward-length, onward-agree, at, at_trace}
use Rattle.sig_response.proofs.Reds.{red_in_time}
use Rattle.sig_response.proofs.Greens.{AreWishedRed, green_in_time}
use Rattle.sig_response.proofs.Fastest.{not_red_sooner, not_green_sooner, not_free_sooner}

-- a test that fails at 0 and passes at n begins to pass somewhere between
first_pass : (p : ℕ → Bool) (n : ℕ) → p 0 ≡ false → p n ≡ true → (k : ℕ) × ((p k ≡ false) × (p (suc k) ≡ true))
first_pass p zero fails passes = absurd (let clash : false ≡ true = sym fails ∙ passes in cc)
first_pass p (suc n) fails passes = elim (cases_Bool (p n)) [
  | inl before ↦ first_pass p n fails before
  | inr before ↦ (n, (before, passes))
]

-- the wish of green for one group alone, and for none
abbrev only : ℕ → ℕ → List Bool
only n g = set (replicate n false) g true

abbrev no_green : ℕ → List Bool
no_green n = replicate n false

only_here : (n g : ℕ) → g < n → slice_index_or (only n g) g false ≡ true
only_here n g lt = get_or-set_same (replicate n false) g true false (omega (arith, length-replicate n false, lt))

only_other : (n g i : ℕ) → i < n → i ≢ g → slice_index_or (only n g) i false ≡ false
only_other n g i lt ne = get_or-set_other (replicate n false) g i true false ne ∙ get_or-replicate n i false false lt

-- the all-red second 0
abbrev all_red : Rules → History
all_red r = replicate r.count Red ∷ []

all_red_begun : (r : Rules) → IsSite r → Begun r (all_red r) 0
all_red_begun r site =
    let begins = begins_safe r (replicate r.count Red) (length-replicate r.count Red) (λ g lt. get_or-replicate r.count g Red Red lt) in
    record { len = refl; two_way = site.two_way; history = begins.0; safe = begins.1 }

-- a safe history in whose last second m a group starts
record Started (r : Rules) (g : ℕ) (h : History) (m : ℕ) : Type 0 where
  pub begun : Begun r h m
  pub starts : starts_at (trace h g) m ≡ true

off_to_on : (ra am : ℕ) (x y : Aspect) → MayFollow ra am x y → is_on x ≡ false → is_on y ≡ true → is_red x ≡ true
off_to_on ra am _ _ (safety.stays x) off on = absurd (on_and_off x on off)
off_to_on ra am _ _ (safety.starts lasts) off on = refl
off_to_on ra am _ _ (safety.starts_green none) off on = refl
off_to_on ra am _ _ safety.turns_green off on = absurd (cc)
off_to_on ra am _ _ (safety.ends lasts) off on = absurd (cc)
off_to_on ra am _ _ (safety.ends_red none) off on = absurd (cc)
off_to_on ra am _ _ safety.turns_red off on = absurd (cc)

started_here : (r : Rules) (h : History) (w : ℕ → List Bool) (m g n : ℕ) → Begun r h m → g < r.count → is_on (at r h w m g 0) ≡ false → is_on (at r h w m g n) ≡ true →
    (h' : History) × ((m' : ℕ) × Started r g h' m')
started_here r h w m g n begun lt off on = go (first_pass (λ k. is_on (at r h w m g k)) n off on)
  where
    go : (k : ℕ) × ((is_on (at r h w m g k) ≡ false) × (is_on (at r h w m g (suc k)) ≡ true)) → (h' : History) × ((m' : ℕ) × Started r g h' m')
    go (k, turn) =
        let next : m + suc k ≡ suc (m + k) = omega arith in
        let now = onward-begun r h w m (suc k) begun in
        let there : Begun r (onward r h w (suc k)) (suc (m + k)) = rw next at now in
        let was : is_on (trace (onward r h w (suc k)) g (m + k)) ≡ false = ap is_on (sym (at_trace r h w m k (suc k) g begun (omega arith))) ∙ turn.0 in
        let is : is_on (trace (onward r h w (suc k)) g (suc (m + k))) ≡ true = rw next at turn.1 in
        let step = (sequence_of r (onward r h w (suc k)) (suc (m + k)) g there lt).follow (m + k) (omega arith) in (
          onward r h w (suc k),
          (
            suc (m + k),
            record {
              begun = there;
              starts = and_from _ _ (off_to_on (r.red_amber g) (r.amber g) _ _ step was is) is;
            },
          ),
        )

-- where green of it alone is wished from the all-red second 0 on
wished_alone : (r : Rules) (g : ℕ) → IsSite r → g < r.count → AreWishedRed r (λ k. only r.count g) (green_within r g) g
wished_alone r g site lt i lt' pair k hi = only_other r.count g i lt' ne
  where
    ne : i ≢ g
    ne same =
        let itself : is_some (r.between g g) ≡ true = rw same at pair in
        let none : is_some (r.between g g) ≡ false = ap is_some (site.two_way.other g lt) in
        let clash : true ≡ false = sym itself ∙ none in cc

green_alone : (r : Rules) (g : ℕ) → IsSite r → g < r.count → at r (all_red r) (λ k. only r.count g) 0 g (green_within r g) ≡ Green
green_alone r g site lt =
    green_in_time r (all_red r) (λ k. only r.count g) 0 g (green_within r g) (all_red_begun r site) lt (site.red g lt) site.green
    (λ k hi. only_here r.count g lt) (wished_alone r g site lt) (omega arith)

found_started : (r : Rules) (g : ℕ) → IsSite r → g < r.count → (h : History) × ((m : ℕ) × Started r g h m)
unfolding onward
found_started r g site lt =
    started_here r (all_red r) (λ k. only r.count g) 0 g (green_within r g) (all_red_begun r site) lt
    (ap is_on (begins)) (ap is_on (green_alone r g site lt))
  where
    begins : at r (all_red r) (λ k. only r.count g) 0 g 0 ≡ Red
    begins = get_or-replicate r.count g Red Red lt

-- a safe history in whose last second m a group ends
record Ended (r : Rules) (g : ℕ) (h : History) (m : ℕ) : Type 0 where
  pub begun : Begun r h m
  pub later : 1 ≤ m
  pub ends : ends_at (trace h g) m ≡ true

ended_here : (r : Rules) (h : History) (w : ℕ → List Bool) (m g n : ℕ) → Begun r h m → g < r.count → at r h w m g 0 ≡ Green → at r h w m g n ≡ Red →
    (h' : History) × ((m' : ℕ) × Ended r g h' m')
ended_here r h w m g n begun lt green red = go (first_pass (λ k. not (is_green (at r h w m g k))) n (ap (λ (x : Aspect). not (is_green x)) green) (ap (λ (x : Aspect). not (is_green x)) red))
  where
    green_again : (b : Bool) → not b ≡ false → b ≡ true
    green_again true e = refl
    green_again false e = absurd (cc)

    go : (k : ℕ) × ((not (is_green (at r h w m g k)) ≡ false) × (not (is_green (at r h w m g (suc k))) ≡ true)) → (h' : History) × ((m' : ℕ) × Ended r g h' m')
    go (k, turn) =
        let next : m + suc k ≡ suc (m + k) = omega arith in
        let now = onward-begun r h w m (suc k) begun in
        let there : Begun r (onward r h w (suc k)) (suc (m + k)) = rw next at now in
        let was : is_green (trace (onward r h w (suc k)) g (m + k)) ≡ true = ap is_green (sym (at_trace r h w m k (suc k) g begun (omega arith))) ∙ green_again _ turn.0 in
        let is : not (is_green (trace (onward r h w (suc k)) g (suc (m + k)))) ≡ true = rw next at turn.1 in (
          onward r h w (suc k),
          (suc (m + k), record { begun = there; later = omega arith; ends = and_from _ _ was is }),
        )

abbrev green_alone_history : Rules → ℕ → History
green_alone_history r g = onward r (all_red r) (λ k. only r.count g) (green_within r g)

found_ended : (r : Rules) (g : ℕ) → IsSite r → g < r.count → (h : History) × ((m : ℕ) × Ended r g h m)
unfolding onward
found_ended r g site lt =
    ended_here r (green_alone_history r g) (λ k. no_green r.count) (0 + green_within r g) g (red_within r g) there lt begins
    (red_in_time r (green_alone_history r g) (λ k. no_green r.count) (0 + green_within r g) g (red_within r g) there lt (site.green g lt)
    (λ k hi. get_or-replicate r.count g false false lt) (omega arith))
  where
    there : Begun r (green_alone_history r g) (0 + green_within r g)
    there = onward-begun r (all_red r) (λ k. only r.count g) 0 (green_within r g) (all_red_begun r site)

    begins : at r (green_alone_history r g) (λ k. no_green r.count) (0 + green_within r g) g 0 ≡ Green
    begins =
        let same : 0 + green_within r g + 0 ≡ 0 + green_within r g = omega arith in
        ap (λ (t : ℕ). trace (green_alone_history r g) g t) same ∙ green_alone r g site lt

-- what is not shown
not_shown : (x : Aspect) (b : Bool) → (shows_wish x b ≡ true → ⊥) → shows_wish x b ≡ false
not_shown x b h = elim (cases_Bool (shows_wish x b)) [ inl e ↦ absurd (h e) | inr e ↦ e ]

shows_red : (x : Aspect) (b : Bool) → b ≡ false → shows_wish x b ≡ true → x ≡ Red
shows_red x true is h = absurd (cc)
shows_red x false is h = red_is x h

shows_green : (x : Aspect) (b : Bool) → b ≡ true → shows_wish x b ≡ true → x ≡ Green
shows_green x true is h = green_is x h
shows_green x false is h = absurd (cc)

last_at : (r : Rules) (h : History) (w : ℕ → List Bool) (m n g : ℕ) → Begun r h m → shows (onward r h w n) g ≡ trace (onward r h w n) g (m + n)
last_at r h w m n g begun =
    let last : length (onward r h w n) - 1 ≡ m + n = omega (arith, onward-length r h w n, begun.len) in
    ap (λ (k : ℕ). trace (onward r h w n) g k) last

none_apart : (r : Rules) → AreApart r (no_green r.count)
none_apart r i g lt lt' pair first second = (let none = get_or-replicate r.count i false false lt in let clash : true ≡ false = sym first ∙ none in cc)

one_apart : (r : Rules) (g : ℕ) → IsSite r → AreApart r (only r.count g)
one_apart r g site i j lt lt' pair first second = elim (cases_eq i g) [
  | inr ne ↦ (let none = only_other r.count g i lt ne in let clash : true ≡ false = sym first ∙ none in cc)
  | inl same ↦ elim (cases_eq j g) [
    | inr ne ↦ (let none = only_other r.count g j lt' ne in let clash : true ≡ false = sym second ∙ none in cc)
    | inl same' ↦ (
        let both : i ≡ j = same ∙ sym same' in
        let itself : is_some (r.between j j) ≡ true = rw both at pair in
        let none : is_some (r.between j j) ≡ false = ap is_some (site.two_way.other j lt') in
        let clash : true ≡ false = sym itself ∙ none in cc)
  ]
]

-- the three worst cases
worst_red : (r : Rules) (g : ℕ) → IsSite r → g < r.count → shown_within r ≤ red_within r g → (h : History) × (w : List Bool) × (g : ℕ) × IsWorst r h w g
unfolding onward
worst_red r g site lt most = go (found_started r g site lt)
  where
    go : (h : History) × ((m : ℕ) × Started r g h m) → (h : History) × (w : List Bool) × (g : ℕ) × IsWorst r h w g
    go (h, (m, from)) = (
      h,
      no_green r.count,
      g,
      record {
        history = from.begun.history;
        safe = from.begun.safe;
        apart = none_apart r;
        group = lt;
        late = λ n early. not_shown _ _ (λ shown. (
            let now = onward-begun r h (λ k. no_green r.count) m n from.begun in
            let red = sym (last_at r h (λ k. no_green r.count) m n g from.begun) ∙ shows_red _ _ (get_or-replicate r.count g false false lt) shown in
            let starts = sym (starts_at-agree (suc (m + 0)) _ _ (onward-agree r h (λ k. no_green r.count) m 0 n g from.begun (omega arith)) m (omega arith)) ∙ starts_first n in
            let late = not_red_sooner r (onward r h (λ k. no_green r.count) n) g m (m + n) now.safe lt starts (omega arith) (omega (arith, now.len)) red in
            omega (arith, late, most, early)));
      },
    )
      where
        starts_first : (n : ℕ) → starts_at (trace (onward r h (λ k. no_green r.count) 0) g) m ≡ true
        starts_first n = from.starts

worst_green : (r : Rules) (g : ℕ) → IsSite r → g < r.count → shown_within r ≤ r.amber g + r.minimum_red g + r.red_amber g → (h : History) × (w : List Bool) × (g : ℕ) × IsWorst r h w g
unfolding onward
worst_green r g site lt most = go (found_ended r g site lt)
  where
    go : (h : History) × ((m : ℕ) × Ended r g h m) → (h : History) × (w : List Bool) × (g : ℕ) × IsWorst r h w g
    go (h, (m, from)) = (
      h,
      only r.count g,
      g,
      record {
        history = from.begun.history;
        safe = from.begun.safe;
        apart = one_apart r g site;
        group = lt;
        late = λ n early. not_shown _ _ (λ shown. (
            let now = onward-begun r h (λ k. only r.count g) m n from.begun in
            let green = sym (last_at r h (λ k. only r.count g) m n g from.begun) ∙ shows_green _ _ (only_here r.count g lt) shown in
            let ends = sym (ends_at-agree (suc (m + 0)) _ _ (onward-agree r h (λ k. only r.count g) m 0 n g from.begun (omega arith)) m (omega arith)) ∙ ends_first n in
            let late = not_green_sooner r (onward r h (λ k. only r.count g) n) g m (m + n) now.safe lt from.later ends (omega arith) (omega (arith, now.len)) green in
            omega (arith, late, most, early)));
      },
    )
      where
        ends_first : (n : ℕ) → ends_at (trace (onward r h (λ k. only r.count g) 0) g) m ≡ true
        ends_first n = from.ends

worst_free : (r : Rules) (g i : ℕ) → IsSite r → g < r.count → i < r.count → is_some (r.between i g) ≡ true → shown_within r ≤ free_within r g i →
    (h : History) × (w : List Bool) × (g : ℕ) × IsWorst r h w g
unfolding onward
worst_free r g i site lt lt' pair most = go (found_started r i site lt')
  where
    go : (h : History) × ((m : ℕ) × Started r i h m) → (h : History) × (w : List Bool) × (g : ℕ) × IsWorst r h w g
    go (h, (m, from)) = (
      h,
      only r.count g,
      g,
      record {
        history = from.begun.history;
        safe = from.begun.safe;
        apart = one_apart r g site;
        group = lt;
        late = λ n early. not_shown _ _ (λ shown. (
            let now = onward-begun r h (λ k. only r.count g) m n from.begun in
            let green = sym (last_at r h (λ k. only r.count g) m n g from.begun) ∙ shows_green _ _ (only_here r.count g lt) shown in
            let starts = sym (starts_at-agree (suc (m + 0)) _ _ (onward-agree r h (λ k. only r.count g) m 0 n i from.begun (omega arith)) m (omega arith)) ∙ starts_first n in
            let late = not_free_sooner r (onward r h (λ k. only r.count g) n) g i m (m + n) now.safe lt lt' pair starts (omega arith) (omega (arith, now.len)) green in
            omega (arith, late, most, early)));
      },
    )
      where
        starts_first : (n : ℕ) → starts_at (trace (onward r h (λ k. only r.count g) 0) i) m ≡ true
        starts_first n = from.starts

free_pair : (ends ra : ℕ) (o : Option ℕ) → 1 ≤ after_end ends ra o → is_some o ≡ true
free_pair ends ra None h = absurd (omega arith)
free_pair ends ra (Some z) h = refl

pub bound_is_reached : BoundIsReached
bound_is_reached r site one = go (greatest_found (λ g. max (red_within r g) (green_within r g)) r.count one)
  where
    go : (g : ℕ) × ((g < r.count) × (shown_within r ≤ max (red_within r g) (green_within r g))) → (h : History) × (w : List Bool) × (g : ℕ) × IsWorst r h w g
    go (g, found) = elim (cases_lt (red_within r g) (green_within r g)) [
      | inr red ↦ worst_red r g site found.0 (omega (arith, found.1))
      | inl green ↦ elim (cases_lt (r.amber g + r.minimum_red g + r.red_amber g) (greatest (free_within r g) r.count)) [
        | inr own ↦ worst_green r g site found.0 (omega (arith, found.1))
        | inl other ↦ (
            let slowest = greatest_found (free_within r g) r.count one in
            worst_free r g slowest.0 site found.0 slowest.1.0 (free_pair (ends_within r slowest.0) (r.red_amber g) (r.between slowest.0 g) (omega (arith, slowest.1.1))) (omega (arith, found.1, slowest.1.1)))
      ]
    ]
