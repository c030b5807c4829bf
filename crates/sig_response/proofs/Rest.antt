-- After a history at rest what is wished is shown sooner.
use Rattle.std.proofs.Common.{◌≡◌, ℕ, zero, suc, ◌+◌, ◌-◌, ◌<◌, ◌≤◌, Bool, true, false, Option, Some, None, refl, arith, sym, inl, inr, ap, ◌∙◌, List, length, slice_index_or}
use Rattle.std.proofs.lemmas.Bool.{cases_Bool, cases_lt, false_from_ne_true, and_parts, le-ltb}
use Rattle.sig_types.specs.declared.aspect.Aspect.{Aspect}
use Rattle.sig_types.specs.declared.aspect.Aspect.TheVariants.{Red}
use Rattle.sig_types.specs.Turns.{History, trace, is_red, is_green, is_on, turns_green_at, turns_red_at, ends_at}
use Rattle.sig_types.specs.Words.{last_below}
use Rattle.sig_types.specs.Rules.{Rules}
use Rattle.sig_types.proofs.LastBelow.{IsLast, last_below-some}
use Rattle.sig_guard.specs.Safety.{Sequence, MayFollow}
use Rattle.sig_guard.specs.Safety as safety
use Rattle.sig_guard.specs.Steady.{shows_wish}
use Rattle.sig_guard.specs.Step.{last, now, is_short, is_green_short, is_red_short}
use Rattle.sig_guard.proofs.Agree.{turns_red_at-agree, ends_at-agree}
use Rattle.sig_guard.proofs.SequenceKept.{ends_parts}
use Rattle.sig_guard.proofs.StepKept.{some_is}
use Rattle.sig_response.specs.Onward.{onward, shows, IsWishedGreen}
use Rattle.sig_response.specs.Rest.{IsAtRest, cleared_within, turned_within, ShowsSoonerAtRest}
use Rattle.sig_response.proofs.Seconds.{LeavesFree, on_and_off, off_stays, green_ends, red_starts}
use Rattle.sig_response.proofs.Onwards.{last_is, Begun, making, sequence_of, onward-begun, onward-agree, onward-next, at_next, at, at_trace, stays_off, stays_on}
use Rattle.sig_response.proofs.Greatest.{greatest_least}
use Rattle.sig_response.proofs.Greens.{AreWishedRed, not_red}
use Rattle.sig_response.proofs.Still.{green_on, on_then_green, off_then_red}
use Rattle.sig_response.proofs.Whole.{begun_of, last_of, none_refused}

-- no green is too short in the next second
green_long : (r : Rules) (h : History) (g : ℕ) → IsAtRest r h → g < r.count → 1 ≤ length h → is_green_short r h g ≡ false
green_long r h g rest lt one = go (last_below (turns_green_at (trace h g)) (now h)) refl
  where
    go : (o : Option ℕ) → last_below (turns_green_at (trace h g)) (now h) ≡ o → is_short (r.minimum_green g) o (now h) ≡ false
    go None is = refl
    go (Some v) is =
        let found = last_below-some (turns_green_at (trace h g)) (now h) v is in
        let past = rest.green g v lt found.here (omega (arith, found.below, one)) in
        le-ltb (now h) (v + r.minimum_green g) (omega (arith, past, one))

-- a group of which red is wished is off after one second
off_next : (r : Rules) (h : History) (w : ℕ → List Bool) (m g : ℕ) → Begun r h m → IsAtRest r h → g < r.count →
    slice_index_or (w 0) g false ≡ false → is_on (at r h w m g 1) ≡ false
unfolding onward
off_next r h w m g begun rest lt red = ap is_on (at_next r h w m 0 g begun) ∙ elim (rest.rests g lt) [
  | inl is ↦ off_stays r h (w 0) g (making r h m begun) lt red (ap is_on is)
  | inr is ↦ green_ends r h (w 0) g (making r h m begun) lt red is (green_long r h g rest lt (omega (arith, begun.len)))
]

-- a red group that stays off stays red
red_off_next : (ra am : ℕ) (x y : Aspect) → MayFollow ra am x y → x ≡ Red → is_on y ≡ false → y ≡ Red
red_off_next ra am _ _ (safety.stays x) red off = red
red_off_next ra am _ _ (safety.starts lasts) red off = absurd (cc)
red_off_next ra am _ _ (safety.starts_green none) red off = absurd (cc)
red_off_next ra am _ _ safety.turns_green red off = absurd (cc)
red_off_next ra am _ _ (safety.ends lasts) red off = absurd (cc)
red_off_next ra am _ _ (safety.ends_red none) red off = refl
red_off_next ra am _ _ safety.turns_red red off = refl

red_while_off : (ra am : ℕ) (a : ℕ → Aspect) (m n j : ℕ) → Sequence ra am a (suc (m + n)) → a m ≡ Red →
    ((i : ℕ) → i ≤ n → is_on (a (m + i)) ≡ false) → j ≤ n → a (m + j) ≡ Red
red_while_off ra am a m n zero kept red off le = (let same : m ≡ m + 0 = omega arith in rw same at red)
red_while_off ra am a m n (suc j) kept red off le =
    let next : suc (m + j) ≡ m + suc j = omega arith in
    let step = kept.follow (m + j) (omega arith) in
    let there : MayFollow ra am (a (m + j)) (a (m + suc j)) = rw next at step in
    red_off_next ra am _ _ there (red_while_off ra am a m n j kept red off (omega arith)) (off (suc j) le)

-- a group of which green is wished, and that was red, starts as soon as the groups in conflict have cleared the way
on_sooner : (r : Rules) (h : History) (w : ℕ → List Bool) (m g n : ℕ) → Begun r h m → IsAtRest r h → g < r.count →
    IsWishedGreen w (suc n) g → AreWishedRed r w (suc n) g → ((i : ℕ) → i < r.count → cleared_within r g i ≤ n + r.red_amber g) →
    is_on (at r h w m g (suc n)) ≡ true
unfolding onward
on_sooner r h w m g n begun rest lt green reds free = elim (cases_Bool (is_on (at r h w m g n))) [
  | inl on ↦ stays_on r h w m g n (suc n) begun lt (omega arith) (λ k lo hi. green k hi) on
  | inr off ↦ ap is_on (at_next r h w m n g begun) ∙ red_starts r (onward r h w n) (w n) g (making r (onward r h w n) (m + n) there) lt
      (green n (omega arith)) (ap (trace (onward r h w n) g) here ∙ red off n (omega arith)) (long off) (leaves off)
]
  where
    there : Begun r (onward r h w n) (m + n)
    there = onward-begun r h w m n begun

    here : last (onward r h w n) ≡ m + n
    here = last_is r (onward r h w n) (m + n) there

    off_all : is_on (at r h w m g n) ≡ false → (j : ℕ) → j ≤ n → is_on (trace (onward r h w n) g (m + j)) ≡ false
    off_all off j le = ap is_on (sym (at_trace r h w m j n g begun le)) ∙ elim (cases_Bool (is_on (at r h w m g j))) [
      | inl on ↦ absurd (on_and_off (at r h w m g n) (stays_on r h w m g j n begun lt le (λ k lo hi. green k (omega arith)) on) off)
      | inr is ↦ is
    ]

    first : is_on (at r h w m g n) ≡ false → trace (onward r h w n) g m ≡ Red
    first off = sym ((onward-agree r h w m 0 n g begun (omega arith)).at m (omega arith)) ∙ elim (rest.rests g lt) [
      | inl is ↦ ap (trace h g) (sym (last_is r h m begun)) ∙ is
      | inr is ↦ absurd (
          let same : m + 0 ≡ m = omega arith in
          let off' : is_on (trace (onward r h w n) g m) ≡ false = rw same at (off_all off 0 (omega arith)) in
          let before : is_on (trace h g m) ≡ false = ap is_on ((onward-agree r h w m 0 n g begun (omega arith)).at m (omega arith)) ∙ off' in
          let on : is_on (trace h g m) ≡ true = ap is_on (ap (trace h g) (sym (last_is r h m begun)) ∙ is) in
          on_and_off (trace h g m) on before)
    ]

    red : is_on (at r h w m g n) ≡ false → (j : ℕ) → j ≤ n → trace (onward r h w n) g (m + j) ≡ Red
    red off j le = red_while_off (r.red_amber g) (r.amber g) (trace (onward r h w n) g) m n j (sequence_of r (onward r h w n) (m + n) g there lt)
        (first off) (off_all off) le

    -- its last turn to red lies in the history at rest
    turned : is_on (at r h w m g n) ≡ false → (v : ℕ) → IsLast (turns_red_at (trace (onward r h w n) g)) (now (onward r h w n)) v → v ≤ m
    turned off zero last = omega arith
    turned off (suc v) last = elim (cases_lt m (suc v)) [
      | inr le ↦ le
      | inl late ↦ absurd (
          let place : m + (v - m) ≡ v = omega arith in
          let was = rw place at (red off (v - m) (omega (arith, last.below, here))) in
          not_red (trace (onward r h w n) g v) (and_parts _ _ last.here).0 was)
    ]

    long : is_on (at r h w m g n) ≡ false → is_red_short r (onward r h w n) g ≡ false
    long off = go (last_below (turns_red_at (trace (onward r h w n) g)) (now (onward r h w n))) refl
      where
        go : (o : Option ℕ) → last_below (turns_red_at (trace (onward r h w n) g)) (now (onward r h w n)) ≡ o →
            is_short (r.minimum_red g) o (now (onward r h w n)) ≡ false
        go None is = refl
        go (Some v) is =
            let found = last_below-some (turns_red_at (trace (onward r h w n) g)) (now (onward r h w n)) v is in
            let early = turned off v found in
            let before = turns_red_at-agree (suc (m + 0)) _ _ (onward-agree r h w m 0 n g begun (omega arith)) v (omega (arith, early)) ∙ found.here in
            let past = rest.red g v lt before (omega (arith, early, begun.len)) in
            le-ltb (now (onward r h w n)) (v + r.minimum_red g) (omega (arith, past, here, begun.len))

    leaves : is_on (at r h w m g n) ≡ false → (i z : ℕ) → i < r.count → r.between i g ≡ Some z → LeavesFree r (onward r h w n) (w n) g i z
    leaves off i z lt' pair = record {
      red = wished n (omega arith);
      off = ap is_on (sym (at_next r h w m n i begun)) ∙ off_from (suc n) (omega arith) (omega arith);
      far = λ b le ends. far b (omega (arith, le, here)) (rw (sym (onward-next r h w n)) at ends);
    }
      where
        wished : (k : ℕ) → k < suc n → slice_index_or (w k) i false ≡ false
        wished = reds i lt' (some_is _ z pair)

        off_from : (j : ℕ) → 1 ≤ j → j ≤ suc n → is_on (at r h w m i j) ≡ false
        off_from j lo hi = stays_off r h w m i 1 j begun lt' lo (λ k low high. wished k (omega arith))
            (off_next r h w m i begun rest lt' (wished 0 (omega arith)))

        cleared : z ≤ n + r.red_amber g
        cleared = (let bound = rw pair at (free i lt') in omega (arith, bound))

        far : (b : ℕ) → b ≤ suc (m + n) → ends_at (trace (onward r h w (suc n)) i) b ≡ true → b + z ≤ suc (last (onward r h w n)) + r.red_amber g
        far b le ends = elim (cases_lt m b) [
          | inr early ↦ (
              let before = ends_at-agree (suc (m + 0)) _ _ (onward-agree r h w m 0 (suc n) i begun (omega arith)) b (omega (arith, early)) ∙ ends in
              let past = rest.cleared i g z b (record { clearing_of_site = lt'; entering_of_site = lt; listed = pair }) before (omega (arith, early, begun.len)) in
              omega (arith, past, here, begun.len))
          | inl late ↦ late_end b late le ends
        ]
          where
            late_end : (b : ℕ) → m < b → b ≤ suc (m + n) → ends_at (trace (onward r h w (suc n)) i) b ≡ true →
                b + z ≤ suc (last (onward r h w n)) + r.red_amber g
            late_end zero late le ends = absurd (omega arith)
            late_end (suc b) late le ends = elim (cases_lt m b) [
              | inr first ↦ omega (arith, cleared, here)
              | inl later ↦ absurd (
                  let place : m + (b - m) ≡ b = omega arith in
                  let on : is_on (trace (onward r h w (suc n)) i b) ≡ true = green_on _ (ends_parts (trace (onward r h w (suc n)) i) b ends).0 in
                  let off' = ap is_on (sym (at_trace r h w m (b - m) (suc n) i begun (omega arith))) ∙ off_from (b - m) (omega arith) (omega arith) in
                  on_and_off (trace (onward r h w (suc n)) i b) on (rw place at off'))
            ]

pub shows_sooner_at_rest : ShowsSoonerAtRest
shows_sooner_at_rest r h w n site is safe rest apart le = (shown_all, none_refused r (onward r h (λ k. w) n) w shown_all)
  where
    begun : Begun r h (length h - 1)
    begun = begun_of r h site is safe

    bound : (g : ℕ) → g < r.count → turned_within r g < n
    bound g lt = (let most = greatest_least (turned_within r) r.count g lt in omega (arith, most, le))

    cleared : (g i : ℕ) → i < r.count → g < r.count → cleared_within r g i < n
    cleared g i lt' lt = (let most = greatest_least (cleared_within r g) r.count i lt' in omega (arith, most, bound g lt))

    shown_all : (g : ℕ) → g < r.count → shows_wish (shows (onward r h (λ k. w) n) g) (slice_index_or w g false) ≡ true
    shown_all g lt = ap (λ (x : Aspect). shows_wish x (slice_index_or w g false)) (last_of r h (λ k. w) g n is) ∙ go (slice_index_or w g false) refl
      where
        go : (b : Bool) → slice_index_or w g false ≡ b → shows_wish (at r h (λ k. w) (length h - 1) g n) b ≡ true
        go true wish = ap is_green (on_then_green r h (λ k. w) (length h - 1) g n begun lt (λ k hi. wish) (suc (n - suc (r.red_amber g))) (omega (arith, bound g lt))
            (on_sooner r h (λ k. w) (length h - 1) g (n - suc (r.red_amber g)) begun rest lt (λ k hi. wish)
            (λ i lt' pair k hi. false_from_ne_true (slice_index_or w i false) (λ both. apart i g lt' lt pair both wish))
            (λ i lt'. omega (arith, cleared g i lt' lt, bound g lt))))
        go false wish = ap is_red (off_then_red r h (λ k. w) (length h - 1) g n begun lt (λ k hi. wish) 1 (omega (arith, bound g lt))
            (off_next r h (λ k. w) (length h - 1) g begun rest lt wish))
