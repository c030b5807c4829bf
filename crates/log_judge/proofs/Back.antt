-- A past of one group that fits its beginning.
use Rattle.std.proofs.Common.{◌≡◌, ℕ, suc, ◌+◌, ◌-◌, ◌<◌, ◌≤◌, max, true, false, refl, arith, sym, inl, inr, ◌∙◌, subst, nat_lt, if◌then◌else◌}
use Rattle.std.proofs.lemmas.Bool.{cases_lt, le-ltb, lt-ltb}
use Rattle.sig_types.specs.declared.aspect.Aspect.{Aspect}
use Rattle.sig_types.specs.declared.aspect.Aspect.TheVariants.{Red, RedAmber, Green, Amber}
use Rattle.sig_types.specs.Turns.{is_on}
use Rattle.log_judge.specs.Past.{since}
use Rattle.log_judge.specs.Breaches.{can_follow}
use Rattle.log_judge.proofs.Runs.{IsSince, since_is, since_at}

-- Of the seconds up to second 0, counted back from it: the group is amber in those below the first number, green in those below the
-- second, red-amber in those below the third, and red in all before.
pub record Back : Type 0 where
  pub amber : ℕ
  pub green : ℕ
  pub red_amber : ℕ

abbrev pub aspect_back : Back → ℕ → Aspect
aspect_back x b = if nat_lt b x.amber then Amber else (if nat_lt b x.green then Green else (if nat_lt b x.red_amber then RedAmber else Red))

-- where it is amber it was green for its least time, and where it was green it was red-amber for its time
pub record IsBack (ra mg : ℕ) (x : Back) : Type 0 where
  pub amber_le : x.amber ≤ x.green
  pub green_le : x.green ≤ x.red_amber
  pub full_green : 1 ≤ x.amber → x.green ≡ x.amber + max mg 1
  pub full_red_amber : 1 ≤ x.green → x.red_amber ≡ x.green + ra

pub data Phase (x : Back) (b : ℕ) (w : Aspect) : Type 0 where
  in_amber : b < x.amber → w ≡ Amber → Phase x b w
  in_green : x.amber ≤ b → b < x.green → w ≡ Green → Phase x b w
  in_red_amber : x.green ≤ b → b < x.red_amber → w ≡ RedAmber → Phase x b w
  in_red : x.red_amber ≤ b → w ≡ Red → Phase x b w

pub back_amber : (x : Back) (b : ℕ) → b < x.amber → aspect_back x b ≡ Amber
back_amber x b lt = rw (lt-ltb b x.amber lt) refl

pub back_green : (x : Back) (b : ℕ) → x.amber ≤ b → b < x.green → aspect_back x b ≡ Green
back_green x b ge lt = rw (le-ltb b x.amber ge, lt-ltb b x.green lt) refl

pub back_red_amber : (x : Back) (b : ℕ) → x.amber ≤ b → x.green ≤ b → b < x.red_amber → aspect_back x b ≡ RedAmber
back_red_amber x b ge ge' lt = rw (le-ltb b x.amber ge, le-ltb b x.green ge', lt-ltb b x.red_amber lt) refl

pub back_red : (x : Back) (b : ℕ) → x.amber ≤ b → x.green ≤ b → x.red_amber ≤ b → aspect_back x b ≡ Red
back_red x b ge ge' ge'' = rw (le-ltb b x.amber ge, le-ltb b x.green ge', le-ltb b x.red_amber ge'') refl

pub phase : (ra mg : ℕ) (x : Back) (b : ℕ) → IsBack ra mg x → Phase x b (aspect_back x b)
phase ra mg x b is = elim (cases_lt b x.amber) [
  | inl lt ↦ in_amber lt (back_amber x b lt)
  | inr ge ↦ elim (cases_lt b x.green) [
    | inl lt ↦ in_green ge lt (back_green x b ge lt)
    | inr ge' ↦ elim (cases_lt b x.red_amber) [
      | inl lt ↦ in_red_amber ge' lt (back_red_amber x b ge ge' lt)
      | inr ge'' ↦ in_red ge'' (back_red x b ge ge' ge'')
    ]
  ]
]

-- what stands before each
pub above_amber : (x : Back) → aspect_back x x.amber ≡ Amber → ⊥
above_amber x same = elim (cases_lt x.amber x.green) [
  | inl lt ↦ (let bad : Green ≡ Amber = sym (back_green x x.amber (omega arith) lt) ∙ same in cc)
  | inr ge ↦ elim (cases_lt x.amber x.red_amber) [
    | inl lt ↦ (let bad : RedAmber ≡ Amber = sym (back_red_amber x x.amber (omega arith) ge lt) ∙ same in cc)
    | inr ge' ↦ (let bad : Red ≡ Amber = sym (back_red x x.amber (omega arith) ge ge') ∙ same in cc)
  ]
]

pub above_green : (x : Back) → x.amber ≤ x.green → aspect_back x x.green ≡ Green → ⊥
above_green x le same = elim (cases_lt x.green x.red_amber) [
  | inl lt ↦ (let bad : RedAmber ≡ Green = sym (back_red_amber x x.green le (omega arith) lt) ∙ same in cc)
  | inr ge ↦ (let bad : Red ≡ Green = sym (back_red x x.green le (omega arith) ge) ∙ same in cc)
]

pub above_red_amber : (x : Back) → x.amber ≤ x.red_amber → x.green ≤ x.red_amber → aspect_back x x.red_amber ≡ RedAmber → ⊥
above_red_amber x le le' same = (let bad : Red ≡ RedAmber = sym (back_red x x.red_amber le le' (omega arith)) ∙ same in cc)

-- one second on, from suc c before second 0 to c before it
pub data Move (ra : ℕ) (x : Back) (c : ℕ) (w w' : Aspect) : Type 0 where
  goes_on : w ≡ w' → Move ra x c w w'
  starts : suc c ≡ x.red_amber → w ≡ Red → w' ≡ RedAmber → Move ra x c w w'
  starts_green : suc c ≡ x.red_amber → suc c ≡ x.green → ra ≡ 0 → w ≡ Red → w' ≡ Green → Move ra x c w w'
  turns_green : suc c ≡ x.green → w ≡ RedAmber → w' ≡ Green → Move ra x c w w'
  ends : suc c ≡ x.amber → w ≡ Green → w' ≡ Amber → Move ra x c w w'

-- amber comes of green
no_skip : (ra mg : ℕ) (x : Back) (c : ℕ) → IsBack ra mg x → c < x.amber → x.green ≤ suc c → ⊥
no_skip ra mg x c is lt ge =
    let full = is.full_green (omega (arith, lt)) in
    omega (arith, lt, ge, full)

pub move_of : (ra mg : ℕ) (x : Back) (c : ℕ) (w w' : Aspect) → IsBack ra mg x → Phase x (suc c) w → Phase x c w' → Move ra x c w w'
move_of ra mg x c w w' is (in_amber lt e) (in_amber lt' e') = goes_on (e ∙ sym e')
move_of ra mg x c w w' is (in_amber lt e) (in_green ge lt' e') = absurd (omega (arith, lt, ge))
move_of ra mg x c w w' is (in_amber lt e) (in_red_amber ge lt' e') = absurd (omega (arith, lt, ge, is.amber_le))
move_of ra mg x c w w' is (in_amber lt e) (in_red ge e') = absurd (omega (arith, lt, ge, is.amber_le, is.green_le))
move_of ra mg x c w w' is (in_green ge lt e) (in_amber lt' e') = ends (omega (arith, ge, lt')) e e'
move_of ra mg x c w w' is (in_green ge lt e) (in_green ge' lt' e') = goes_on (e ∙ sym e')
move_of ra mg x c w w' is (in_green ge lt e) (in_red_amber ge' lt' e') = absurd (omega (arith, lt, ge'))
move_of ra mg x c w w' is (in_green ge lt e) (in_red ge' e') = absurd (omega (arith, lt, ge', is.green_le))
move_of ra mg x c w w' is (in_red_amber ge lt e) (in_amber lt' e') = absurd (no_skip ra mg x c is lt' ge)
move_of ra mg x c w w' is (in_red_amber ge lt e) (in_green ge' lt' e') = turns_green (omega (arith, ge, lt')) e e'
move_of ra mg x c w w' is (in_red_amber ge lt e) (in_red_amber ge' lt' e') = goes_on (e ∙ sym e')
move_of ra mg x c w w' is (in_red_amber ge lt e) (in_red ge' e') = absurd (omega (arith, lt, ge'))
move_of ra mg x c w w' is (in_red ge e) (in_amber lt' e') = absurd (no_skip ra mg x c is lt' (let le = is.green_le in omega (arith, ge, le)))
move_of ra mg x c w w' is (in_red ge e) (in_green ge' lt' e') =
    let full = is.full_red_amber (omega (arith, lt')) in
    starts_green (omega (arith, ge, lt', is.green_le)) (omega (arith, ge, lt', is.green_le)) (omega (arith, ge, lt', full)) e e'
move_of ra mg x c w w' is (in_red ge e) (in_red_amber ge' lt' e') = starts (omega (arith, ge, lt')) e e'
move_of ra mg x c w w' is (in_red ge e) (in_red ge' e') = goes_on (e ∙ sym e')

-- The trace of the whole is that past in seconds 0 to `first`, and the trace a from there on.
pub record Joined (x : Back) (first m : ℕ) (a whole : ℕ → Aspect) : Type 0 where
  pub before : (t b : ℕ) → t + b ≡ first → whole t ≡ aspect_back x b
  pub behind : (t j : ℕ) → t ≡ first + j → j ≤ m → whole t ≡ a j

-- since when it shows in the past what it shows for hi - lo seconds
pub since_phase : (x : Back) (first m lo hi t b : ℕ) (a whole : ℕ → Aspect) (w : Aspect) → Joined x first m a whole →
    ((c : ℕ) → lo ≤ c → c < hi → aspect_back x c ≡ w) → (aspect_back x hi ≡ w → ⊥) → hi ≤ first → lo ≤ b → b < hi → t + b ≡ first →
    since whole t + hi ≡ first + 1
since_phase x first m lo hi t b a whole w joined shows other fits ge lt sum =
    let here : whole t ≡ w = joined.before t b sum ∙ shows b ge lt in
    let is : since whole t ≡ first + 1 - hi = since_at whole t (first + 1 - hi) (record {
      at_most = omega (arith, fits, lt, sum);
      stays = λ u le le'. joined.before u (first - u) (omega (arith, le', sum)) ∙ shows (first - u) (omega (arith, ge, sum, le')) (omega (arith, le, fits, lt)) ∙ sym here;
      began = λ u at same. other (sym (joined.before u hi (omega (arith, at, fits))) ∙ same ∙ here);
    }) in
    omega (arith, is, fits)

pub since_red : (x : Back) (first m t b : ℕ) (a whole : ℕ → Aspect) → Joined x first m a whole → x.amber ≤ x.red_amber → x.green ≤ x.red_amber →
    x.red_amber ≤ b → t + b ≡ first → since whole t ≡ 0
since_red x first m t b a whole joined le le' ge sum =
    since_at whole t 0 (record {
      at_most = omega arith;
      stays = λ u lo hi. red u (omega (arith, hi)) ∙ sym (red t (omega arith));
      began = λ u at same. absurd (omega (arith, at));
    })
  where
    red : (u : ℕ) → u ≤ t → whole u ≡ Red
    red u hi = joined.before u (first - u) (omega (arith, hi, sum))
        ∙ back_red x (first - u) (omega (arith, le, ge, sum, hi)) (omega (arith, le', ge, sum, hi)) (omega (arith, ge, sum, hi))

-- since when in the trace a
pub since_later : (x : Back) (first m j : ℕ) (a whole : ℕ → Aspect) → Joined x first m a whole → j ≤ m → 1 ≤ since a j →
    since whole (first + j) ≡ first + since a j
since_later x first m j a whole joined le some =
    let run : IsSince a j (since a j) = since_is a j in
    since_at whole (first + j) (first + since a j) (record {
      at_most = omega (arith, run.at_most);
      stays = λ u lo hi. joined.behind u (u - first) (omega (arith, lo)) (omega (arith, hi, le)) ∙ run.stays (u - first) (omega (arith, lo)) (omega (arith, hi, lo))
          ∙ sym (joined.behind (first + j) j refl le);
      began = λ u at same. run.began (since a j - 1) (omega (arith, some))
          (sym (joined.behind u (since a j - 1) (omega (arith, at, some)) (omega (arith, run.at_most, le))) ∙ same ∙ joined.behind (first + j) j refl le);
    })

pub since_first : (x : Back) (first m j : ℕ) (a whole : ℕ → Aspect) → Joined x first m a whole → j ≤ m → since a j ≡ 0 →
    since whole (first + j) ≡ since whole first
since_first x first m j a whole joined le none =
    let run : IsSince a j (since a j) = since_is a j in
    let own : IsSince whole first (since whole first) = since_is whole first in
    let zero_second : first ≡ first + 0 = omega arith in
    let same : whole first ≡ whole (first + j) =
    joined.behind first 0 zero_second (omega arith) ∙ run.stays 0 (omega (arith, none)) (omega arith) ∙ sym (joined.behind (first + j) j refl le) in
    since_at whole (first + j) (since whole first) (record {
      at_most = omega (arith, own.at_most);
      stays = λ u lo hi. elim (cases_lt first u) [
        | inr past ↦ own.stays u lo past ∙ same
        | inl later ↦ joined.behind u (u - first) (omega (arith, later)) (omega (arith, hi, le))
            ∙ run.stays (u - first) (omega (arith, none)) (omega (arith, hi, later)) ∙ sym (joined.behind (first + j) j refl le)
      ];
      began = λ u at is. own.began u at (is ∙ sym same);
    })

-- Of group's trace in the second after t: what its tests ask for.
pub record Keeps (ra am mg mr : ℕ) (a : ℕ → Aspect) (t : ℕ) : Type 0 where
  pub step : can_follow (a t) (a (suc t)) ≡ true
  pub red_amber : a t ≡ RedAmber → (a (suc t) ≡ RedAmber → ⊥) → since a t + ra ≡ suc t
  pub no_red_amber : a t ≡ Red → a (suc t) ≡ Green → ra ≡ 0
  pub amber : a t ≡ Amber → (a (suc t) ≡ Amber → ⊥) → since a t + am ≡ suc t
  pub no_amber : a t ≡ Green → a (suc t) ≡ Red → am ≡ 0
  pub green : a t ≡ Green → (a (suc t) ≡ Green → ⊥) → since a t + mg ≤ suc t
  pub red : a t ≡ Red → is_on (a (suc t)) ≡ true → since a t + mr ≤ suc t

follows_self : (w w' : Aspect) → w ≡ w' → can_follow w w' ≡ true
follows_self Red w' e = rw (sym e) refl
follows_self RedAmber w' e = rw (sym e) refl
follows_self Green w' e = rw (sym e) refl
follows_self Amber w' e = rw (sym e) refl

not_on : (w w' : Aspect) → w ≡ Red → w ≡ w' → is_on w' ≡ true → ⊥
not_on w w' e same on = (let bad : false ≡ true = rw (sym same, e) at on in cc)

-- the past keeps them
pub keeps_before : (ra am mg mr : ℕ) (x : Back) (first m t c : ℕ) (a whole : ℕ → Aspect) → IsBack ra mg x → Joined x first m a whole →
    x.red_amber + mr ≤ first → t + suc c ≡ first → Keeps ra am mg mr whole t
keeps_before ra am mg mr x first m t c a whole is joined long sum =
    go (whole t) (whole (suc t)) refl refl (subst (λ (w : Aspect). Move ra x c w (whole (suc t))) (sym was)
    (subst (λ (w : Aspect). Move ra x c (aspect_back x (suc c)) w) (sym now)
    (move_of ra mg x c (aspect_back x (suc c)) (aspect_back x c) is (phase ra mg x (suc c) is) (phase ra mg x c is))))
  where
    was : whole t ≡ aspect_back x (suc c)
    was = joined.before t (suc c) sum

    now : whole (suc t) ≡ aspect_back x c
    now = joined.before (suc t) c (omega (arith, sum))

    go : (w w' : Aspect) → whole t ≡ w → whole (suc t) ≡ w' → Move ra x c w w' → Keeps ra am mg mr whole t
    go w w' e e' (goes_on same) = record {
      step = rw (e, e') (follows_self w w' same);
      red_amber = λ shows over. absurd (over (e' ∙ sym same ∙ sym e ∙ shows));
      no_red_amber = λ shows next. absurd (let bad : Red ≡ Green = sym shows ∙ e ∙ same ∙ sym e' ∙ next in cc);
      amber = λ shows over. absurd (over (e' ∙ sym same ∙ sym e ∙ shows));
      no_amber = λ shows next. absurd (let bad : Green ≡ Red = sym shows ∙ e ∙ same ∙ sym e' ∙ next in cc);
      green = λ shows over. absurd (over (e' ∙ sym same ∙ sym e ∙ shows));
      red = λ shows on. absurd (not_on (whole t) (whole (suc t)) shows (e ∙ same ∙ sym e') on);
    }
    go w w' e e' (starts at f f') = record {
      step = rw (e ∙ f, e' ∙ f') refl;
      red_amber = λ shows over. absurd (let bad : Red ≡ RedAmber = sym (e ∙ f) ∙ shows in cc);
      no_red_amber = λ shows next. absurd (let bad : RedAmber ≡ Green = sym (e' ∙ f') ∙ next in cc);
      amber = λ shows over. absurd (let bad : Red ≡ Amber = sym (e ∙ f) ∙ shows in cc);
      no_amber = λ shows next. absurd (let bad : Red ≡ Green = sym (e ∙ f) ∙ shows in cc);
      green = λ shows over. absurd (let bad : Red ≡ Green = sym (e ∙ f) ∙ shows in cc);
      red = λ shows on. (
          let none = since_red x first m t (suc c) a whole joined (omega (arith, is.amber_le, is.green_le)) is.green_le (omega (arith, at)) sum in
          omega (arith, none, at, sum, long));
    }
    go w w' e e' (starts_green at at' zero_time f f') = record {
      step = rw (e ∙ f, e' ∙ f') refl;
      red_amber = λ shows over. absurd (let bad : Red ≡ RedAmber = sym (e ∙ f) ∙ shows in cc);
      no_red_amber = λ shows next. zero_time;
      amber = λ shows over. absurd (let bad : Red ≡ Amber = sym (e ∙ f) ∙ shows in cc);
      no_amber = λ shows next. absurd (let bad : Red ≡ Green = sym (e ∙ f) ∙ shows in cc);
      green = λ shows over. absurd (let bad : Red ≡ Green = sym (e ∙ f) ∙ shows in cc);
      red = λ shows on. (
          let none = since_red x first m t (suc c) a whole joined (omega (arith, is.amber_le, is.green_le)) is.green_le (omega (arith, at)) sum in
          omega (arith, none, at, sum, long));
    }
    go w w' e e' (turns_green at f f') = record {
      step = rw (e ∙ f, e' ∙ f') refl;
      red_amber = λ shows over. (
          let full = is.full_red_amber (omega (arith, at)) in
          let inside : suc c < x.red_amber = elim (cases_lt (suc c) x.red_amber) [
            | inl lt ↦ lt
            | inr ge ↦ absurd (let bad : Red ≡ RedAmber = sym (back_red x (suc c) (omega (arith, is.amber_le, is.green_le, ge)) (omega (arith, is.green_le, ge)) ge)
                ∙ sym was ∙ shows in cc)
          ] in
          let began = since_phase x first m x.green x.red_amber t (suc c) a whole RedAmber joined
          (λ d ge lt. back_red_amber x d (omega (arith, is.amber_le, ge)) ge lt)
          (above_red_amber x (omega (arith, is.amber_le, is.green_le)) is.green_le)
          (omega (arith, long)) (omega (arith, at)) inside sum in
          omega (arith, began, full, at, sum));
      no_red_amber = λ shows next. absurd (let bad : RedAmber ≡ Red = sym (e ∙ f) ∙ shows in cc);
      amber = λ shows over. absurd (let bad : RedAmber ≡ Amber = sym (e ∙ f) ∙ shows in cc);
      no_amber = λ shows next. absurd (let bad : RedAmber ≡ Green = sym (e ∙ f) ∙ shows in cc);
      green = λ shows over. absurd (let bad : RedAmber ≡ Green = sym (e ∙ f) ∙ shows in cc);
      red = λ shows on. absurd (let bad : RedAmber ≡ Red = sym (e ∙ f) ∙ shows in cc);
    }
    go w w' e e' (ends at f f') = record {
      step = rw (e ∙ f, e' ∙ f') refl;
      red_amber = λ shows over. absurd (let bad : Green ≡ RedAmber = sym (e ∙ f) ∙ shows in cc);
      no_red_amber = λ shows next. absurd (let bad : Green ≡ Red = sym (e ∙ f) ∙ shows in cc);
      amber = λ shows over. absurd (let bad : Green ≡ Amber = sym (e ∙ f) ∙ shows in cc);
      no_amber = λ shows next. absurd (let bad : Amber ≡ Red = sym (e' ∙ f') ∙ next in cc);
      green = λ shows over. (
          let full = is.full_green (omega (arith, at)) in
          let began = since_phase x first m x.amber x.green t (suc c) a whole Green joined
          (λ d ge lt. back_green x d ge lt)
          (above_green x is.amber_le)
          (omega (arith, long, is.green_le)) (omega (arith, at)) (omega (arith, full, at)) sum in
          omega (arith, began, full, at, sum));
      red = λ shows on. absurd (let bad : Green ≡ Red = sym (e ∙ f) ∙ shows in cc);
    }
