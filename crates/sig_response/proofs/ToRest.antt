-- Where the same is wished long enough nothing holds a turn back any more.
use Rattle.std.proofs.Common.{◌≡◌, ◌⊎◌, ℕ, zero, suc, ◌+◌, ◌-◌, ◌<◌, ◌≤◌, Bool, true, false, not, ◌&&◌, Option, unwrap_or, arith, sym, inl, inr, ap, ◌∙◌, length, slice_index_or}
use Rattle.std.proofs.lemmas.Bool.{cases_lt}
use Rattle.sig_types.specs.declared.aspect.Aspect.{Aspect}
use Rattle.sig_types.specs.declared.aspect.Aspect.TheVariants.{Red, Green}
use Rattle.sig_types.specs.Turns.{trace, is_red, is_green, turns_green_at, turns_red_at, ends_at}
use Rattle.sig_guard.specs.Steady.{shows_wish}
use Rattle.sig_guard.proofs.SequenceKept.{red_is, green_is}
use Rattle.sig_response.specs.Bounds.{greatest, intergreen, shown_within}
use Rattle.sig_response.specs.Onward.{onward}
use Rattle.sig_response.specs.Rest.{held_within, ComesToRest}
use Rattle.sig_response.proofs.Greatest.{greatest_least}
use Rattle.sig_response.proofs.Onwards.{Begun, onward-begun, at_second}
use Rattle.sig_response.proofs.Whole.{begun_of, last_of, shows_what_is_wished}

rests_of : (x : Aspect) (green : Bool) → shows_wish x green ≡ true → (x ≡ Red) ⊎ (x ≡ Green)
rests_of x true h = inr (green_is x h)
rests_of x false h = inl (red_is x h)

-- two aspects that show the same wish
one_aspect : (x y : Aspect) (green : Bool) → shows_wish x green ≡ true → shows_wish y green ≡ true → x ≡ y
one_aspect x y true h i = green_is x h ∙ sym (green_is y i)
one_aspect x y false h i = red_is x h ∙ sym (red_is y i)

not_and : (b : Bool) → (not b && b) ≡ true → ⊥
not_and true h = cc
not_and false h = cc

and_not : (b : Bool) → (b && not b) ≡ true → ⊥
and_not true h = cc
and_not false h = cc

pub comes_to_rest : ComesToRest
comes_to_rest r h w n site is safe apart le = record {
  rests = λ g lt. rests_of _ _ ((shows_what_is_wished r h w n site is safe apart (omega arith)).0 g lt);
  green = λ g begin lt turns inside. (
      let early = turned_green g begin lt inside turns in
      omega (arith, early, held g lt, now.len, le));
  red = λ g begin lt turns inside. (
      let early = turned_red g begin lt inside turns in
      omega (arith, early, held g lt, now.len, le));
  cleared = λ i g z end pair ends inside. (
      let early = ended i end pair.clearing_of_site inside ends in
      let is_z : intergreen r i g ≡ z = ap (λ (o : Option ℕ). unwrap_or o 0) pair.listed in
      let most = greatest_least (intergreen r i) r.count g pair.entering_of_site in
      omega (arith, early, is_z, most, held i pair.clearing_of_site, now.len, le));
}
  where
    begun : Begun r h (length h - 1)
    begun = begun_of r h site is safe

    now : Begun r (onward r h (λ k. w) n) (length h - 1 + n)
    now = onward-begun r h (λ k. w) (length h - 1) n begun

    held : (g : ℕ) → g < r.count → held_within r g ≤ greatest (held_within r) r.count
    held g lt = greatest_least (held_within r) r.count g lt

    still : (g t : ℕ) → g < r.count → length h - 1 + shown_within r ≤ t → t ≤ length h - 1 + n →
        shows_wish (trace (onward r h (λ k. w) n) g t) (slice_index_or w g false) ≡ true
    still g t lt lo hi =
        ap (λ (x : Aspect). shows_wish x (slice_index_or w g false))
        (sym (at_second r h (λ k. w) (length h - 1) n t g begun (omega arith) hi) ∙ sym (last_of r h (λ k. w) g (t - (length h - 1)) is))
        ∙ (shows_what_is_wished r h w (t - (length h - 1)) site is safe apart (omega arith)).0 g lt

    same_next : (g v : ℕ) → g < r.count → length h - 1 + shown_within r < suc v → suc v < length (onward r h (λ k. w) n) →
        trace (onward r h (λ k. w) n) g v ≡ trace (onward r h (λ k. w) n) g (suc v)
    same_next g v lt late inside =
        one_aspect _ _ (slice_index_or w g false) (still g v lt (omega arith) (omega (arith, inside, now.len)))
        (still g (suc v) lt (omega arith) (omega (arith, inside, now.len)))

    turned_green : (g v : ℕ) → g < r.count → v < length (onward r h (λ k. w) n) → turns_green_at (trace (onward r h (λ k. w) n) g) v ≡ true →
        v ≤ length h - 1 + shown_within r
    turned_green g zero lt inside turns = omega arith
    turned_green g (suc v) lt inside turns = elim (cases_lt (length h - 1 + shown_within r) (suc v)) [
      | inr early ↦ early
      | inl late ↦ absurd (not_and (is_green (trace (onward r h (λ k. w) n) g (suc v))) (rw (same_next g v lt late inside) at turns))
    ]

    turned_red : (g v : ℕ) → g < r.count → v < length (onward r h (λ k. w) n) → turns_red_at (trace (onward r h (λ k. w) n) g) v ≡ true →
        v ≤ length h - 1 + shown_within r
    turned_red g zero lt inside turns = omega arith
    turned_red g (suc v) lt inside turns = elim (cases_lt (length h - 1 + shown_within r) (suc v)) [
      | inr early ↦ early
      | inl late ↦ absurd (not_and (is_red (trace (onward r h (λ k. w) n) g (suc v))) (rw (same_next g v lt late inside) at turns))
    ]

    ended : (g v : ℕ) → g < r.count → v < length (onward r h (λ k. w) n) → ends_at (trace (onward r h (λ k. w) n) g) v ≡ true →
        v ≤ length h - 1 + shown_within r
    ended g zero lt inside ends = omega arith
    ended g (suc v) lt inside ends = elim (cases_lt (length h - 1 + shown_within r) (suc v)) [
      | inr early ↦ early
      | inl late ↦ absurd (and_not (is_green (trace (onward r h (λ k. w) n) g (suc v))) (rw (same_next g v lt late inside) at ends))
    ]
