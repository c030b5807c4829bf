-- One sight more is listed.
use Rattle.std.proofs.Common.{◌≡◌, ◌≤◌, length, ◌∙◌, ℕ, zero, suc, ℤ, Bool, true, false, if◌then◌else◌, List, [], None, ◌∷◌, ◌++◌, refl, sym, ap, take, append_assoc}
use Rattle.std.proofs.lemmas.List.{append-nil, take-append-le, take_all}
use Rattle.std.specs.Prelude.{pos, slice_get, slice_index_or}
use Rattle.vap_code.specs.Sights.{Sight}
use Rattle.trace_watch.specs.declared.event.Event.{Event}
use Rattle.trace_watch.specs.declared.event.Event.TheVariants.{Gives}
use Rattle.trace_watch.specs.declared.listing.Listing.{Listing}
use Rattle.trace_watch.specs.Events.{Behind, at_first, behind, event_of, events_at, events_from, events_of, goes_back, is_taking, number_at, value_behind}
use Rattle.trace_watch.specs.Listed.{HasListed, last_behind}

-- what is put behind a front is put behind the whole
pub take-take : {A : Type 0} (n : ℕ) (xs ys : List A) → take n (take n xs ++ ys) ≡ take n (xs ++ ys)
take-take zero xs ys = refl
take-take (suc n) [] ys = refl
take-take (suc n) (x ∷ xs) ys = ap (λ l. x ∷ l) (take-take n xs ys)

events-more : (before : Behind) (past : List Sight) (s : Sight) →
    events_from before (past ++ s ∷ []) ≡ events_from before past ++ events_at (last_behind before past) s
events-more before [] s = append-nil (events_at before s)
events-more before (t ∷ past) s =
    ap (λ es. events_at before t ++ es) (events-more (behind t) past s)
    ∙ sym (append_assoc (events_at before t) (events_from (behind t) past) (events_at (last_behind (behind t) past) s))

behind-more : (before : Behind) (past : List Sight) (s : Sight) → last_behind before (past ++ s ∷ []) ≡ behind s
behind-more before [] s = refl
behind-more before (t ∷ past) s = behind-more (behind t) past s

-- two pieces behind the events so far
two_more : (n : ℕ) (whole kept xs ys first second : List Event) → kept ≡ take n whole → first ≡ take n (kept ++ xs) → second ≡ take n (first ++ ys) →
    second ≡ take n (whole ++ (xs ++ ys))
two_more n whole kept xs ys first second k f s =
    s ∙ ap (λ es. take n (es ++ ys)) f ∙ take-take n (kept ++ xs) ys
    ∙ ap (λ es. take n ((es ++ xs) ++ ys)) k
    ∙ ap (take n) (append_assoc (take n whole) xs ys)
    ∙ take-take n whole (xs ++ ys)

-- there is room
pub with_room : (xs ys : List Event) → length (xs ++ ys) ≤ 1000000 → take 1000000 (xs ++ ys) ≡ xs ++ ys
with_room xs ys few = take_all 1000000 (xs ++ ys) few

-- there is none
pub without_room : (xs ys : List Event) → 1000000 ≤ length xs → length xs ≤ 1000000 → take 1000000 (xs ++ ys) ≡ xs
without_room xs ys full few = take-append-le 1000000 xs ys full ∙ take_all 1000000 xs few

-- nothing is put
pub none_more : (xs : List Event) → length xs ≤ 1000000 → take 1000000 (xs ++ []) ≡ xs
none_more xs few = ap (take 1000000) (append-nil xs) ∙ take_all 1000000 xs few

-- no number is there
pub none_there : (xs : List ℤ) (n : ℕ) → slice_get xs n ≡ None → slice_index_or xs n (pos 0) ≡ pos 0
none_there [] n is = refl
none_there (x ∷ xs) zero is = absurd (let no : ⊥ = cc in no)
none_there (x ∷ xs) (suc n) is = none_there xs n is

-- one sight more
pub listed : (old new : Listing) (past : List Sight) (s : Sight) (first : List Event) → HasListed old past →
    first ≡ take 1000000 (old.events ++ value_behind old.taking s.state) → new.events ≡ take 1000000 (first ++ event_of old.back s.instr s.state) →
    new.taking ≡ is_taking s.instr → new.back ≡ goes_back s.instr s.state.noted → HasListed new (past ++ s ∷ [])
listed old new past s first h value event taking back = record {
  events =
      two_more 1000000 (events_of past) old.events (value_behind old.taking s.state) (event_of old.back s.instr s.state) first new.events h.events value event
      ∙ (λ j. take 1000000 (events_of past ++ (value_behind (h.taking j) s.state ++ event_of (h.back j) s.instr s.state)))
      ∙ ap (take 1000000) (sym (events-more at_first past s));
  taking = taking ∙ ap (λ (b : Behind). b.taking) (sym (behind-more at_first past s));
  back = back ∙ ap (λ (b : Behind). b.back) (sym (behind-more at_first past s));
}
