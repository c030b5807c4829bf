-- What is told of the turns that the guard refuses.
use Rattle.std.proofs.Common.{◌≡◌, ◌∙◌, ℕ, zero, suc, ◌+◌, ◌-◌, ◌<◌, ◌≤◌, true, false, Option, List, [], ◌∷◌, ◌++◌, All, length, length-append, get_or, refl, arith, sym, ap, subst}
use Rattle.std.proofs.lemmas.List.Elements.{All-nil, All-cons, All-head, All-tail}
use Rattle.sig_types.specs.declared.refused.TurnRefusal.{TurnRefusal}
use Rattle.sig_types.specs.Recorded.{IsTurn}
use Rattle.sig_types.specs.Rules.{Rules}
use Rattle.sig_types.specs.Turns.{Picture, History, shown, trace}
use Rattle.sig_guard.specs.Safety.{IsHistory}
use Rattle.sig_guard.specs.Step.{last_picture, guard_picture, guard_refused}
use Rattle.sig_guard.proofs.FewRefusals.{refusals_name_groups}
use Rattle.sig_guard.proofs.Pictures.{trace-append_old, trace-append_new}
use Rattle.log_judge.specs.declared.past.GroupPast.{GroupPast}
use Rattle.log_judge.specs.declared.why.Finding.TheVariants.{Borne}
use Rattle.log_judge.specs.Past.{last_end}
use Rattle.log_judge.specs.Found.{past_at, last_end_with}
use Rattle.log_judge.specs.Stands.{past_of}
use Rattle.log_judge.specs.Earliest.{lacking}
use Rattle.log_judge.specs.Explained.{ended_now, finding_now, lacks_now, most_lacking}
use Rattle.log_judge.specs.Laws.{at_rest, IsKept, IsKeptOf, RefusalsAreExplained, AnyPastSaysTheSame, FreeIsFreeFrom}
use Rattle.log_judge.specs.declared.find.Terms.{Terms}
use Rattle.sig_types.specs.declared.aspect.Aspect.TheVariants.{Red}
use Rattle.std.proofs.lemmas.List.{get_or-append-add}
use Rattle.log_judge.specs.Refused.{IsBorneOut}
use Rattle.log_judge.proofs.Borne.{refusals_are_borne_out}
use Rattle.log_judge.proofs.Keeping.{last_end-agree}
use Rattle.log_judge.proofs.Told.{Knows, Tells, told}

-- what holds of each where two things do
both_all : (P Q S : TurnRefusal → Type 0) (turns : List TurnRefusal) → ((turn : TurnRefusal) → P turn → Q turn → S turn) → All P turns → All Q turns → All S turns
both_all P Q S [] f p q = All-nil S
both_all P Q S (x ∷ xs) f p q = All-cons S x xs (f x (All-head P x xs p) (All-head Q x xs q)) (both_all P Q S xs f (All-tail P x xs p) (All-tail Q x xs q))

from_zero : (t : ℕ) → t ≡ 0 + t
from_zero t = omega arith

-- a judge that has seen the whole history knows it
knows : (r : Rules) (h : History) (pasts : List GroupPast) → IsHistory r.count h → IsKept r h pasts → Knows r at_rest h h 0 (length h - 1) (last_picture h) pasts
knows r h pasts is kept = record {
  end = record {
    long = omega (arith, is.begun);
    part = record {
      shows = λ g t lt. ap (trace h g) (from_zero t);
      fits = omega arith;
      whole = λ rested. refl;
    };
    end = omega (arith, is.begun);
  };
  history = is;
  was = λ g. refl;
  pasts_are = kept;
}

-- a judge that has seen a part of it knows that
knows_part : (r : Rules) (k : Terms) (h front : History) (pasts : List GroupPast) → k.rested ≡ false → IsHistory r.count (front ++ h) → 1 ≤ length h →
    IsKeptOf r k h pasts → Knows r k h (front ++ h) (length front) (length h - 1) (last_picture h) pasts
knows_part r k h front pasts unrested is some kept =
    let both = length-append front h in
    record {
      end = record {
        long = omega (arith, some);
        part = record {
          shows = λ g t lt. ap (λ (q : Picture). get_or q g Red) (sym (get_or-append-add front h t []));
          fits = omega (arith, both);
          whole = λ rested. absurd (let bad : true ≡ false = sym rested ∙ unrested in cc);
        };
        end = omega (arith, both, some);
      };
      history = is;
      was = λ g. refl;
      pasts_are = kept;
    }

pub any_past_says_the_same : AnyPastSaysTheSame
any_past_says_the_same r h front p turn pasts tolerance is some kept named =
    let k : Terms = record { rested = false; tolerance = tolerance } in
    let tells : Tells false (finding_now r (record { rested = false; tolerance = tolerance }) (length h) (last_picture h) pasts p turn) (IsBorneOut r (front ++ h) p turn) =
    subst (λ (t : ℕ). Tells false (finding_now r (record { rested = false; tolerance = tolerance }) t (last_picture h) pasts p turn) (IsBorneOut r (front ++ h) p turn)) here
    (told r k h (front ++ h) (length front) (length h - 1) (last_picture h) p pasts turn (knows_part r k h front pasts refl is some kept) named.group
    (λ i e. named.other i e)) in
    (λ e. tells.yes e, λ e borne. tells.no e borne)
  where
    here : suc (length h - 1) ≡ length h
    here = omega (arith, some)

pub refusals_are_explained : RefusalsAreExplained
refusals_are_explained r h wishes pasts is kept =
    both_all (IsBorneOut r h (guard_picture r h wishes)) (IsTurn r.count) _ (guard_refused r h wishes)
    (λ turn borne named.
    subst (λ (t : ℕ). finding_now r at_rest t (last_picture h) pasts (guard_picture r h wishes) turn ≡ Borne) here
    ((told r at_rest h h 0 (length h - 1) (last_picture h) (guard_picture r h wishes) pasts turn (knows r h pasts is kept) named.group (λ i e. named.other i e)).all refl borne))
    (refusals_are_borne_out r h wishes is) (refusals_name_groups r h wishes)
  where
    here : suc (length h - 1) ≡ length h
    here = omega (arith, is.begun)

-- the most of two functions that agree below n
most_same : (f g : ℕ → ℕ) (n : ℕ) → ((i : ℕ) → i < n → f i ≡ g i) → most_lacking f n ≡ most_lacking g n
most_same f g zero same = refl
most_same f g (suc n) same = rw (most_same f g n (λ i lt. same i (omega (arith, lt))), same n (omega arith)) refl

-- the last end of a group, with one picture more
ended_same : (r : Rules) (h : History) (p : Picture) (pasts : List GroupPast) (i m : ℕ) → length h ≡ suc m → past_at pasts i ≡ past_of at_rest (trace h i) m →
    ended_now (suc m) (get_or h m []) pasts p i ≡ last_end true (trace (h ++ p ∷ []) i) (suc m)
ended_same r h p pasts i m long kept =
    let agree = trace-append_old h p i (suc m) long in
    let new : trace (h ++ p ∷ []) i (suc m) ≡ shown p i = trace-append_new h p i (suc m) long in
    let was : trace h i m ≡ trace (h ++ p ∷ []) i m = agree.at m (omega arith) in
    ap (λ (x : GroupPast). last_end_with (suc m) (trace h i m) (shown p i) x.last_end) kept
    ∙ ap (λ (e : Option ℕ). last_end_with (suc m) (trace h i m) (shown p i) e) (last_end-agree true (trace h i) (trace (h ++ p ∷ []) i) m agree)
    ∙ ap (λ (x : _). last_end_with (suc m) x (shown p i) (last_end true (trace (h ++ p ∷ []) i) m)) was
    ∙ ap (λ (x : _). last_end_with (suc m) (trace (h ++ p ∷ []) i m) x (last_end true (trace (h ++ p ∷ []) i) m)) (sym new)

pub free_is_free_from : FreeIsFreeFrom
free_is_free_from r h p pasts g is kept size =
    let m = length h - 1 in
    let long : length h ≡ suc (length h - 1) = omega (arith, is.begun) in
    let last_one : length (h ++ p ∷ []) - 1 ≡ length h = omega (arith, length-append h (p ∷ [])) in
    let each : (i : ℕ) → i < r.count →
    lacks_now (length h + r.red_amber g) (r.between i g) (ended_now (length h) (last_picture h) pasts p i) ≡ lacking r (h ++ p ∷ []) g i =
    λ i lt.
    ap (λ (t : ℕ). lacks_now (length h + r.red_amber g) (r.between i g) (ended_now t (last_picture h) pasts p i)) long
    ∙ ap (λ (e : Option ℕ). lacks_now (length h + r.red_amber g) (r.between i g) e) (ended_same r h p pasts i (length h - 1) long (kept i lt))
    ∙ ap (λ (t : ℕ). lacks_now (length h + r.red_amber g) (r.between i g) (last_end true (trace (h ++ p ∷ []) i) t)) (sym long)
    ∙ ap (λ (t : ℕ). lacks_now (t + r.red_amber g) (r.between i g) (last_end true (trace (h ++ p ∷ []) i) t)) (sym last_one) in
    ap (λ (n : ℕ). length h + (most_lacking (λ i. lacks_now (length h + r.red_amber g) (r.between i g) (ended_now (length h) (last_picture h) pasts p i)) n).1) size
    ∙ ap (λ (x : ℕ × ℕ). length h + x.1) (most_same _ (lacking r (h ++ p ∷ []) g) r.count each)
    ∙ ap (λ (t : ℕ). t + (most_lacking (lacking r (h ++ p ∷ []) g) r.count).1) (sym last_one)
