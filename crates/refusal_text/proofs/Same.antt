-- What is said of a refused turn rests on what is kept of the groups that there are, and so on the history alone.
use Rattle.std.proofs.Common.{◌≡◌, ◌∙◌, ℕ, zero, suc, ◌+◌, ◌-◌, ◌<◌, Bool, List, [], ◌∷◌, ◌++◌, Option, None, Some, length, get_or, refl, sym, ap, arith, inl, inr, length-append}
use Rattle.std.specs.Prelude.{◌&&◌, if◌then◌else◌, is_none}
use Rattle.std.proofs.Math.Seq.{get_or-append_seam}
use Rattle.std.proofs.lemmas.Bool.{cases_eq, ne_eqb}
use Rattle.std.proofs.lemmas.List.{get_or_append_left}
use Rattle.sig_types.specs.declared.aspect.Rule.{Rule}
use Rattle.sig_types.specs.declared.aspect.Rule.TheVariants.{Sequence, MinGreen, MinRed, Conflict, Intergreen, Running, WrongStage, NoInterstage}
use Rattle.sig_types.specs.declared.numbers.GroupNo.{GroupNo}
use Rattle.sig_types.specs.declared.refused.TurnRefusal.{TurnRefusal}
use Rattle.sig_types.specs.Recorded.{IsTurn}
use Rattle.sig_types.specs.Rules.{Rules}
use Rattle.sig_types.specs.Turns.{Picture, History, shown, trace, is_green, is_on, is_red}
use Rattle.sig_types.specs.Words.{tabulate}
use Rattle.sig_guard.specs.Step.{last_picture}
use Rattle.log_judge.specs.declared.find.Terms.{Terms}
use Rattle.log_judge.specs.declared.past.GroupPast.{GroupPast}
use Rattle.log_judge.specs.declared.why.Finding.{Finding}
use Rattle.log_judge.specs.declared.why.Finding.TheVariants.{Unknown}
use Rattle.log_judge.specs.declared.why.Reason.{Reason}
use Rattle.log_judge.specs.declared.why.Reason.TheVariants as reason
use Rattle.log_judge.specs.Explained.{both, end_finding, end_reason_now, ended_now, finding_now, is_at, lacks_now, lowest_on_now, missed_now, most_lacking, most_lacking_now, none_missed, reason_now, red_is_enough, short_now, start_finding, start_reason_now, uncleared_now, unless, where_so}
use Rattle.log_judge.specs.Found.{last_end_with, past_at}
use Rattle.log_judge.specs.Refused.{no_turn}
use Rattle.log_judge.specs.Stands.{past_of}
use Rattle.refusal_text.specs.declared.refusal.Said.TheVariants as said
use Rattle.refusal_text.specs.Refusals.{pasts_of, said_after, said_by, said_of}

-- the same is kept of each of n groups
abbrev Same : ℕ → List GroupPast → List GroupPast → Type 0
Same n a b = (g : ℕ) → g < n → past_at a g ≡ past_at b g

ended_same : (t : ℕ) (before p : Picture) (a b : List GroupPast) (i : ℕ) → past_at a i ≡ past_at b i → ended_now t before a p i ≡ ended_now t before b p i
ended_same t before p a b i same = ap (λ (x : GroupPast). last_end_with t (shown before i) (shown p i) x.last_end) same

none_same : (r : Rules) (t : ℕ) (before p : Picture) (a b : List GroupPast) (g due n : ℕ) → Same n a b →
    none_missed r t before a p g due n ≡ none_missed r t before b p g due n
none_same r t before p a b g due zero same = refl
none_same r t before p a b g due (suc n) same =
    ap (λ (x : Finding). both x (unless (missed_now due (r.between n g) (ended_now t before a p n))))
    (none_same r t before p a b g due n (λ i lt. same i (omega (arith, lt))))
    ∙ ap (λ (e : Option ℕ). both (none_missed r t before b p g due n) (unless (missed_now due (r.between n g) e)))
    (ended_same t before p a b n (same n (omega arith)))

end_same : (r : Rules) (k : Terms) (t : ℕ) (before : Picture) (a b : List GroupPast) (g : ℕ) → past_at a g ≡ past_at b g → (rule : Rule) (other : Option GroupNo) →
    end_finding r k t before a g rule other ≡ end_finding r k t before b g rule other
end_same r k t before a b g same Sequence None = refl
end_same r k t before a b g same MinGreen None =
    ap (λ (x : GroupPast). where_so (is_green (shown before g)) (short_now k t x.since (r.minimum_green g))) same
end_same r k t before a b g same MinRed None = refl
end_same r k t before a b g same Conflict None = refl
end_same r k t before a b g same Intergreen None = refl
end_same r k t before a b g same Running None = refl
end_same r k t before a b g same WrongStage None = refl
end_same r k t before a b g same NoInterstage None = refl
end_same r k t before a b g same Sequence (Some i) = refl
end_same r k t before a b g same MinGreen (Some i) = refl
end_same r k t before a b g same MinRed (Some i) = refl
end_same r k t before a b g same Conflict (Some i) = refl
end_same r k t before a b g same Intergreen (Some i) = refl
end_same r k t before a b g same Running (Some i) = refl
end_same r k t before a b g same WrongStage (Some i) = refl
end_same r k t before a b g same NoInterstage (Some i) = refl

enough_same : (r : Rules) (k : Terms) (t : ℕ) (a b : List GroupPast) (g : ℕ) → past_at a g ≡ past_at b g → red_is_enough r k t a g ≡ red_is_enough r k t b g
enough_same r k t a b g same = ap (λ (x : GroupPast). unless (short_now k t x.since (r.minimum_red g))) same

-- the other group, where there is one, is one of those that there are
abbrev IsOne : ℕ → Option GroupNo → Type 0
IsOne n other = (i : GroupNo) → other ≡ Some i → i.0 < n

start_same : (r : Rules) (k : Terms) (t : ℕ) (before p : Picture) (a b : List GroupPast) (g : ℕ) → Same r.count a b → g < r.count → (rule : Rule) (other : Option GroupNo) →
    IsOne r.count other → start_finding r k t before a p g rule other ≡ start_finding r k t before b p g rule other
start_same r k t before p a b g same lt Sequence None one = refl
start_same r k t before p a b g same lt MinRed None one =
    ap (λ (x : GroupPast). where_so (is_red (shown before g)) (short_now k t x.since (r.minimum_red g))) (same g lt)
start_same r k t before p a b g same lt MinGreen None one = refl
start_same r k t before p a b g same lt Conflict None one = refl
start_same r k t before p a b g same lt Intergreen None one = refl
start_same r k t before p a b g same lt Running None one = refl
start_same r k t before p a b g same lt WrongStage None one = refl
start_same r k t before p a b g same lt NoInterstage None one = refl
start_same r k t before p a b g same lt Conflict (Some i) one =
    ap (λ (x : Finding). where_so (is_red (shown before g) && is_at (lowest_on_now r before p g) i.0) x) (enough_same r k t a b g (same g lt))
start_same r k t before p a b g same lt Intergreen (Some i) one =
    let inside : i.0 < r.count = one i refl in
    let due = t + r.red_amber g in
    ap (λ (x : Finding). where_so (is_red (shown before g) && is_none (lowest_on_now r before p g)) (both x
    (both (none_missed r t before a p g (t + r.red_amber g) i.0) (missed_now (t + r.red_amber g) (r.between i.0 g) (ended_now t before a p i.0)))))
    (enough_same r k t a b g (same g lt))
    ∙ ap (λ (x : Finding). where_so (is_red (shown before g) && is_none (lowest_on_now r before p g)) (both (red_is_enough r k t b g)
    (both x (missed_now (t + r.red_amber g) (r.between i.0 g) (ended_now t before a p i.0)))))
    (none_same r t before p a b g (t + r.red_amber g) i.0 (λ j below. same j (omega (arith, below, inside))))
    ∙ ap (λ (e : Option ℕ). where_so (is_red (shown before g) && is_none (lowest_on_now r before p g)) (both (red_is_enough r k t b g)
    (both (none_missed r t before b p g (t + r.red_amber g) i.0) (missed_now (t + r.red_amber g) (r.between i.0 g) e))))
    (ended_same t before p a b i.0 (same i.0 inside))
start_same r k t before p a b g same lt Sequence (Some i) one = refl
start_same r k t before p a b g same lt MinGreen (Some i) one = refl
start_same r k t before p a b g same lt MinRed (Some i) one = refl
start_same r k t before p a b g same lt Running (Some i) one = refl
start_same r k t before p a b g same lt WrongStage (Some i) one = refl
start_same r k t before p a b g same lt NoInterstage (Some i) one = refl

finding_same : (r : Rules) (k : Terms) (t : ℕ) (before p : Picture) (a b : List GroupPast) (turn : TurnRefusal) → Same r.count a b → IsTurn r.count turn →
    finding_now r k t before a p turn ≡ finding_now r k t before b p turn
finding_same r k t before p a b turn same is =
    ap (λ (x : Finding). where_so (no_turn (shown before turn.group.0) (shown p turn.group.0))
    (if is_on (shown p turn.group.0) then x else start_finding r k t before a p turn.group.0 turn.rule turn.other))
    (end_same r k t before a b turn.group.0 (same turn.group.0 is.group) turn.rule turn.other)
    ∙ ap (λ (x : Finding). where_so (no_turn (shown before turn.group.0) (shown p turn.group.0))
    (if is_on (shown p turn.group.0) then end_finding r k t before b turn.group.0 turn.rule turn.other else x))
    (start_same r k t before p a b turn.group.0 same is.group turn.rule turn.other (λ i e. is.other i e))

end_reason_same : (r : Rules) (a b : List GroupPast) (g : ℕ) → past_at a g ≡ past_at b g → (rule : Rule) → end_reason_now r a g rule ≡ end_reason_now r b g rule
end_reason_same r a b g same Sequence = ap (λ (x : GroupPast). reason.NotYet x.since (r.red_amber g)) same
end_reason_same r a b g same MinGreen = ap (λ (x : GroupPast). reason.Least x.since (r.minimum_green g)) same
end_reason_same r a b g same MinRed = refl
end_reason_same r a b g same Conflict = refl
end_reason_same r a b g same Intergreen = refl
end_reason_same r a b g same Running = refl
end_reason_same r a b g same WrongStage = refl
end_reason_same r a b g same NoInterstage = refl

most_same : (f g : ℕ → ℕ) (n : ℕ) → ((i : ℕ) → i < n → f i ≡ g i) → most_lacking f n ≡ most_lacking g n
most_same f g zero same = refl
most_same f g (suc n) same = rw (most_same f g n (λ i lt. same i (omega (arith, lt))), same n (omega arith)) refl

most_now_same : (r : Rules) (t : ℕ) (before p : Picture) (a b : List GroupPast) (g : ℕ) → Same (length p) a b →
    most_lacking_now r t before a p g ≡ most_lacking_now r t before b p g
most_now_same r t before p a b g same =
    most_same (λ i. lacks_now (t + r.red_amber g) (r.between i g) (ended_now t before a p i))
    (λ i. lacks_now (t + r.red_amber g) (r.between i g) (ended_now t before b p i)) (length p)
    (λ i lt. ap (λ (e : Option ℕ). lacks_now (t + r.red_amber g) (r.between i g) e) (ended_same t before p a b i (same i lt)))

start_reason_same : (r : Rules) (t : ℕ) (before p : Picture) (a b : List GroupPast) (g : ℕ) → Same r.count a b → length p ≡ r.count → g < r.count →
    (rule : Rule) (other : Option GroupNo) → IsOne r.count other → start_reason_now r t before a p g rule other ≡ start_reason_now r t before b p g rule other
start_reason_same r t before p a b g same size lt Sequence other one = ap (λ (x : GroupPast). reason.NotYet x.since (r.amber g)) (same g lt)
start_reason_same r t before p a b g same size lt MinRed other one = ap (λ (x : GroupPast). reason.Least x.since (r.minimum_red g)) (same g lt)
start_reason_same r t before p a b g same size lt Conflict (Some i) one =
    ap (λ (x : GroupPast). reason.On i (if is_on (shown before i.0) then x.on_since else t)) (same i.0 (one i refl))
start_reason_same r t before p a b g same size lt Conflict None one = refl
start_reason_same r t before p a b g same size lt Intergreen (Some i) one =
    ap (λ (e : Option ℕ). uncleared_now t (r.red_amber g) (r.between i.0 g) e i (most_lacking_now r t before a p g))
    (ended_same t before p a b i.0 (same i.0 (one i refl)))
    ∙ ap (λ (most : ℕ × ℕ). uncleared_now t (r.red_amber g) (r.between i.0 g) (ended_now t before b p i.0) i most)
    (most_now_same r t before p a b g (λ j below. same j (omega (arith, below, size))))
start_reason_same r t before p a b g same size lt Intergreen None one = refl
start_reason_same r t before p a b g same size lt MinGreen other one = refl
start_reason_same r t before p a b g same size lt Running other one = refl
start_reason_same r t before p a b g same size lt WrongStage other one = refl
start_reason_same r t before p a b g same size lt NoInterstage other one = refl

reason_same : (r : Rules) (t : ℕ) (before p : Picture) (a b : List GroupPast) (turn : TurnRefusal) → Same r.count a b → length p ≡ r.count → IsTurn r.count turn →
    reason_now r t before a p turn ≡ reason_now r t before b p turn
reason_same r t before p a b turn same size is =
    ap (λ (x : Reason). if is_on (shown p turn.group.0) then x else start_reason_now r t before a p turn.group.0 turn.rule turn.other)
    (end_reason_same r a b turn.group.0 (same turn.group.0 is.group) turn.rule)
    ∙ ap (λ (x : Reason). if is_on (shown p turn.group.0) then end_reason_now r b turn.group.0 turn.rule else x)
    (start_reason_same r t before p a b turn.group.0 same size is.group turn.rule turn.other (λ i e. is.other i e))

tab_length : {A : Type 0} (f : ℕ → A) (n : ℕ) → length (tabulate f n) ≡ n
tab_length f zero = refl
tab_length f (suc n) = length-append (tabulate f n) (f n ∷ []) ∙ (let before = tab_length f n in omega (arith, before))

pub tab_at : {A : Type 0} (f : ℕ → A) (n i : ℕ) (d : A) → i < n → get_or (tabulate f n) i d ≡ f i
tab_at f zero i d lt = absurd (omega (arith, lt))
tab_at f (suc n) i d lt = (
    let long = tab_length f n in
    elim (cases_eq i n) [
      | inl same ↦ (let at : i ≡ length (tabulate f n) = omega (arith, same, long) in
          ap (λ (t : ℕ). get_or (tabulate f n ++ f n ∷ []) t d) at ∙ get_or-append_seam (tabulate f n) (f n) [] d ∙ ap f (sym same))
      | inr ne ↦ get_or_append_left (tabulate f n) (f n ∷ []) d i (omega (arith, lt, ne, long)) ∙ tab_at f n i d (omega (arith, lt, ne))
    ])

-- what is said by one who knows the history is what is said of it
pub said_is : (r : Rules) (k : Terms) (h : History) (p : Picture) (turn : TurnRefusal) (t : ℕ) (before : Picture) (pasts : List GroupPast) (found : Finding) (why : Reason) →
    length h ≡ t → (0 < length h → before ≡ last_picture h) →
    ((g : ℕ) → g < r.count → past_at pasts g ≡ past_of k (trace h g) (length h - 1)) → IsTurn r.count turn → length p ≡ r.count →
    (t ≡ 0 → found ≡ Unknown) → (0 < t → found ≡ finding_now r k t before pasts p turn) → (0 < t → why ≡ reason_now r t before pasts p turn) →
    said_by found why ≡ said_of r k h p turn
unfolding said_of
said_is r k h p turn zero before pasts found why long last kept is size first found_is why_is =
    ap (λ (x : Finding). said_by x why) (first refl)
    ∙ ap (λ (n : ℕ). said_after n (finding_now r k (length h) (last_picture h) (pasts_of k r.count h) p turn)
    (reason_now r (length h) (last_picture h) (pasts_of k r.count h) p turn)) (sym long)
said_is r k h p turn (suc t) before pasts found why long last kept is size first found_is why_is =
    let some : 0 < suc t = omega arith in
    let here : before ≡ last_picture h = last (omega (arith, long)) in
    let same : Same r.count pasts (pasts_of k r.count h) = λ g lt.
    kept g lt ∙ sym (tab_at (λ g. past_of k (trace h g) (length h - 1)) r.count g _ lt) in
    let finding : found ≡ finding_now r k (length h) (last_picture h) (pasts_of k r.count h) p turn =
    found_is some
    ∙ ap (λ (n : ℕ). finding_now r k n before pasts p turn) (sym long)
    ∙ ap (λ (x : Picture). finding_now r k (length h) x pasts p turn) here
    ∙ finding_same r k (length h) (last_picture h) p pasts (pasts_of k r.count h) turn same is in
    let cause : why ≡ reason_now r (length h) (last_picture h) (pasts_of k r.count h) p turn =
    why_is some
    ∙ ap (λ (n : ℕ). reason_now r n before pasts p turn) (sym long)
    ∙ ap (λ (x : Picture). reason_now r (length h) x pasts p turn) here
    ∙ reason_same r (length h) (last_picture h) p pasts (pasts_of k r.count h) turn same size is in
    ap (λ (x : Finding). said_by x why) finding
    ∙ ap (λ (x : Reason). said_by (finding_now r k (length h) (last_picture h) (pasts_of k r.count h) p turn) x) cause
    ∙ ap (λ (b : Bool). if b then said.Unknown else said_by (finding_now r k (length h) (last_picture h) (pasts_of k r.count h) p turn)
    (reason_now r (length h) (last_picture h) (pasts_of k r.count h) p turn)) (sym (ne_eqb (length h) 0 (λ e. omega (arith, e, long))))
