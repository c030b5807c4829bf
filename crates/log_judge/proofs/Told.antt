-- What is said of a refused turn, against whether it is borne out.
use Rattle.std.proofs.Common.{◌≡◌, ℕ, zero, suc, ◌+◌, ◌-◌, ◌<◌, ◌≤◌, Bool, true, false, not, ◌&&◌, Option, Some, None, is_some, is_none, IsSomeAnd, refl, arith, sym, ap, subst, inl, inr, ◌∙◌, nat_le, if◌then◌else◌, List, [], ◌∷◌, ◌++◌, length, get_or}
use Rattle.std.proofs.lemmas.Bool.{and_parts, cases_eq, eq-eqb}
use Rattle.std.proofs.lemmas.List.{get_or_append_left}
use Rattle.std.proofs.Math.ListN.{length-append}
use Rattle.std.proofs.Math.Seq.{get_or-append_seam}
use Rattle.sig_types.specs.declared.aspect.Aspect.{Aspect}
use Rattle.sig_types.specs.declared.aspect.Aspect.TheVariants.{Red, RedAmber, Green, Amber}
use Rattle.sig_types.specs.declared.aspect.Rule.{Rule}
use Rattle.sig_types.specs.declared.aspect.Rule.TheVariants as rule
use Rattle.sig_types.specs.declared.numbers.GroupNo.{GroupNo}
use Rattle.sig_types.specs.declared.refused.TurnRefusal.{TurnRefusal}
use Rattle.sig_types.specs.Rules.{Rules}
use Rattle.sig_types.specs.Turns.{Picture, History, shown, trace, is_red, is_green, is_on, ends_at}
use Rattle.sig_types.specs.Words.{least_below, tabulate}
use Rattle.pua_model.specs.Plan.{group_number}
use Rattle.sig_guard.specs.Safety.{IsHistory}
use Rattle.sig_guard.specs.Step.{end_breach, start_breach, is_green_short, is_red_short, is_in_conflict, is_uncleared}
use Rattle.sig_guard.proofs.Agree.{ends_at-agree}
use Rattle.sig_guard.proofs.Pictures.{trace-append_old, trace-append_new}
use Rattle.sig_guard.proofs.SecondMore.{is_close}
use Rattle.sig_guard.proofs.SequenceKept.{red_is, green_is}
use Rattle.log_judge.specs.declared.find.Terms.{Terms}
use Rattle.log_judge.specs.declared.past.GroupPast.{GroupPast}
use Rattle.log_judge.specs.declared.why.Finding.{Finding}
use Rattle.log_judge.specs.declared.why.Finding.TheVariants.{Borne, Unknown, Contradicted}
use Rattle.log_judge.specs.Past.{last_end}
use Rattle.log_judge.specs.Found.{past_at, last_end_with}
use Rattle.log_judge.specs.Stands.{past_of}
use Rattle.log_judge.specs.Refused.{no_turn, so_far, IsBorneOut}
use Rattle.log_judge.specs.Explained.{where_so, missed_now, ended_now, none_missed, so_far_now, lowest_on_now, is_at, end_finding, red_is_enough, start_finding, finding_now}
use Rattle.log_judge.proofs.Answers3.{Sure, sure_certainly, sure_unless, sure_both, sure_where}
use Rattle.log_judge.proofs.Lasts.{least_agree, none_below, at_least, least_at}
use Rattle.log_judge.proofs.Judged.{IsEnd, green_short, red_short, uncleared}
use Rattle.log_judge.proofs.Named.{end_named, start_named, end_told, told_end, start_told, told_start}

-- what a judge keeps of a log that ends the whole history
pub record Knows (r : Rules) (k : Terms) (h whole : History) (o m : ℕ) (before : Picture) (pasts : List GroupPast) : Type 0 where
  pub end : IsEnd k h whole o m
  pub history : IsHistory r.count whole
  pub was : (g : ℕ) → shown before g ≡ trace h g m
  pub pasts_are : (g : ℕ) → g < r.count → past_at pasts g ≡ past_of k (trace h g) m

sure_no : (rested : Bool) → Sure rested Contradicted false
sure_no rested = record { no = λ e. refl; yes = λ e. absurd (cc); known = λ r e. absurd (cc) }

-- the last second of the whole history
last_at : (r : Rules) (k : Terms) (h whole : History) (o m : ℕ) (before : Picture) (pasts : List GroupPast) → Knows r k h whole o m before pasts →
    length whole - 1 ≡ o + m
last_at r k h whole o m before pasts knows = omega (arith, knows.end.end)

shows : (r : Rules) (k : Terms) (h whole : History) (o m g : ℕ) (before : Picture) (pasts : List GroupPast) → Knows r k h whole o m before pasts →
    shown before g ≡ trace whole g (length whole - 1)
shows r k h whole o m g before pasts knows =
    knows.was g ∙ knows.end.part.shows g m (omega (arith, knows.end.long)) ∙ ap (trace whole g) (sym (last_at r k h whole o m before pasts knows))

-- an end
pub end_sure : (r : Rules) (k : Terms) (h whole : History) (o m g : ℕ) (before : Picture) (pasts : List GroupPast) (asked : Rule) (other : Option GroupNo) →
    Knows r k h whole o m before pasts → g < r.count →
    Sure k.rested (end_finding r k (suc m) before pasts g asked other)
    (end_named asked (group_number other) (is_green (trace whole g (length whole - 1))) (is_green_short r whole g))
end_sure r k h whole o m g before pasts rule.Sequence None knows lt =
    rw (sym (shows r k h whole o m g before pasts knows)) ((sure_certainly k.rested (not (is_green (shown before g)))))
end_sure r k h whole o m g before pasts rule.MinGreen None knows lt =
    rw (sym (shows r k h whole o m g before pasts knows))
    (sure_where k.rested (is_green (shown before g)) _ (is_green_short r whole g) (λ green.
    rw (knows.pasts_are g lt) ((green_short r k h whole o m g knows.end knows.history lt (sym (knows.was g) ∙ green_is (shown before g) green)))))
end_sure r k h whole o m g before pasts rule.MinRed None knows lt = sure_no k.rested
end_sure r k h whole o m g before pasts rule.Conflict None knows lt = sure_no k.rested
end_sure r k h whole o m g before pasts rule.Intergreen None knows lt = sure_no k.rested
end_sure r k h whole o m g before pasts rule.Running None knows lt = sure_no k.rested
end_sure r k h whole o m g before pasts rule.WrongStage None knows lt = sure_no k.rested
end_sure r k h whole o m g before pasts rule.NoInterstage None knows lt = sure_no k.rested
end_sure r k h whole o m g before pasts asked (Some i) knows lt = sure_no k.rested

-- the picture against which a start is decided
pub tab_length : {A : Type 0} (f : ℕ → A) (n : ℕ) → length (tabulate f n) ≡ n
tab_length f zero = refl
tab_length f (suc n) = length-append (tabulate f n) (f n ∷ []) ∙ (let before = tab_length f n in omega (arith, before))

pub tab_at : {A : Type 0} (f : ℕ → A) (n i : ℕ) (d : A) → i < n → get_or (tabulate f n) i d ≡ f i
tab_at f zero i d lt = absurd (omega (arith, lt))
tab_at f (suc n) i d lt = (
    let long = tab_length f n in
    elim (cases_eq i n) [
      | inl same ↦ (let at : i ≡ length (tabulate f n) = omega (arith, same, long) in
          ap (λ (t : ℕ). get_or (tabulate f n ++ f n ∷ []) t d) at ∙ get_or-append_seam (tabulate f n) (f n) [] d ∙ ap f (sym same))
      | inr ne ↦ get_or_append_left (tabulate f n) (f n ∷ []) d i (omega (arith, lt, ne, long)) ∙ tab_at f n i d (omega (arith, lt, ne))
    ])

so_far_shows : (r : Rules) (k : Terms) (h whole : History) (o m g i : ℕ) (before p : Picture) (pasts : List GroupPast) → Knows r k h whole o m before pasts →
    i < r.count → so_far_now before p g i ≡ shown (so_far r whole p g) i
so_far_shows r k h whole o m g i before p pasts knows lt =
    ap (λ (x : Aspect). if nat_le g i && (is_red x && is_on (shown p i)) then x else shown p i) (shows r k h whole o m i before pasts knows)
    ∙ sym (tab_at (λ i. if nat_le g i && (is_red (trace whole i (length whole - 1)) && is_on (shown p i)) then trace whole i (length whole - 1) else shown p i) r.count i Red lt)

lowest_same : (r : Rules) (k : Terms) (h whole : History) (o m g : ℕ) (before p : Picture) (pasts : List GroupPast) → Knows r k h whole o m before pasts →
    lowest_on_now r before p g ≡ least_below (λ i. is_in_conflict r (so_far r whole p g) g i) r.count
lowest_same r k h whole o m g before p pasts knows =
    least_agree _ _ r.count (λ i lt. ap (λ (x : Aspect). is_some (r.between i g) && is_on x) (so_far_shows r k h whole o m g i before p pasts knows lt))

so_far_ends : (b : Bool) (was now : Aspect) → (is_green was && not (is_green (if b && (is_red was && is_on now) then was else now))) ≡ (is_green was && not (is_green now))
so_far_ends b Red now = refl
so_far_ends b RedAmber now = refl
so_far_ends b Amber now = refl
so_far_ends true Green now = refl
so_far_ends false Green now = refl

-- the intergreen from a group
pub missed_sure : (r : Rules) (k : Terms) (h whole : History) (o m g i : ℕ) (before p : Picture) (pasts : List GroupPast) → Knows r k h whole o m before pasts →
    i < r.count →
    Sure k.rested (missed_now (suc m + r.red_amber g) (r.between i g) (ended_now (suc m) before pasts p i))
    (is_uncleared r whole (so_far r whole p g) g i)
missed_sure r k h whole o m g i before p pasts knows lt =
    subst (λ (n : ℕ). Sure k.rested (missed_now (suc m + r.red_amber g) (r.between i g) (ended_now (suc m) before pasts p i))
    (is_close (r.between i g) (r.red_amber g) (suc n) (trace (whole ++ so_far r whole p g ∷ []) i))) (sym (last_at r k h whole o m before pasts knows))
    (subst (λ (e : Option ℕ). Sure k.rested (missed_now (suc m + r.red_amber g) (r.between i g) e)
    (is_close (r.between i g) (r.red_amber g) (suc (o + m)) (trace (whole ++ so_far r whole p g ∷ []) i))) (sym ended)
    (uncleared k h whole o m i (r.red_amber g) (r.between i g) (trace h i m) (shown p i)
    (trace (whole ++ so_far r whole p g ∷ []) i) knows.end (record { old = old; new = new })))
  where
    ended : ended_now (suc m) before pasts p i ≡ last_end_with (suc m) (trace h i m) (shown p i) (last_end k.rested (trace h i) m)
    ended = ap (λ (x : GroupPast). last_end_with (suc m) (shown before i) (shown p i) x.last_end) (knows.pasts_are i lt)
        ∙ ap (λ (x : Aspect). last_end_with (suc m) x (shown p i) (last_end k.rested (trace h i) m)) (knows.was i)

    whole_long : length whole ≡ suc (o + m)
    whole_long = knows.end.end

    old : (j : ℕ) → j < suc (o + m) → ends_at (trace (whole ++ so_far r whole p g ∷ []) i) j ≡ ends_at (trace whole i) j
    old j inside = sym (ends_at-agree (suc (o + m)) (trace whole i) (trace (whole ++ so_far r whole p g ∷ []) i)
        (trace-append_old whole (so_far r whole p g) i (suc (o + m)) whole_long) j inside)

    was : trace (whole ++ so_far r whole p g ∷ []) i (o + m) ≡ trace h i m
    was = sym ((trace-append_old whole (so_far r whole p g) i (suc (o + m)) whole_long).at (o + m) (omega arith))
        ∙ sym (knows.end.part.shows i m (omega (arith, knows.end.long)))

    now : trace (whole ++ so_far r whole p g ∷ []) i (suc (o + m)) ≡ so_far_now before p g i
    now = trace-append_new whole (so_far r whole p g) i (suc (o + m)) whole_long ∙ sym (so_far_shows r k h whole o m g i before p pasts knows lt)

    new : ends_at (trace (whole ++ so_far r whole p g ∷ []) i) (suc (o + m)) ≡ (is_green (trace h i m) && not (is_green (shown p i)))
    new = ap (λ (x : Aspect). is_green x && not (is_green (trace (whole ++ so_far r whole p g ∷ []) i (suc (o + m))))) was
        ∙ ap (λ (x : Aspect). is_green (trace h i m) && not (is_green x)) now
        ∙ ap (λ (x : Aspect). is_green (trace h i m) && not (is_green (if nat_le g i && (is_red x && is_on (shown p i)) then x else shown p i))) (knows.was i)
        ∙ so_far_ends (nat_le g i) (trace h i m) (shown p i)

-- the intergreens from the groups below n
none_sure : (r : Rules) (k : Terms) (h whole : History) (o m g n : ℕ) (before p : Picture) (pasts : List GroupPast) → Knows r k h whole o m before pasts →
    n ≤ r.count →
    Sure k.rested (none_missed r (suc m) before pasts p g (suc m + r.red_amber g) n)
    (none_below (λ i. is_uncleared r whole (so_far r whole p g) g i) n)
none_sure r k h whole o m g zero before p pasts knows le = record { no = λ e. absurd (cc); yes = λ e. refl; known = λ r e. absurd (cc) }
none_sure r k h whole o m g (suc n) before p pasts knows le =
    sure_both k.rested _ _ _ _ (none_sure r k h whole o m g n before p pasts knows (omega (arith, le)))
    (sure_unless k.rested _ _ (missed_sure r k h whole o m g n before p pasts knows (omega (arith, le))))

enough_sure : (r : Rules) (k : Terms) (h whole : History) (o m g : ℕ) (before : Picture) (pasts : List GroupPast) → Knows r k h whole o m before pasts →
    g < r.count → shown before g ≡ Red → Sure k.rested (red_is_enough r k (suc m) pasts g) (not (is_red_short r whole g))
enough_sure r k h whole o m g before pasts knows lt red =
    rw (knows.pasts_are g lt) (sure_unless k.rested _ _ (red_short r k h whole o m g knows.end (sym (knows.was g) ∙ red)))

same_answer : (rested : Bool) (f : Finding) (c d : Bool) → c ≡ d → Sure rested f c → Sure rested f d
same_answer rested f c d e sure = subst (λ (x : Bool). Sure rested f x) e sure

bool_same : (c d : Bool) → (c ≡ true → d ≡ true) → (d ≡ true → c ≡ true) → c ≡ d
bool_same true true f g = refl
bool_same true false f g = (let bad : false ≡ true = f refl in absurd (cc))
bool_same false true f g = (let bad : false ≡ true = g refl in absurd (cc))
bool_same false false f g = refl

self_at : (i : ℕ) (o : Option ℕ) → o ≡ Some i → is_at o i ≡ true
self_at i o e = rw (e, eq-eqb i i refl) refl

-- a start
pub start_sure : (r : Rules) (k : Terms) (h whole : History) (o m g : ℕ) (before p : Picture) (pasts : List GroupPast) (asked : Rule) (other : Option GroupNo) →
    Knows r k h whole o m before pasts → g < r.count → ((i : GroupNo) → other ≡ Some i → i.0 < r.count) →
    Sure k.rested (start_finding r k (suc m) before pasts p g asked other)
    (start_named asked (group_number other) (is_red (trace whole g (length whole - 1))) (is_red_short r whole g)
    (least_below (λ i. is_in_conflict r (so_far r whole p g) g i) r.count)
    (least_below (λ i. is_uncleared r whole (so_far r whole p g) g i) r.count))
start_sure r k h whole o m g before p pasts rule.Sequence None knows lt lt' =
    rw (sym (shows r k h whole o m g before pasts knows)) ((sure_certainly k.rested (not (is_red (shown before g)))))
start_sure r k h whole o m g before p pasts rule.MinRed None knows lt lt' =
    rw (sym (shows r k h whole o m g before pasts knows))
    (sure_where k.rested (is_red (shown before g)) _ (is_red_short r whole g) (λ red.
    rw (knows.pasts_are g lt) ((red_short r k h whole o m g knows.end (sym (knows.was g) ∙ red_is (shown before g) red)))))
start_sure r k h whole o m g before p pasts rule.MinGreen None knows lt lt' = sure_no k.rested
start_sure r k h whole o m g before p pasts rule.Conflict None knows lt lt' = sure_no k.rested
start_sure r k h whole o m g before p pasts rule.Intergreen None knows lt lt' = sure_no k.rested
start_sure r k h whole o m g before p pasts rule.Running None knows lt lt' = sure_no k.rested
start_sure r k h whole o m g before p pasts rule.WrongStage None knows lt lt' = sure_no k.rested
start_sure r k h whole o m g before p pasts rule.NoInterstage None knows lt lt' = sure_no k.rested
start_sure r k h whole o m g before p pasts rule.Conflict (Some i) knows lt lt' =
    rw (sym (shows r k h whole o m g before pasts knows), sym (lowest_same r k h whole o m g before p pasts knows))
    (sure_where k.rested (is_red (shown before g) && is_at (lowest_on_now r before p g) i.0) _ (not (is_red_short r whole g)) (λ both.
    enough_sure r k h whole o m g before pasts knows lt (red_is (shown before g) (and_parts (is_red (shown before g)) (is_at (lowest_on_now r before p g) i.0) both).0)))
start_sure r k h whole o m g before p pasts rule.Intergreen (Some i) knows lt lt' =
    rw (sym (shows r k h whole o m g before pasts knows), sym (lowest_same r k h whole o m g before p pasts knows))
    (sure_where k.rested (is_red (shown before g) && is_none (lowest_on_now r before p g)) _ _ (λ both.
    sure_both k.rested _ _ (not (is_red_short r whole g)) _
    (enough_sure r k h whole o m g before pasts knows lt (red_is (shown before g) (and_parts (is_red (shown before g)) (is_none (lowest_on_now r before p g)) both).0))
    (same_answer k.rested _ (none_below q i.0 && q i.0) (is_at (least_below q r.count) i.0) here
    (sure_both k.rested _ _ (none_below q i.0) (q i.0)
    (none_sure r k h whole o m g i.0 before p pasts knows (omega (arith, inside)))
    ((missed_sure r k h whole o m g i.0 before p pasts knows inside))))))
  where
    q : ℕ → Bool
    q j = is_uncleared r whole (so_far r whole p g) g j

    inside : i.0 < r.count
    inside = lt' i refl

    here : (none_below q i.0 && q i.0) ≡ is_at (least_below q r.count) i.0
    here = bool_same _ _ (λ e. self_at i.0 _ (least_at q r.count i.0 inside e)) (λ e. at_least q r.count i.0 inside e)
start_sure r k h whole o m g before p pasts rule.Sequence (Some i) knows lt lt' = sure_no k.rested
start_sure r k h whole o m g before p pasts rule.MinGreen (Some i) knows lt lt' = sure_no k.rested
start_sure r k h whole o m g before p pasts rule.MinRed (Some i) knows lt lt' = sure_no k.rested
start_sure r k h whole o m g before p pasts rule.Running (Some i) knows lt lt' = sure_no k.rested
start_sure r k h whole o m g before p pasts rule.WrongStage (Some i) knows lt lt' = sure_no k.rested
start_sure r k h whole o m g before p pasts rule.NoInterstage (Some i) knows lt lt' = sure_no k.rested

-- Both ways: a statement is borne out where the answer of its kind is so.
record Decides (c : Bool) (P : Type 0) : Type 0 where
  pub so : c ≡ true → P
  pub is : P → c ≡ true

ends_decide : (r : Rules) (whole : History) (g : ℕ) (asked : Rule) (other : Option ℕ) →
    Decides (end_named asked other (is_green (trace whole g (length whole - 1))) (is_green_short r whole g))
    (IsSomeAnd (end_breach r whole g) (λ breach. (breach.rule ≡ asked) × (breach.other ≡ other)))
unfolding end_breach
ends_decide r whole g asked other = record {
  so = λ e. told_end asked other _ _ e;
  is = λ e. end_told asked other _ _ e;
}

starts_decide : (r : Rules) (whole : History) (p : Picture) (g : ℕ) (asked : Rule) (other : Option ℕ) →
    Decides (start_named asked other (is_red (trace whole g (length whole - 1))) (is_red_short r whole g)
    (least_below (λ i. is_in_conflict r p g i) r.count)
    (least_below (λ i. is_uncleared r whole p g i) r.count))
    (IsSomeAnd (start_breach r whole p g) (λ breach. (breach.rule ≡ asked) × (breach.other ≡ other)))
unfolding start_breach
starts_decide r whole p g asked other = record {
  so = λ e. told_start asked other _ _ _ _ e;
  is = λ e. start_told asked other _ _ _ _ e;
}

-- What is said of a turn: a no is a no and a yes a yes, whatever was before; at rest a yes is said exactly where the turn is borne out.
pub record Tells (rested : Bool) (f : Finding) (P : Type 0) : Type 0 where
  pub no : f ≡ Contradicted → P → ⊥
  pub yes : f ≡ Borne → P
  pub all : rested ≡ true → P → f ≡ Borne

tells_of : (rested : Bool) (f : Finding) (c : Bool) (P : Type 0) → Sure rested f c → Decides c P → Tells rested f P
tells_of rested Borne c P sure d = record { no = λ e. absurd (cc); yes = λ e. d.so (sure.yes refl); all = λ r h. refl }
tells_of rested Unknown c P sure d = record { no = λ e. absurd (cc); yes = λ e. absurd (cc); all = λ r h. absurd (sure.known r refl) }
tells_of rested Contradicted c P sure d = record {
  no = λ e h. (let bad : true ≡ false = sym (d.is h) ∙ sure.no refl in cc);
  yes = λ e. absurd (cc);
  all = λ r h. absurd (let bad : true ≡ false = sym (d.is h) ∙ sure.no refl in cc);
}

-- with the condition that the group did not turn
tells_where : (rested b : Bool) (f : Finding) (P : Type 0) → Tells rested f P → Tells rested (where_so b f) ((b ≡ true) × P)
tells_where rested true f P t = record { no = λ e h. t.no e h.1; yes = λ e. (refl, t.yes e); all = λ r h. t.all r h.1 }
tells_where rested false f P t = record { no = λ e h. (let bad = h.0 in cc); yes = λ e. absurd (cc); all = λ r h. absurd (let bad = h.0 in cc) }

pub told : (r : Rules) (k : Terms) (h whole : History) (o m : ℕ) (before p : Picture) (pasts : List GroupPast) (turn : TurnRefusal) →
    Knows r k h whole o m before pasts → turn.group.0 < r.count → ((i : GroupNo) → turn.other ≡ Some i → i.0 < r.count) →
    Tells k.rested (finding_now r k (suc m) before pasts p turn) (IsBorneOut r whole p turn)
told r k h whole o m before p pasts turn knows lt lt' =
    rw (sym (shows r k h whole o m turn.group.0 before pasts knows))
    (tells_where k.rested (no_turn (shown before turn.group.0) (shown p turn.group.0)) _ _ (go (is_on (shown p turn.group.0))))
  where
    go : (b : Bool) → Tells k.rested
        (if b then end_finding r k (suc m) before pasts turn.group.0 turn.rule turn.other else start_finding r k (suc m) before pasts p turn.group.0 turn.rule turn.other)
        (IsSomeAnd (if b then end_breach r whole turn.group.0 else start_breach r whole (so_far r whole p turn.group.0) turn.group.0)
        (λ breach. (breach.rule ≡ turn.rule) × (breach.other ≡ group_number turn.other)))
    go true = tells_of k.rested _ _ _ (end_sure r k h whole o m turn.group.0 before pasts turn.rule turn.other knows lt)
        (ends_decide r whole turn.group.0 turn.rule (group_number turn.other))
    go false = tells_of k.rested _ _ _ (start_sure r k h whole o m turn.group.0 before p pasts turn.rule turn.other knows lt lt')
        (starts_decide r whole (so_far r whole p turn.group.0) turn.group.0 turn.rule (group_number turn.other))
