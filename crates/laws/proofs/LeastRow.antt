-- Of the breaches up to the second that an audit names, the least row is the one that it names.
use Rattle.std.proofs.Common.{◌≡◌, ℕ, zero, suc, ◌-◌, ◌<◌, ◌≤◌, Bool, true, false, not, ◌&&◌, ◌||◌, Option, Some, None, is_some, refl, arith, sym, inl, inr, ap, subst, ◌∙◌, [], ◌∷◌, length, get_or, take, nat_lt}
use Rattle.std.proofs.Math.Seq.{take-suc}
use Rattle.std.proofs.lemmas.Bool.{cases_eq, cases_lt, cases_order, and_parts, and_from, or_cases, lt-ltb}
use Rattle.sig_types.specs.declared.aspect.Aspect.{Aspect}
use Rattle.sig_types.specs.declared.aspect.Aspect.TheVariants.{Red, RedAmber, Green, Amber}
use Rattle.sig_types.specs.declared.aspect.Rule.{Rule}
use Rattle.sig_types.specs.declared.aspect.Rule.TheVariants as rule
use Rattle.sig_types.specs.Rules.{Rules, IsTwoWay}
use Rattle.sig_types.specs.Turns.{Picture, History, trace, shown, is_on, is_green}
use Rattle.pua_model.specs.Plan.{group_number}
use Rattle.sig_guard.specs.Laws.{BreaksRule}
use Rattle.sig_guard.specs.Safety.{NeverTogether, IntergreenPasses, Conflicting, IsHistory, Safe}
use Rattle.sig_guard.proofs.LawProofs.{begins_safe}
use Rattle.sig_guard.proofs.Pictures.{trace-append_new}
use Rattle.sig_guard.proofs.SecondMore.{longer, longer-length, apart_more}
use Rattle.sig_audit.specs.NewSecond.{breaks_now, other_now}
use Rattle.sig_audit.specs.Verdict.{BreaksFirst, place_in_order, names_other, up_to}
use Rattle.sig_audit.proofs.NewRules.{KeepsRule, rule_kept, rule_broken, safe_keeps, keeps_not_breaks}
use Rattle.log_judge.specs.declared.breach.Breach.TheVariants.{Step}
use Rattle.log_judge.specs.Past.{since, last_end}
use Rattle.log_judge.specs.Breaches.{no, can_follow, red_amber_from, amber_from, green_from, red_from, short, red_amber_breach, amber_breach, green_breach, red_breach, is_pair, are_both_on, is_red_amber, latest_green, step_breach, conflict_breach, intergreen_breach, pending_breach, running_breach, breaches}
use Rattle.log_judge.proofs.Runs.{since_is, clash}
use Rattle.log_judge.proofs.Tests.{none_when, when_none, none_short, none_conflict, conflict_none, or_right}
use Rattle.laws.specs.BreachesAndVerdicts.{audited, Named, named, IsNoHigher, IsNoLater, IsLeast, LeastIsAudits}
use Rattle.laws.specs.BreachesAndVerdicts as laws
use Rattle.laws.proofs.HistoryFronts.{front_length, front_history}
use Rattle.laws.proofs.OneGroup.{NoneAlone, no_green, no_red, kept_none, none_kept}
use Rattle.laws.proofs.OneIntergreen.{KeepsFour, NoneWaits, passes_none, none_passes, some_is}
use Rattle.laws.proofs.EachBreach.{Each, EachTest, tests_of, of_tests}
use Rattle.laws.proofs.BreachRows.{row, step_row, short_row, other_time_row, running_row, conflict_row, soon_row, each_listed, none_listed, same_rule, stands_or_not, all_of_each, each_so}

-- the rule is broken first, of a history that is safe but for its last second
pub record IsFirst (r : Rules) (x : Rule) (g : ℕ) (other : Option ℕ) (h : History) : Type 0 where
  pub group : g < r.count
  pub breaks : BreaksRule r h g x other
  pub named : is_some other ≡ names_other x
  pub first_rule : (y : Rule) (j : ℕ) (i : Option ℕ) → place_in_order y < place_in_order x → j < r.count → BreaksRule r h j y i → ⊥
  pub first_group : (j : ℕ) (i : Option ℕ) → j < g → BreaksRule r h j x i → ⊥
  pub first_other : (i j : ℕ) → other ≡ Some i → j < i → BreaksRule r h g x (Some j) → ⊥

-- each group keeps the rules before this place
abbrev KeepsBefore : Rules → History → ℕ → Type 0
KeepsBefore r h n = (x : Rule) (j : ℕ) → place_in_order x < n → j < r.count → KeepsRule r h j x

-- what a history that is safe but for its last second is like: a rule is kept that is not broken, and two groups that are not both on at its end are never
record IsNearlySafe (r : Rules) (h : History) : Type 0 where
  keeps : (x : Rule) (j : ℕ) → j < r.count → ((i : Option ℕ) → BreaksRule r h j x i → ⊥) → KeepsRule r h j x
  apart : (i g z : ℕ) → Conflicting r i g z →
      (is_on (trace h i (length h - 1)) ≡ true → is_on (trace h g (length h - 1)) ≡ true → ⊥) → NeverTogether (trace h i) (trace h g) (length h)

-- a row is of a group of the site, and where the rules before its own are kept its own is broken
abbrev IsBroken : Rules → History → Named → Type 0
IsBroken r h n = (n.group < r.count) × (KeepsBefore r h (place_in_order n.rule) → BreaksRule r h n.group n.rule n.other)

step_none : (a : ℕ → Aspect) (g m : ℕ) → step_breach a g m ≡ None → can_follow (a m) (a (suc m)) ≡ true
step_none a g m none = was_not (can_follow (a m) (a (suc m))) (when_none (not (can_follow (a m) (a (suc m)))) (Step (suc m) (no g) (a m) (a (suc m))) none)
  where
    was_not : (b : Bool) → not b ≡ false → b ≡ true
    was_not true h = refl
    was_not false h = absurd (cc)

none_step : (a : ℕ → Aspect) (g m : ℕ) → can_follow (a m) (a (suc m)) ≡ true → step_breach a g m ≡ None
none_step a g m follows = none_when (not (can_follow (a m) (a (suc m)))) (Step (suc m) (no g) (a m) (a (suc m))) (ap not follows)

-- a group that keeps Sequence alone
sequence_alone : (r : Rules) (h : History) (g : ℕ) → IsHistory r.count h → g < r.count → KeepsRule r h g rule.Sequence → NoneAlone r g 0 0 (trace h g) (length h)
sequence_alone r h g is lt kept =
    kept_none r h g 0 0 is lt (record { sequence = kept; min_green = no_green (trace h g) (length h); min_red = no_red (trace h g) (length h) })

four_of : (r : Rules) (h : History) → KeepsBefore r h 4 → KeepsFour r h
four_of r h kept = record {
  alone = λ g lt. record {
    sequence = kept rule.Sequence g (omega arith) lt;
    min_green = kept rule.MinGreen g (omega arith) lt;
    min_red = kept rule.MinRed g (omega arith) lt;
  };
  apart = λ g lt. kept rule.Conflict g (omega arith) lt;
}

-- the intergreen between two that conflict
partner : (r : Rules) (g i : ℕ) → IsTwoWay r → g < r.count → i < r.count → is_pair r g i ≡ true → (z : ℕ) × (r.between i g ≡ Some z)
partner r g i two_way lt lt' pair =
    elim (or_cases (is_some (r.between g i)) (is_some (r.between i g))
    (and_parts (nat_lt g i) (is_some (r.between g i) || is_some (r.between i g)) pair).1) [
      | inl one ↦ (let z = some_is (r.between g i) one in some_is (r.between i g) (two_way.both g i z.0 lt lt' z.1))
      | inr other ↦ some_is (r.between i g) other
    ]

conflict_breaks : (r : Rules) (h : History) (over : Bool) (g i m : ℕ) → IsTwoWay r → g < r.count → i < r.count → m < length h →
    (conflict_breach r over (trace h g) (trace h i) g i m ≡ None → ⊥) → BreaksRule r h g rule.Conflict (Some i)
conflict_breaks r h over g i m two_way lt lt' in_time some = go (is_pair r g i) refl (are_both_on (trace h g) (trace h i) m) refl
  where
    go : (b : Bool) → is_pair r g i ≡ b → (c : Bool) → are_both_on (trace h g) (trace h i) m ≡ c → BreaksRule r h g rule.Conflict (Some i)
    go true pair true both = (
        let own = partner r g i two_way lt lt' pair in
        let on = and_parts (is_on (trace h g m)) (is_on (trace h i m)) both in
        (own.0, record { clearing_of_site = lt'; entering_of_site = lt; listed = own.1 }, λ never. never m in_time on.1 on.0))
    go false apart c both = absurd (some (none_conflict r over (trace h g) (trace h i) g i m (λ pair on. clash (is_pair r g i) pair apart)))
    go true pair false both = absurd (some (none_conflict r over (trace h g) (trace h i) g i m (λ pair' on. clash (are_both_on (trace h g) (trace h i) m) on both)))

wait_breaks : (r : Rules) (h : History) (g i : ℕ) → IsHistory r.count h → g < r.count → i < r.count → KeepsFour r h → (NoneWaits r h i g → ⊥) →
    BreaksRule r h g rule.Intergreen (Some i)
wait_breaks r h g i is lt lt' four some = go (r.between i g) refl
  where
    go : (o : Option ℕ) → r.between i g ≡ o → BreaksRule r h g rule.Intergreen (Some i)
    go None listed = absurd (some (passes_none r h i g is lt' lt four (λ z own. absurd (let bad : None ≡ Some z = sym listed ∙ own in cc))))
    go (Some z) listed = (
      z,
      record { clearing_of_site = lt'; entering_of_site = lt; listed = listed },
      λ passes. some (passes_none r h i g is lt' lt four (λ y own.
          (let both : Some z ≡ Some y = sym listed ∙ own in let same : z ≡ y = cc in
          subst (λ (k : ℕ). IntergreenPasses k (r.red_amber g) (trace h i) (trace h g) (length h)) same passes))),
    )

-- each breach of a history is of a rule that is broken, where those before it are kept
each_broken : (r : Rules) (h : History) → IsTwoWay r → IsHistory r.count h → Each (λ b. IsBroken r h (named b)) (breaches r audited h)
each_broken r h two_way is = of_tests (λ b. IsBroken r h (named b)) r audited h (record {
  after = λ m below. record {
    step = λ g lt. each_listed (IsBroken r h) (step_breach (trace h g) g m) (row rule.Sequence g None) (step_row (trace h g) g m)
        (λ some. (lt, λ before kept. some (none_step (trace h g) g m ((sequence_alone r h g is lt kept).step m below))));
    red_amber = λ g lt. each_listed (IsBroken r h) (red_amber_breach r audited (trace h g) g m) (row rule.Sequence g None)
        (other_time_row g (suc m) (r.red_amber g) RedAmber (red_amber_from (trace h g m) (trace h g (suc m)) (since (trace h g) m) (suc m)))
        (λ some. (lt, λ before kept. some ((sequence_alone r h g is lt kept).red_amber m below)));
    amber = λ g lt. each_listed (IsBroken r h) (amber_breach r audited (trace h g) g m) (row rule.Sequence g None)
        (other_time_row g (suc m) (r.amber g) Amber (amber_from (trace h g m) (trace h g (suc m)) (since (trace h g) m) (suc m)))
        (λ some. (lt, λ before kept. some ((sequence_alone r h g is lt kept).amber m below)));
    green = λ g lt. each_listed (IsBroken r h) (green_breach r audited (trace h g) g m) (row rule.MinGreen g None)
        (short_row g (suc m) (r.minimum_green g) Green (green_from (trace h g m) (trace h g (suc m)) (since (trace h g) m)))
        (λ some. (
          lt,
          λ before kept. some ((kept_none r h g (r.minimum_green g) 0 is lt (record {
            sequence = before rule.Sequence g (omega arith) lt;
            min_green = kept;
            min_red = no_red (trace h g) (length h);
          })).green m below),
        ));
    red = λ g lt. each_listed (IsBroken r h) (red_breach r audited (trace h g) g m) (row rule.MinRed g None)
        (short_row g (suc m) (r.minimum_red g) Red (red_from (trace h g m) (trace h g (suc m)) (since (trace h g) m)))
        (λ some. (
          lt,
          λ before kept. some ((kept_none r h g 0 (r.minimum_red g) is lt (record {
            sequence = before rule.Sequence g (omega arith) lt;
            min_green = no_green (trace h g) (length h);
            min_red = kept;
          })).red m below),
        ));
    conflict = λ g i lt lt'. each_listed (IsBroken r h)
        (conflict_breach r (not (are_both_on (trace h g) (trace h i) (suc m))) (trace h g) (trace h i) g i m) (row rule.Conflict g (Some i))
        (conflict_row r (not (are_both_on (trace h g) (trace h i) (suc m))) (trace h g) (trace h i) g i m)
        (λ some. (lt, λ before. conflict_breaks r h (not (are_both_on (trace h g) (trace h i) (suc m))) g i m two_way lt lt' (omega (arith, below)) some));
    intergreen = λ g i lt lt'. each_listed (IsBroken r h) (intergreen_breach r audited (trace h g) (trace h i) g i m) (row rule.Intergreen g (Some i))
        (soon_row (not (is_green (trace h g m)) && is_green (trace h g (suc m))) g i (suc m) (r.between i g) (last_end true (trace h i) (suc m)))
        (λ some. (lt, λ before. wait_breaks r h g i is lt lt' (four_of r h before) (λ none. some (none.came m below))));
  };
  last = record {
    running = λ g lt. each_listed (IsBroken r h) (running_breach r audited (trace h g) g (length h - 1) (trace h g (length h - 1))) (row rule.Sequence g None)
        (running_row r (trace h g) g (length h - 1) (trace h g (length h - 1)))
        (λ some. (lt, λ before kept. some (sequence_alone r h g is lt kept).running));
    conflict = λ g i lt lt'. each_listed (IsBroken r h) (conflict_breach r true (trace h g) (trace h i) g i (length h - 1)) (row rule.Conflict g (Some i)) (conflict_row r true (trace h g) (trace h i) g i (length h - 1))
        (λ some. (lt, λ before. conflict_breaks r h true g i (length h - 1) two_way lt lt' (omega (arith, is.begun)) some));
    pending = λ g i lt lt'. each_listed (IsBroken r h) (pending_breach r audited (trace h g) (trace h i) g i (length h - 1)) (row rule.Intergreen g (Some i))
        (soon_row (is_red_amber (trace h g (length h - 1))) g i (latest_green r audited (trace h g) g (length h - 1)) (r.between i g)
        (last_end true (trace h i) (length h - 1)))
        (λ some. (lt, λ before. wait_breaks r h g i is lt lt' (four_of r h before) (λ none. some none.pending)));
    hidden = λ g i lt lt'. tt;
  };
})

-- so none stands before the one that is broken first
before_first : (r : Rules) (x : Rule) (g : ℕ) (other : Option ℕ) (h : History) → IsFirst r x g other h → IsNearlySafe r h → KeepsBefore r h (place_in_order x)
before_first r x g other h first nearly y j lt below = nearly.keeps y j below (λ i breaks. first.first_rule y j i lt below breaks)

names_it : (r : Rules) (h : History) (x : Rule) (g : ℕ) → names_other x ≡ true → BreaksRule r h g x None → ⊥
names_it r h rule.Sequence g names breaks = cc
names_it r h rule.MinGreen g names breaks = cc
names_it r h rule.MinRed g names breaks = cc
names_it r h rule.Conflict g names breaks = breaks
names_it r h rule.Intergreen g names breaks = breaks
names_it r h rule.Running g names breaks = breaks
names_it r h rule.WrongStage g names breaks = breaks
names_it r h rule.NoInterstage g names breaks = breaks

no_higher : (r : Rules) (x : Rule) (g : ℕ) (other : Option ℕ) (h : History) → IsFirst r x g other h → (o : Option ℕ) → BreaksRule r h g x o → IsNoHigher other o
no_higher r x g None h first o breaks = tt
no_higher r x g (Some i) h first None breaks = names_it r h x g (sym first.named) breaks
no_higher r x g (Some i) h first (Some j) breaks = elim (cases_lt j i) [
  | inl lower ↦ absurd (first.first_other i j refl lower breaks)
  | inr le ↦ le
]

no_later : (r : Rules) (x : Rule) (g : ℕ) (other : Option ℕ) (h : History) → IsFirst r x g other h → IsNearlySafe r h → (n : Named) → IsBroken r h n →
    IsNoLater (row x g other) n
no_later r x g other h first nearly n broken = elim (cases_lt (place_in_order x) (place_in_order n.rule)) [
  | inl before ↦ laws.by_rule before
  | inr ge ↦ elim (cases_eq (place_in_order x) (place_in_order n.rule)) [
    | inr ne ↦ absurd (first.first_rule n.rule n.group n.other (omega (arith, ge, ne)) broken.0 (breaks ge))
    | inl same ↦ of_rule (same_rule x n.rule same) (subst (λ (y : Rule). BreaksRule r h n.group y n.other) (sym (same_rule x n.rule same)) (breaks ge))
  ]
]
  where
    breaks : place_in_order n.rule ≤ place_in_order x → BreaksRule r h n.group n.rule n.other
    breaks le = broken.1 (λ y j lt below. before_first r x g other h first nearly y j (omega (arith, lt, le)) below)

    of_rule : x ≡ n.rule → BreaksRule r h n.group x n.other → IsNoLater (row x g other) n
    of_rule rules broken = elim (cases_lt g n.group) [
      | inl before ↦ laws.by_group rules before
      | inr ge ↦ elim (cases_eq g n.group) [
        | inr ne ↦ absurd (first.first_group n.group n.other (omega (arith, ge, ne)) broken)
        | inl same ↦ laws.by_other rules same
            (no_higher r x g other h first n.other (subst (λ (j : ℕ). BreaksRule r h j x n.other) (sym same) broken))
      ]
    ]

-- times of 0 have no breach
green_since : (x y : Aspect) (s u : ℕ) → green_from x y s ≡ Some u → s ≡ u
green_since Red y s u e = absurd (cc)
green_since RedAmber y s u e = absurd (cc)
green_since Green Red s u e = cc
green_since Green RedAmber s u e = cc
green_since Green Green s u e = absurd (cc)
green_since Green Amber s u e = cc
green_since Amber y s u e = absurd (cc)

red_since : (x y : Aspect) (s u : ℕ) → red_from x y s ≡ Some u → s ≡ u
red_since Red Red s u e = absurd (cc)
red_since Red RedAmber s u e = cc
red_since Red Green s u e = cc
red_since Red Amber s u e = absurd (cc)
red_since RedAmber y s u e = absurd (cc)
red_since Green y s u e = absurd (cc)
red_since Amber y s u e = absurd (cc)

not_short : (g t : ℕ) (x : Aspect) (o : Option ℕ) → ((s : ℕ) → o ≡ Some s → s ≤ t) → short audited g x t 0 o ≡ None
not_short g t x None le = refl
not_short g t x (Some s) le = none_short audited g t 0 s x (λ known. (let at = le s refl in omega (arith, at)))

-- where no breach has the row of the rule that is broken first, that rule is kept
absent : (r : Rules) (x : Rule) (g : ℕ) (other : Option ℕ) (h : History) → IsTwoWay r → IsHistory r.count h → IsFirst r x g other h → IsNearlySafe r h →
    Each (λ b. named b ≡ row x g other → ⊥) (breaches r audited h) → ⊥
absent r rule.Sequence g (Some i) h two_way is first nearly each = (let bad : true ≡ false = first.named in cc)
absent r rule.Sequence g None h two_way is first nearly each = first.breaks (none_kept r h g 0 0 is first.group (record {
  step = λ m below. step_none (trace h g) g m (none_listed (step_breach (trace h g) g m) (row rule.Sequence g None) (step_row (trace h g) g m) ((tests.after m below).step g first.group));
  red_amber = λ m below. none_listed (red_amber_breach r audited (trace h g) g m) (row rule.Sequence g None)
      (other_time_row g (suc m) (r.red_amber g) RedAmber (red_amber_from (trace h g m) (trace h g (suc m)) (since (trace h g) m) (suc m)))
      ((tests.after m below).red_amber g first.group);
  amber = λ m below. none_listed (amber_breach r audited (trace h g) g m) (row rule.Sequence g None)
      (other_time_row g (suc m) (r.amber g) Amber (amber_from (trace h g m) (trace h g (suc m)) (since (trace h g) m) (suc m)))
      ((tests.after m below).amber g first.group);
  green = λ m below. not_short g (suc m) Green (green_from (trace h g m) (trace h g (suc m)) (since (trace h g) m))
      (λ s e. (let at = green_since (trace h g m) (trace h g (suc m)) (since (trace h g) m) s e in let le = (since_is (trace h g) m).at_most in omega (arith, at, le)));
  red = λ m below. not_short g (suc m) Red (red_from (trace h g m) (trace h g (suc m)) (since (trace h g) m))
      (λ s e. (let at = red_since (trace h g m) (trace h g (suc m)) (since (trace h g) m) s e in let le = (since_is (trace h g) m).at_most in omega (arith, at, le)));
  running = none_listed (running_breach r audited (trace h g) g (length h - 1) (trace h g (length h - 1))) (row rule.Sequence g None) (running_row r (trace h g) g (length h - 1) (trace h g (length h - 1))) (tests.last.running g first.group);
})).sequence
  where
    tests : EachTest (λ b. named b ≡ row rule.Sequence g None → ⊥) r audited h
    tests = tests_of (λ b. named b ≡ row rule.Sequence g None → ⊥) r audited h each
absent r rule.MinGreen g (Some i) h two_way is first nearly each = (let bad : true ≡ false = first.named in cc)
absent r rule.MinGreen g None h two_way is first nearly each = first.breaks (none_kept r h g (r.minimum_green g) 0 is first.group (record {
  step = own.step;
  red_amber = own.red_amber;
  amber = own.amber;
  green = λ m below. none_listed (green_breach r audited (trace h g) g m) (row rule.MinGreen g None)
      (short_row g (suc m) (r.minimum_green g) Green (green_from (trace h g m) (trace h g (suc m)) (since (trace h g) m)))
      ((tests.after m below).green g first.group);
  red = own.red;
  running = own.running;
})).min_green
  where
    own : NoneAlone r g 0 0 (trace h g) (length h)
    own = sequence_alone r h g is first.group (before_first r rule.MinGreen g None h first nearly rule.Sequence g (omega arith) first.group)

    tests : EachTest (λ b. named b ≡ row rule.MinGreen g None → ⊥) r audited h
    tests = tests_of (λ b. named b ≡ row rule.MinGreen g None → ⊥) r audited h each
absent r rule.MinRed g (Some i) h two_way is first nearly each = (let bad : true ≡ false = first.named in cc)
absent r rule.MinRed g None h two_way is first nearly each = first.breaks (none_kept r h g 0 (r.minimum_red g) is first.group (record {
  step = own.step;
  red_amber = own.red_amber;
  amber = own.amber;
  green = own.green;
  red = λ m below. none_listed (red_breach r audited (trace h g) g m) (row rule.MinRed g None)
      (short_row g (suc m) (r.minimum_red g) Red (red_from (trace h g m) (trace h g (suc m)) (since (trace h g) m)))
      ((tests.after m below).red g first.group);
  running = own.running;
})).min_red
  where
    own : NoneAlone r g 0 0 (trace h g) (length h)
    own = sequence_alone r h g is first.group (before_first r rule.MinRed g None h first nearly rule.Sequence g (omega arith) first.group)

    tests : EachTest (λ b. named b ≡ row rule.MinRed g None → ⊥) r audited h
    tests = tests_of (λ b. named b ≡ row rule.MinRed g None → ⊥) r audited h each
absent r rule.Conflict g None h two_way is first nearly each = first.breaks
absent r rule.Conflict g (Some i) h two_way is first nearly each =
    first.breaks.2 (nearly.apart i g first.breaks.0 first.breaks.1 (both first.breaks.0 first.breaks.1))
  where
    none : g < r.count → i < r.count → conflict_breach r true (trace h g) (trace h i) g i (length h - 1) ≡ None
    none lt lt' = none_listed (conflict_breach r true (trace h g) (trace h i) g i (length h - 1)) (row rule.Conflict g (Some i)) (conflict_row r true (trace h g) (trace h i) g i (length h - 1))
        ((tests_of (λ b. named b ≡ row rule.Conflict g (Some i) → ⊥) r audited h each).last.conflict g i lt lt')

    both : (z : ℕ) → Conflicting r i g z → is_on (trace h i (length h - 1)) ≡ true → is_on (trace h g (length h - 1)) ≡ true → ⊥
    both z pair on on' = elim (cases_order g i) [
      | inl same ↦ (
          let own : r.between g g ≡ Some z = subst (λ (k : ℕ). r.between k g ≡ Some z) (sym same) pair.listed in
          let bad : None ≡ Some z = sym (two_way.other g first.group) ∙ own in
          cc)
      | inr differ ↦ elim differ [
        | inl below ↦ (
            let listed : is_pair r g i ≡ true = and_from (nat_lt g i) (is_some (r.between g i) || is_some (r.between i g)) (lt-ltb g i below)
            (or_right (is_some (r.between g i)) (is_some (r.between i g)) (ap is_some pair.listed)) in
            let together : are_both_on (trace h g) (trace h i) (length h - 1) ≡ true =
            and_from (is_on (trace h g (length h - 1))) (is_on (trace h i (length h - 1))) on' on in
            let bad : true ≡ false = conflict_none r true (trace h g) (trace h i) g i (length h - 1) (none first.group pair.clearing_of_site) listed together in
            cc)
        | inr above ↦ (
            let own = some_is (r.between g i) (two_way.both i g z pair.clearing_of_site pair.entering_of_site pair.listed) in
            first.first_group i (Some g) above (
              own.0,
              record {
                clearing_of_site = pair.entering_of_site;
                entering_of_site = pair.clearing_of_site;
                listed = own.1;
              },
              λ never. never (length h - 1) (omega (arith, is.begun)) on' on,
            ))
      ]
    ]
absent r rule.Intergreen g None h two_way is first nearly each = first.breaks
absent r rule.Intergreen g (Some i) h two_way is first nearly each =
    let pair = first.breaks.1 in
    first.breaks.2 (none_passes r h i g two_way is pair.clearing_of_site pair.entering_of_site
    (four_of r h (before_first r rule.Intergreen g (Some i) h first nearly))
    (record {
      came = λ m below. none_listed (intergreen_breach r audited (trace h g) (trace h i) g i m) (row rule.Intergreen g (Some i))
          (soon_row (not (is_green (trace h g m)) && is_green (trace h g (suc m))) g i (suc m) (r.between i g) (last_end true (trace h i) (suc m)))
          ((tests.after m below).intergreen g i pair.entering_of_site pair.clearing_of_site);
      pending = none_listed (pending_breach r audited (trace h g) (trace h i) g i (length h - 1)) (row rule.Intergreen g (Some i))
          (soon_row (is_red_amber (trace h g (length h - 1))) g i (latest_green r audited (trace h g) g (length h - 1)) (r.between i g)
          (last_end true (trace h i) (length h - 1)))
          (tests.last.pending g i pair.entering_of_site pair.clearing_of_site);
    }) first.breaks.0 pair.listed)
  where
    tests : EachTest (λ b. named b ≡ row rule.Intergreen g (Some i) → ⊥) r audited h
    tests = tests_of (λ b. named b ≡ row rule.Intergreen g (Some i) → ⊥) r audited h each
absent r rule.Running g other h two_way is first nearly each = first.breaks
absent r rule.WrongStage g other h two_way is first nearly each = first.breaks
absent r rule.NoInterstage g other h two_way is first nearly each = first.breaks

least_of : (r : Rules) (x : Rule) (g : ℕ) (other : Option ℕ) (h : History) → IsTwoWay r → IsHistory r.count h → IsFirst r x g other h → IsNearlySafe r h →
    IsLeast (row x g other) (breaches r audited h)
least_of r x g other h two_way is first nearly = record {
  stands = elim (stands_or_not (row x g other) (breaches r audited h)) [
    | inl stands ↦ stands
    | inr each ↦ absurd (absent r x g other h two_way is first nearly each)
  ];
  least = all_of_each (λ b. IsNoLater (row x g other) (named b)) (breaches r audited h)
      (each_so (λ b. IsBroken r h (named b)) (λ b. IsNoLater (row x g other) (named b))
      (λ b broken. no_later r x g other h first nearly (named b) broken) (breaches r audited h) (each_broken r h two_way is));
}

-- a safe history with one second more
nearly_safe : (r : Rules) (h : History) (p : Picture) → length h ≡ suc (length h - 1) → Safe r h → IsNearlySafe r (longer h p)
nearly_safe r h p len safe = record {
  keeps = λ x j lt none. go x j lt none (breaks_now r h p x j) refl;
  apart = λ i g z pair apart. apart_more h p i g (length h - 1) len (safe.conflict i g z pair)
      (λ on on'. apart (ap is_on (end i) ∙ on) (ap is_on (end g) ∙ on'));
}
  where
    go : (x : Rule) (j : ℕ) → j < r.count → ((i : Option ℕ) → BreaksRule r (longer h p) j x i → ⊥) → (b : Bool) → breaks_now r h p x j ≡ b →
        KeepsRule r (longer h p) j x
    go x j lt none true test = absurd (none (other_now r h p x j) (rule_broken r h p j x len lt test))
    go x j lt none false test = rule_kept r h p j x len safe lt test

    end : (g : ℕ) → trace (longer h p) g (length (longer h p) - 1) ≡ shown p g
    end g =
        let long = longer-length h p (length h - 1) len in
        let at : length (longer h p) - 1 ≡ suc (length h - 1) = omega (arith, long) in
        rw at (trace-append_new h p g (suc (length h - 1)) len)

-- nothing is broken in second 0
some_second : (r : Rules) (h : History) (t : ℕ) (x : Rule) (g : ℕ) (other : Option ℕ) → IsHistory r.count h → BreaksFirst r h t x g other → 1 ≤ t
some_second r [] t x g other is first = absurd (let lt = first.second in omega (arith, lt))
some_second r (p ∷ h) (suc t) x g other is first = omega arith
some_second r (p ∷ h) zero x g other is first = absurd (
    keeps_not_breaks r (p ∷ []) g x other
    (safe_keeps r (p ∷ []) g x (begins_safe r p (is.sizes 0 (omega arith)) (λ j lt. is.all_red j lt)).1 first.group) first.breaks)

pub least_is : LeastIsAudits
least_is r h t x group other two_way is first =
    let late = some_second r h t x group.0 (group_number other) is first in
    let long : length (take t h) ≡ t = front_length t h (omega (arith, first.second)) in
    let len : length (take t h) ≡ suc (length (take t h) - 1) = omega (arith, long, late) in
    let same : up_to h t ≡ longer (take t h) (get_or h t []) = take-suc h t [] first.second in
    subst (λ (y : History). IsLeast (row x group.0 (group_number other)) (breaches r audited y)) (sym same)
    (least_of r x group.0 (group_number other) (longer (take t h) (get_or h t [])) two_way
    (subst (λ (y : History). IsHistory r.count y) same (front_history r.count (suc t) h is (omega arith) (omega (arith, first.second))))
    (subst (λ (y : History). IsFirst r x group.0 (group_number other) y) same (record {
      group = first.group;
      breaks = first.breaks;
      named = first.named;
      first_rule = first.first_rule;
      first_group = first.first_group;
      first_other = first.first_other;
    }))
    (nearly_safe r (take t h) (get_or h t []) len first.before))
