-- The field of the refusals: what is written of stage commands and turns is read as these.
use Rattle.std.proofs.Common.{◌≡◌, ◌∙◌, ℕ, ◌+◌, ◌<◌, ◌≤◌, true, List, [], ◌∷◌, ◌++◌, codes, length, map, Option, Some, None, refl, sym, ap, arith, append_assoc}
use Rattle.std.specs.Prelude.{fold, nat_lt}
use Rattle.std.specs.Fmt.{decimal}
use Rattle.std.specs.List.{All}
use Rattle.std.specs.Option.{ForSome}
use Rattle.std.proofs.lemmas.Bool.{lt-ltb}
use Rattle.std.proofs.lemmas.List.{append-nil, length_push}
use Rattle.std.proofs.lemmas.List.Elements.{All-head, All-tail}
use Rattle.pua_model.specs.Plan.{are_names}
use Rattle.sig_types.specs.declared.aspect.Rule.{Rule}
use Rattle.sig_types.specs.declared.aspect.Rule.TheVariants.{Sequence, MinGreen, MinRed, Conflict, Intergreen, Running, WrongStage, NoInterstage}
use Rattle.sig_types.specs.declared.numbers.GroupNo.{GroupNo}
use Rattle.sig_types.specs.declared.refused.StageRefusal.{StageRefusal}
use Rattle.sig_types.specs.declared.refused.TurnRefusal.{TurnRefusal}
use Rattle.sig_types.specs.Recorded.{IsTurn}
use Rattle.signal_log.specs.Log.{name_of, or_dash, other_of, other_text, refused_texts, rule_name, stage_refusal_text, turn_text}
use Rattle.signal_log.proofs.Without.{Without, decimal_without, without-append, without_along, without_by_test}
use Rattle.log_read.specs.declared.refused.Refusal.TheVariants.{Command, Turn}
use Rattle.log_read.specs.Fields.{command_in, command_rule, refusal_in, refused_in, refused_items, turn_in, with_refusal}
use Rattle.report_seen.specs.WrittenLogs.{AreGroups, IsOfCommands, IsOfTurns, IsRefusedCommand}
use Rattle.report_seen.proofs.CutTexts.{AreItems, IsParted, are_items-append, colon_no_digit, cut_again, dash_no_digit, parted_items, space_no_digit}
use Rattle.report_seen.proofs.FieldsBack.{stage_again}
use Rattle.report_seen.proofs.NameTexts.{named_without, names_without, not_placed, placed_again}

-- ---- a refused stage command

rule_again : (rule : Rule) → IsOfCommands rule → command_rule (rule_name rule) ≡ Some rule
rule_again Sequence is = absurd is
rule_again MinGreen is = absurd is
rule_again MinRed is = absurd is
rule_again Conflict is = absurd is
rule_again Intergreen is = absurd is
rule_again Running is = refl
rule_again WrongStage is = refl
rule_again NoInterstage is = refl

-- the stages of a command
abbrev stages_text : StageRefusal → List ℕ
stages_text r = decimal r.from.0 ++ 45 ∷ decimal r.to.0

command_shape : (a b c : List ℕ) → (((a ++ codes "-") ++ b) ++ codes ":") ++ c ≡ (a ++ 45 ∷ b) ++ 58 ∷ c
command_shape a b c = append_assoc ((a ++ codes "-") ++ b) (codes ":") c ∙ ap (λ l. l ++ 58 ∷ c) (append_assoc a (codes "-") b)

command_is : (r : StageRefusal) → stage_refusal_text r ≡ stages_text r ++ 58 ∷ rule_name r.rule
command_is r = command_shape (decimal r.from.0) (decimal r.to.0) (rule_name r.rule)

command_again : (r : StageRefusal) → IsRefusedCommand r → command_in (stages_text r) (rule_name r.rule) ≡ Some r
unfolding command_in
command_again r is =
    rw (
      cut_again 45 (decimal r.from.0) (decimal r.to.0) (decimal_without 45 r.from.0 dash_no_digit),
      stage_again r.from is.from,
      stage_again r.to is.to,
      rule_again r.rule is.rule,
    ) refl

no_colon : (r : StageRefusal) → Without 58 (stages_text r)
no_colon r =
    without-append 58 (decimal r.from.0) (45 ∷ decimal r.to.0) (decimal_without 58 r.from.0 colon_no_digit)
    ((λ e. absurd (omega (arith, e))), decimal_without 58 r.to.0 colon_no_digit)

command_item : (names : List (List ℕ)) (r : StageRefusal) → are_names names ≡ true → IsRefusedCommand r →
    refusal_in names (stage_refusal_text r) ≡ Some (Command r)
unfolding refusal_in
command_item names r named is =
    rw (
      command_is r,
      cut_again 58 (stages_text r) (rule_name r.rule) (no_colon r),
      not_placed 45 names (decimal r.from.0) (decimal r.to.0) (names_without 45 names refl named),
      command_again r is,
    ) refl

-- ---- a refused turn

-- the rule of a turn, and the other group
abbrev rule_text : List (List ℕ) → TurnRefusal → List ℕ
rule_text names turn = rule_name turn.rule ++ other_text names (other_of turn.rule turn.other)

turn_is : (names : List (List ℕ)) (turn : TurnRefusal) →
    turn_text names turn ≡ name_of names turn.group ++ 58 ∷ rule_text names turn
turn_is names turn =
    append_assoc (name_of names turn.group ++ codes ":") (rule_name turn.rule) (other_text names (other_of turn.rule turn.other))
    ∙ append_assoc (name_of names turn.group) (codes ":") (rule_text names turn)

-- a turn by its parts
made : GroupNo → Rule → Option GroupNo → TurnRefusal
made group rule other = record { group = group; rule = rule; other = other }

rule_parts : (names : List (List ℕ)) (group : GroupNo) (rule : Rule) (other : Option GroupNo) → AreGroups names →
    ForSome other (λ o. o.0 < length names) →
    IsOfTurns rule other → turn_in names group (rule_name rule ++ other_text names (other_of rule other))
    ≡ Some (made group rule other)
unfolding turn_in made
rule_parts names group Sequence other groups within is = rw is refl
rule_parts names group MinGreen other groups within is = rw is refl
rule_parts names group MinRed other groups within is = rw is refl
rule_parts names group Conflict other groups within (o, is) = rw (is, placed_again names o (within o is) groups.apart) refl
rule_parts names group Intergreen other groups within (o, is) = rw (is, placed_again names o (within o is) groups.apart) refl
rule_parts names group Running other groups within is = absurd is
rule_parts names group WrongStage other groups within is = absurd is
rule_parts names group NoInterstage other groups within is = absurd is

made_is : (turn : TurnRefusal) → made turn.group turn.rule turn.other ≡ turn
unfolding made
made_is turn = refl

turn_item : (names : List (List ℕ)) (turn : TurnRefusal) → AreGroups names → IsTurn (length names) turn →
    IsOfTurns turn.rule turn.other →
    refusal_in names (turn_text names turn) ≡ Some (Turn turn)
unfolding refusal_in
turn_item names turn groups there is =
    rw (
      turn_is names turn,
      cut_again 58 (name_of names turn.group) (rule_text names turn) (named_without 58 names turn.group.0 refl groups.names_are),
      placed_again names turn.group there.group groups.apart,
      rule_parts names turn.group turn.rule turn.other groups there.other is,
      made_is turn,
    ) refl

-- ---- all items

-- what was read so far
abbrev both : List StageRefusal → List TurnRefusal → Option (List StageRefusal × List TurnRefusal)
both stages turns = Some (stages, turns)

commands_again : (names : List (List ℕ)) (done stages : List StageRefusal) (more : List (List ℕ)) → are_names names ≡ true →
    length done + length stages ≤ 10000 → All IsRefusedCommand stages →
    fold (with_refusal names) (both done []) (map stage_refusal_text stages ++ more)
    ≡ fold (with_refusal names) (both (done ++ stages) []) more
commands_again names done [] more named few are = ap (λ l. fold (with_refusal names) (both l []) more) (sym (append-nil done))
commands_again names done (r ∷ rs) more named few are =
    let room : nat_lt (length done) 10000 ≡ true = lt-ltb (length done) 10000 (omega arith) in
    let here : with_refusal names (both done []) (stage_refusal_text r) ≡ both (done ++ r ∷ []) [] =
    rw (command_item names r named (All-head IsRefusedCommand r rs are), room) refl in
    ap (λ o. fold (with_refusal names) o (map stage_refusal_text rs ++ more)) here
    ∙ commands_again names (done ++ r ∷ []) rs more named (omega (arith, length_push done r)) (All-tail IsRefusedCommand r rs are)
    ∙ ap (λ l. fold (with_refusal names) (both l []) more) (append_assoc done (r ∷ []) rs)

-- a turn with a rule of turns
abbrev pub IsTold : TurnRefusal → Type 0
IsTold turn = IsOfTurns turn.rule turn.other

turns_again : (names : List (List ℕ)) (stages : List StageRefusal) (done turns : List TurnRefusal) → AreGroups names →
    length done + length turns ≤ 64 →
    All (IsTurn (length names)) turns → All IsTold turns →
    fold (with_refusal names) (both stages done) (map (turn_text names) turns) ≡ both stages (done ++ turns)
turns_again names stages done [] groups few there are = ap (both stages) (sym (append-nil done))
turns_again names stages done (t ∷ ts) groups few there are =
    let room : nat_lt (length done) 64 ≡ true = lt-ltb (length done) 64 (omega arith) in
    let here : with_refusal names (both stages done) (turn_text names t) ≡ both stages (done ++ t ∷ []) =
    rw (turn_item names t groups (All-head (IsTurn (length names)) t ts there) (All-head IsTold t ts are), room) refl in
    ap (λ o. fold (with_refusal names) o (map (turn_text names) ts)) here
    ∙ turns_again names stages (done ++ t ∷ []) ts groups (omega (arith, length_push done t))
    (All-tail (IsTurn (length names)) t ts there) (All-tail IsTold t ts are)
    ∙ ap (both stages) (append_assoc done (t ∷ []) ts)

-- ---- the field

rule_without : (rule : Rule) → Without 32 (rule_name rule)
rule_without Sequence = without_by_test 32 (codes "Sequence") refl
rule_without MinGreen = without_by_test 32 (codes "MinGreen") refl
rule_without MinRed = without_by_test 32 (codes "MinRed") refl
rule_without Conflict = without_by_test 32 (codes "Conflict") refl
rule_without Intergreen = without_by_test 32 (codes "Intergreen") refl
rule_without Running = without_by_test 32 (codes "Running") refl
rule_without WrongStage = without_by_test 32 (codes "WrongStage") refl
rule_without NoInterstage = without_by_test 32 (codes "NoInterstage") refl

-- two texts with a colon between them
colon_without : (a b : List ℕ) → Without 32 a → Without 32 b → Without 32 (a ++ 58 ∷ b)
colon_without a b p q = without-append 32 a (58 ∷ b) p ((λ e. absurd (omega (arith, e))), q)

command_without : (r : StageRefusal) → Without 32 (stages_text r ++ 58 ∷ rule_name r.rule)
command_without r =
    colon_without (stages_text r) (rule_name r.rule)
    (without-append 32 (decimal r.from.0) (45 ∷ decimal r.to.0) (decimal_without 32 r.from.0 space_no_digit)
    ((λ e. absurd (omega (arith, e))), decimal_without 32 r.to.0 space_no_digit))
    (rule_without r.rule)

command_items : (stages : List StageRefusal) → AreItems (map stage_refusal_text stages)
command_items [] = tt
command_items (r ∷ rs) = (
  record {
    front = stages_text r;
    rest = rule_name r.rule;
    whole = command_is r;
    no_space = without_along 32 _ _ (command_without r) (sym (command_is r));
  },
  command_items rs,
)

other_without : (names : List (List ℕ)) (other : Option GroupNo) → are_names names ≡ true → Without 32 (other_text names other)
other_without names None named = tt
other_without names (Some o) named = ((λ e. absurd (omega (arith, e))), named_without 32 names o.0 refl named)

turn_without : (names : List (List ℕ)) (turn : TurnRefusal) → are_names names ≡ true →
    Without 32 (name_of names turn.group ++ 58 ∷ rule_text names turn)
turn_without names turn named =
    colon_without (name_of names turn.group) (rule_text names turn) (named_without 32 names turn.group.0 refl named)
    (without-append 32 (rule_name turn.rule) (other_text names (other_of turn.rule turn.other)) (rule_without turn.rule)
    (other_without names (other_of turn.rule turn.other) named))

turn_items : (names : List (List ℕ)) (turns : List TurnRefusal) → are_names names ≡ true → AreItems (map (turn_text names) turns)
turn_items names [] named = tt
turn_items names (t ∷ ts) named = (
  record {
    front = name_of names t.group;
    rest = rule_text names t;
    whole = turn_is names t;
    no_space = without_along 32 _ _ (turn_without names t named) (sym (turn_is names t));
  },
  turn_items names ts named,
)

no_items : (names : List (List ℕ)) → refused_in names (codes "-") ≡ both [] []
unfolding refused_in
no_items names = refl

some_items : (names : List (List ℕ)) (field : List ℕ) (items : List (List ℕ)) → IsParted field items →
    refused_in names field ≡ refused_items names items
unfolding refused_in
some_items names field items is = rw (is.other, is.parts) refl

by_items : (names items : List (List ℕ)) (answer : List StageRefusal × List TurnRefusal) → AreItems items →
    refused_items names items ≡ Some answer →
    refused_in names (or_dash items) ≡ Some answer
by_items names [] answer are is = no_items names ∙ is
by_items names (x ∷ xs) answer are is = some_items names _ _ (parted_items x xs are) ∙ is

pub refused_again : (names : List (List ℕ)) (stages : List StageRefusal) (turns : List TurnRefusal) → AreGroups names →
    length stages ≤ 10000 → All IsRefusedCommand stages → length turns ≤ 64 → All (IsTurn (length names)) turns →
    All IsTold turns →
    refused_in names (or_dash (refused_texts names stages turns)) ≡ Some (stages, turns)
refused_again names stages turns groups few are few_turns there told =
    by_items names (refused_texts names stages turns) (stages, turns)
    (are_items-append (map stage_refusal_text stages) (map (turn_text names) turns) (command_items stages)
    (turn_items names turns groups.names_are))
    (commands_again names [] stages (map (turn_text names) turns) groups.names_are (omega arith) are
    ∙ turns_again names stages [] turns groups (omega arith) there told)
