-- What a refusal speaks of.
use Rattle.std.specs.Prelude.{ℕ, List, ◌++◌, codes, Option, None, Some}
use Rattle.std.specs.Fmt.{decimal}
use Rattle.sig_types.specs.declared.aspect.Rule.{Rule}
use Rattle.sig_types.specs.declared.numbers.GroupNo.{GroupNo}
use Rattle.sig_types.specs.declared.refused.StageRefusal.{StageRefusal}
use Rattle.log_judge.specs.declared.why.Asked.{Asked}
use Rattle.log_judge.specs.declared.why.Asked.TheVariants.{Start, End}
use Rattle.refusal_text.specs.declared.refusal.Refusal.{Refusal}
use Rattle.refusal_text.specs.declared.refusal.Refusal.TheVariants.{Command, Turn}

-- the place of its second
abbrev pub second_of : Refusal → ℕ
second_of (Command second refused place) = second
second_of (Turn second turn asked said) = second

-- the rule that it names
abbrev pub rule_of : Refusal → Rule
rule_of (Command second refused place) = refused.rule
rule_of (Turn second turn asked said) = turn.rule

-- the group whose turn was refused
abbrev pub group_of : Refusal → Option GroupNo
group_of (Command second refused place) = None
group_of (Turn second turn asked said) = Some turn.group

-- the turn that was asked for
abbrev pub asked_name : Asked → List ℕ
asked_name Start = codes "start"
asked_name End = codes "end"

-- a stage command
abbrev pub command_text : StageRefusal → List ℕ
command_text refused = codes "I" ++ decimal refused.from.0 ++ codes "-" ++ decimal refused.to.0
