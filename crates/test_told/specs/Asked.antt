-- What a word of a case asks for.
use Rattle.pua_model.specs.Plan.{PlanOf}
use Rattle.controller.specs.Commanded.{IsCommand}
use Rattle.test_told.specs.declared.list.Asked.{Asked}
use Rattle.test_told.specs.declared.list.Asked.TheVariants as asked

-- a command that is asked for names what the plan has
abbrev pub IsAsked : PlanOf → Asked → Type 0
IsAsked plan (asked.Command command) = IsCommand plan command
IsAsked plan asked.Nothing = Unit {0}
IsAsked plan asked.Wrong = Unit {0}
