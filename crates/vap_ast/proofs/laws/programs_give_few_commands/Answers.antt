use Rattle.vap_ast.proofs.CommandsGiven.{programs_give_few, programs_give_the_worlds}
use Rattle.vap_ast.proofs.laws.programs_give_few_commands.Goals as goal

pub returns-clause-few : goal.returns-clause-few
returns-clause-few c = programs_give_few

pub returns-clause-of_the_world : goal.returns-clause-of_the_world
returns-clause-of_the_world c = programs_give_the_worlds
