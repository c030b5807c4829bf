use Rattle.code_verify.proofs.CommandsGiven.{codes_give_the_worlds, valid_codes_give_few}
use Rattle.code_verify.proofs.laws.valid_code_gives_few_commands.Goals as goal

pub returns-clause-few : goal.returns-clause-few
returns-clause-few c = valid_codes_give_few

pub returns-clause-of_the_world : goal.returns-clause-of_the_world
returns-clause-of_the_world c = codes_give_the_worlds
