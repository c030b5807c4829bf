use Rattle.std.proofs.Common.{◌≡◌, Ok, arith, rules}
use Rattle.std.proofs.lemmas.Grind.{common_steps}
use Rattle.vap_parse.specs.Input.{command, input, max_operators}
use Rattle.vap_parse.specs.Descent.{command_statement}
use Rattle.vap_parse.proofs.statement.command_statement.Goals as goal

pub returns-in_err-args : goal.returns-in_err-args
unfolding command_statement
returns-in_err-args c =
    let start : c.count_anew.new.self ≡ input c.command.new.self.rest max_operators = c.count_anew.ensures in
    let one : command c.args.tokens.now ≡ Ok ((c.in_ok-kind.kind, c.in_ok-kind.line), c.command.new.self) = c.in_ok-kind.ensures in
    rw (one, ← start) (first_of (search rules, grind (arith, common_steps)))

pub returns : goal.returns
unfolding command_statement
returns c =
    let start : c.count_anew.new.self ≡ input c.command.new.self.rest max_operators = c.count_anew.ensures in
    let one : command c.args.tokens.now ≡ Ok ((c.in_ok-kind.kind, c.in_ok-kind.line), c.command.new.self) = c.in_ok-kind.ensures in
    rw (one, ← start) (first_of (search rules, grind (arith, common_steps)))
