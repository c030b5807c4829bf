use Rattle.std.proofs.Common.{rules, ◌≡◌, Some, None}
use Rattle.vap_ast.specs.Tree.{program_of}
use Rattle.vap_check.specs.declared.kinds.Declared.TheVariants as what
use Rattle.vap_check.specs.KeptNames.{declared_in}
use Rattle.vap_check.proofs.Told.{means_as}
use Rattle.vap_check.proofs.checked.Checked.meaning.Goals as goal

pub returns-in-Some-Constant-clause-meaning : goal.returns-in-Some-Constant-clause-meaning
returns-in-Some-Constant-clause-meaning c =
    let names = c.self.inside.names in
    let name = c.args.name.now in
    let is : declared_in names.known name ≡ Some (what.Constant c.in-Some-Constant.first) = search rules in
    let told = means_as names (program_of c.self.inside.program) c.self.invariant.names name (Some (what.Constant c.in-Some-Constant.first)) is in
    search (rules, told)

pub returns-in-Some-Array-clause-meaning : goal.returns-in-Some-Array-clause-meaning
returns-in-Some-Array-clause-meaning c =
    let names = c.self.inside.names in
    let name = c.args.name.now in
    let is : declared_in names.known name ≡ Some what.Array = search rules in
    let told = means_as names (program_of c.self.inside.program) c.self.invariant.names name (Some what.Array) is in
    search (rules, told)

pub returns-in-Some-Sub-clause-meaning : goal.returns-in-Some-Sub-clause-meaning
returns-in-Some-Sub-clause-meaning c =
    let names = c.self.inside.names in
    let name = c.args.name.now in
    let is : declared_in names.known name ≡ Some what.Sub = search rules in
    let told = means_as names (program_of c.self.inside.program) c.self.invariant.names name (Some what.Sub) is in
    search (rules, told)

pub returns-in-Some-Timer-clause-meaning : goal.returns-in-Some-Timer-clause-meaning
returns-in-Some-Timer-clause-meaning c =
    let names = c.self.inside.names in
    let name = c.args.name.now in
    let is : declared_in names.known name ≡ Some what.Timer = search rules in
    let told = means_as names (program_of c.self.inside.program) c.self.invariant.names name (Some what.Timer) is in
    search (rules, told)

pub returns-in-None-clause-meaning : goal.returns-in-None-clause-meaning
returns-in-None-clause-meaning c =
    let names = c.self.inside.names in
    let name = c.args.name.now in
    let is : declared_in names.known name ≡ None = search rules in
    let told = means_as names (program_of c.self.inside.program) c.self.invariant.names name (None) is in
    search (rules, told)
