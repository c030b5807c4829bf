use Rattle.std.proofs.Common.{◌∙◌, sym, ap}
use Rattle.vap_ast.specs.Tree.{program_of}
use Rattle.junction_calls.specs.Variables.{names_in}
use Rattle.junction_calls.proofs.Names.{with_line, no_more}
use Rattle.junction_calls.proofs.variables.names_of.Goals as goal
use Rattle.junction_calls.proofs.variables.names_of.Goals.{in-Some+in_ok-extend_from_slice+in_ok-push, in_default}

pub loop-number-preserved : goal.loop-number-preserved
loop-number-preserved c = elim c.match-name_of.branch [
  | in-Some+in_ok-extend_from_slice+in_ok-push w ↦
      ap (λ t. t.items) w.text-is ∙ with_line (names_in c.args.of (program_of c.args.checked.now.tree)) c.loop-number.number w.in-Some.name.now
      w.bytes.result.now c.loop-number.text.items w.extend_from_slice.new.self.items w.push.new.self.items
      (sym w.in-Some.ensures) w.bytes.ensures.bytes c.loop-number.invariant w.in_ok-extend_from_slice.ensures.items
      w.in_ok-push.ensures.items
  | in_default w ↦
      ap (λ t. t.items) w.text-is ∙ no_more (names_in c.args.of (program_of c.args.checked.now.tree)) c.loop-number.number c.loop-number.text.items
      (sym w.in_default.ensures) c.loop-number.invariant
]
