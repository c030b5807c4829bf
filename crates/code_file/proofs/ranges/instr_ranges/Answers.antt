use Rattle.code_file.proofs.RangeFacts.{typed_next}
use Rattle.code_file.proofs.ranges.instr_ranges.Goals as goal

pub loop-instr-preserved : goal.loop-instr-preserved
loop-instr-preserved c = typed_next c.args.instrs.now c.loop-instr.instr-index _ c.loop-instr-test.true c.loop-instr.invariant c.instr_range.ensures
