use Rattle.std.proofs.Common.{◌-◌, length, get_or, ap, ◌∙◌, arith, length-set, drop, ◌+◌}
use Rattle.vap_code.specs.Valid.{greatest, later_at, instr_at}
use Rattle.code_verify.specs.Tables.{number_of}
use Rattle.std.proofs.lemmas.List.{get_or_default}
use Rattle.vap_code.specs.declared.Instr.TheVariants.{Tick, Ret}
use Rattle.code_verify.proofs.TableFacts.{from_last_more, low_set}
use Rattle.code_verify.proofs.tables.counts_back.Goals as goal

pub loop-done-preserved : goal.loop-done-preserved
loop-done-preserved c =
    let i = c.loop-done.invariant in
    let p = length c.args.instrs.now - 1 - c.loop-done.«done» in
    record {
      long = length-set c.loop-done.table.items p _ ∙ i.long;
      table = from_last_more c.args.number c.args.instrs.now c.args.starts.now c.loop-done.table.items c.loop-done.«done» p c.with_instr.result
          (omega arith) c.loop-done-test.true i.long i.table (
          c.with_instr.ensures.exact
          ∙ ap (λ i. number_of c.args.number i c.greatest-later.result) (get_or_default c.args.instrs.now p (Tick 0) Ret (omega (arith, c.loop-done-test.true)))
          ∙ ap (number_of c.args.number (instr_at c.args.instrs.now p))
          (c.greatest-later.ensures.exact ∙ ap (λ xs. greatest c.args.instrs.now c.args.starts.now p
          (later_at c.args.instrs.now p (drop (p + 1) xs))) c.deref.ensures.value)
          );
      low = low_set c.loop-done.table.items p c.with_instr.result c.loop-done.«done» i.low
          (omega (
            arith,
            c.with_instr.ensures.low,
            c.greatest-later.ensures.low c.loop-done.«done» (λ k. omega (arith, i.low k, ap (λ xs. get_or xs k 0) c.deref.ensures.value)),
          ));
    }
