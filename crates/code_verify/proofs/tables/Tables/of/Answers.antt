use Rattle.std.proofs.Common.{sym, subst, ap, ◌∙◌, length}
use Rattle.code_verify.specs.Tables.{JumpsAhead, counts_back}
use Rattle.code_verify.specs.declared.tables.Number.TheVariants.{Stretch, Commands}
use Rattle.vap_code.specs.Codes.{code_in}
use Rattle.vap_code.specs.Valid.{from_first, height_after}
use Rattle.code_verify.proofs.Checked.{jumps_ahead}
use Rattle.code_verify.proofs.tables.Tables.of.Goals as goal

pub counts_back-requires-clause-ahead : goal.counts_back-requires-clause-ahead
counts_back-requires-clause-ahead c = subst JumpsAhead (sym c.deref-3.ensures.value) (jumps_ahead (code_in c.args.code.now) c.requires.shape c.requires.passed)

pub counts_back-requires-2-clause-ahead : goal.counts_back-requires-2-clause-ahead
counts_back-requires-2-clause-ahead c = subst JumpsAhead (sym c.deref-5.ensures.value)
    (jumps_ahead (code_in c.args.code.now) c.requires.shape c.requires.passed)

pub returns : goal.returns
returns c = record {
  heights = c.in_ok-heights.ensures.table ∙ ap (λ xs. from_first (height_after xs c.deref-2.result.now) (length xs)) c.deref.ensures.value ∙
      ap (λ ys. from_first (height_after c.args.code.now.instrs.items ys) (length c.args.code.now.instrs.items)) c.deref-2.ensures.value;
  all_heights = c.in_ok-heights.ensures.long ∙ ap length c.deref.ensures.value;
  low = c.in_ok-heights.ensures.low;
  stretches = c.in_ok-counts_back.ensures.table ∙ ap (λ xs. counts_back Stretch xs c.deref-4.result.now) c.deref-3.ensures.value ∙
      ap (λ ys. counts_back Stretch c.args.code.now.instrs.items ys) c.deref-4.ensures.value;
  all_stretches = c.in_ok-counts_back.ensures.long ∙ ap length c.deref-3.ensures.value;
  command_counts = c.in_ok-counts_back-2.ensures.table ∙ ap (λ xs. counts_back Commands xs c.deref-6.result.now) c.deref-5.ensures.value ∙
      ap (λ ys. counts_back Commands c.args.code.now.instrs.items ys) c.deref-6.ensures.value;
  all_command_counts = c.in_ok-counts_back-2.ensures.long ∙ ap length c.deref-5.ensures.value;
}
