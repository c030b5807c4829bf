use Rattle.std.proofs.Common.{◌∙◌, sym, arith}
use Rattle.det_stream.proofs.ReadLemmas.{no_entries, no_sums, wrong_entry, entry_read, last_read, sums_more, within_more}
use Rattle.det_stream.proofs.entries.read_some_entries.Goals as goal

pub loop-found-init : goal.loop-found-init
loop-found-init c = record {
  entries = (0, rw c.requires.clear (no_entries c.args.line.now c.requires.some));
  sums = rw c.requires.clear (no_sums c.args.totals.now);
  within = λ holds. c.requires.within_fronts;
}

pub returns-in-Err-clause-judged : goal.returns-in-Err-clause-judged
returns-in-Err-clause-judged c = wrong_entry c.args.line.now c.loop-found.rest.now c.loop-found.last c.loop-found.frame c.in-Err.why
    c.loop-found.invariant.entries c.in-Err.ensures.judged

pub returns-then-end-rest-clause-judged : goal.returns-then-end-rest-clause-judged
returns-then-end-rest-clause-judged c =
    (last_read c.args.line.now c.loop-found.rest.now c.loop-found.last c.loop-found.frame _
    c.loop-found.invariant.entries c.in-Ok.ensures.judged c.in-Ok.ensures.numbers (sym c.in-Ok.ensures.end ∙ c.if-end-rest.true)).0

pub returns-then-end-rest-clause-frame : goal.returns-then-end-rest-clause-frame
returns-then-end-rest-clause-frame c = c.set.ensures.items
    ∙ (last_read c.args.line.now c.loop-found.rest.now c.loop-found.last c.loop-found.frame _
    c.loop-found.invariant.entries c.in-Ok.ensures.judged c.in-Ok.ensures.numbers (sym c.in-Ok.ensures.end ∙ c.if-end-rest.true)).1

pub loop-found-preserved : goal.loop-found-preserved
loop-found-preserved c = record {
  entries = rw (c.behind-rest.ensures, c.in-Ok.ensures.end, c.set.ensures.items)
      (entry_read c.args.line.now c.loop-found.rest.now c.loop-found.last c.loop-found.frame _
      c.loop-found.invariant.entries c.in-Ok.ensures.judged c.in-Ok.ensures.numbers
      (omega (arith, c.in-Ok.ensures.end, c.in-Ok.ensures.inside, c.if-end-rest.false)));
  sums = rw (c.set.ensures.items, c.add_counts-within.ensures.added)
      (sums_more c.args.totals.now c.loop-found.totals c.loop-found.frame c.loop-found.last _ _ _ c.loop-found.invariant.sums c.add_counts-within.ensures.size
      c.in-Ok.ensures.rises c.in-Ok.ensures.detector.1 c.in-Ok.ensures.counts.0 c.in-Ok.ensures.counts.1);
  within = λ holds. (let fits = c.add_counts-within.ensures.fits holds in
      rw c.add_counts-within.ensures.added (within_more c.loop-found.totals _ _ _ (c.loop-found.invariant.within fits.0)
      c.add_counts-within.ensures.size (omega (arith, c.in-Ok.ensures.detector)) fits.1));
}
