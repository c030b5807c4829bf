use Rattle.std.proofs.Common.{◌<◌, sym, subst, arith}
use Rattle.sig_types.specs.Counts.{Counts}
use Rattle.det_board.specs.Passes.{IsTicking}
use Rattle.det_board.proofs.Reading.{still_ticking}
use Rattle.det_board.proofs.tick.TickPass.read_one.Goals as goal

pub invariant_of-self : goal.invariant_of-self
invariant_of-self c =
    let old = c.self.inside.seat in
    let new = c.load_counts-counts.new.seat in
    let low : c.args.place < 64 = let g = c.requires.of_four.0 in let p = c.requires.of_four.2 in omega arith in
    subst (λ (t : Counts). IsTicking new.table_id new.me t) (sym c.gain.ensures.totals)
    (still_ticking old.table_id new.table_id old.me new.me c.self.inside.totals c.args.place c.load_counts-counts.result c.self.invariant low
    c.load_counts-counts.ensures)
