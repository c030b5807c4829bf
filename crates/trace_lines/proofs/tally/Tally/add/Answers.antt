use Rattle.std.proofs.Common.{◌≡◌, ap, arith, get_or, length, map, subst}
use Rattle.std.proofs.lemmas.List.{length-map}
use Rattle.trace_lines.specs.Rows.{row_in}
use Rattle.trace_lines.specs.Lines.{all_sights}
use Rattle.trace_lines.specs.Tallied.{any_begun, row_at, with_second}
use Rattle.trace_lines.proofs.Tallies.{tallied_more}
use Rattle.trace_lines.proofs.tally.Tally.add.Goals as goal

pub returns : goal.returns
returns c = λ instrs seconds sights t seen.
    let self = c.args.self.now in
    let rows_are : map row_in c.deref.result.now ≡ map row_in self.rows.items = ap (λ rs. map row_in rs) c.deref.ensures.value in
    let long : length c.deref.result.now ≡ length self.rows.items = ap (λ rs. length rs) c.deref.ensures.value in (
      tallied_more (map row_in self.rows.items) self.seconds.items c.add_second.new.seconds.items self.all c.add.new.self self.second instrs
          seconds sights t.0 (c.add.ensures.places (length instrs) t.0.has_places) t.1
          (c.add.ensures.added (length instrs) t.0.has_places t.1 (all_sights seconds) sights t.0.counted seen) seen c.add_second.ensures.long
          (λ r below short. subst (λ rows. get_or c.add_second.new.seconds.items r 0
          ≡ with_second (get_or self.seconds.items r 0) (any_begun self.second.begun.items (row_at rows r).statements)) rows_are
          (c.add_second.ensures.added r (omega (arith, below, long, length-map self.rows.items row_in)) short)),
      t.1,
    )
