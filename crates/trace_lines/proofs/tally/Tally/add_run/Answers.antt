use Rattle.std.proofs.Common.{◌∙◌, ◌+◌, ap, get_or, length, map}
use Rattle.trace_lines.specs.Rows.{row_in}
use Rattle.trace_lines.specs.Lines.{all_sights, capped}
use Rattle.trace_lines.proofs.Tallies.{tallied_both}
use Rattle.trace_lines.proofs.tally.Tally.add_run.Goals as goal

pub returns : goal.returns
returns c = λ instrs seconds more t u.
    let self = c.args.self.now in
    let other = c.args.other.now in (
      tallied_both (map row_in self.rows.items) (map row_in other.rows.items) self.seconds.items other.seconds.items c.add_counts.new.totals.items
          self.all other.all c.add.new.self instrs seconds more t.0 u.0 (c.add.ensures.places (length instrs) t.0.has_places)
          (c.add.ensures.added (length instrs) t.0.has_places u.0.has_places (all_sights seconds) (all_sights more) t.0.counted u.0.counted)
          c.add_counts.ensures.places
          (λ r below. c.add_counts.ensures.added r below ∙ ap (λ xs. capped (get_or self.seconds.items r 0 + get_or xs r 0)) c.deref.ensures.value),
      t.1,
    )
