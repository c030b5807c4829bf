use Rattle.std.proofs.Common.{rules, ◌∙◌, sym, ap, ◌==◌}
use Rattle.std.proofs.lemmas.Bool.{ltb-true}
use Rattle.line_reader.proofs.LineLemmas.{feed_is_found}
use Rattle.line_reader.proofs.reader.LineReader.holds_feed.Goals as goal
use Rattle.line_reader.proofs.reader.LineReader.holds_feed.Goals.{then-self, else-self}

pub returns-then-self-2 : goal.returns-then-self-2
returns-then-self-2 c is =
    let held = c.args.self.now in
    elim c.if-self.branch [
      | then-self w ↦ feed_is_found held.buffer.items held.start held.end held.feed c.index.result.now w.if-self.true
          (ltb-true _ _ (sym w.value-is ∙ c.if-self-2.true)) (search rules) (ap (λ b. b == 10) (sym c.index.ensures) ∙ is)
      | else-self w ↦ absurd (search rules)
    ]
