use Rattle.std.proofs.Common.{◌∙◌, sym, true, false}
use Rattle.sig_types.proofs.Fronts.{strip_short, strip_cut}
use Rattle.sig_types.proofs.text.strip.Goals as goal

pub returns-then-bytes-front : goal.returns-then-bytes-front
returns-then-bytes-front c = strip_short c.args.front.now c.args.bytes.now c.if-bytes-front.true

pub returns-then-eq : goal.returns-then-eq
returns-then-eq c =
    strip_cut c.args.front.now c.args.bytes.now _ _ true c.if-bytes-front.false c.split_at.ensures.front c.split_at.ensures.back
    (sym c.if-eq.true ∙ c.eq.ensures)

pub returns-else-eq : goal.returns-else-eq
returns-else-eq c =
    strip_cut c.args.front.now c.args.bytes.now _ c.split_at.result.1.now false c.if-bytes-front.false c.split_at.ensures.front c.split_at.ensures.back
    (sym c.if-eq.false ∙ c.eq.ensures)
