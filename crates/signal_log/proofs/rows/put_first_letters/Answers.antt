use Rattle.std.proofs.Common.{◌≡◌, ◌∙◌, ◌+◌, ◌++◌, length, take, ap, sym, arith, length-take-le}
use Rattle.std.proofs.lemmas.List.{length-map}
use Rattle.sig_types.specs.LogForm.{letter}
use Rattle.signal_log.proofs.Pieces.{first_of_block}
use Rattle.signal_log.proofs.rows.put_first_letters.Goals as goal

pub returns-clause-written : goal.returns-clause-written
returns-clause-written c =
    let row = c.args.row.now in
    let at = c.args.at in
    let aspects = c.args.aspects.now in
    let size : length c.first_letters.result ≡ 16
    = ap length c.first_letters.ensures ∙ length-map (take 16 aspects) letter ∙ length-take-le 16 aspects (omega (arith, c.told-aspects)) in
    first_of_block c.put_piece.new.row row at c.args.n aspects c.requires.few (omega (arith, c.requires.room))
    (ap (λ k. take (at + k) c.put_piece.new.row) (sym size) ∙ c.put_piece.ensures.written
    ∙ ap (λ l. take at row ++ l) c.first_letters.ensures)
