use Rattle.std.proofs.Common.{◌≡◌, w32, []}
use Rattle.std.proofs.lemmas.Int.{to_z-of_z}
use mir.Val.{SFits, of_z, to_z}
use Rattle.sig_io.proofs.Drafts.{same_put, then}
use Rattle.trace_told.specs.Words.{numbers_text}
use Rattle.trace_told.proofs.words.put_command.Goals as goal

pub returns : goal.returns
returns g c =
    let a_fits : SFits w32 c.args.a = c.ranges.a in
    let a : to_z w32 (of_z w32 c.args.a) ≡ c.args.a = to_z-of_z w32 c.args.a a_fits in
    let b_fits : SFits w32 c.args.b = c.ranges.b in
    let b : to_z w32 (of_z w32 c.args.b) ≡ c.args.b = to_z-of_z w32 c.args.b b_fits in
    then (same_put c.command_word.ensures.word c.put.ensures) (same_put (λ j. numbers_text (c.arity.ensures j) (a j) (b j) []) c.put_numbers.ensures)
